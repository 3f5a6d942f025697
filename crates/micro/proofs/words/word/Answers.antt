-- 1 is the command's own word, anything else an abort.
use Rattle.plexil.specs.Micro.{word_of}
use Rattle.micro.proofs.WordLaws.{word-abort}
use Rattle.micro.proofs.words.word.Goals as goal

pub returns-then-sent-eq1 : goal.returns-then-sent-eq1
unfolding word_of
returns-then-sent-eq1 c = rw c.if-sent-eq1.true

pub returns-else-sent-eq1 : goal.returns-else-sent-eq1
returns-else-sent-eq1 c = word-abort _ _ c.requires c.if-sent-eq1.false
