-- A mark is that of one of eight attributes.
use Rattle.recognise.specs.Replies.{Lawful}
use Rattle.recognise.proofs.steps.moved.Goals as goal

pub marks-requires : goal.marks-requires
unfolding Lawful
marks-requires c = c.requires _ c.in-Marks.is
