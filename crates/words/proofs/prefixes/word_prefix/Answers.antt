-- `words::word_prefix` meets its contract. Assumes nothing.
use Rattle.std.proofs.Common.{arith}
use Rattle.words.proofs.BlankLaws.{word-told}
use Rattle.words.proofs.prefixes.word_prefix.Goals as goal

pub returns : goal.returns
returns c = search (word-told, arith)
