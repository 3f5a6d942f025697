-- `words::other_class` meets its contract. Assumes nothing.
use Rattle.std.proofs.Common.{arith}
use Rattle.words.proofs.ClassLaws.{other_word, other-number, other-real, other_none}
use Rattle.words.proofs.tokens.other_class.Goals as goal

pub returns-then-is_word : goal.returns-then-is_word
returns-then-is_word c = search (other_word, arith)

pub returns-then-is_number : goal.returns-then-is_number
returns-then-is_number c = search (other-number, arith)

pub returns-then-is_real : goal.returns-then-is_real
returns-then-is_real c = search (other-real, arith)

pub returns : goal.returns
returns c = search (other_none, arith)
