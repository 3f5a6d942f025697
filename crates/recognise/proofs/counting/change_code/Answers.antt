-- A number that is none of those before.
use Rattle.std.proofs.Common.{rules}
use Rattle.recognise.specs.Replies.{change_is}
use Rattle.recognise.proofs.CountBy.{change-none}
use Rattle.recognise.proofs.counting.change_code.Goals as goal

pub returns-in_default : goal.returns-in_default
unfolding change_is
returns-in_default c = search (rules, change-none)
