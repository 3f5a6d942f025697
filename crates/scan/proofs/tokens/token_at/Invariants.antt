-- Past blanks and comments, what comes next at `from` is what comes next at `at`.
use Prim.Native.Nat.{◌<◌, ◌-◌}
use mathlib.Core.Path.{◌≡◌}
use mathlib.Core.Bool.{false}
use lib.ListN.{length, get_or}
use Rattle.grammar.specs.Spelling.{is_blank}
use Rattle.grammar.specs.Scan.{token_at}
use Rattle.scan.proofs.tokens.token_at.Given as goal

abbrev pub invariant-loop-from : goal.invariant-loop-from
invariant-loop-from l = (token_at l.text l.«from» ≡ token_at l.text l.at) × (l.«from» < length l.text → is_blank (get_or l.text l.«from» 0) ≡ false)

abbrev pub decreases-loop-from : goal.decreases-loop-from
decreases-loop-from l = length l.text - l.«from»
