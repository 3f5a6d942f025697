-- `scan::skip_remark` meets its contract: in the comment at `i`, after '*' or not, what comes next is what comes next at `at`.
use Prim.Native.Nat.{◌≤◌, ◌-◌}
use mathlib.Core.Path.{◌≡◌}
use lib.ListN.{length, drop}
use Rattle.grammar.specs.Spelling.{remark}
use Rattle.grammar.specs.Scan.{next_from}
use Rattle.grammar.proofs.Spelled.{in_remark}
use Rattle.scan.proofs.comments.skip_remark.Given as goal

abbrev pub invariant-loop-i : goal.invariant-loop-i
invariant-loop-i l = (l.at ≤ l.i) × (l.i ≤ length l.text) × (next_from remark l.at (drop l.at l.text) ≡ next_from (in_remark l.starred) l.i (drop l.i l.text))

abbrev pub decreases-loop-i : goal.decreases-loop-i
decreases-loop-i l = length l.text - l.i
