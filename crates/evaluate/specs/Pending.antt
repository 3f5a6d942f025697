-- What a value makes of the operators that are pending, the last one first.
use Rattle.std.specs.Prelude.{ℕ, zero, suc, ◌+◌, List, get_or}
use Rattle.plexil.specs.declared.Worked.{Worked}
use Rattle.plexil.specs.declared.Worked.TheVariants.{Clash}
use Rattle.plexil.specs.Image.{Image, operator, operand_a, operand_b}
use Rattle.plexil.specs.Values.{not_of}
use Rattle.plexil.specs.Places.{Seen}
use Rattle.plexil.specs.Expressions.{Operator, leaf, not_op, binary, no_operator, operator_of, operator_at, leaf_of, eval_of}
use Rattle.evaluate.specs.Binary.{join_of}
use Rattle.evaluate.specs.declared.entries.Pending.{Pending}
use Rattle.evaluate.specs.declared.entries.Pending.TheVariants.{Not, First, Second}
use Rattle.evaluate.specs.declared.entries.Entry.{Entry}
use Rattle.evaluate.specs.declared.entries.Entry.TheVariants.{Value, Operand}

-- what entry e comes to, by its operator
unfoldable pub entered_by : Operator → Image → Seen → ℕ → Entry
entered_by (leaf o) p s e = Value (leaf_of o p s e)
entered_by not_op p s e = Operand Not (operand_a p e)
entered_by (binary o) p s e = Operand (First (operator p e) (operand_b p e)) (operand_a p e)
entered_by no_operator p s e = Value Clash

-- with so many levels to go
unfoldable pub entered_of : Image → Seen → ℕ → ℕ → Entry
entered_of p s zero e = Value Clash
entered_of p s (suc left) e = entered_by (operator_at p e) p s e

-- what a pending operator answers, whose operand has the value v, and whose operands have `left` levels to go
unfoldable pub ended_of : Image → Seen → ℕ → Pending → Worked → Worked
ended_of p s left Not v = not_of v
ended_of p s left (First op b) v = join_of (operator_of op) v (eval_of p s left b)
ended_of p s left (Second op x) v = join_of (operator_of op) x v

-- n operators are pending, and the last one's operands have `left` levels to go
unfoldable pub resumed : Image → Seen → ℕ → List Pending → ℕ → Worked → Worked
resumed p s zero pending left v = v
resumed p s (suc n) pending left v = resumed p s n pending (suc left) (ended_of p s left (get_or pending n Not) v)

-- how many turns an entry with so many levels to go takes at most
unfoldable pub turns_of : ℕ → ℕ
turns_of zero = 1
turns_of (suc left) = turns_of left + (turns_of left + 4)

-- and a pending operator whose operands have `left` levels to go
unfoldable pub turns_to_end : ℕ → Pending → ℕ
turns_to_end left Not = 1
turns_to_end left (First op b) = turns_of left + 2
turns_to_end left (Second op x) = 1

-- and all that are pending
unfoldable pub pending_turns : ℕ → List Pending → ℕ → ℕ
pending_turns zero pending left = 0
pending_turns (suc n) pending left = turns_to_end left (get_or pending n Not) + pending_turns n pending (suc left)
