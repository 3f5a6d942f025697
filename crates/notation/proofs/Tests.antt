-- The tests of the table: no reserved word ends in '_', each literal is a token, each sort has a text.
use Prim.Native.Nat.{ℕ}
use mathlib.Core.Path.{◌≡◌, refl}
use mathlib.Core.Bool.{Bool, true, false, cond}
use mathlib.Core.List.{List, [], ◌∷◌, ◌++◌}
use mathlib.Core.Option.{IsSome}
use Rattle.grammar.specs.Spelling as Spelling
use Rattle.grammar.specs.Leads as Leads
use Rattle.grammar.specs.Table.{sort, Row, pick}
use Rattle.grammar.proofs.Bools.{both, both_true}
use Rattle.grammar.proofs.Names.{low, none_low}
use Rattle.grammar.proofs.Whole.{whole_items, whole_rows}
use Rattle.grammar.proofs.Sprout.{sprout}
use Rattle.notation.specs.Sayings.{Saying, boolean, integer, float, status, outcome, failure}
use Rattle.notation.specs.Rows.{reserved, semicolon, bracket, Sort, plan, nodes, command_name, command_number, called_name, target_name, lookup_used, priority, negated_integer, negated_real, lookup_name, attributes, variables, initial, value, initial_pattern, pattern, operand, operator, after_name, after_path, negative, property, compared, code, Rows, met, once, condition, prioritized, rows, notation}
use Rattle.notation.specs.Rows as Table

pub free : none_low reserved ≡ true
unfolding reserved none_low low Leads.opened
free = refl

-- ---- each literal is a token
rows_append : (r s : Rows) → whole_rows r ≡ true → whole_rows s ≡ true → whole_rows (r ++ s) ≡ true
unfolding whole_rows
rows_append [] s e e' = e'
rows_append (x ∷ r) s e e' = let h = both (whole_items x.rest) (whole_rows r) e in both_true _ _ (h.0) (rows_append r s (h.1) e')

rows-once : (m : List ℕ) (n : ℕ) (r : Row Sort Saying) → whole_rows (r ∷ []) ≡ true → whole_rows (once m n r) ≡ true
unfolding once whole_rows
rows-once m n r e = go (met n m)
  where
    go : (b : Bool) → whole_rows (cond b [] (r ∷ [])) ≡ true
    go true = refl
    go false = e

pub sure : (x : Sort) → whole_rows (rows x) ≡ true
unfolding Table.opened whole_rows whole_items Spelling.opened Leads.opened
sure plan = refl
sure nodes = refl
sure command_name = refl
sure command_number = refl
sure called_name = refl
sure target_name = refl
sure lookup_used = refl
sure priority = refl
sure negated_integer = refl
sure negated_real = refl
sure (lookup_name k) = refl
sure (attributes m) =
    rows_append (once m 0 (condition m 0 "SkipCondition")) _ (rows-once m 0 (condition m 0 "SkipCondition") refl)
    (rows_append (once m 1 (condition m 1 "StartCondition")) _ (rows-once m 1 (condition m 1 "StartCondition") refl)
    (rows_append (once m 2 (condition m 2 "PreCondition")) _ (rows-once m 2 (condition m 2 "PreCondition") refl)
    (rows_append (once m 3 (condition m 3 "InvariantCondition")) _ (rows-once m 3 (condition m 3 "InvariantCondition") refl)
    (rows_append (once m 4 (condition m 4 "EndCondition")) _ (rows-once m 4 (condition m 4 "EndCondition") refl)
    (rows_append (once m 5 (condition m 5 "PostCondition")) _ (rows-once m 5 (condition m 5 "PostCondition") refl)
    (rows_append (once m 6 (condition m 6 "RepeatCondition")) _ (rows-once m 6 (condition m 6 "RepeatCondition") refl)
    (rows_append (once m 6 (condition m 6 "RepeatUntilCondition")) _ (rows-once m 6 (condition m 6 "RepeatUntilCondition") refl) (rows-once m 7 (prioritized m) refl))))))))
sure (variables k) = refl
sure (initial k) = refl
sure (value boolean) = refl
sure (value integer) = refl
sure (value float) = refl
sure (initial_pattern s) = refl
sure (pattern s) = refl
sure (operand c) = refl
sure (operator semicolon) = refl
sure (operator bracket) = refl
sure (after_name semicolon) = refl
sure (after_name bracket) = refl
sure (after_path c) = refl
sure (negative c) = refl
sure (property c) = refl
sure (compared w c) = refl
sure (code status n c) = refl
sure (code outcome n c) = refl
sure (code failure n c) = refl

-- ---- each sort has a text
pub grown : (x : Sort) → IsSome (sprout notation 8 (sort x))
unfolding Table.opened sprout Spelling.opened Leads.opened pick
grown plan = tt
grown nodes = tt
grown command_name = tt
grown command_number = tt
grown called_name = tt
grown target_name = tt
grown lookup_used = tt
grown priority = tt
grown negated_integer = tt
grown negated_real = tt
grown (lookup_name k) = tt
grown (attributes m) = tt
grown (variables k) = tt
grown (initial k) = tt
grown (value boolean) = tt
grown (value integer) = tt
grown (value float) = tt
grown (initial_pattern s) = tt
grown (pattern s) = tt
grown (operand semicolon) = tt
grown (operand bracket) = tt
grown (operator semicolon) = tt
grown (operator bracket) = tt
grown (after_name semicolon) = tt
grown (after_name bracket) = tt
grown (after_path semicolon) = tt
grown (after_path bracket) = tt
grown (negative semicolon) = tt
grown (negative bracket) = tt
grown (property semicolon) = tt
grown (property bracket) = tt
grown (compared status semicolon) = tt
grown (compared status bracket) = tt
grown (compared outcome semicolon) = tt
grown (compared outcome bracket) = tt
grown (compared failure semicolon) = tt
grown (compared failure bracket) = tt
grown (code status n semicolon) = tt
grown (code status n bracket) = tt
grown (code outcome n semicolon) = tt
grown (code outcome n bracket) = tt
grown (code failure n semicolon) = tt
grown (code failure n bracket) = tt
