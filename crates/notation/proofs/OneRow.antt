-- No two rows of a sort of the notation begin with one token: each token has one row, whatever the order of the rows.
use Prim.Native.Nat.{ℕ}
use mathlib.Core.Path.{◌≡◌, refl}
use mathlib.Core.Bool.{Bool, true, false, cond}
use mathlib.Core.List.{List, [], ◌∷◌, ◌++◌}
use Rattle.grammar.specs.Spelling as Spelling
use Rattle.grammar.specs.Leads as Leads
use Rattle.grammar.specs.Leads.{Lead, the}
use Rattle.grammar.specs.Table.{Row}
use Rattle.grammar.proofs.Clash.{clash}
use Rattle.grammar.proofs.Clear.{free, clear, leads, only_row, Sub, nil, keep, skip, sub-clear}
use Rattle.notation.specs.Sayings.{Saying, boolean, integer, float, status, outcome, failure}
use Rattle.notation.specs.Rows.{reserved, semicolon, bracket, Sort, plan, nodes, command_name, command_number, called_name, target_name, lookup_used, priority, negated_integer, negated_real, lookup_name, attributes, variables, initial, value, initial_pattern, pattern, operand, operator, after_name, after_path, negative, property, compared, code, Rows, met, once, condition, prioritized, rows}
use Rattle.notation.specs.Rows as Table
use Rattle.notation.specs.Promises.{OneRow}

may-have : (m : List ℕ) (n : ℕ) (r : Row Sort Saying) (rs : Rows) {ls : List Lead} → Sub (leads rs) ls → Sub (leads (once m n r ++ rs)) (r.lead ∷ ls)
unfolding once leads
may-have m n r rs {ls} s = go (met n m)
  where
    go : (b : Bool) → Sub (leads (cond b [] (r ∷ []) ++ rs)) (r.lead ∷ ls)
    go true = skip s
    go false = keep s

may-rank : (m : List ℕ) → Sub (leads (once m 7 (prioritized m))) (the "Priority" ∷ [])
unfolding once leads
may-rank m = go (met 7 m)
  where
    go : (b : Bool) → Sub (leads (cond b [] (prioritized m ∷ []))) (the "Priority" ∷ [])
    go true = skip nil
    go false = keep nil

-- all that a node can say
all-attributes : List Lead
all-attributes =
    the "NodeList" ∷ the "Command" ∷ the "Assignment" ∷ the "Boolean" ∷ the "Integer" ∷ the "Real"
    ∷ the "SkipCondition" ∷ the "StartCondition" ∷ the "PreCondition" ∷ the "InvariantCondition" ∷ the "EndCondition" ∷ the "PostCondition" ∷ the "RepeatCondition" ∷ the "RepeatUntilCondition" ∷ the "Priority" ∷ []

all-clear : clear reserved all-attributes ≡ true
unfolding reserved all-attributes clear free clash Spelling.opened Leads.opened
all-clear = refl

some-attributes : (m : List ℕ) → Sub (leads (rows (attributes m))) all-attributes
unfolding rows leads all-attributes
some-attributes m =
    keep (keep (keep (keep (keep (keep
    (may-have m 0 (condition m 0 "SkipCondition") _ (may-have m 1 (condition m 1 "StartCondition") _ (may-have m 2 (condition m 2 "PreCondition") _
    (may-have m 3 (condition m 3 "InvariantCondition") _ (may-have m 4 (condition m 4 "EndCondition") _ (may-have m 5 (condition m 5 "PostCondition") _
    (may-have m 6 (condition m 6 "RepeatCondition") _ (may-have m 6 (condition m 6 "RepeatUntilCondition") _ (may-rank m))))))))))))))

pub rows-clear : (x : Sort) → clear reserved (leads (rows x)) ≡ true
unfolding Table.opened leads clear free clash Spelling.opened Leads.opened
rows-clear plan = refl
rows-clear nodes = refl
rows-clear command_name = refl
rows-clear command_number = refl
rows-clear called_name = refl
rows-clear target_name = refl
rows-clear lookup_used = refl
rows-clear priority = refl
rows-clear negated_integer = refl
rows-clear negated_real = refl
rows-clear (lookup_name k) = refl
rows-clear (attributes m) = sub-clear reserved (some-attributes m) all-clear
rows-clear (variables k) = refl
rows-clear (initial k) = refl
rows-clear (value boolean) = refl
rows-clear (value integer) = refl
rows-clear (value float) = refl
rows-clear (initial_pattern s) = refl
rows-clear (pattern s) = refl
rows-clear (operand c) = refl
rows-clear (operator semicolon) = refl
rows-clear (operator bracket) = refl
rows-clear (after_name semicolon) = refl
rows-clear (after_name bracket) = refl
rows-clear (after_path c) = refl
rows-clear (negative c) = refl
rows-clear (property c) = refl
rows-clear (compared w c) = refl
rows-clear (code status n c) = refl
rows-clear (code outcome n c) = refl
rows-clear (code failure n c) = refl

pub one-row : OneRow
one-row x r t i e = only_row reserved (rows x) r t (rows-clear x) i e
