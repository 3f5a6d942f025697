-- Each row of the grammar speaks the phrase of its sort.
use Prim.Native.Nat.{ℕ, suc}
use Prim.Native.String.{String}
use mathlib.Core.Path.{◌≡◌, refl, subst}
use mathlib.Core.Bool.{Bool, true, false, cond}
use mathlib.Core.List.{List, [], ◌∷◌}
use Rattle.grammar.specs.Spelling.{Placed}
use Rattle.grammar.specs.Table.{Item, lit, sort, Said, rows_of}
use Rattle.notation.specs.Sayings.{Kind, boolean, integer, float, What, Operator, disjunction, conjunction, equal, unequal, less, at_most, greater, at_least, plus, minus, times, Saying, declares_lookup, initial_truth, initial_whole, initial_decimal, truth, whole, decimal, unknown, mentions, negates, operates, parenthesis, closes, ends}
use Rattle.notation.specs.Rows.{Close, semicolon, bracket, Sort, plan, nodes, command_name, command_number, called_name, target_name, lookup_used, priority, negated_integer, negated_real, lookup_name, attributes, variables, initial, value, initial_pattern, pattern, operand, operator, after_name, after_path, negative, property, compared, code, Rows, operations, code_words, codes, met, once, onces, closing, condition, prioritized, rows, notation}
use Rattle.notation.specs.Spoken.{is_silent, spoken}
use Rattle.notation.specs.Phrases.{Sayings, Leaf, Path, Operand, Chain, Initial, Opening, Node, Attributes, Nodes, Plan}
use Rattle.notation.proofs.SortPhrases.{One, Before, Then, Makes, Each, each_append, after-command, after-lookup, ended, called, assigned, ranked, patterned, leafed, negated, single}

-- ---- the rows of each sort
infixr 20 ◌⊕◌
abbrev pub ◌⊕◌ : {A B : Type 1} → A → B → A × B
◌⊕◌ a b = (a, b)

pub of_word : (w : String) → Each (lit w) (rows_of notation (lit w))
unfolding spoken is_silent
of_word w = (λ R t l h. h) ⊕ tt

pub of-operation : (c : Close) (o : Operator) (R : Sayings → Type 0) (t : Placed) (l : List (Said Saying)) → Then (sort (operand c) ∷ []) R (spoken l)
    → Then (sort (operator c) ∷ []) R (spoken (record { what = operates o; token = t } ∷ l))
unfolding spoken is_silent
of-operation c o R t l h = (h.0, (λ a x. (h.1.0, Chain.more o x refl h.1.1, h.1.2)), h.2)

pub of-closing : (c : Close) → Makes (sort (operator c)) (closing c)
unfolding spoken is_silent
of-closing semicolon R t l h = (spoken l, (λ a o. (record { what = ends; token = t }, Chain.one o, refl)), h)
of-closing bracket R t l h = (spoken l, (λ a o. (record { what = closes; token = t }, Chain.one o, refl)), h)

pub of-operations : (c : Close) → Each (sort (operator c)) (operations c)
unfolding operations
of-operations c =
    of-closing c ⊕ of-operation c disjunction ⊕ of-operation c disjunction ⊕ of-operation c conjunction ⊕ of-operation c conjunction
    ⊕ of-operation c equal ⊕ of-operation c unequal ⊕ of-operation c less ⊕ of-operation c at_most ⊕ of-operation c greater ⊕ of-operation c at_least
    ⊕ of-operation c plus ⊕ of-operation c minus ⊕ of-operation c times ⊕ tt

-- after a name an operator says that it was a variable's
pub after-name : (c : Close) (rs : Rows) → Each (sort (operator c)) rs → Each (sort (after_name c)) rs
after-name c [] e = tt
after-name c (r ∷ rs) e = named ⊕ after-name c rs e.1
  where
    named : Makes (sort (after_name c)) r
    named R t l h = let m = e.0 R t l h in (m.0, (λ w p. m.1 (w ∷ spoken (record { what = r.says; token = t } ∷ l)) (Operand.variable p)), m.2)

pub of-codes : (w : What) (n : Bool) (c : Close) (k : ℕ) (words : List String) → Each (sort (code w n c)) (codes w n c k words)
unfolding codes spoken is_silent
of-codes w n c k [] = tt
of-codes w n c k (word ∷ words) = (λ R t l h. (h.0, (spoken l, Path.asked w n k refl, h.1), h.2)) ⊕ of-codes w n c (suc k) words

-- an operand that is one token
pub of-leaf : (c : Close) (w : Saying) → Leaf w → (R : Sayings → Type 0) (t : Placed) (l : List (Said Saying)) → Then (sort (operator c) ∷ []) R (spoken l)
    → Then (sort (operand c) ∷ []) R (record { what = w; token = t } ∷ spoken l)
of-leaf c w p R t l h = (h.0, h.1 (record { what = w; token = t } ∷ spoken l) (Operand.leaf p), h.2)

-- an operand that is one token between parentheses
pub of_inner : (c : Close) (R : Sayings → Type 0) (t : Placed) (l : List (Said Saying)) → ((m : Sayings) × One Leaf (spoken l) m × Then (sort (operator c) ∷ []) R m)
    → Then (sort (operand c) ∷ []) R (spoken l)
of_inner c R t l h = (h.2.0, leafed c h.1 h.2.1, h.2.2)

pub of-operand : (c : Close) → Each (sort (operand c)) (rows (operand c))
unfolding rows spoken is_silent
of-operand c =
    of-leaf c (truth true) (Leaf.is-truth true) ⊕ of-leaf c (truth false) (Leaf.is-truth false)
    ⊕ (λ R t l h. (h.0, h.1 (record { what = mentions; token = t }) refl, h.2))
    ⊕ (λ R t l h. (h.2.0, h.2.1 (record { what = parenthesis; token = t } ∷ spoken l) (Operand.group refl h.1.1 h.1.2), h.2.2))
    ⊕ not ⊕ not
    ⊕ of-leaf c (whole false) (Leaf.is_whole false) ⊕ of-leaf c (decimal false) (Leaf.is-decimal false) ⊕ of_inner c
    ⊕ (λ R t l h. h)
    ⊕ of_inner c ⊕ of_inner c
    ⊕ of-leaf c (unknown boolean) (Leaf.is-unknown boolean) ⊕ of-leaf c (unknown integer) (Leaf.is-unknown integer) ⊕ of-leaf c (unknown float) (Leaf.is-unknown float) ⊕ tt
  where
    not : (R : Sayings → Type 0) (t : Placed) (l : List (Said Saying)) → Then (sort (operand c) ∷ []) R (spoken l) → Then (sort (operand c) ∷ []) R (record { what = negates; token = t } ∷ spoken l)
    not R t l h = (h.0, (h.1.0, negated refl h.1.1, h.1.2), h.2)

-- an initial value, and more of the node
pub of-value : (w : Saying) → Initial w → (R : Sayings → Type 0) (t : Placed) (l : List (Said Saying)) → ((m : Sayings) × Before (spoken l) m × R m)
    → (m : Sayings) × Before (record { what = w; token = t } ∷ spoken l) m × R m
of-value w p R t l h = (h.0, (λ k a. Attributes.initial p (h.1 k a)), h.2)

pub of-bits : (R : Sayings → Type 0) (t : Placed) (l : List (Said Saying)) → ((m : Sayings) × One Initial (spoken l) m × ((k : Sayings) × Before m k × R k))
    → (m : Sayings) × Before (spoken l) m × R m
of-bits R t l h = (h.2.0, patterned h.1 h.2.1, h.2.2)

pub of-condition : (m : List ℕ) (n : ℕ) (w : String) → Each (sort (attributes m)) (once m n (condition m n w))
unfolding once spoken is_silent
of-condition m n w = go (met n m)
  where
    go : (b : Bool) → Each (sort (attributes m)) (cond b [] (condition m n w ∷ []))
    go true = tt
    go false = (λ R t l h. (h.2.0, Attributes.condition n refl (ended h.1) h.2.1, h.2.2)) ⊕ tt

pub of-priority : (m : List ℕ) → Each (sort (attributes m)) (once m 7 (prioritized m))
unfolding once spoken is_silent
of-priority m = go (met 7 m)
  where
    go : (b : Bool) → Each (sort (attributes m)) (cond b [] (prioritized m ∷ []))
    go true = tt
    go false = (λ R t l h. (h.2.0, ranked h.1 h.2.1, h.2.2)) ⊕ tt

pub of-onces : (m : List ℕ) → Each (sort (attributes m)) (onces m)
of-onces m =
    each_append (sort (attributes m)) (once m 0 (condition m 0 "SkipCondition")) _ (of-condition m 0 "SkipCondition")
    (each_append (sort (attributes m)) (once m 1 (condition m 1 "StartCondition")) _ (of-condition m 1 "StartCondition")
    (each_append (sort (attributes m)) (once m 2 (condition m 2 "PreCondition")) _ (of-condition m 2 "PreCondition")
    (each_append (sort (attributes m)) (once m 3 (condition m 3 "InvariantCondition")) _ (of-condition m 3 "InvariantCondition")
    (each_append (sort (attributes m)) (once m 4 (condition m 4 "EndCondition")) _ (of-condition m 4 "EndCondition")
    (each_append (sort (attributes m)) (once m 5 (condition m 5 "PostCondition")) _ (of-condition m 5 "PostCondition")
    (each_append (sort (attributes m)) (once m 6 (condition m 6 "RepeatCondition")) _ (of-condition m 6 "RepeatCondition")
    (each_append (sort (attributes m)) (once m 6 (condition m 6 "RepeatUntilCondition")) _ (of-condition m 6 "RepeatUntilCondition") (of-priority m))))))))

pub of-attributes : (m : List ℕ) → Each (sort (attributes m)) (rows (attributes m))
unfolding rows spoken is_silent
of-attributes m =
    (λ R t l h. (h.0, Attributes.list refl h.1, h.2))
    ⊕ (λ R t l h. (h.0, called h.1, h.2))
    ⊕ (λ R t l h. (h.2.0, assigned h.1 h.2.1, h.2.2))
    ⊕ owned ⊕ owned ⊕ owned ⊕ of-onces m
  where
    owned : (R : Sayings → Type 0) (t : Placed) (l : List (Said Saying)) → ((a : Sayings) × Before (spoken l) a × ((b : Sayings) × Attributes a b × R b)) → (a : Sayings) × Attributes (spoken l) a × R a
    owned R t l h = (h.2.0, h.1 h.2.0 h.2.1, h.2.2)

pub of-plan : Each (sort plan) (rows plan)
unfolding rows spoken is_silent
of-plan =
    (λ R t l h. (h.0, (λ e. Plan.root (Node.node Opening.unnamed (subst (Attributes (spoken l)) e h.1))), h.2))
    ⊕ (λ R t l h. (h.0, (λ e. Plan.root (Node.node Opening.named (subst (Attributes (spoken l)) e h.1))), h.2))
    ⊕ (λ R t l h. (h.2.2.0, (λ e. after-command h.1 h.2.1 (h.2.2.1 e)), h.2.2.2))
    ⊕ declared boolean ⊕ declared integer ⊕ declared float ⊕ tt
  where
    declared : (k : Kind) (R : Sayings → Type 0) (t : Placed) (l : List (Said Saying)) → ((a : Sayings) × One (λ x. x ≡ declares_lookup k) (spoken l) a × ((b : Sayings) × (b ≡ [] → Plan a) × R b))
        → (a : Sayings) × (a ≡ [] → Plan (spoken l)) × R a
    declared k R t l h = (h.2.0, (λ e. after-lookup k h.1 (h.2.1 e)), h.2.2)

pub of-sort : (x : Sort) → Each (sort x) (rows x)
unfolding rows spoken is_silent
of-sort plan = of-plan
of-sort nodes =
    (λ R t l h. (spoken l, Nodes.closed refl, h))
    ⊕ (λ R t l h. (h.2.0, Nodes.also (Node.node Opening.unnamed h.1) h.2.1, h.2.2))
    ⊕ (λ R t l h. (h.2.0, Nodes.also (Node.node Opening.named h.1) h.2.1, h.2.2)) ⊕ tt
of-sort command_name = (λ R t l h. (spoken l, single refl, h)) ⊕ tt
of-sort command_number = (λ R t l h. (spoken l, single refl, h)) ⊕ tt
of-sort called_name = (λ R t l h. (spoken l, single refl, h)) ⊕ tt
of-sort target_name = (λ R t l h. (spoken l, single refl, h)) ⊕ tt
of-sort lookup_used = (λ R t l h. (spoken l, single Leaf.is-lookup, h)) ⊕ tt
of-sort priority = (λ R t l h. (spoken l, single refl, h)) ⊕ tt
of-sort negated_integer = of-value (initial_whole true) (Initial.is_whole true) ⊕ tt
of-sort negated_real = of-value (initial_decimal true) (Initial.is-decimal true) ⊕ of-value (initial_decimal true) (Initial.is-decimal true) ⊕ of-bits ⊕ tt
of-sort (lookup_name k) = (λ R t l h. (spoken l, single refl, h)) ⊕ tt
of-sort (attributes m) = of-attributes m
of-sort (variables k) = (λ R t l h. (spoken l, (λ b a. a), h)) ⊕ (λ R t l h. (h.0, (λ b a. Attributes.variable k refl (h.1 b a)), h.2)) ⊕ tt
of-sort (initial k) = (λ R t l h. h) ⊕ (λ R t l h. h) ⊕ tt
of-sort (value boolean) = (λ R t l h. h) ⊕ of-value (initial_truth true) (Initial.is-truth true) ⊕ of-value (initial_truth false) (Initial.is-truth false) ⊕ tt
of-sort (value integer) = (λ R t l h. h) ⊕ of-value (initial_whole false) (Initial.is_whole false) ⊕ (λ R t l h. h) ⊕ tt
of-sort (value float) =
    (λ R t l h. h) ⊕ of-value (initial_decimal false) (Initial.is-decimal false) ⊕ of-value (initial_decimal false) (Initial.is-decimal false) ⊕ of-bits ⊕ (λ R t l h. h) ⊕ tt
of-sort (initial_pattern s) = (λ R t l h. (spoken l, single (Initial.is-bits s), h)) ⊕ tt
of-sort (pattern s) = (λ R t l h. (spoken l, single (Leaf.is-bits s), h)) ⊕ tt
of-sort (operand c) = of-operand c
of-sort (operator c) = of-operations c
of-sort (after_name c) = (λ R t l h. (h.0, (λ w p. h.1.2 (w ∷ spoken l) (Operand.path p h.1.1)), h.2)) ⊕ after-name c (operations c) (of-operations c)
of-sort (after_path c) = (λ R t l h. h) ⊕ tt
of-sort (negative c) = of-leaf c (whole true) (Leaf.is_whole true) ⊕ of-leaf c (decimal true) (Leaf.is-decimal true) ⊕ of_inner c ⊕ tt
of-sort (property c) =
    (λ R t l h. h) ⊕ (λ R t l h. h) ⊕ (λ R t l h. h) ⊕ (λ R t l h. h)
    ⊕ (λ R t l h. (h.0, (h.1.0, Path.part refl h.1.1, h.1.2), h.2)) ⊕ tt
of-sort (compared w c) = (λ R t l h. h) ⊕ (λ R t l h. h) ⊕ tt
of-sort (code w n c) = of-codes w n c 0 (code_words w)

pub of-item : (i : Item Sort) → Each i (rows_of notation i)
of-item (lit w) = of_word w
of-item (sort x) = of-sort x
