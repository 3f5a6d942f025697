-- Each token of an accepted text is as its row asks, since the row's lead accepts it.
use Prim.Native.Nat.{ℕ, suc, ◌≤◌, ◌<◌}
use Prim.Native.String.{String}
use mathlib.Core.Path.{◌≡◌, refl, subst}
use mathlib.Core.Bool.{Bool, true, false, cond}
use mathlib.Core.List.{List, [], ◌∷◌, ◌++◌}
use mathlib.Core.Option.{Option, none, some}
use native.Mathlib.Omega.{arith}
use borrow.Author.Tests.{leb-true}
use lib.Dec.{leb}
use Rattle.grammar.specs.Spelling.{Token, Placed, after, between, shut, placed}
use Rattle.grammar.specs.Spelling as Spelling
use Rattle.grammar.specs.Leads.{is_number, is_real, value_from, up_to, real, fits, accepts}
use Rattle.grammar.specs.Table.{Item, lit, sort, Row, pick, Said, rows_of, on_said, said, text_says}
use Rattle.grammar.proofs.Bools.{both, or_right}
use Rattle.notation.specs.Sayings.{boolean, integer, float, What, Saying}
use Rattle.notation.specs.Rows.{reserved, Close, semicolon, bracket, Sort, plan, nodes, command_name, command_number, called_name, target_name, lookup_used, priority, negated_integer, negated_real, lookup_name, attributes, variables, initial, value, initial_pattern, pattern, operand, operator, after_name, after_path, negative, property, compared, code, Rows, operations, code_words, codes, met, once, onces, closing, condition, prioritized, rows, notation}
use Rattle.notation.specs.Spoken.{is_silent, spoken}
use Rattle.notation.specs.Reading.{plan_says}
use Rattle.words.specs.Exact.{exact}
use Rattle.recognise.specs.Aptness.{Apt, AllApt, TextsApt}
use Rattle.recognise.proofs.Hearings.{never}

-- ---- the leads
within : (n m : ℕ) → n ≤ m → (t : Token) → accepts reserved (up_to n) t ≡ true → (is_number t ≡ true) × (value_from 0 t ≤ m)
unfolding accepts fits
within n m h t e =
    let k = both (is_number t) (leb (value_from 0 t) n) (both (Spelling.whole t) _ e).1 in
    (k.0, omega (arith, leb-true (value_from 0 t) n k.1))

below : (n m : ℕ) → n < m → (t : Token) → accepts reserved (up_to n) t ≡ true → (is_number t ≡ true) × (value_from 0 t < m)
below n m h t e = let k = within n n (omega arith) t e in (k.0, omega arith)

a-real : (t : Token) → accepts reserved real t ≡ true → exact t ≡ true
unfolding accepts fits exact
a-real t e = rw (both (Spelling.whole t) (is_real t) e).1

fifteen_digits : (t : Token) → accepts reserved (up_to 999999999999999) t ≡ true → exact t ≡ true
unfolding accepts fits exact
fifteen_digits t e = or_right (is_real t) _ (both (Spelling.whole t) _ e).1

-- ---- the rows
-- a token that the row accepts is as the row asks
abbrev Suits : Row Sort Saying → Type 0
Suits r = (t : Token) → accepts reserved r.lead t ≡ true → Apt r.says t

abbrev Each : Rows → Type 0
Each [] = Unit {0}
Each (r ∷ rs) = Suits r × Each rs

each_append : (r r' : Rows) → Each r → Each r' → Each (r ++ r')
each_append [] r' e e' = e'
each_append (x ∷ r) r' e e' = (e.0, each_append r r' e.1 e')

infixr 20 ◌⊕◌
abbrev ◌⊕◌ : {A B : Type 0} → A → B → A × B
◌⊕◌ a b = (a, b)

of-closing : (c : Close) → Suits (closing c)
unfolding Apt
of-closing semicolon t e = tt
of-closing bracket t e = tt

of-operations : (c : Close) → Each (operations c)
unfolding operations Apt
of-operations c =
    of-closing c ⊕ (λ t e. tt) ⊕ (λ t e. tt) ⊕ (λ t e. tt) ⊕ (λ t e. tt) ⊕ (λ t e. tt) ⊕ (λ t e. tt) ⊕ (λ t e. tt)
    ⊕ (λ t e. tt) ⊕ (λ t e. tt) ⊕ (λ t e. tt) ⊕ (λ t e. tt) ⊕ (λ t e. tt) ⊕ (λ t e. tt) ⊕ tt

of-codes : (w : What) (n : Bool) (c : Close) (k : ℕ) (words : List String) → Each (codes w n c k words)
unfolding codes Apt
of-codes w n c k [] = tt
of-codes w n c k (word ∷ words) = (λ t e. tt) ⊕ of-codes w n c (suc k) words

of-once : (m : List ℕ) (n : ℕ) (r : Row Sort Saying) → Suits r → Each (once m n r)
unfolding once
of-once m n r h = go (met n m)
  where
    go : (b : Bool) → Each (cond b [] (r ∷ []))
    go true = tt
    go false = h ⊕ tt

of-onces : (m : List ℕ) → Each (onces m)
unfolding Apt
of-onces m =
    let of : (n : ℕ) (w : String) → Each (once m n (condition m n w)) = λ n w. of-once m n (condition m n w) (λ t e. tt) in
    each_append (once m 0 (condition m 0 "SkipCondition")) _ (of 0 "SkipCondition")
    (each_append (once m 1 (condition m 1 "StartCondition")) _ (of 1 "StartCondition")
    (each_append (once m 2 (condition m 2 "PreCondition")) _ (of 2 "PreCondition")
    (each_append (once m 3 (condition m 3 "InvariantCondition")) _ (of 3 "InvariantCondition")
    (each_append (once m 4 (condition m 4 "EndCondition")) _ (of 4 "EndCondition")
    (each_append (once m 5 (condition m 5 "PostCondition")) _ (of 5 "PostCondition")
    (each_append (once m 6 (condition m 6 "RepeatCondition")) _ (of 6 "RepeatCondition")
    (each_append (once m 6 (condition m 6 "RepeatUntilCondition")) _ (of 6 "RepeatUntilCondition") (of-once m 7 (prioritized m) (λ t e. tt)))))))))

of-sort : (x : Sort) → Each (rows x)
unfolding rows Apt
of-sort plan = (λ t e. tt) ⊕ (λ t e. tt) ⊕ (λ t e. tt) ⊕ (λ t e. tt) ⊕ (λ t e. tt) ⊕ (λ t e. tt) ⊕ tt
of-sort nodes = (λ t e. tt) ⊕ (λ t e. tt) ⊕ (λ t e. tt) ⊕ tt
of-sort command_name = (λ t e. tt) ⊕ tt
of-sort command_number = within 65534 65534 (omega arith) ⊕ tt
of-sort called_name = (λ t e. tt) ⊕ tt
of-sort target_name = (λ t e. tt) ⊕ tt
of-sort lookup_used = (λ t e. tt) ⊕ tt
of-sort priority = within 65535 65535 (omega arith) ⊕ tt
of-sort negated_integer = within 9223372036854775808 9223372036854775808 (omega arith) ⊕ tt
of-sort negated_real = a-real ⊕ fifteen_digits ⊕ (λ t e. tt) ⊕ tt
of-sort (lookup_name k) = (λ t e. tt) ⊕ tt
of-sort (attributes m) = (λ t e. tt) ⊕ (λ t e. tt) ⊕ (λ t e. tt) ⊕ (λ t e. tt) ⊕ (λ t e. tt) ⊕ (λ t e. tt) ⊕ of-onces m
of-sort (variables k) = (λ t e. tt) ⊕ (λ t e. tt) ⊕ tt
of-sort (initial k) = (λ t e. tt) ⊕ (λ t e. tt) ⊕ tt
of-sort (value boolean) = (λ t e. tt) ⊕ (λ t e. tt) ⊕ (λ t e. tt) ⊕ tt
of-sort (value integer) = (λ t e. tt) ⊕ within 9223372036854775807 9223372036854775808 (omega arith) ⊕ (λ t e. tt) ⊕ tt
of-sort (value float) = (λ t e. tt) ⊕ a-real ⊕ fifteen_digits ⊕ (λ t e. tt) ⊕ (λ t e. tt) ⊕ tt
of-sort (initial_pattern s) = below 9218868437227405311 9223372036854775808 (omega arith) ⊕ tt
of-sort (pattern s) = below 9218868437227405311 9223372036854775808 (omega arith) ⊕ tt
of-sort (operand c) =
    (λ t e. tt) ⊕ (λ t e. tt) ⊕ (λ t e. tt) ⊕ (λ t e. tt) ⊕ (λ t e. tt) ⊕ (λ t e. tt)
    ⊕ within 9223372036854775807 9223372036854775808 (omega arith) ⊕ a-real ⊕ (λ t e. tt) ⊕ (λ t e. tt)
    ⊕ (λ t e. tt) ⊕ (λ t e. tt) ⊕ (λ t e. tt) ⊕ (λ t e. tt) ⊕ (λ t e. tt) ⊕ tt
of-sort (operator c) = of-operations c
of-sort (after_name c) = (λ t e. tt) ⊕ of-operations c
of-sort (after_path c) = (λ t e. tt) ⊕ tt
of-sort (negative c) = within 9223372036854775808 9223372036854775808 (omega arith) ⊕ a-real ⊕ (λ t e. tt) ⊕ tt
of-sort (property c) = (λ t e. tt) ⊕ (λ t e. tt) ⊕ (λ t e. tt) ⊕ (λ t e. tt) ⊕ (λ t e. tt) ⊕ tt
of-sort (compared w c) = (λ t e. tt) ⊕ (λ t e. tt) ⊕ tt
of-sort (code w n c) = of-codes w n c 0 (code_words w)

of-item : (i : Item Sort) → Each (rows_of notation i)
unfolding Apt
of-item (lit w) = (λ t e. tt) ⊕ tt
of-item (sort x) = of-sort x

-- ---- the tokens of a text, one after another
abbrev Kept : Token → Option (Row Sort Saying) → Type 0
Kept t none = Unit {0}
Kept t (some r) = Apt r.says t

picked : (rs : Rows) (t : Token) → Each rs → Kept t (pick reserved rs t)
unfolding pick
picked [] t e = tt
picked (r ∷ rs) t e = go (accepts reserved r.lead t) refl (picked rs t e.1)
  where
    go : (b : Bool) → accepts reserved r.lead t ≡ b → Kept t (pick reserved rs t) → Kept t (cond b (some r) (pick reserved rs t))
    go true h k = e.0 t h
    go false h k = k

-- what holds of the tokens and the sayings of a text, if it holds of none of them and of one more that is as its row asks
module _ (P : List Placed → List (Said Saying) → Type 0) (none_said : P [] []) (one_more : (x : Said Saying) (w : List Placed) (l : List (Said Saying)) → Apt x.what x.token.bytes → P w l → P (x.token ∷ w) (x ∷ l)) where
  said_each : (w : List Placed) (s : List (Item Sort)) (l : List (Said Saying)) → said notation s w ≡ some l → P w l
  unfolding said on_said
  said_each [] [] l e = let z : [] ≡ l = cc in subst (P []) z none_said
  said_each [] (i ∷ s) l e = absurd (never e)
  said_each (t ∷ w) [] l e = absurd (never e)
  said_each (t ∷ w) (i ∷ s) l e = chosen (pick reserved (rows_of notation i) t.bytes) (picked (rows_of notation i) t.bytes (of-item i)) (λ r. said_each w (r.rest ++ s)) e
    where
      later : (r : Row Sort Saying) → Apt r.says t.bytes → (o : Option (List (Said Saying))) → ((k : List (Said Saying)) → o ≡ some k → P w k)
          → elim o as (λ _. Option (List (Said Saying))) [ none ↦ none | some k ↦ some (record { what = r.says; token = t } ∷ k) ] ≡ some l → P (t ∷ w) l
      later r a none f e = absurd (never e)
      later r a (some k) f e =
          let z : record { what = r.says; token = t } ∷ k ≡ l = cc in
          subst (P (t ∷ w)) z (one_more (record { what = r.says; token = t }) w k a (f k refl))

      chosen : (o : Option (Row Sort Saying)) → Kept t.bytes o → ((r : Row Sort Saying) (k : List (Said Saying)) → said notation (r.rest ++ s) w ≡ some k → P w k)
          → on_said notation t o (λ r. said notation (r.rest ++ s) w) ≡ some l → P (t ∷ w) l
      chosen none a f e = absurd (never e)
      chosen (some r) a f e = later r a (said notation (r.rest ++ s) w) (f r) e

  pub text-each : (u : List ℕ) (l : List (Said Saying)) → plan_says u ≡ some l → P (placed u) l
  unfolding plan_says text_says
  text-each u l e = shutting (shut (after between u)) e
    where
      shutting : (b : Bool) → cond b (said notation (sort plan ∷ []) (placed u)) none ≡ some l → P (placed u) l
      shutting true e = said_each (placed u) (sort plan ∷ []) l e
      shutting false e = absurd (never e)

more-apt : (x : Said Saying) (w : List Placed) (l : List (Said Saying)) → Apt x.what x.token.bytes → AllApt (spoken l) → AllApt (spoken (x ∷ l))
unfolding spoken AllApt
more-apt x w l a h = go (is_silent x.what)
  where
    go : (b : Bool) → AllApt (elim b [ true ↦ spoken l | false ↦ x ∷ spoken l ])
    go true = h
    go false = (a, h)

pub all-apt : TextsApt
unfolding spoken AllApt
all-apt = text-each (λ w l. AllApt (spoken l)) tt more-apt
