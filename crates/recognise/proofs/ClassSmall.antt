-- There are 76 classes.
use Prim.Native.Nat.{ℕ, suc, ◌+◌, ◌<◌, ◌≤◌}
use Prim.Native.String.{String}
use mathlib.Core.Path.{◌≡◌, refl, subst}
use mathlib.Core.Bool.{Bool, true, false, cond}
use mathlib.Core.List.{List, [], ◌∷◌}
use native.Mathlib.Omega.{arith}
use lib.ListN.{length}
use lib.Dec.{leb}
use Rattle.plexil.specs.Lists.{Found, at, nowhere}
use Rattle.grammar.specs.Spelling.{Token}
use Rattle.grammar.specs.Leads.{bytes, same, is_word, is_number, is_real, value_from}
use Rattle.notation.specs.Rows as Rows
use Rattle.notation.specs.Classes as Classes
use Rattle.notation.specs.Classes.{literals, literal_from, bounds, number_class, other_class, class_of}

abbrev or_else : Found → ℕ → ℕ
or_else (at i) n = i
or_else nowhere n = n

number-below : (i : ℕ) (bs : List ℕ) (n : ℕ) → i + length bs ≤ 75 → number_class i bs n ≤ 75
unfolding number_class
number-below i [] n h = omega arith
number-below i (b ∷ bs) n h = go (leb n b) (number-below (suc i) bs n (omega arith))
  where
    go : (t : Bool) → number_class (suc i) bs n ≤ 75 → (elim t as (λ x. ℕ) [ true ↦ i | false ↦ number_class (suc i) bs n ]) ≤ 75
    go true g = omega arith
    go false g = g

literal-below : (i : ℕ) (ws : List String) (t : Token) (n o : ℕ) → i + length ws ≤ n → o < n → or_else (literal_from i ws t) o < n
unfolding literal_from
literal-below i [] t n o h g = g
literal-below i (w ∷ ws) t n o h g = go (same (bytes w) t) (literal-below (suc i) ws t n o (omega arith) g)
  where
    go : (b : Bool) → or_else (literal_from (suc i) ws t) o < n → or_else (elim b as (λ x. Found) [ true ↦ at i | false ↦ literal_from (suc i) ws t ]) o < n
    go true k = omega arith
    go false k = k

cond_below : (b : Bool) (x y n : ℕ) → x < n → y < n → cond b x y < n
cond_below true x y n h g = h
cond_below false x y n h g = g

other-below : (t : Token) → other_class t < 76
unfolding other_class bounds
other-below t =
    cond_below (is_word t) 67 _ 76 (omega arith)
    (cond_below (is_number t) _ _ 76 (omega (arith, number-below 68 bounds (value_from 0 t) (omega arith))) (cond_below (is_real t) 74 75 76 (omega arith) (omega arith)))

by_cases : (f : Found) (o : ℕ) → or_else f o ≡ (elim f as (λ x. ℕ) [ at i ↦ i | nowhere ↦ o ])
by_cases (at i) o = refl
by_cases nowhere o = refl

pub class-below : (t : Token) → class_of t < 76
unfolding Classes.opened Rows.opened
class-below t = subst (λ (k : ℕ). k < 76) (by_cases (literal_from 0 literals t) (other_class t)) (literal-below 0 literals t 76 (other_class t) (omega arith) (other-below t))
