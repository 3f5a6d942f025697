-- Truth values and bytes that are compared: what a test that passes says.
use Prim.Native.Nat.{ℕ}
use mathlib.Core.Path.{◌≡◌, refl, sym, subst}
use mathlib.Core.Bool.{Bool, true, false, ◌&&◌, ◌||◌, false≢true}
use lib.Dec.{T, eqb, eqb→eq, eqb_refl}

-- a conjunction that holds
pub both : (a b : Bool) → a && b ≡ true → (a ≡ true) × (b ≡ true)
both true b e = (refl, e)
both false b e = absurd (false≢true e)

pub both_true : (a b : Bool) → a ≡ true → b ≡ true → a && b ≡ true
both_true a b e f = rw (e, f)

pub and_assoc : (a b c : Bool) → a && (b && c) ≡ (a && b) && c
and_assoc true b c = refl
and_assoc false b c = refl

pub or_right : (a b : Bool) → b ≡ true → a || b ≡ true
or_right true b e = refl
or_right false b e = e

pub byte-is : (b n : ℕ) → eqb b n ≡ true → b ≡ n
byte-is b n e = eqb→eq b n (subst T (sym e) tt)

pub byte-self : (b : ℕ) → eqb b b ≡ true
byte-self b = go (eqb b b) (eqb_refl b)
  where
    go : (k : Bool) → T k → k ≡ true
    go true h = refl
    go false h = absurd h
