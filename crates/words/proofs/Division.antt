-- The division of two whole numbers that a float holds exactly rounds their fraction once.
use Rattle.std.proofs.Common.{◌≡◌, ℕ, ◌*◌, ◌^◌, ◌<◌, ◌≤◌, false, pos, sym, ap, ◌∙◌, mul-pos, mul-one, arith, ne_eqb}
use lib.Ieee.{Float, nan, inf, fin, Format, prec, up, down, round, div, of_int}
use lib.Ieee.Fits.{down_pos}
use lib.Ieee.Exact.{HasValue}
use lib.Ieee.Back.{round_whole}
use lib.Ieee.Scale.{round_same}

div-at : (f : Format) (x y : Float) (a b : ℕ) → 0 < b → HasValue x false a 1 → HasValue y false b 1 → div f x y ≡ round f false a b
unfolding div
div-at f nan y a b B h k = absurd h
div-at f (inf s) y a b B h k = absurd h
div-at f (fin s m e) nan a b B h k = absurd k
div-at f (fin s m e) (inf t) a b B h k = absurd k
div-at f (fin s m e) (fin t n d) a b B h k = rw (ne_eqb n 0 nonzero, h.0, k.0) (round_same f false (m * up e * down d) (n * up d * down e) a b positive B cross)
  where
    x : m * up e ≡ a * down e
    x = sym (mul-one (m * up e)) ∙ h.1

    y : n * up d ≡ b * down d
    y = sym (mul-one (n * up d)) ∙ k.1

    nonzero : n ≡ 0 → ⊥
    nonzero z = omega (arith, ap (λ (j : ℕ). j * up d) z, y, mul-pos B (down_pos d))

    positive : 0 < n * up d * down e
    positive = rw y (mul-pos (mul-pos B (down_pos d)) (down_pos e))

    cross : m * up e * down d * b ≡ a * (n * up d * down e)
    cross = rw (x, y) (omega arith)

pub quotient-rounds : (f : Format) (a b : ℕ) → a ≤ 2 ^ prec f → 0 < b → b ≤ 2 ^ prec f → div f (of_int f (pos a)) (of_int f (pos b)) ≡ round f false a b
unfolding of_int
quotient-rounds f a b h B k = div-at f (round f false a 1) (round f false b 1) a b B (round_whole f false a h) (round_whole f false b k)
