-- The bits of a decimal, with its sign.
use Rattle.std.proofs.Common.{◌≡◌, ℕ, zero, suc, ◌+◌, ◌*◌, ◌^◌, ◌<◌, ◌≤◌, Bool, true, false, cond, not, T, ltb, List, sym, refl, ap, ◌∙◌, ap₂, arith}
use lib.Ieee.{Float, inf, Format, binary64, round, units, odd, neg, is_nan, to_bits, emax, low, prec}
use Rattle.notation.specs.Numbers.{all_digits, places, real_bits}
use Rattle.words.specs.Capped.{capped}
use Rattle.words.specs.Exact.{exact}
use Rattle.words.proofs.CappedLaws.{capped_is}
use Rattle.words.proofs.ExactLaws.{exact-small}

neg-odd : (d q k l : ℕ) → neg (odd d false q k l) ≡ odd d true q k l
unfolding neg odd
neg-odd d zero k l = refl
neg-odd d (suc q) k l = refl

neg-units : (f : Format) (q k : ℕ) → neg (units f false q k) ≡ units f true q k
unfolding neg units
neg-units f q k = go (ltb (q * 2 ^ k) (2 ^ (low f + suc (emax f))))
  where
    go : (b : Bool) → neg (cond b (odd (suc (prec f)) false q k (low f)) (inf false)) ≡ cond b (odd (suc (prec f)) true q k (low f)) (inf true)
    go true = neg-odd (suc (prec f)) q k (low f)
    go false = refl

-- the negated float is the rounding with the other sign
pub neg-round : (f : Format) (m d : ℕ) → neg (round f false m d) ≡ round f true m d
unfolding round
neg-round f m d = neg-units f _ _

odd_no_nan : (d : ℕ) (s : Bool) (q k l : ℕ) → is_nan (odd d s q k l) ≡ false
unfolding is_nan odd
odd_no_nan d s zero k l = refl
odd_no_nan d s (suc q) k l = refl

units-no-nan : (f : Format) (s : Bool) (q k : ℕ) → is_nan (units f s q k) ≡ false
unfolding is_nan units
units-no-nan f s q k = go (ltb (q * 2 ^ k) (2 ^ (low f + suc (emax f))))
  where
    go : (b : Bool) → is_nan (cond b (odd (suc (prec f)) s q k (low f)) (inf s)) ≡ false
    go true = odd_no_nan (suc (prec f)) s q k (low f)
    go false = refl

round-no-nan : (f : Format) (s : Bool) (m d : ℕ) → is_nan (round f s m d) ≡ false
unfolding round
round-no-nan f s m d = units-no-nan f s _ _

pub rounded : (m d : ℕ) {q : Float} → q ≡ round binary64 false m d → T (not (is_nan q))
rounded m d p = rw (p, round-no-nan binary64 false m d) tt

pub rounded-minus : (m d : ℕ) {q : Float} → q ≡ round binary64 false m d → T (not (is_nan (neg q)))
rounded-minus m d p = rw (p, neg-round binary64 m d, round-no-nan binary64 true m d) tt

module _ (t : List ℕ) {m : ℕ} (a : m ≡ capped (all_digits 0 t)) (x : exact t ≡ true) where
  held : m ≡ all_digits 0 t
  held = a ∙ sym (capped_is refl (omega (arith, (exact-small t x).0)))

  pub too-high : (s : Bool) → 9007199254740992 < m → 0 ≡ real_bits s t
  too-high s h = absurd (omega (arith, held, (exact-small t x).0))

  module _ {p d : ℕ} {q : Float} (b : p ≡ places t) (e : p ≤ 15 → d ≡ 10 ^ p) (r : q ≡ round binary64 false m d) where
    exactly : q ≡ round binary64 false (all_digits 0 t) (10 ^ places t)
    exactly = r ∙ ap₂ (round binary64 false) held (e (omega (arith, b, (exact-small t x).1)) ∙ ap (λ k. 10 ^ k) b)

    pub minus-bits : {s : Bool} → s ≡ true → to_bits binary64 (neg q) ≡ real_bits s t
    unfolding real_bits
    minus-bits h = rw h (ap (to_bits binary64) (ap neg exactly ∙ neg-round binary64 (all_digits 0 t) (10 ^ places t)))

    pub plus-bits : {s : Bool} → s ≡ false → to_bits binary64 q ≡ real_bits s t
    unfolding real_bits
    plus-bits h = rw h (ap (to_bits binary64) exactly)
