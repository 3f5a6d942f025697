-- A text cut at a place: what stands before a part of it, the part itself, and what follows.
use Prim.Native.Nat.{ℕ, ◌+◌, ◌-◌, ◌≤◌, ◌<◌}
use native.Mathlib.Omega.{arith}
use lib.ListN.{length, take, drop, length-append, length-drop, take-append-drop}
use lib.Seq.{slice, take-append-add, drop-append-add, take-append_seam, drop-append_seam, drop-drop, length-take-le}
use mathlib.Core.Path.{◌≡◌, sym, ◌∙◌, ap}
use mathlib.Core.List.{List, ◌++◌, append_assoc}

slice_cut : (z t y u : List ℕ) (n : ℕ) → length z ≡ n → u ≡ z ++ (t ++ y) → slice n (n + length t) u ≡ t
slice_cut z t y u n h e =
    rw (e, ← h, take-append-add z (t ++ y) (length t), take-append_seam t y) (drop-append_seam z t)

-- of the text u the bytes from `at` on are x, t and y
module _ (u : List ℕ) (at : ℕ) (x t y : List ℕ) (e : drop at u ≡ x ++ (t ++ y)) where
  left : length u - at ≡ length x + (length t + length y)
  left =
      sym (length-drop at u) ∙ ap length e ∙ length-append x (t ++ y) ∙ ap (λ n. length x + n) (length-append t y)

  pub cut_fits : 0 < length t → at + length x + length t ≤ length u
  cut_fits h = omega (arith, left)

  pub cut-rest : drop (at + length x + length t) u ≡ y
  cut-rest =
      let z : at + length x + length t ≡ at + (length x + length t) = omega arith in
      rw (z, ← drop-drop (length x + length t) at u, e, drop-append-add x (t ++ y) (length t)) (drop-append_seam t y)

  pub cut-part : 0 < length t → slice (at + length x) (at + length x + length t) u ≡ t
  cut-part h =
      slice_cut (take at u ++ x) t y u (at + length x)
      (length-append (take at u) x ∙ ap (λ n. n + length x) (length-take-le at u (omega (arith, left))))
      (sym (append_assoc (take at u) x (t ++ y) ∙ ap (λ v. take at u ++ v) (sym e) ∙ take-append-drop at u))
