-- The contract of the pass over the children permits one reply.
use Prim.Native.Nat.{ℕ, ◌<◌}
use mathlib.Core.Path.{◌≡◌, sym, ◌∙◌}
use mathlib.Core.Bool.{Bool, false}
use mathlib.Core.List.{List}
use lib.ListN.{get_or, length}
use lib.Seq.{ext_get_or}
use Rattle.atomic.specs.Children.{OneAnswered}

same_tests : (a b : List Bool) → length a ≡ 256 → length b ≡ 256 → ((i : ℕ) → i < 256 → get_or a i false ≡ get_or b i false) → a ≡ b
same_tests a b x y h = ext_get_or false a b (x ∙ sym y) (λ i m. h i (rw x at m))

pub one-answered : OneAnswered
one-answered p st a b x y e f = λ j. record {
  finished = same_tests a.finished b.finished x.finished y.finished (λ i m. e.finished i m ∙ sym (f.finished i m)) j;
  resting = same_tests a.resting b.resting x.resting y.resting (λ i m. e.resting i m ∙ sym (f.resting i m)) j;
}
