-- A store past the end changes nothing.
use Rattle.std.proofs.Common.{◌≡◌, ℕ, ◌≤◌, List, length, sym, ap, ap₂, arith}
use lib.Seq.{set_out}
use Rattle.plexil.specs.declared.Cell.{Cell}
use Rattle.plexil.specs.declared.State.{State}
use Rattle.plexil.specs.Places.{state_of}
use Rattle.plexil.specs.Macro.{with_lookup, with_mark}

pub lookup-out : (s : State) (l : ℕ) (c : Cell) → length s.looktags ≡ 64 → length s.lookbits ≡ 64 → 64 ≤ l → s ≡ with_lookup s l c
unfolding with_lookup
lookup-out s l c t b h =
    ap₂ (λ (x y : List ℕ). state_of s.status s.outcome s.failure s.mark s.vartags s.varbits x y)
    (sym (set_out s.looktags l c.tag (omega arith))) (sym (set_out s.lookbits l c.bits (omega arith)))

pub mark-out : (s : State) (i : ℕ) → length s.mark ≡ 256 → 256 ≤ i → s ≡ with_mark s i
unfolding with_mark
mark-out s i m h =
    ap (λ (x : List ℕ). state_of s.status s.outcome s.failure x s.vartags s.varbits s.looktags s.lookbits)
    (sym (set_out s.mark i 1 (omega arith)))
