use Prim.Native.Nat.{◌≤◌}
use mathlib.Core.Path.{◌∙◌, ap}
use mathlib.Core.List.{List, ◌++◌}
use native.Mathlib.Omega.{arith}
use lib.ListN.{length, length-append}
use Rattle.notation.specs.Draft.{Entry}
use Rattle.build.specs.Operators.{first_of}
use Rattle.build.proofs.OperatorLaws.{ends-one, ends-two}
use Rattle.build.proofs.entries.end_operator.Goals as goal

at_least : (es fs : List Entry) → length (es ++ fs) ≤ 2048 → length es ≤ 2048
at_least es fs h = omega (arith, length-append es fs)

pub returns : goal.returns
returns c s es o room low t h few e = let x = c.args in
    let g = c.emit-m in
    ends-two s es o _ _ _ _ room low t _ _ _ _ _ _ _ few e (c.operator-op.ensures o e)
    (c.kind_kept-kind.ensures s es _ o room low t h (omega (arith, at_least es _ few)) (c.operator-op.ensures o e))
    (c.first.ensures o e ∙ ap (λ z. first_of o x.a z) c.last-b.ensures) (c.first-2.ensures o e ∙ ap (λ z. first_of o z x.a) c.last-b.ensures)
    g.ensures _ _ c.emit.ensures c.if-says-ne83.false

pub returns-then-says-ne83 : goal.returns-then-says-ne83
returns-then-says-ne83 c s es o room low t h few e = let x = c.args in
    let g = c.emit-m in
    ends-one s es o _ _ _ _ room low t _ _ _ _ _ _ _ few e (c.operator-op.ensures o e)
    (c.kind_kept-kind.ensures s es _ o room low t h (omega (arith, at_least es _ few)) (c.operator-op.ensures o e))
    (c.first.ensures o e ∙ ap (λ z. first_of o x.a z) c.last-b.ensures) (c.first-2.ensures o e ∙ ap (λ z. first_of o z x.a) c.last-b.ensures)
    g.ensures (λ q. c.if-says-ne83.true q)
