use Prim.Native.Nat.{◌+◌, ◌-◌, ◌≤◌}
use mathlib.Core.Path.{◌∙◌}
use mathlib.Core.List.{[]}
use native.Mathlib.Omega.{arith}
use Rattle.notation.specs.Hearing.{◌▸◌}
use Rattle.build.proofs.KnownLaws.{place_is}
use Rattle.build.proofs.PathLaws.{first_found, part-found, held_at, part_held}
use Rattle.build.proofs.paths.walk.Goals as goal

pub loop-init : goal.loop-init
loop-init c = (c.first_part-found.ensures.1, λ s n ps size es ms h kn z hl. let m : size ≤ size - 0 = omega arith in ([], held_at _ s n ps size es ms h (size - 0) _ [] m hl, z))

pub returns-then-to_ask-ne44 : goal.returns-then-to_ask-ne44
returns-then-to_ask-ne44 c s n ps size es ms h kn small m lies e hl = let z = first_found s.whole _ _ _ h (c.first_part-found.ensures.0 s.whole kn small lies) e in
    let t = c.loop.invariant.1 s n ps size es ms h kn z hl in
    (t.0, held_at _ s n ps _ es ms h size _ t.0 (omega arith) t.1, (λ q. c.if-to_ask-ne44.true q), c.unwrap_or.ensures ∙ place_is _ _ t.2)

pub part-found-requires : goal.part-found-requires
part-found-requires c = c.loop.invariant.0

pub loop-preserved : goal.loop-preserved
loop-preserved c = (
  c.part-found.ensures.1,
  λ s n ps size es ms h kn z hl.
      let t = c.loop.invariant.1 s n ps size es ms h kn z hl in
      let x = part_held _ s n ps _ es ms h _ _ t.0 t.1 c.if-to_ask-ne44.false (c.next-to_ask.ensures kn.ready.tape) in (
        t.0 ▸ t.1.next.token,
        held_at _ s n ps _ es ms h (size - (c.loop.counter + 1)) _ _ (omega arith) x,
        part-found s.whole _ _ _ h t.0 t.1.next.token t.1.heard.just.bytes (c.part-found.ensures.0 s.whole _ kn (t.1.heard.ordered, t.1.heard.inside) t.2),
      ),
)

pub returns : goal.returns
returns c s n ps size es ms h kn small m lies e hl = let z = first_found s.whole _ _ _ h (c.first_part-found.ensures.0 s.whole kn small lies) e in
    let t = c.loop.invariant.1 s n ps size es ms h kn z hl in
    absurd (omega (arith, t.1.short))
