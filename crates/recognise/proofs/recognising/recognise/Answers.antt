-- What has been heard, on the tape too, the counts and the reach are kept, and each token lies further on.
use mathlib.Core.Path.{◌≡◌, refl, ◌∙◌, sym, ap, subst⁻¹}
use native.Mathlib.Omega.{arith}
use lib.ListN.{length}
use Rattle.std.specs.Prelude.{Err}
use Rattle.std.proofs.Common.{rules}
use Rattle.recognise.specs.declared.Ahead.{Ahead}
use Rattle.recognise.specs.declared.Counts.{Counts}
use Rattle.recognise.specs.Steps.{start_ahead}
use Rattle.recognise.specs.declared.Recognised.{Recognised}
use Rattle.recognise.specs.Recognised.{refused_at}
use Rattle.recognise.proofs.Takings.{taken-one}
use Rattle.recognise.proofs.Advances.{taken-says, taken-further}
use Rattle.notation.specs.Spoken.{spoken}
use Rattle.recognise.proofs.Tapes.{Wound, nothing-wound, wound-on, tape-sealed, tape-refused}
use Rattle.recognise.proofs.CountFew.{few-room}
use Rattle.recognise.proofs.Following.{Following, follow-begin, begin-heard, follow-counted}
use Rattle.recognise.proofs.FollowEnds.{whole-told, not-whole, follow-says, follow-accepted, follow-lies, follow-refused}
use Rattle.recognise.proofs.recognising.recognise.Goals as goal

pub loop-t-init : goal.loop-t-init
unfolding spoken
loop-t-init c = subst⁻¹ (λ (a : Ahead). (f : Following c.args.text.now 0 a c.default-n.result) × (length c.args.owner.now ≡ 10525 → Wound c.args.text.now c.args.owner.now (spoken f.heard) 0))
    c.start-ahead.ensures
    (subst⁻¹ (λ (n : Counts). (f : Following c.args.text.now 0 start_ahead n) × (length c.args.owner.now ≡ 10525 → Wound c.args.text.now c.args.owner.now (spoken f.heard) 0))
    (search rules) (follow-begin _, λ e. rw (begin-heard c.args.text.now) (nothing-wound _ _ e)))

pub returns-then-is_whole : goal.returns-then-is_whole
returns-then-is_whole c = let g = c.loop-t.invariant in
    let long = c.well_formed.0.0 in
    let w = whole-told _ _ (sym c.is_whole.ensures ∙ c.if-is_whole.true) in
    let none = ap Err (sym w.0) ∙ sym c.in-Err.is ∙ c.take.ensures in (
      c.accepted_as.ensures ∙ follow-accepted _ long _ _ _ g.0 none w.1,
      λ e. tape-sealed _ _ _ g.0.heard _ (g.1 e) (follow-says _ long _ _ _ g.0 none w.1) c.seal.ensures,
    )

pub reach_of-requires : goal.reach_of-requires
reach_of-requires c = follow-lies _ c.well_formed.0.0 _ _ _ c.loop-t.invariant.0 _ (sym c.in-Err.is ∙ c.take.ensures)

pub returns-in-Err : goal.returns-in-Err
returns-in-Err c = let is =
    c.refused_at.ensures ∙ ap refused_at c.reach_of.ensures
    ∙ follow-refused _ c.well_formed.0.0 _ _ _ c.loop-t.invariant.0 _ (sym c.in-Err.is ∙ c.take.ensures) (not-whole _ _ (sym c.is_whole.ensures ∙ c.if-is_whole.false)) in
    (is, λ e. ((c.loop-t.invariant.1 e).size, tape-refused _ _ _ is (ap (λ (r : Recognised). r.accepted) c.refused_at.ensures)))

pub count-n-requires : goal.count-n-requires
count-n-requires c = let o = taken-one _ _ _ _ (sym c.in-Ok.is ∙ c.take.ensures) in
    let s = taken-says _ c.well_formed.0.0 _ _ _ o in
    let f = taken-further _ c.well_formed.0.0 _ _ _ o in
    (omega (arith, s), few-room _ _ c.loop-t.invariant.0.few (omega (arith, f, c.well_formed.0.1)))

pub keep-sayings-requires : goal.keep-sayings-requires
keep-sayings-requires c = let o = taken-one _ _ _ _ (sym c.in-Ok.is ∙ c.take.ensures) in
    let f = taken-further _ c.well_formed.0.0 _ _ _ o in
    (omega (arith, taken-says _ c.well_formed.0.0 _ _ _ o), f.1)

pub loop-t-smaller : goal.loop-t-smaller
loop-t-smaller c = let f = taken-further _ c.well_formed.0.0 _ _ _ (taken-one _ _ _ _ (sym c.in-Ok.is ∙ c.take.ensures)) in omega (arith, f)

pub loop-t-preserved : goal.loop-t-preserved
loop-t-preserved c = let g = c.loop-t.invariant in
    let o = taken-one _ _ _ _ (sym c.in-Ok.is ∙ c.take.ensures) in
    let f = taken-further _ c.well_formed.0.0 _ _ _ o in
    let n = follow-counted _ c.well_formed.0.0 _ _ _ g.0 _ o c.count-n.ensures in
    (n.on, λ e. wound-on _ _ _ _ _ (g.1 e) c.in-Ok.t _ c.keep-sayings.ensures (taken-says _ c.well_formed.0.0 _ _ _ o) f.1 f.2 g.0.heard n.on.heard refl n.more)
