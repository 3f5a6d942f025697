-- A touched entry is worked out anew; any other keeps its value, and so its cell.
use mathlib.Core.Path.{sym, ap, ◌∙◌}
use native.Mathlib.Omega.{arith}
use Rattle.plexil.specs.declared.Cell.{Cell}
use Rattle.plexil.specs.Values.{encode}
use Rattle.answers.proofs.Filling.{worked-out}
use Rattle.answers.proofs.Untouched.{untouched, same-cell}
use Rattle.answers.proofs.Renewing.{kept-cell}
use Rattle.answers.proofs.renewal.entry_anew.Goals as goal

pub is_touched-requires : goal.is_touched-requires
is_touched-requires c = (c.requires.1, c.requires.2)

pub answer-requires : goal.answer-requires
answer-requires c = (c.requires.1, c.requires.2)

pub returns-then-is_touched : goal.returns-then-is_touched
returns-then-is_touched c = λ s t ks kt h v u f o.
    let e1 = c.encode-c.ensures ∙ (ap encode c.answer.ensures ∙ worked-out _ c.requires.0 t kt _ c.requires.3 h (λ x m. u.below x m (omega (arith, c.requires.3)))) in (
      e1,
      λ z. same-cell _ s t c.requires.0 ks kt _ c.requires.3
          (ap (λ (y : Cell). y.tag) (sym o) ∙ ((c.differs-d.ensures z).0 ∙ ap (λ (y : Cell). y.tag) e1))
          (ap (λ (y : Cell). y.bits) (sym o) ∙ ((c.differs-d.ensures z).1 ∙ ap (λ (y : Cell). y.bits) e1)),
    )

pub returns : goal.returns
returns c = λ s t ks kt h v u f o.
    let v0 = untouched _ _ _ _ c.requires.0 v c.args.changed.now _ c.requires.3 f (sym c.is_touched.ensures ∙ c.if-is_touched.false) in
    (o ∙ kept-cell _ _ _ _ v0, λ z. v0)
