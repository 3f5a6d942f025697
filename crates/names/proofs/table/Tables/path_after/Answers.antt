-- `names::Tables::path_after` meets its contract: what is held goes with the path.
use Rattle.std.proofs.Common.{rules}
use mathlib.Core.Path.{◌≡◌, refl, sym, ◌∙◌, subst}
use mathlib.Core.List.{◌∷◌}
use mathlib.Core.Logic.{inl, inr}
use native.Mathlib.Omega.{arith}
use Rattle.notation.specs.Hearing.{draft_of, ◌▸◌}
use Rattle.names.specs.Tale.{here_in}
use Rattle.names.specs.Judging as Judging
use Rattle.names.specs.Judging.{PathIs, Whole}
use Rattle.names.proofs.Paths.{path-here}
use Rattle.names.proofs.Judgements as J
use Rattle.names.proofs.table.Tables.path_after.Goals as goal

pub returns-in-10 : goal.returns-in-10
unfolding Judging.PathGoes Judging.PathIs Judging.held_from
returns-in-10 c = rw c.held_from.ensures (λ l a r b x h y g z. rw (J.held-mention _ l a _ b x h c.in-10.is) (inl (J.name-mention _ l a _ b x h c.in-10.is, h.tells.place, refl, refl)), record { ordered = c.requires.0.ordered; within = c.requires.0.within; small = omega arith })

pub returns-in-11 : goal.returns-in-11
unfolding Judging.PathGoes Judging.PathIs Judging.FirstPart Judging.NextPart ◌▸◌
returns-in-11 c = (
  λ l a r b x h y g z.
      let t = y c.in-11.is in
      let e : c.here.result ≡ here_in b = c.here.ensures ∙ J.here-is _ l a _ b x h (omega (arith, c.in-11.is)) in
      let v : PathIs c.args.self.text.now (draft_of l) (here_in b) (t.first ∷ t.others) c.args.p = subst (λ k. PathIs c.args.self.text.now (draft_of l) (here_in b) k c.args.p) t.whole z in
      let f = c.path_first.ensures.0 l a r in
      let w : Whole c.args.self.text.now (draft_of l) (here_in b) t.first t.others c.path_first.result = subst (λ k. Whole c.args.self.text.now (draft_of l) k t.first t.others c.path_first.result) e (f.1 t.first t.others (subst (λ k. PathIs c.args.self.text.now (draft_of l) k (t.first ∷ t.others) c.args.p) (sym e) v)) in
      rw (g t, J.held-descend _ l a _ b x h c.in-11.is, t.whole) (inr (c.path_next.ensures.0 l a r (here_in b) t.first t.others x.token w (J.name-descend _ l a _ b x h c.in-11.is) h.tells.place)),
  c.path_next.ensures.1,
)

pub returns-in-12 : goal.returns-in-12
unfolding Judging.PathGoes Judging.PathIs Judging.held_from
returns-in-12 c = rw c.held_from-in-12.ensures (λ l a r b x h y g z. rw (J.held-ended _ l a _ b x h (search rules) (search rules)) refl, record { ordered = omega arith; within = omega arith; small = omega arith })

pub returns-in_default : goal.returns-in_default
unfolding Judging.PathGoes
returns-in_default c = (λ l a r b x h y g z. rw (J.held_same _ l a _ b x h (search rules) (search rules) (search rules) (search rules)) (path-here _ _ _ _ _ _ g z), c.requires.1)

pub returns-in_default-2 : goal.returns-in_default-2
unfolding Judging.PathGoes
returns-in_default-2 c = (λ l a r b x h y g z. rw (J.held_same _ l a _ b x h (search rules) (search rules) (search rules) (search rules)) (path-here _ _ _ _ _ _ g z), c.requires.1)
