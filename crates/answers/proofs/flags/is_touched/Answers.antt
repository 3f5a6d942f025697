-- Each return is one law of what touches an entry, by its operator's number.
use Prim.Native.Nat.{ℕ, ◌+◌}
use mathlib.Core.Path.{refl, sym, ap, ◌∙◌}
use Rattle.plexil.specs.Expressions.{constant_op, variable_op, lookup_op, status_op, outcome_op, failure_op, operator_of}
use Rattle.plexil.proofs.OperatorNumbers.{NoneOf}
use Rattle.plexil.proofs.TestLaws.{one_passes, or-else, or-last}
use Rattle.evaluate.proofs.Laws.{is-a, is_b}
use Rattle.answers.specs.Changes.{up, leaf_touched}
use Rattle.answers.proofs.FlagLaws.{touched-leaf, touched-not, touched-two}
use Rattle.answers.proofs.flags.is_touched.Goals as goal

pub returns-then-is_up : goal.returns-then-is_up
returns-then-is_up c = unfold NoneOf in touched-two _ _ _ c.args.changed.now c.requires.0 c.byte_at-op.ensures c.in_default.in_default-own.rest
    (one_passes _ (sym (ap (up c.args.changed.now) (is-a _ _ c.requires.0 c.le16-a.ensures)) ∙ (sym c.is_up-in_default.ensures ∙ c.if-is_up.true)))

pub returns-in-0 : goal.returns-in-0
unfolding operator_of leaf_touched
returns-in-0 c = touched-leaf _ _ _ c.args.changed.now c.requires.0 c.byte_at-op.ensures constant_op c.in-0.is refl refl

pub returns-in-1 : goal.returns-in-1
unfolding operator_of leaf_touched
returns-in-1 c = touched-leaf _ _ _ c.args.changed.now c.requires.0 c.byte_at-op.ensures variable_op c.in-1.is refl
    (c.is_up.ensures ∙ ap (λ (a : ℕ). up c.args.altered.now (256 + a)) (is-a _ _ c.requires.0 c.le16-a.ensures))

pub returns-in-2 : goal.returns-in-2
unfolding operator_of leaf_touched
returns-in-2 c = touched-leaf _ _ _ c.args.changed.now c.requires.0 c.byte_at-op.ensures lookup_op c.in-2.is refl
    (c.is_up-in-2.ensures ∙ ap (λ (a : ℕ). up c.args.altered.now (384 + a)) (is-a _ _ c.requires.0 c.le16-a.ensures))

pub returns-in-3 : goal.returns-in-3
unfolding operator_of leaf_touched
returns-in-3 c = touched-leaf _ _ _ c.args.changed.now c.requires.0 c.byte_at-op.ensures status_op c.in-3.is refl
    (c.is_up-in-3.ensures ∙ ap (λ (a : ℕ). up c.args.altered.now a) (is-a _ _ c.requires.0 c.le16-a.ensures))

pub returns-in-4 : goal.returns-in-4
unfolding operator_of leaf_touched
returns-in-4 c = touched-leaf _ _ _ c.args.changed.now c.requires.0 c.byte_at-op.ensures outcome_op c.in-4.is refl
    (c.is_up-in-4.ensures ∙ ap (λ (a : ℕ). up c.args.altered.now a) (is-a _ _ c.requires.0 c.le16-a.ensures))

pub returns-in-5 : goal.returns-in-5
unfolding operator_of leaf_touched
returns-in-5 c = touched-leaf _ _ _ c.args.changed.now c.requires.0 c.byte_at-op.ensures failure_op c.in-5.is refl
    (c.is_up-in-5.ensures ∙ ap (λ (a : ℕ). up c.args.altered.now a) (is-a _ _ c.requires.0 c.le16-a.ensures))

pub returns-in-6 : goal.returns-in-6
returns-in-6 c = touched-not _ _ _ c.args.changed.now c.requires.0 c.byte_at-op.ensures c.in-6.is
    (c.is_up-in-6.ensures ∙ ap (up c.args.changed.now) (is-a _ _ c.requires.0 c.le16-a.ensures))

pub returns-else-is_up : goal.returns-else-is_up
returns-else-is_up c = unfold NoneOf in touched-two _ _ _ c.args.changed.now c.requires.0 c.byte_at-op.ensures c.in_default.in_default-own.rest
    (or-else _ (sym (ap (up c.args.changed.now) (is-a _ _ c.requires.0 c.le16-a.ensures)) ∙ (sym c.is_up-in_default.ensures ∙ c.if-is_up.false))
    (or-last (c.is_up-in_default-2.ensures ∙ ap (up c.args.changed.now) (is_b _ _ c.requires.0 c.le16.ensures))))
