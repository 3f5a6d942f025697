-- What a good node's record refers to: its conditions and an assignment's value are entries of the plan.
use Prim.Native.Nat.{ℕ, ◌<◌}
use mathlib.Core.Path.{◌≡◌, refl, sym, ◌∙◌}
use mathlib.Core.Bool.{Bool, true, false, true≢false}
use mathlib.Core.List.{[], ◌∷◌}
use lib.Dec.{eqb}
use borrow.Author.Tests.{ltb-true, eqb-true}
use Rattle.plexil.specs.declared.Condition.{Condition}
use Rattle.plexil.specs.declared.Condition.TheVariants.{Skip, Start, Pre, Inv, End, Post, Repeat}
use Rattle.plexil.specs.Lists.{when◌then◌else◌, some}
use Rattle.plexil.specs.Image.{Image, default, expr_count, node_type, condition_field, value_field}
use Rattle.plexil.specs.Records.{is_list, is_command, is_assignment, all_conditions, good_condition, good_what, good_node}
use Rattle.plexil.proofs.ListLaws.{every-at, every-stop, some-cons}

pub some-else : (a b : Bool) → some (a ∷ b ∷ []) ≡ true → a ≡ false → b ≡ true
unfolding some when◌then◌else◌
some-else true b h e = absurd (true≢false e)
some-else false true h e = refl
some-else false false h e = h

pub all_conditions-at : (f : Condition → Bool) → all_conditions f ≡ true → (c : Condition) → f c ≡ true
unfolding all_conditions
all_conditions-at f h Skip = every-at _ 0 h
all_conditions-at f h Start = every-at _ 1 h
all_conditions-at f h Pre = every-at _ 2 h
all_conditions-at f h Inv = every-at _ 3 h
all_conditions-at f h End = every-at _ 4 h
all_conditions-at f h Post = every-at _ 5 h
all_conditions-at f h Repeat = every-at _ 6 h

module _ (p : Image) (i : ℕ) (good : good_node p i ≡ true) where
  pub given_below : (c : Condition) → eqb (condition_field p i c) default ≡ false → condition_field p i c < expr_count p
  unfolding good_node good_condition
  given_below c e = ltb-true _ _ (some-else _ _ (all_conditions-at _ (every-at _ 2 good) c) e)

  pub value-below : is_assignment p i ≡ true → value_field p i < expr_count p
  unfolding good_node good_what is_list is_command is_assignment
  value-below t =
      let n : node_type p i ≡ 2 = eqb-true _ _ t in
      let notList = sym (some-cons _ _ (every-stop _ _ (rw n))) ∙ every-at _ 1 good in
      ltb-true _ _ (every-at _ 2 (some-else _ _ notList (every-stop _ _ (rw n))))
