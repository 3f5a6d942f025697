-- No expression meets a value of another kind: no entry met is a Clash, a condition is a Bool or Unknown, an assignment's value has its target's kind.
use Prim.Native.Nat.{ℕ, ◌<◌}
use mathlib.Core.Path.{◌≡◌}
use mathlib.Core.Bool.{true, false}
use lib.Dec.{eqb}
use borrow.Author.Tests.{eqb-true}
use Rattle.plexil.specs.declared.Worked.TheVariants.{Clash}
use Rattle.plexil.specs.declared.State.{State}
use Rattle.plexil.specs.declared.Condition.{Condition}
use Rattle.plexil.specs.Image.{Image, default, node_count, expr_count, condition_field, value_field, result_kind, var_kind}
use Rattle.plexil.specs.Places.{seen}
use Rattle.plexil.specs.Expressions.{value_of}
use Rattle.plexil.specs.Records.{is_writer, target}
use Rattle.plexil.specs.Scope.{shallow, given_pass, if_assignment, good_kinds}
use Rattle.plexil.specs.Atomic.{condition}
use Rattle.plexil.specs.Kinds.{Has, bool, Meets, itself, of_not, left_of, right_of}
use Rattle.plexil.specs.Promises.{IsAdmitted, IsKept, FromKept, NoClash, EntryHas, ConditionHas, AssignedHas}
use Rattle.plexil.proofs.ListLaws.{if-either, every-at}
use Rattle.plexil.proofs.GoodNode.{some-else, all_conditions-at, given_below, value-below}
use Rattle.plexil.proofs.Admitted.{good-node, good-kinds, is-shallow}
use Rattle.plexil.proofs.EntryKinds.{Within, operands-within, eval-has}

-- ---- every entry met
clash-has : {k : ℕ} → Has k Clash → ⊥
clash-has h = elim h [ ]

meets-within : (p : Image) → IsAdmitted p → {d e k x : ℕ} → Meets p d e k x → Within p d e → Within p k x
meets-within p a itself w = w
meets-within p a (of_not {d = d} {e = e} o r) w = meets-within p a r (rw o at (operands-within p a d e w))
meets-within p a (left_of {d = d} {e = e} b o r) w = meets-within p a r (rw o at (operands-within p a d e w)).0
meets-within p a (right_of {d = d} {e = e} b o r) w = meets-within p a r (rw o at (operands-within p a d e w)).1

shallow-within : (p : Image) → IsAdmitted p → (e : ℕ) → e < expr_count p → Within p 12 e
unfolding shallow
shallow-within p a e b = record { there = b; deep = is-shallow p a e b }

pub entry_has : FromKept EntryHas
entry_has p s a t e k x b r = eval-has p a s t k x (meets-within p a r (shallow-within p a e b))

pub no-clash : FromKept NoClash
no-clash p s a t e k x b r h = clash-has (rw h at (entry_has p s a t e k x b r))

-- ---- the entries of a node's record
module _ (p : Image) (a : IsAdmitted p) (i : ℕ) (b : i < node_count p) where
  given-there : (c : Condition) → eqb (condition_field p i c) default ≡ false → condition_field p i c < expr_count p
  given-there = given_below p i (good-node p a i b)

  given-bool : (c : Condition) → eqb (condition_field p i c) default ≡ false → result_kind p (condition_field p i c) ≡ 0
  unfolding good_kinds given_pass
  given-bool c e = eqb-true _ _ (some-else _ _ (all_conditions-at _ (every-at _ 0 (good-kinds p a i b)) c) e)

  value_there : is_writer p i ≡ true → value_field p i < expr_count p
  unfolding is_writer
  value_there = value-below p i (good-node p a i b)

  value-kind : is_writer p i ≡ true → result_kind p (value_field p i) ≡ var_kind p (target p i)
  unfolding good_kinds if_assignment is_writer target
  value-kind t = eqb-true _ _ (some-else _ _ (every-at _ 1 (good-kinds p a i b)) (rw t))

-- ---- what the rules read
value-has : (p : Image) (s : State) → IsAdmitted p → IsKept p s → (e : ℕ) → e < expr_count p → Has (result_kind p e) (value_of p (seen s) e)
unfolding value_of
value-has p s a t e b = eval-has p a s t 12 e (shallow-within p a e b)

pub condition-has : FromKept ConditionHas
unfolding condition
condition-has p s a t i b c =
    if-either (Has 0) (eqb (condition_field p i c) default) _ _ (λ e. bool)
    (λ e. rw (given-bool p a i b c e) at (value-has p s a t (condition_field p i c) (given-there p a i b c e)))

pub assigned-has : FromKept AssignedHas
assigned-has p s a t i b n = rw (value-kind p a i b n) at (value-has p s a t (value_field p i) (value_there p a i b n))
