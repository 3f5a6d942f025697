-- Within the limits nothing wraps.
use Prim.Native.Nat.{◌≤◌}
use mathlib.Core.Path.{◌≡◌, refl}
use mathlib.Core.Bool.{true}
use native.Mathlib.Omega.{arith}
use borrow.Author.Tests.{leb-true}
use Rattle.plexil.proofs.ListLaws.{every-at}
use Rattle.recognise.specs.declared.Recognised.{Recognised}
use Rattle.read.specs.Limits.{fits, length_of}
use Rattle.read.proofs.limits.length_of.Goals as goal

small : (r : Recognised) → fits r ≡ true → (r.nodes ≤ 256) × (r.entries ≤ 2048) × (r.variables ≤ 128) × (r.lookups ≤ 64)
unfolding fits
small r h = (leb-true _ _ (every-at _ 0 h), leb-true _ _ (every-at _ 1 h), leb-true _ _ (every-at _ 2 h), leb-true _ _ (every-at _ 3 h))

pub overflow_mul-result : goal.overflow_mul-result
unfolding length_of
overflow_mul-result c = let s = small _ c.requires in omega arith

pub overflow_add-result : goal.overflow_add-result
unfolding length_of
overflow_add-result c = let s = small _ c.requires in omega arith

pub overflow_mul-result-2 : goal.overflow_mul-result-2
unfolding length_of
overflow_mul-result-2 c = let s = small _ c.requires in omega arith

pub overflow_add-result-2 : goal.overflow_add-result-2
unfolding length_of
overflow_add-result-2 c = let s = small _ c.requires in omega arith

pub overflow_mul-result-3 : goal.overflow_mul-result-3
unfolding length_of
overflow_mul-result-3 c = let s = small _ c.requires in omega arith

pub overflow_add-result-3 : goal.overflow_add-result-3
unfolding length_of
overflow_add-result-3 c = let s = small _ c.requires in omega arith

pub overflow_mul-result-4 : goal.overflow_mul-result-4
unfolding length_of
overflow_mul-result-4 c = let s = small _ c.requires in omega arith

pub overflow_add-result-4 : goal.overflow_add-result-4
unfolding length_of
overflow_add-result-4 c = let s = small _ c.requires in omega arith

pub returns : goal.returns
unfolding length_of
returns c = refl
