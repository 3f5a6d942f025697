-- Bounds of what an image of bytes holds: its numbers by their width, and the places where its sections begin.
use Prim.Native.Nat.{ℕ, ◌+◌, ◌*◌, ◌≤◌, ◌<◌}
use mathlib.Core.Path.{◌≡◌}
use mathlib.Core.List.{List}
use native.Mathlib.Omega.{arith}
use mir.Syntax.{w8}
use mir.Val.{Fits}
use lib.ListN.{length, get_or, get_or-eq_default}
use Rattle.plexil.specs.declared.Condition.{Condition}
use Rattle.plexil.specs.declared.Condition.TheVariants.{Skip, Start, Pre, Inv, End, Post, Repeat}
use Rattle.plexil.specs.Bytes.{byte_at, le16}
use Rattle.plexil.specs.Image.{header, node_count, expr_count, var_count, exprs_at, vars_at, looks_at, condition_at}

-- past the end every byte is 0
pub byte_at-past : (p : List ℕ) {k : ℕ} → length p ≤ k → byte_at p k ≡ 0
unfolding byte_at
byte_at-past p h = get_or-eq_default p 0 h

pub condition_at-below : (c : Condition) → condition_at c < 24
unfolding condition_at
condition_at-below Skip = omega arith
condition_at-below Start = omega arith
condition_at-below Pre = omega arith
condition_at-below Inv = omega arith
condition_at-below End = omega arith
condition_at-below Post = omega arith
condition_at-below Repeat = omega arith

-- of a list of bytes, as `shared-slice-known` tells of a `&[u8]`
module _ (p : List ℕ) (known : (k : ℕ) → Fits w8 (get_or p k 0)) where
  pub byte_at-below : (k : ℕ) → byte_at p k < 256
  unfolding byte_at
  byte_at-below k = omega (arith, known k)

  pub le16-below : (k : ℕ) → le16 p k < 65536
  unfolding le16
  le16-below k = omega (arith, byte_at-below k, byte_at-below (k + 1))

  pub header-below : (k : ℕ) → header p k < 65536
  unfolding header
  header-below k = le16-below (2 * k)

  pub exprs_at-below : exprs_at p < 1572884
  unfolding exprs_at node_count
  exprs_at-below = omega (arith, header-below 1)

  pub vars_at-below : vars_at p < 2621460
  unfolding vars_at expr_count
  vars_at-below = omega (arith, exprs_at-below, header-below 2)

  pub looks_at-below : looks_at p < 3670036
  unfolding looks_at var_count
  looks_at-below = omega (arith, vars_at-below, header-below 3)
