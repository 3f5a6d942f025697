-- Tables that have the whole tale answer for it.
use Prim.Native.Nat.{ℕ, ◌+◌, ◌<◌, ◌≤◌}
use mathlib.Core.Path.{◌≡◌, ap, sym, ◌∙◌}
use mathlib.Core.Bool.{Bool, true, false, cond}
use lib.Dec.{eqb}
use mathlib.Core.List.{List}
use native.Mathlib.Omega.{arith}
use lib.ListN.{length}
use Rattle.notation.specs.Names.{find, find_from}
use Rattle.grammar.specs.Spelling.{Token}
use Rattle.names.specs.declared.table.Told.{Told}
use Rattle.names.specs.declared.answers.NodeFound.{NodeFound}
use Rattle.names.specs.Tale.{Tale, list_of}
use Rattle.names.specs.Seek.{is_called, seek, node_in}
use Rattle.names.specs.Answers.{NodeIs}
use Rattle.names.specs.Tables as Tables
use Rattle.names.specs.Tables.{base_of, room_of, count_of, row_at, rows, Fair, TabledSort, Ready}
use Rattle.names.proofs.RowLaws.{row_of, fair-of, rows-length}
use Rattle.names.proofs.SearchNode.{no_node}

module _ (u : List ℕ) (b : Tale) (fs ts os : List ℕ) (t : Told) (w : t.whole ≡ true) (r : Ready u b fs ts os t) where
  node-rows : TabledSort u b fs ts os t 3
  node-rows = r.tabled w 3 (omega arith)

  nodes-are : rows u fs ts os 448 t.nodes ≡ b.nodes
  unfolding Tables.opened list_of
  nodes-are = node-rows.same

  node-count : t.nodes ≡ length b.nodes
  node-count = sym (rows-length u fs ts os 448 t.nodes) ∙ ap length nodes-are

  pub nodes-few : t.nodes ≤ 256
  unfolding Tables.opened
  nodes-few = node-rows.room

  pub quick-none : (n : ℕ) → t.nodes ≤ n → NodeIs u (node_in b n) (record { «from» = 0; to = 0; owner = 0 })
  quick-none n h = no_node u b n (omega (arith, node-count))

  pub quick-node : (n : ℕ) → n < t.nodes → (x : NodeFound) → (Fair u fs ts (448 + n) 1 → NodeIs u (row_at u fs ts os (448 + n)) x) → NodeIs u (node_in b n) x
  unfolding Tables.base_of Tables.count_of
  quick-node n h x f =
      let z : node_in b n ≡ row_at u fs ts os (448 + n) = rw (← nodes-are) (row_of u fs ts os 448 t.nodes n h) in
      rw z (f (fair-of u fs ts 448 t.nodes n h node-rows.fair))

  -- the rows of a sort are searched as its declarations are
  pub quick-find : (k : ℕ) → k < 4 → (m : ℕ) (x : Token) → find_from 0 (is_called m x) (rows u fs ts os (base_of k) (count_of t k)) ≡ seek k m x b
  unfolding seek find
  quick-find k h m x = rw (r.tabled w k h).same

  pub quick-fair : (k : ℕ) → k < 4 → Fair u fs ts (base_of k) (count_of t k)
  quick-fair k h = (r.tabled w k h).fair

  pub quick-room : (k : ℕ) → k < 4 → count_of t k ≤ room_of k
  quick-room k h = (r.tabled w k h).room

-- the rows of a sort lie in the arrays
pub sort-lies : (k : ℕ) → base_of k + room_of k ≤ 704
unfolding base_of room_of
sort-lies k = onto (eqb k 0) (eqb k 1) (eqb k 2)
  where
    onto : (a b c : Bool) → cond a 0 (cond b 256 (cond c 320 448)) + cond a 256 (cond b 64 (cond c 128 256)) ≤ 704
    onto true b c = omega arith
    onto false true c = omega arith
    onto false false true = omega arith
    onto false false false = omega arith
