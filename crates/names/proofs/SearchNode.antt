-- A search for the node of a number, and what one more saying does to it.
use Prim.Native.Nat.{ℕ, suc, ◌<◌, ◌≤◌, ◌-◌}
use mathlib.Core.Path.{◌≡◌, refl, ap, sym}
use mathlib.Core.List.{List, [], ◌∷◌, ◌++◌}
use native.Mathlib.Omega.{arith}
use lib.ListN.{length, length-append, get_or-append, get_or-eq_default}
use lib.Seq.{get_or-append_seam}
use Rattle.grammar.specs.Table.{Said}
use Rattle.notation.specs.Sayings.{Saying}
use Rattle.recognise.specs.Hears.{piece}
use Rattle.names.specs.declared.walk.Walk.{Walk}
use Rattle.names.specs.Tale.{Declared, Tale, list_of, tell, tell_all}
use Rattle.names.specs.Order.{Standing}
use Rattle.names.specs.Seek.{node_in, nobody}
use Rattle.names.specs.Walking.{sort_no}
use Rattle.names.specs.Answers.{tale_said, NodeIs}
use Rattle.names.proofs.Grown.{lists-grow-all, More}
use Rattle.names.proofs.Halfway.{Newly}
use Rattle.names.proofs.Search.{heard_one, told-one, told_none}

-- at most n nodes have begun
abbrev pub Before : ℕ → Tale → Standing → Type 0
Before n b q = length b.nodes ≤ n

pub no_node : (u : List ℕ) (b : Tale) (n : ℕ) → length b.nodes ≤ n → NodeIs u (node_in b n) (record { «from» = 0; to = 0; owner = 0 })
unfolding piece
no_node u b n h = rw (get_or-eq_default b.nodes nobody {n = n} h) (record { name = refl; owner = refl })

module _ (k : ℕ) {u ls : List ℕ} {r : Walk} {l : List (Said Saying)} (n : Newly u ls r l (Before k)) where
  new-nodes : sort_no r.role ≡ 3 → (tell n.said n.tale).nodes ≡ n.tale.nodes ++ (heard_one n 3 (omega arith) ∷ [])
  unfolding list_of
  new-nodes e = told-one n 3 (omega arith) e

  new-length : sort_no r.role ≡ 3 → r.nodes ≡ suc (length n.tale.nodes)
  new-length e = omega (arith, n.follows.nodes, ap length (new-nodes e), length-append n.tale.nodes (heard_one n 3 (omega arith) ∷ []))

  pub the-node : sort_no r.role ≡ 3 → r.nodes - 1 ≡ k → NodeIs u (node_in (tale_said l) k) (record { «from» = r.from; to = r.to; owner = r.owner })
  unfolding list_of
  the-node e f =
      let g : More (tell_all n.rest (tell n.said n.tale)).nodes (tell n.said n.tale).nodes = lists-grow-all n.rest (tell n.said n.tale) 3 (omega arith) in
      let z : k ≡ length n.tale.nodes = omega (arith, new-length e) in
      let y : length n.tale.nodes < length (tell n.said n.tale).nodes = omega (arith, n.follows.nodes, new-length e) in
      let v : node_in (tale_said l) k ≡ heard_one n 3 (omega arith) =
      rw (← n.whole, z, g.grown, get_or-append (tell n.said n.tale).nodes g.rest nobody (length n.tale.nodes) y, new-nodes e) (get_or-append_seam n.tale.nodes (heard_one n 3 (omega arith)) [] nobody) in
      record { name = ap (λ (x : Declared). x.name) (sym v); owner = ap (λ (x : Declared). x.owner) (sym v) }

  pub other-node : sort_no r.role ≡ 3 → (r.nodes - 1 ≡ k → ⊥) → Before k (tell n.said n.tale) n.next
  other-node e f = omega (arith, n.follows.nodes, new-length e, n.known)

  pub no-new-node : (sort_no r.role ≡ 3 → ⊥) → Before k (tell n.said n.tale) n.next
  unfolding list_of
  no-new-node e = omega (arith, n.known, ap length (told_none n 3 (omega arith) e))
