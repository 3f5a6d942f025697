-- The tale of an orderly text is the view of its draft: each saying adds to the tale what it adds to the draft's names.
use Prim.Native.Nat.{ℕ, zero, suc, ◌<◌, ◌≤◌, ◌-◌}
use mathlib.Core.Path.{◌≡◌, ap, subst}
use mathlib.Core.List.{List, [], ◌∷◌}
use mathlib.Core.Option.{none, some, some-injective, none-ne-some}
use native.Mathlib.Omega.{arith}
use lib.ListN.{length, get_or}
use Rattle.notation.specs.Hearing.{◌▸◌}
use Rattle.names.specs.Tale as Tale
use Rattle.names.specs.Tale.{Tale}
use Rattle.names.specs.Order.{Standing, declaring, within, holding, between, declares, stays, node_begins, list_opens, list_shuts, name_held, path_goes, path_ends, settles}
use Rattle.names.proofs.ViewLaws.{length-snoc, get_or-snoc-other, get_or-snoc-last}

inj : {x y : Standing} → some x ≡ some y → x ≡ y
inj e = some-injective _ _ e

pub no : {x : Standing} → none ≡ some x → ⊥
no e = none-ne-some _ e

less_one : (n : ℕ) → suc n - 1 ≡ n
less_one n = omega arith

-- the open lists s, innermost first, are those above the list a, where the nodes have the parents ps
abbrev pub Chain : List ℕ → ℕ → List ℕ → Type 0
Chain ps a [] = Unit {0}
Chain ps a (v ∷ s) = (v ≡ suc a) × (a < length ps) × Chain ps (get_or ps a 65535) s

-- lists are open as the standing says, of nodes with the parents ps, the innermost being a
abbrev pub Stands : Standing → List ℕ → ℕ → ℕ → List ℕ → Type 0
Stands declaring ps a n s = (ps ≡ []) × (s ≡ []) × (n ≡ 0)
Stands (within k) ps a n s = (length s ≡ k) × (n ≡ k) × (1 ≤ length ps) × Chain ps a s × (get_or ps (length ps - 1) 65535 ≡ a)
Stands (holding k) ps a n s = (length s ≡ k) × (n ≡ k) × (1 ≤ length ps) × Chain ps a s × (get_or ps (length ps - 1) 65535 ≡ a)
Stands (between k) ps a n s = (length s ≡ k) × (n ≡ k) × (1 ≤ length ps) × Chain ps a s

chain_snoc : (ps : List ℕ) (p a : ℕ) (s : List ℕ) → Chain ps a s → Chain (ps ▸ p) a s
chain_snoc ps p a [] c = tt
chain_snoc ps p a (v ∷ s) (e, h, c) = (e, rw length-snoc (omega arith), rw (get_or-snoc-other ps p 65535 a h) (chain_snoc ps p (get_or ps a 65535) s c))

module _ (ps : List ℕ) (a n : ℕ) (s : List ℕ) where
  pub stands-declares : (q r : Standing) → declares q ≡ some r → Stands q ps a n s → Stands r ps a n s
  unfolding declares
  stands-declares declaring r e h = subst (λ x. Stands x ps a n s) (inj e) h
  stands-declares (within k) r e h = absurd (no e)
  stands-declares (holding k) r e h = absurd (no e)
  stands-declares (between k) r e h = absurd (no e)

  pub stands-stays : (q r : Standing) → stays q ≡ some r → Stands q ps a n s → Stands r ps a n s
  unfolding stays
  stands-stays declaring r e h = absurd (no e)
  stands-stays (within k) r e h = subst (λ x. Stands x ps a n s) (inj e) h
  stands-stays (holding k) r e h = absurd (no e)
  stands-stays (between k) r e h = absurd (no e)

  pub stands-held : (q r : Standing) → name_held q ≡ some r → Stands q ps a n s → Stands r ps a n s
  unfolding name_held
  stands-held declaring r e h = absurd (no e)
  stands-held (within k) r e h = subst (λ x. Stands x ps a n s) (inj e) h
  stands-held (holding k) r e h = absurd (no e)
  stands-held (between k) r e h = absurd (no e)

  pub stands-path : (q r : Standing) → path_goes q ≡ some r → Stands q ps a n s → Stands r ps a n s
  unfolding path_goes
  stands-path declaring r e h = absurd (no e)
  stands-path (within k) r e h = absurd (no e)
  stands-path (holding k) r e h = subst (λ x. Stands x ps a n s) (inj e) h
  stands-path (between k) r e h = absurd (no e)

  pub stands-asked : (q r : Standing) → path_ends q ≡ some r → Stands q ps a n s → Stands r ps a n s
  unfolding path_ends
  stands-asked declaring r e h = absurd (no e)
  stands-asked (within k) r e h = absurd (no e)
  stands-asked (holding k) r e h = subst (λ x. Stands x ps a n s) (inj e) h
  stands-asked (between k) r e h = absurd (no e)

  pub stands-settles : (q r : Standing) → settles q ≡ some r → Stands q ps a n s → Stands r ps a n s
  unfolding settles
  stands-settles declaring r e h = absurd (no e)
  stands-settles (within k) r e h = subst (λ x. Stands x ps a n s) (inj e) h
  stands-settles (holding k) r e h = subst (λ x. Stands x ps a n s) (inj e) h
  stands-settles (between k) r e h = absurd (no e)

  last_snoc : get_or (ps ▸ a) (length (ps ▸ a) - 1) 65535 ≡ a
  last_snoc = rw (length-snoc, less_one) (get_or-snoc-last ps a 65535)

  pub stands-begins : (q r : Standing) → node_begins q ≡ some r → Stands q ps a n s → Stands r (ps ▸ a) a n s
  unfolding node_begins
  stands-begins declaring r e (x, y, z) = subst (λ x. Stands x (ps ▸ a) a n s) (inj e) (ap length y, z, rw length-snoc (omega arith), rw y tt, last_snoc)
  stands-begins (within zero) r e h = absurd (no e)
  stands-begins (within (suc k)) r e (x, y, z, c, v) = subst (λ x. Stands x (ps ▸ a) a n s) (inj e) (x, y, rw length-snoc (omega arith), chain_snoc ps a a s c, last_snoc)
  stands-begins (holding k) r e h = absurd (no e)
  stands-begins (between zero) r e h = absurd (no e)
  stands-begins (between (suc k)) r e (x, y, z, c) = subst (λ x. Stands x (ps ▸ a) a n s) (inj e) (x, y, rw length-snoc (omega arith), chain_snoc ps a a s c, last_snoc)

  pub stands-opens : (q r : Standing) → list_opens q ≡ some r → Stands q ps a n s → Stands r ps (length ps - 1) (suc n) (length ps ∷ s)
  unfolding list_opens
  stands-opens declaring r e h = absurd (no e)
  stands-opens (within k) r e (x, y, z, c, v) = subst (λ x. Stands x ps (length ps - 1) (suc n) (length ps ∷ s)) (inj e) (ap suc x, ap suc y, z, (omega arith, omega arith, rw v c))
  stands-opens (holding k) r e h = absurd (no e)
  stands-opens (between k) r e h = absurd (no e)

pub stands-shuts : (ps : List ℕ) (a n : ℕ) (s : List ℕ) (q r : Standing) → list_shuts q ≡ some r → Stands q ps a n s → Stands r ps (get_or ps a 65535) (n - 1) (Tale.under s)
unfolding list_shuts Tale.under
stands-shuts ps a n s declaring r e h = absurd (no e)
stands-shuts ps a n s (within zero) r e h = absurd (no e)
stands-shuts ps a n [] (within (suc k)) r e (x, y, z, c, v) = absurd (omega arith)
stands-shuts ps a n (w ∷ s) (within (suc k)) r e (x, y, z, c, v) = subst (λ x. Stands x ps (get_or ps a 65535) (n - 1) s) (inj e) (omega arith, omega arith, z, c.2)
stands-shuts ps a n s (holding k) r e h = absurd (no e)
stands-shuts ps a n s (between zero) r e h = absurd (no e)
stands-shuts ps a n [] (between (suc k)) r e (x, y, z, c) = absurd (omega arith)
stands-shuts ps a n (w ∷ s) (between (suc k)) r e (x, y, z, c) = subst (λ x. Stands x ps (get_or ps a 65535) (n - 1) s) (inj e) (omega arith, omega arith, z, c.2)
