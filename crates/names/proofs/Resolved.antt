-- What a name means in the draft of an accepted text, sought in its tale.
use Prim.Native.Nat.{ℕ, zero, suc, ◌+◌, ◌-◌}
use mathlib.Core.Path.{◌≡◌, refl, ap, sym, ◌∙◌, subst}
use mathlib.Core.Bool.{Bool, true, false}
use mathlib.Core.List.{List}
use native.Mathlib.Omega.{arith}
use native.Mathlib.Numerals.{add-one}
use Rattle.plexil.specs.Lists.{Found, at}
use Rattle.grammar.specs.Spelling.{Token}
use Rattle.grammar.specs.Leads.{same}
use Rattle.grammar.specs.Table.{Said}
use Rattle.notation.specs.Sayings.{Saying}
use Rattle.notation.specs.Hearing.{draft_of, parent_in}
use Rattle.notation.specs.Names.{command_of, lookup_of, own_variable, child_of, name_in, node_at}
use Rattle.names.specs.Tale.{Tale}
use Rattle.names.specs.Seek.{seek, node_in, parent_by}
use Rattle.names.specs.Answers.{Accepted, tale_said, ParentOf}
use Rattle.names.proofs.ToldLaws.{told, command-of, lookup-of, own-variable, child-of, name-in, parent-by}

less : (o : ℕ) → (o ≡ 0 → ⊥) → o - 1 ≡ parent_by o
unfolding parent_by
less zero z = absurd (z refl)
less (suc o) z = omega arith

pub chosen : (a b : Found) (t : Bool) → t ≡ true → ◌≡◌ {A = Found} (elim t [ true ↦ a | false ↦ b ]) a
chosen a b true e = refl
chosen a b false e = absurd (let z : ◌≡◌ {A = ℕ} 0 1 = cc in omega arith)

pub passed : (a b : Found) (t : Bool) → t ≡ false → ◌≡◌ {A = Found} (elim t [ true ↦ a | false ↦ b ]) b
passed a b false e = refl
passed a b true e = absurd (let z : ◌≡◌ {A = ℕ} 0 1 = cc in omega arith)

module _ (u : List ℕ) (l : List (Said Saying)) (a : Accepted u l) where
  pub command-said : (x : Token) → command_of (draft_of l) x ≡ seek 0 0 x (tale_said l)
  command-said x = let t = told u l a.says in subst (λ (b : Tale). command_of (draft_of l) x ≡ seek 0 0 x b) t.view (command-of (draft_of l) t.lists x)

  pub lookup-said : (x : Token) → lookup_of (draft_of l) x ≡ seek 1 0 x (tale_said l)
  lookup-said x = let t = told u l a.says in subst (λ (b : Tale). lookup_of (draft_of l) x ≡ seek 1 0 x b) t.view (lookup-of (draft_of l) t.lists x)

  pub own-said : (n : ℕ) (x : Token) → own_variable (draft_of l) n x ≡ seek 2 n x (tale_said l)
  own-said n x = let t = told u l a.says in subst (λ (b : Tale). own_variable (draft_of l) n x ≡ seek 2 n x b) t.view (own-variable (draft_of l) t.lists x n)

  pub child-said : (m : ℕ) (x : Token) → child_of (draft_of l) m x ≡ seek 3 (m + 1) x (tale_said l)
  child-said m x = let t = told u l a.says in rw (add-one m) (subst (λ (b : Tale). child_of (draft_of l) m x ≡ seek 3 (suc m) x b) t.view (child-of (draft_of l) t.lists m x))

  pub name-said : (n : ℕ) → name_in (draft_of l).nodes n ≡ (node_in (tale_said l) n).name
  name-said n = let t = told u l a.says in subst (λ (b : Tale). name_in (draft_of l).nodes n ≡ (node_in b n).name) t.view (name-in (draft_of l).nodes n)

  parent-said : (k : ℕ) → parent_in (draft_of l).nodes (suc k) ≡ parent_by (node_in (tale_said l) (suc k)).owner
  parent-said k = let t = told u l a.says in subst (λ (b : Tale). parent_in (draft_of l).nodes (suc k) ≡ parent_by (node_in b (suc k)).owner) t.view (parent-by (draft_of l).nodes k)

  -- the parent of node n, whose owner is o
  pub parent-none : (n o : ℕ) → o ≡ (node_in (tale_said l) n).owner → o ≡ 0 → ParentOf (draft_of l) n 65535
  unfolding parent_by
  parent-none n o e z = record { parent = λ k h. let y : (node_in (tale_said l) (suc k)).owner ≡ 0 = ap (λ i. (node_in (tale_said l) i).owner) (sym h) ∙ sym e ∙ z in sym (parent-said k ∙ ap parent_by y) }

  pub parent-one : (n o : ℕ) → o ≡ (node_in (tale_said l) n).owner → (o ≡ 0 → ⊥) → ParentOf (draft_of l) n (o - 1)
  parent-one n o e z = record { parent = λ k h. let y : (node_in (tale_said l) (suc k)).owner ≡ o = ap (λ i. (node_in (tale_said l) i).owner) (sym h) ∙ sym e in less o z ∙ sym (parent-said k ∙ ap parent_by y) }

  pub at_here : (n : ℕ) (x : Token) → same (node_in (tale_said l) n).name x ≡ true → node_at (draft_of l) n x ≡ at n
  unfolding node_at
  at_here n x e = chosen (at n) (child_of (draft_of l) n x) (same (name_in (draft_of l).nodes n) x) (ap (λ y. same y x) (name-said n) ∙ e)

  pub at-child : (n : ℕ) (x : Token) → same (node_in (tale_said l) n).name x ≡ false → node_at (draft_of l) n x ≡ child_of (draft_of l) n x
  unfolding node_at
  at-child n x e = passed (at n) (child_of (draft_of l) n x) (same (name_in (draft_of l).nodes n) x) (ap (λ y. same y x) (name-said n) ∙ e)
