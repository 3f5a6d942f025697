-- What the code works out by a role's number is what the role tells.
use Prim.Native.Nat.{ℕ, suc, ◌≤◌, ◌-◌}
use mathlib.Core.Path.{◌≡◌, refl, ap, sym, ◌∙◌, subst⁻¹}
use mathlib.Core.Bool.{Bool, true, false}
use mathlib.Core.List.{List, [], ◌∷◌}
use native.Mathlib.Omega.{arith}
use native.Mathlib.Numerals.{add-one}
use native.Mathlib.Nat.{sub_self}
use borrow.Author.Tests.{ne_eqb, le-ltb, ltb-false}
use lib.Dec.{ltb}
use lib.ListN.{length, set}
use lib.Seq.{get_or-set_same, get_or-set_other}
use Rattle.grammar.specs.Spelling.{Token, Placed}
use Rattle.notation.specs.Hearing.{◌▸◌}
use Rattle.recognise.specs.Hears.{piece}
use Rattle.names.specs.Roles as Roles
use Rattle.names.specs.Roles.{Role, role_number, other, number, command, lookup, variable, named, unnamed, opens, shuts, call, assign, read, mention, descend, ask, settle}
use Rattle.names.specs.Tale as Tale
use Rattle.names.specs.Tale.{Tale, tell_of, settling, top, under}
use Rattle.names.specs.Seek.{Shallow}
use Rattle.names.specs.Walking as Walking
use Rattle.names.specs.Walking.{owner_at, owner_no, lists_no, nodes_no, depth_no, end_no, Holds, name_by, owner_by}
use Rattle.names.proofs.ViewLaws.{length-snoc}

pub name-by : (r : Role) (u : List ℕ) (i j : ℕ) (t : Token) → piece u i j ≡ t → piece u i (end_no (role_number r) i j) ≡ name_by r t
unfolding Roles.opened Walking.opened piece
name-by other u i j t e = e
name-by number u i j t e = e
name-by command u i j t e = e
name-by lookup u i j t e = e
name-by variable u i j t e = e
name-by named u i j t e = e
name-by unnamed u i j t e = rw (sub_self i)
name-by opens u i j t e = e
name-by shuts u i j t e = e
name-by call u i j t e = e
name-by assign u i j t e = e
name-by read u i j t e = e
name-by mention u i j t e = e
name-by descend u i j t e = e
name-by ask u i j t e = e
name-by settle u i j t e = e

pub shallow-last : (ns : List ℕ) (n : ℕ) → Shallow (ns ▸ n) → n ≤ 16
unfolding Shallow ◌▸◌
shallow-last [] n h = h.0
shallow-last (m ∷ ns) n h = shallow-last ns n h.1

owner-top : (ls s : List ℕ) → Holds ls s → suc (length s) ≤ 16 → owner_at ls (length s) ≡ top s
unfolding Walking.opened top
owner-top ls [] h b = refl
owner-top ls (v ∷ s) h b =
    let z : suc (length s) - 1 ≡ length s = omega arith in
    rw (ne_eqb (suc (length s)) 0 (λ e. omega arith), le-ltb 16 (suc (length s)) (omega arith), z) (h.0 (omega arith))

module _ (ls : List ℕ) (b : Tale) (k : ℕ) (t : Placed) (h : Holds ls b.lists) where
  pub owner-by : (r : Role) → Shallow (tell_of r k t b).levels → owner_no ls (role_number r) (length b.nodes) (length b.lists) ≡ owner_by r b
  unfolding Roles.opened Tale.opened Walking.owner_no Walking.owner_by
  owner-by other s = refl
  owner-by number s = refl
  owner-by command s = refl
  owner-by lookup s = refl
  owner-by variable s = refl
  owner-by named s = owner-top ls b.lists h (shallow-last _ _ s)
  owner-by unnamed s = owner-top ls b.lists h (shallow-last _ _ s)
  owner-by opens s = refl
  owner-by shuts s = refl
  owner-by call s = refl
  owner-by assign s = refl
  owner-by read s = refl
  owner-by mention s = refl
  owner-by descend s = refl
  owner-by ask s = refl
  owner-by settle s = refl

pub settling-nodes : (h : List Placed) (b : Tale) → (settling h b).nodes ≡ b.nodes
unfolding settling
settling-nodes [] b = refl
settling-nodes (t ∷ ts) b = refl

settling-lists : (h : List Placed) (b : Tale) → (settling h b).lists ≡ b.lists
unfolding settling
settling-lists [] b = refl
settling-lists (t ∷ ts) b = refl

module _ (b : Tale) (k : ℕ) (t : Placed) where
  pub nodes-by : (r : Role) → nodes_no (role_number r) (length b.nodes) ≡ length (tell_of r k t b).nodes
  unfolding Roles.opened Tale.opened Walking.nodes_no
  nodes-by other = refl
  nodes-by number = refl
  nodes-by command = refl
  nodes-by lookup = refl
  nodes-by variable = refl
  nodes-by named = add-one _ ∙ sym (length-snoc _ _)
  nodes-by unnamed = add-one _ ∙ sym (length-snoc _ _)
  nodes-by opens = refl
  nodes-by shuts = refl
  nodes-by call = refl
  nodes-by assign = refl
  nodes-by read = refl
  nodes-by mention = refl
  nodes-by descend = refl
  nodes-by ask = refl
  nodes-by settle = ap length (sym (settling-nodes b.held b))

  pub depth-by : (r : Role) → depth_no (role_number r) (length b.lists) ≡ length (tell_of r k t b).lists
  unfolding Roles.opened Tale.opened Walking.depth_no
  depth-by other = refl
  depth-by number = refl
  depth-by command = refl
  depth-by lookup = refl
  depth-by variable = refl
  depth-by named = refl
  depth-by unnamed = refl
  depth-by opens = add-one _
  depth-by shuts = length-under b.lists
    where
      length-under : (s : List ℕ) → length s - 1 ≡ length (under s)
      length-under [] = refl
      length-under (v ∷ s) = omega arith
  depth-by call = refl
  depth-by assign = refl
  depth-by read = refl
  depth-by mention = refl
  depth-by descend = refl
  depth-by ask = refl
  depth-by settle = ap length (sym (settling-lists b.held b))

-- a store above all of them keeps them
holds-set : (ls : List ℕ) (v : ℕ) (i : ℕ) (s : List ℕ) → length s ≤ i → Holds ls s → Holds (set ls i v) s
unfolding Walking.Holds
holds-set ls v i [] h c = tt
holds-set ls v i (x ∷ s) h c = (λ r. get_or-set_other ls i (length s) v 0 (λ e. omega arith) ∙ c.0 r, holds-set ls v i s (omega arith) c.1)

-- a list that opens is kept where there is room for it
opens-room : (ls : List ℕ) (v n : ℕ) → ltb n 16 ≡ true → lists_no ls 5 v n ≡ set ls n v
unfolding Walking.lists_no
opens-room ls v n z = rw z

opens-full : (ls : List ℕ) (v n : ℕ) → ltb n 16 ≡ false → lists_no ls 5 v n ≡ ls
unfolding Walking.lists_no
opens-full ls v n z = rw z

holds-opens : (ls s : List ℕ) (v : ℕ) → length ls ≡ 16 → Holds ls s → Holds (lists_no ls 5 v (length s)) (v ∷ s)
unfolding Walking.Holds
holds-opens ls s v e h = onto (ltb (length s) 16) refl
  where
    onto : (t : Bool) → ltb (length s) 16 ≡ t → Holds (lists_no ls 5 v (length s)) (v ∷ s)
    onto true z = subst⁻¹ (λ (x : List ℕ). Holds x (v ∷ s)) (opens-room ls v (length s) z) (λ r. get_or-set_same ls (length s) v 0 (omega arith), holds-set ls v (length s) s (omega arith) h)
    onto false z = subst⁻¹ (λ (x : List ℕ). Holds x (v ∷ s)) (opens-full ls v (length s) z) (λ r. let y : 16 ≤ length s = ltb-false (length s) 16 z in absurd (omega arith), h)

holds-under : (ls s : List ℕ) → Holds ls s → Holds ls (under s)
unfolding under Walking.Holds
holds-under ls [] h = h
holds-under ls (v ∷ s) h = h.1

pub holds_by : (ls : List ℕ) (b : Tale) (k : ℕ) (t : Placed) → length ls ≡ 16 → Holds ls b.lists → (r : Role) → Holds (lists_no ls (role_number r) (length b.nodes) (length b.lists)) (tell_of r k t b).lists
unfolding Roles.opened Tale.opened Walking.lists_no
holds_by ls b k t e h other = h
holds_by ls b k t e h number = h
holds_by ls b k t e h command = h
holds_by ls b k t e h lookup = h
holds_by ls b k t e h variable = h
holds_by ls b k t e h named = h
holds_by ls b k t e h unnamed = h
holds_by ls b k t e h opens = holds-opens ls b.lists (length b.nodes) e h
holds_by ls b k t e h shuts = holds-under ls b.lists h
holds_by ls b k t e h call = h
holds_by ls b k t e h assign = h
holds_by ls b k t e h read = h
holds_by ls b k t e h mention = h
holds_by ls b k t e h descend = h
holds_by ls b k t e h ask = h
holds_by ls b k t e h settle = rw (settling-lists b.held b) h
