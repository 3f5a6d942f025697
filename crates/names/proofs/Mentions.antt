-- A saying's mentions in an accepted text: a declaration is the first of its name, by what it tells.
use Prim.Native.Nat.{ℕ, zero, suc, ◌<◌, ◌≤◌}
use mathlib.Core.Path.{◌≡◌, refl, ap, sym, ◌∙◌}
use mathlib.Core.Bool.{true}
use mathlib.Core.List.{List, [], ◌∷◌, ◌++◌, map, append-nil}
use native.Mathlib.Omega.{arith}
use lib.ListN.{length, get_or}
use Rattle.plexil.specs.Lists.{at}
use Rattle.grammar.specs.Spelling.{Placed}
use Rattle.notation.specs.Draft as Draft
use Rattle.notation.specs.Draft.{Draft, Mention}
use Rattle.notation.specs.Hearing.{◌▸◌, parent_in}
use Rattle.notation.specs.Names.{find, find_from, is_at, command_of, lookup_of, own_variable, name_in, first_command, first_lookup, first_variable, first_child, in_order}
use Rattle.names.specs.Roles.{Role, role_number, other, number, command, lookup, variable, named, unnamed, opens, shuts, call, assign, read, mention, descend, ask, settle}
use Rattle.names.specs.Tale as Tale
use Rattle.names.specs.Tale.{Declared, Tale, list_of, tell_of, settling}
use Rattle.names.specs.View.{of_command, of_lookup, of_variable, of_node, of_nodes, view_of}
use Rattle.names.specs.Seek.{is_called, seek, nobody}
use Rattle.names.specs.Judging.{settled_by, new_of}
use Rattle.grammar.proofs.Same.{same_self}
use Rattle.names.proofs.RowLaws.{find-hit}
use Rattle.names.proofs.Grown.{fourfold}
use Rattle.names.proofs.ToldLaws.{command-of, lookup-of, own-variable, child-of, name-in}

-- ---- the mentions that a saying adds
settled-mentions : (h : List Placed) (b : Tale) → (settling h b).mentions ≡ b.mentions ++ settled_by (Tale.here_in b) h
unfolding settling settled_by ◌▸◌
settled-mentions [] b = sym (append-nil _)
settled-mentions (t ∷ ts) b = refl

pub mentions-told : (k : ℕ) (t : Placed) (b : Tale) (r : Role) → (tell_of r k t b).mentions ≡ b.mentions ++ new_of r t b
unfolding Tale.opened new_of ◌▸◌
mentions-told k t b other = sym (append-nil _)
mentions-told k t b number = sym (append-nil _)
mentions-told k t b command = refl
mentions-told k t b lookup = refl
mentions-told k t b variable = refl
mentions-told k t b named = refl
mentions-told k t b unnamed = sym (append-nil _)
mentions-told k t b opens = sym (append-nil _)
mentions-told k t b shuts = sym (append-nil _)
mentions-told k t b call = refl
mentions-told k t b assign = refl
mentions-told k t b read = refl
mentions-told k t b mention = sym (append-nil _)
mentions-told k t b descend = sym (append-nil _)
mentions-told k t b ask = refl
mentions-told k t b settle = settled-mentions b.held b

-- ---- a role by its number
role_by : ℕ → Role
role_by k = get_or (command ∷ lookup ∷ variable ∷ named ∷ unnamed ∷ opens ∷ shuts ∷ call ∷ assign ∷ read ∷ mention ∷ descend ∷ ask ∷ settle ∷ number ∷ []) k other

role-by : (r : Role) → role_by (role_number r) ≡ r
unfolding role_by role_number
role-by other = refl
role-by number = refl
role-by command = refl
role-by lookup = refl
role-by variable = refl
role-by named = refl
role-by unnamed = refl
role-by opens = refl
role-by shuts = refl
role-by call = refl
role-by assign = refl
role-by read = refl
role-by mention = refl
role-by descend = refl
role-by ask = refl
role-by settle = refl

module _ (r : Role) where
  pub is_call : role_number r ≡ 7 → r ≡ call
  unfolding role_by
  is_call e = sym (role-by r) ∙ ap role_by e

  pub is-assign : role_number r ≡ 8 → r ≡ assign
  unfolding role_by
  is-assign e = sym (role-by r) ∙ ap role_by e

  pub is_read : role_number r ≡ 9 → r ≡ read
  unfolding role_by
  is_read e = sym (role-by r) ∙ ap role_by e

  pub is-mention : role_number r ≡ 10 → r ≡ mention
  unfolding role_by
  is-mention e = sym (role-by r) ∙ ap role_by e

  pub is-descend : role_number r ≡ 11 → r ≡ descend
  unfolding role_by
  is-descend e = sym (role-by r) ∙ ap role_by e

  pub is_ask : role_number r ≡ 12 → r ≡ ask
  unfolding role_by
  is_ask e = sym (role-by r) ∙ ap role_by e

  pub is-settle : role_number r ≡ 13 → r ≡ settle
  unfolding role_by
  is-settle e = sym (role-by r) ∙ ap role_by e

-- the other roles mention nothing
pub mentions-none : (r : Role) (t : Placed) (b : Tale) → 4 ≤ role_number r → (role_number r ≡ 7 → ⊥) → (role_number r ≡ 8 → ⊥) → (role_number r ≡ 9 → ⊥) → (role_number r ≡ 12 → ⊥) → (role_number r ≡ 13 → ⊥) → new_of r t b ≡ []
unfolding new_of role_number
mentions-none other t b h a e f g i = refl
mentions-none number t b h a e f g i = refl
mentions-none command t b h a e f g i = absurd (omega arith)
mentions-none lookup t b h a e f g i = absurd (omega arith)
mentions-none variable t b h a e f g i = absurd (omega arith)
mentions-none named t b h a e f g i = absurd (omega arith)
mentions-none unnamed t b h a e f g i = refl
mentions-none opens t b h a e f g i = refl
mentions-none shuts t b h a e f g i = refl
mentions-none call t b h a e f g i = absurd (a refl)
mentions-none assign t b h a e f g i = absurd (e refl)
mentions-none read t b h a e f g i = absurd (f refl)
mentions-none mention t b h a e f g i = refl
mentions-none descend t b h a e f g i = refl
mentions-none ask t b h a e f g i = absurd (g refl)
mentions-none settle t b h a e f g i = absurd (i refl)

-- ---- a declaration is the first of its name
first-command : (d : Draft) (i : ℕ) (cs : List Draft.Command) (k : ℕ) → k < length (map of_command cs) → first_command d cs i k ≡ is_at i (command_of d (get_or (map of_command cs) k nobody).name)
unfolding first_command
first-command d i [] k h = absurd (omega arith)
first-command d i (c ∷ cs) zero h = refl
first-command d i (c ∷ cs) (suc k) h = first-command d i cs k (omega arith)

first-lookup : (d : Draft) (i : ℕ) (ls : List Draft.Lookup) (k : ℕ) → k < length (map of_lookup ls) → first_lookup d ls i k ≡ is_at i (lookup_of d (get_or (map of_lookup ls) k nobody).name)
unfolding first_lookup
first-lookup d i [] k h = absurd (omega arith)
first-lookup d i (c ∷ ls) zero h = refl
first-lookup d i (c ∷ ls) (suc k) h = first-lookup d i ls k (omega arith)

first-variable : (d : Draft) (i : ℕ) (vs : List Draft.Variable) (k : ℕ) → k < length (map of_variable vs) → first_variable d vs i k ≡ is_at i (own_variable d (get_or (map of_variable vs) k nobody).owner (get_or (map of_variable vs) k nobody).name)
unfolding first_variable
first-variable d i [] k h = absurd (omega arith)
first-variable d i (v ∷ vs) zero h = refl
first-variable d i (v ∷ vs) (suc k) h = first-variable d i vs k (omega arith)

owner-in : (ns : List Draft.Node) (i : ℕ) → suc i < length (of_nodes ns) → (get_or (of_nodes ns) (suc i) nobody).owner ≡ suc (parent_in ns (suc i))
unfolding of_nodes parent_in
owner-in [] i h = absurd (omega arith)
owner-in (r ∷ ns) i h = after-root ns i (omega arith)
  where
    after-root : (ns : List Draft.Node) (i : ℕ) → i < length (map of_node ns) → (get_or (map of_node ns) i nobody).owner ≡ suc (parent_in ns i)
    after-root [] i h = absurd (omega arith)
    after-root (n ∷ ns) zero h = refl
    after-root (n ∷ ns) (suc i) h = after-root ns i (omega arith)

root-called : (r : Draft.Node) (l : List Declared) → find_from 0 (is_called 0 r.name) (record { name = r.name; owner = 0 } ∷ l) ≡ at 0
unfolding is_called
root-called r l = find-hit (is_called 0 r.name) 0 (record { name = r.name; owner = 0 }) l (same_self r.name)

root-first : (ns : List Draft.Node) → 0 < length (of_nodes ns) → true ≡ is_at 0 (find_from 0 (is_called (get_or (of_nodes ns) 0 nobody).owner (get_or (of_nodes ns) 0 nobody).name) (of_nodes ns))
unfolding of_nodes is_at
root-first [] h = absurd (omega arith)
root-first (r ∷ ns) h = sym (ap (is_at 0) (root-called r (map of_node ns)))

first-child : (d : Draft) (s : List ℕ) (i : ℕ) → i < length (of_nodes d.nodes) → first_child d i ≡ is_at i (seek 3 (get_or (of_nodes d.nodes) i nobody).owner (get_or (of_nodes d.nodes) i nobody).name (view_of d s))
unfolding first_child seek find list_of
first-child d s zero h = root-first d.nodes h
first-child d s (suc i) h = ap (is_at (suc i)) (child-of d s (parent_in d.nodes (suc i)) (name_in d.nodes (suc i)) ∙ rw (name-in d.nodes (suc i), owner-in d.nodes i h))

owner-none : {A : Type 0} (g : A → Declared) → ((a : A) → (g a).owner ≡ 0) → (l : List A) (k : ℕ) → (get_or (map g l) k nobody).owner ≡ 0
owner-none g h [] k = refl
owner-none g h (a ∷ l) zero = h a
owner-none g h (a ∷ l) (suc k) = owner-none g h l k

-- the mention of declaration i of sort k
pub mention_by : ℕ → ℕ → Mention
mention_by zero i = Mention.command i
mention_by (suc zero) i = Mention.lookup i
mention_by (suc (suc zero)) i = Mention.variable i
mention_by (suc (suc (suc k))) i = Draft.node i

abbrev OwnFirst : Draft → Tale → ℕ → ℕ → Type 0
OwnFirst d b i k = i < length (list_of k b) → in_order d (mention_by k i) ≡ is_at i (seek k (get_or (list_of k b) i nobody).owner (get_or (list_of k b) i nobody).name b)

pub own_first : (d : Draft) (s : List ℕ) (i k : ℕ) → k < 4 → OwnFirst d (view_of d s) i k
unfolding mention_by in_order list_of
own_first d s i k h =
    fourfold (OwnFirst d (view_of d s) i)
    (λ z. first-command d i d.commands i z ∙ ap (is_at i) (command-of d s _ ∙ rw (owner-none of_command (λ c. refl) d.commands i)))
    (λ z. first-lookup d i d.lookups i z ∙ ap (is_at i) (lookup-of d s _ ∙ rw (owner-none of_lookup (λ c. refl) d.lookups i)))
    (λ z. first-variable d i d.variables i z ∙ ap (is_at i) (own-variable d s _ _))
    (λ z. first-child d s i z)
    k h

-- what a declaration mentions
pub declared-mention : (t : Placed) (b : Tale) (r : Role) → role_number r < 4 → new_of r t b ≡ record { mention = mention_by (role_number r) (length (list_of (role_number r) b)); place = t.place } ∷ []
unfolding new_of role_number mention_by list_of
declared-mention t b other h = absurd (omega arith)
declared-mention t b number h = absurd (omega arith)
declared-mention t b command h = refl
declared-mention t b lookup h = refl
declared-mention t b variable h = refl
declared-mention t b named h = refl
declared-mention t b unnamed h = absurd (omega arith)
declared-mention t b opens h = absurd (omega arith)
declared-mention t b shuts h = absurd (omega arith)
declared-mention t b call h = absurd (omega arith)
declared-mention t b assign h = absurd (omega arith)
declared-mention t b read h = absurd (omega arith)
declared-mention t b mention h = absurd (omega arith)
declared-mention t b descend h = absurd (omega arith)
declared-mention t b ask h = absurd (omega arith)
declared-mention t b settle h = absurd (omega arith)
