-- An accepted text: its tale is the view of its draft, so that a name means in the draft what it means in the tale.
use Prim.Native.Nat.{ℕ, zero, suc, ◌≤◌}
use mathlib.Core.Path.{◌≡◌, refl, ap, sym, ◌∙◌, subst}
use mathlib.Core.Bool.{Bool, true, false, ◌&&◌}
use mathlib.Core.List.{List, [], ◌∷◌, map}
use mathlib.Core.Option.{some}
use native.Mathlib.Omega.{arith}
use borrow.Author.Tests.{ltb-false}
use lib.Dec.{eqb, ltb, eqb-zero-suc, eqb-suc-suc}
use lib.ListN.{get_or}
use Rattle.plexil.specs.Lists.{Found, at, nowhere}
use Rattle.grammar.specs.Spelling.{Token}
use Rattle.grammar.specs.Leads.{same}
use Rattle.grammar.specs.Table.{Said}
use Rattle.notation.specs.Sayings.{Saying, silence}
use Rattle.notation.specs.Spoken.{is_silent, spoken}
use Rattle.notation.specs.Draft.{Draft, Node, blank}
use Rattle.notation.specs.Hearing.{hear, hear_all, draft_of, parent_in}
use Rattle.notation.specs.Names.{find_from, find, command_of, lookup_of, own_variable, child_of, child_among, name_in, too_deep}
use Rattle.notation.specs.Reading.{plan_says}
use Rattle.notation.proofs.Spoken.{hear-spoken}
use Rattle.names.specs.Tale.{Declared, Tale, list_of, tell, tell_all, tale_of}
use Rattle.names.specs.Order.{Standing, declaring, Orderly, onward}
use Rattle.names.specs.View.{of_command, of_lookup, of_variable, of_node, of_nodes, view_of}
use Rattle.names.specs.Seek.{is_called, seek, nobody, parent_by, Shallow}
use Rattle.names.proofs.Ordered.{plans-orderly}
use Rattle.names.proofs.Stepped.{StandsIn, Stepped, stepped}

-- what is left of an orderly text, told to draft and tale
pub record Telling (d : Draft) (b : Tale) : Type 0 where
  pub lists : List ℕ
  pub view : view_of d lists ≡ b

pub not-silent : (x : Saying) → is_silent x ≡ false → x ≡ silence → ⊥
unfolding is_silent
not-silent x h e =
    let z : ◌≡◌ {A = Bool} true false = sym (ap is_silent e) ∙ h in
    let y : ◌≡◌ {A = ℕ} 1 0 = cc in omega arith

told-on : (l : List (Said Saying)) (q : Standing) (d : Draft) (s : List ℕ) → Orderly q l → StandsIn q d s → Telling (hear_all l d) (tell_all l (view_of d s))
unfolding hear_all tell_all tell
told-on [] q d s o c = record { lists = s; view = refl }
told-on (w ∷ l) q d s (onward {t = r} h e o) c =
    let p : Stepped r (hear w.what w.token d) (tell w (view_of d s)) = stepped w.token d s q r c w.what (not-silent w.what h) e in
    subst (λ x. Telling (hear_all l (hear w.what w.token d)) (tell_all l x)) p.view (told-on l r (hear w.what w.token d) p.lists o p.stands)

-- the tale of an accepted text is its draft's
pub told : (u : List ℕ) (l : List (Said Saying)) → plan_says u ≡ some l → Telling (draft_of l) (tale_of (spoken l))
unfolding draft_of tale_of of_nodes
told u l e = rw hear-spoken at (told-on (spoken l) declaring blank [] (plans-orderly u l e) (refl, refl, refl))

-- ---- a name in a draft and in its tale
find-map : {A : Type 0} (g : A → Declared) (f : Declared → Bool) (i : ℕ) (l : List A) → find_from i f (map g l) ≡ find_from i (λ a. f (g a)) l
unfolding find_from
find-map g f i [] = refl
find-map g f i (a ∷ l) = onto (f (g a)) (find-map g f (suc i) l)
  where
    onto : (t : Bool) → find_from (suc i) f (map g l) ≡ find_from (suc i) (λ a. f (g a)) l → ◌≡◌ {A = Found} (elim t [ true ↦ at i | false ↦ find_from (suc i) f (map g l) ]) (elim t [ true ↦ at i | false ↦ find_from (suc i) (λ a. f (g a)) l ])
    onto true h = refl
    onto false h = h

module _ (d : Draft) (s : List ℕ) (x : Token) where
  pub command-of : command_of d x ≡ seek 0 0 x (view_of d s)
  unfolding command_of seek find list_of is_called
  command-of = sym (find-map of_command (is_called 0 x) 0 d.commands)

  pub lookup-of : lookup_of d x ≡ seek 1 0 x (view_of d s)
  unfolding lookup_of seek find list_of is_called
  lookup-of = sym (find-map of_lookup (is_called 0 x) 0 d.lookups)

  pub own-variable : (n : ℕ) → own_variable d n x ≡ seek 2 n x (view_of d s)
  unfolding own_variable seek find list_of is_called
  own-variable n = sym (find-map of_variable (is_called n x) 0 d.variables)

child-in : (m : ℕ) (x : Token) (i : ℕ) (ns : List Node) → find_from i (λ n. eqb n.parent m && same n.name x) ns ≡ find_from i (is_called (suc m) x) (map of_node ns)
unfolding is_called
child-in m x i ns = rw (find-map of_node (is_called (suc m) x) i ns) (simp eqb-suc-suc)

pub child-of : (d : Draft) (s : List ℕ) (m : ℕ) (x : Token) → child_of d m x ≡ seek 3 (suc m) x (view_of d s)
unfolding child_of seek find list_of child_among of_nodes find_from is_called
child-of d s m x = among d.nodes
  where
    among : (ns : List Node) → child_among ns m x ≡ find_from 0 (is_called (suc m) x) (of_nodes ns)
    among [] = refl
    among (r ∷ ns) = rw (eqb-zero-suc m, find_from) (child-in m x 1 ns)

pub name-in : (ns : List Node) (i : ℕ) → name_in ns i ≡ (get_or (of_nodes ns) i nobody).name
unfolding name_in of_nodes
name-in [] i = refl
name-in (r ∷ ns) zero = refl
name-in (r ∷ ns) (suc i) = after-root ns i
  where
    after-root : (ns : List Node) (i : ℕ) → name_in ns i ≡ (get_or (map of_node ns) i nobody).name
    after-root [] i = refl
    after-root (n ∷ ns) zero = refl
    after-root (n ∷ ns) (suc i) = after-root ns i

pub parent-by : (ns : List Node) (i : ℕ) → parent_in ns (suc i) ≡ parent_by (get_or (of_nodes ns) (suc i) nobody).owner
unfolding parent_in of_nodes parent_by
parent-by [] i = refl
parent-by (r ∷ ns) i = after-root ns i
  where
    after-root : (ns : List Node) (i : ℕ) → parent_in ns i ≡ parent_by (get_or (map of_node ns) i nobody).owner
    after-root [] i = refl
    after-root (n ∷ ns) zero = refl
    after-root (n ∷ ns) (suc i) = after-root ns i

pub shallow : (ns : List Node) → too_deep ns ≡ nowhere → Shallow (map (λ n. n.level) ns)
unfolding too_deep Shallow
shallow [] e = tt
shallow (n ∷ ns) e = onto (ltb 16 n.level) (shallow ns) refl e
  where
    onto : (t : Bool) → (too_deep ns ≡ nowhere → Shallow (map (λ n. n.level) ns)) → ltb 16 n.level ≡ t → elim t as (λ _. Found) [ true ↦ at n.place | false ↦ too_deep ns ] ≡ nowhere → (n.level ≤ 16) × Shallow (map (λ n. n.level) ns)
    onto true f h e = let z : ◌≡◌ {A = ℕ} 1 0 = cc in absurd (omega arith)
    onto false f h e = (ltb-false 16 n.level h, f e)
