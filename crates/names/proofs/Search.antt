-- A search through the declarations of a sort, and what one more saying does to it.
use Prim.Native.Nat.{ℕ, ◌+◌, ◌<◌}
use mathlib.Core.Path.{◌≡◌, refl, ap, sym, ◌∙◌}
use mathlib.Core.Bool.{Bool, true, false}
use mathlib.Core.List.{List, [], ◌∷◌, ◌++◌, append-nil}
use native.Mathlib.Omega.{arith}
use borrow.Author.Tests.{eq-eqb, ne_eqb}
use lib.Dec.{eqb}
use lib.ListN.{length, length-append}
use Rattle.plexil.specs.Lists.{Found, at, nowhere}
use Rattle.grammar.specs.Spelling.{Token}
use Rattle.grammar.specs.Table.{Said}
use Rattle.notation.specs.Sayings.{Saying}
use Rattle.notation.specs.Names.{find, find_from}
use Rattle.recognise.specs.Hears.{piece}
use Rattle.names.specs.declared.walk.Walk.{Walk}
use Rattle.names.specs.Roles.{role_of, role_number, detail_of}
use Rattle.names.specs.Tale.{Declared, Tale, untold, list_of, tell}
use Rattle.names.specs.Order.{Standing, declaring}
use Rattle.names.specs.Seek.{is_called, seek}
use Rattle.names.specs.Walking.{sort_no}
use Rattle.names.specs.Answers.{tale_said}
use Rattle.names.proofs.Grown.{fourfold, declared_by, grows, lists-grow-all, find-stays, find-later}
use Rattle.names.proofs.Halfway.{Newly}

-- `count` of the sort have been told, and none is called so
abbrev pub Seeking : ℕ → ℕ → Token → ℕ → Tale → Standing → Type 0
Seeking sort m x count b q = (count ≡ length (list_of sort b)) × (find (is_called m x) (list_of sort b) ≡ nowhere)

module _ {P : Tale → Standing → Type 0} {u ls : List ℕ} {r : Walk} {l : List (Said Saying)} (n : Newly u ls r l P) (sort : ℕ) (h : sort < 4) where
  -- what the walk tells of a declaration
  abbrev pub heard_one : Declared
  heard_one = record { name = piece u r.from r.to; owner = r.owner }

  heard-one : declared_by (role_of n.said.what) n.said.token n.tale ≡ heard_one
  heard-one = rw (n.tells.name, n.tells.owner)

  pub told-one : sort_no r.role ≡ sort → list_of sort (tell n.said n.tale) ≡ list_of sort n.tale ++ (heard_one ∷ [])
  unfolding tell
  told-one e =
      let z : eqb (sort_no (role_number (role_of n.said.what))) sort ≡ true = eq-eqb _ _ (ap sort_no (sym n.tells.role) ∙ e) in
      grows (detail_of n.said.what n.said.token.bytes) n.said.token n.tale (role_of n.said.what) sort h ∙ rw (z, heard-one)

  pub told_none : (sort_no r.role ≡ sort → ⊥) → list_of sort (tell n.said n.tale) ≡ list_of sort n.tale
  unfolding tell
  told_none e =
      let z : eqb (sort_no (role_number (role_of n.said.what))) sort ≡ false = ne_eqb _ _ (λ y. e (ap sort_no n.tells.role ∙ y)) in
      grows (detail_of n.said.what n.said.token.bytes) n.said.token n.tale (role_of n.said.what) sort h ∙ rw (z, append-nil)

find-one : (f : Declared → Bool) (i : ℕ) (e : Declared) (t : Bool) → f e ≡ t → find_from i f (e ∷ []) ≡ elim t as (λ _. Found) [ true ↦ at i | false ↦ nowhere ]
unfolding find_from
find-one f i e t z = rw (z, find_from)

module _ (sort m : ℕ) (x : Token) (count : ℕ) (h : sort < 4) {u ls : List ℕ} {r : Walk} {l : List (Said Saying)} (n : Newly u ls r l (Seeking sort m x count)) where
  last_found : (t : Bool) (e : Declared) → is_called m x e ≡ t → find_from 0 (is_called m x) (list_of sort n.tale ++ (e ∷ [])) ≡ elim t as (λ _. Found) [ true ↦ at count | false ↦ nowhere ]
  unfolding find
  last_found t e z =
      let y : 0 + length (list_of sort n.tale) ≡ count = omega arith in
      find-later (is_called m x) (list_of sort n.tale) (e ∷ []) 0 n.known.1 ∙ ap (λ i. find_from i (is_called m x) (e ∷ [])) y ∙ find-one (is_called m x) count e t z

  pub hit : sort_no r.role ≡ sort → is_called m x (heard_one n sort h) ≡ true → seek sort m x (tale_said l) ≡ at count
  unfolding seek find
  hit e f =
      let g = lists-grow-all n.rest (tell n.said n.tale) sort h in
      rw (← n.whole, g.grown) (find-stays (is_called m x) (list_of sort (tell n.said n.tale)) g.rest 0 count (rw (told-one n sort h e) (last_found true (heard_one n sort h) f)))

  pub miss : sort_no r.role ≡ sort → is_called m x (heard_one n sort h) ≡ false → Seeking sort m x (count + 1) (tell n.said n.tale) n.next
  unfolding find
  miss e f = rw (told-one n sort h e) (omega (arith, length-append (list_of sort n.tale) (heard_one n sort h ∷ []), n.known.0), last_found false (heard_one n sort h) f)

  pub pass : (sort_no r.role ≡ sort → ⊥) → Seeking sort m x count (tell n.said n.tale) n.next
  pass e = rw (told_none n sort h e) n.known

pub nothing-told : (sort m : ℕ) (x : Token) → sort < 4 → Seeking sort m x 0 untold declaring
unfolding list_of find find_from
nothing-told sort m x h = fourfold (λ s. Seeking s m x 0 untold declaring) (refl, refl) (refl, refl) (refl, refl) (refl, refl) sort h
