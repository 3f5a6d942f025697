-- A tale only grows: what is told adds to the end of the lists.
use Prim.Native.Nat.{ℕ, zero, suc, ◌+◌, ◌<◌}
use mathlib.Core.Path.{◌≡◌, refl, ap, sym, ◌∙◌}
use mathlib.Core.Bool.{Bool, true, false, cond}
use mathlib.Core.List.{List, [], ◌∷◌, ◌++◌, append_assoc, append-nil}
use native.Mathlib.Omega.{arith}
use native.Mathlib.Nat.{add-zero}
use lib.Dec.{eqb}
use lib.ListN.{length}
use Rattle.plexil.specs.Lists.{Found, at, nowhere}
use Rattle.grammar.specs.Spelling.{Placed}
use Rattle.grammar.specs.Table.{Said}
use Rattle.notation.specs.Sayings.{Saying}
use Rattle.notation.specs.Draft.{Mentioned, Draft}
use Rattle.notation.specs.Hearing.{◌▸◌}
use Rattle.notation.specs.Names.{find_from, in_order, bad_mention}
use Rattle.names.specs.Roles as Roles
use Rattle.names.specs.Roles.{Role, role_of, role_number, detail_of, other, number, command, lookup, variable, named, unnamed, opens, shuts, call, assign, read, mention, descend, ask, settle}
use Rattle.names.specs.Tale as Tale
use Rattle.names.specs.Tale.{Declared, Tale, list_of, tell_of, tell, tell_all, settling}
use Rattle.names.specs.Seek.{Shallow}
use Rattle.names.specs.Walking as Walking
use Rattle.names.specs.Walking.{sort_no, name_by, owner_by}

pub fourfold : (P : ℕ → Type 0) → P 0 → P 1 → P 2 → P 3 → (s : ℕ) → s < 4 → P s
fourfold P a b c d zero h = a
fourfold P a b c d (suc zero) h = b
fourfold P a b c d (suc (suc zero)) h = c
fourfold P a b c d (suc (suc (suc zero))) h = d
fourfold P a b c d (suc (suc (suc (suc s)))) h = absurd (omega arith)

-- what a saying of the role declares
abbrev pub declared_by : Role → Placed → Tale → Declared
declared_by r t b = record { name = name_by r t.bytes; owner = owner_by r b }

-- what it adds to the sort s
abbrev pub added_to : ℕ → Role → Placed → Tale → List Declared
added_to s r t b = cond (eqb (sort_no (role_number r)) s) (declared_by r t b ∷ []) []

-- l is m, and then more
pub record More {A : Type 0} (l m : List A) : Type 0 where
  pub rest : List A
  pub grown : l ≡ m ++ rest

module _ (k : ℕ) (t : Placed) (b : Tale) where
  abbrev Grows : Role → ℕ → Type 0
  Grows r s = list_of s (tell_of r k t b) ≡ list_of s b ++ added_to s r t b

  settle-grows : (h : List Placed) (s : ℕ) → s < 4 → list_of s (settling h b) ≡ list_of s b ++ []
  unfolding Tale.opened
  settle-grows [] s l = sym (append-nil _)
  settle-grows (x ∷ h) s l = fourfold (λ s. list_of s (settling (x ∷ h) b) ≡ list_of s b ++ []) (sym (append-nil _)) (sym (append-nil _)) (sym (append-nil _)) (sym (append-nil _)) s l

  pub grows : (r : Role) (s : ℕ) → s < 4 → Grows r s
  unfolding Roles.opened Tale.opened Walking.opened sort_no ◌▸◌
  grows other s l = fourfold (Grows other) (sym (append-nil _)) (sym (append-nil _)) (sym (append-nil _)) (sym (append-nil _)) s l
  grows number s l = fourfold (Grows number) (sym (append-nil _)) (sym (append-nil _)) (sym (append-nil _)) (sym (append-nil _)) s l
  grows command s l = fourfold (Grows command) refl (sym (append-nil _)) (sym (append-nil _)) (sym (append-nil _)) s l
  grows lookup s l = fourfold (Grows lookup) (sym (append-nil _)) refl (sym (append-nil _)) (sym (append-nil _)) s l
  grows variable s l = fourfold (Grows variable) (sym (append-nil _)) (sym (append-nil _)) refl (sym (append-nil _)) s l
  grows named s l = fourfold (Grows named) (sym (append-nil _)) (sym (append-nil _)) (sym (append-nil _)) refl s l
  grows unnamed s l = fourfold (Grows unnamed) (sym (append-nil _)) (sym (append-nil _)) (sym (append-nil _)) refl s l
  grows opens s l = fourfold (Grows opens) (sym (append-nil _)) (sym (append-nil _)) (sym (append-nil _)) (sym (append-nil _)) s l
  grows shuts s l = fourfold (Grows shuts) (sym (append-nil _)) (sym (append-nil _)) (sym (append-nil _)) (sym (append-nil _)) s l
  grows call s l = fourfold (Grows call) (sym (append-nil _)) (sym (append-nil _)) (sym (append-nil _)) (sym (append-nil _)) s l
  grows assign s l = fourfold (Grows assign) (sym (append-nil _)) (sym (append-nil _)) (sym (append-nil _)) (sym (append-nil _)) s l
  grows read s l = fourfold (Grows read) (sym (append-nil _)) (sym (append-nil _)) (sym (append-nil _)) (sym (append-nil _)) s l
  grows mention s l = fourfold (Grows mention) (sym (append-nil _)) (sym (append-nil _)) (sym (append-nil _)) (sym (append-nil _)) s l
  grows descend s l = fourfold (Grows descend) (sym (append-nil _)) (sym (append-nil _)) (sym (append-nil _)) (sym (append-nil _)) s l
  grows ask s l = fourfold (Grows ask) (sym (append-nil _)) (sym (append-nil _)) (sym (append-nil _)) (sym (append-nil _)) s l
  grows settle s l = rw (settle-grows b.held s l, append-nil) (fourfold (λ s. list_of s b ≡ list_of s b ++ added_to s settle t b) (sym (append-nil _)) (sym (append-nil _)) (sym (append-nil _)) (sym (append-nil _)) s l)

  settle-levels : (h : List Placed) → More (settling h b).levels b.levels
  unfolding Tale.opened ◌▸◌
  settle-levels [] = record { rest = []; grown = sym (append-nil _) }
  settle-levels (x ∷ h) = record { rest = []; grown = sym (append-nil _) }

  settle-mentions : (h : List Placed) → More (settling h b).mentions b.mentions
  unfolding Tale.opened ◌▸◌
  settle-mentions [] = record { rest = []; grown = sym (append-nil _) }
  settle-mentions (x ∷ h) = record { rest = _; grown = refl }

  pub levels-grow : (r : Role) → More (tell_of r k t b).levels b.levels
  unfolding Tale.opened ◌▸◌
  levels-grow other = record { rest = []; grown = sym (append-nil _) }
  levels-grow number = record { rest = []; grown = sym (append-nil _) }
  levels-grow command = record { rest = []; grown = sym (append-nil _) }
  levels-grow lookup = record { rest = []; grown = sym (append-nil _) }
  levels-grow variable = record { rest = []; grown = sym (append-nil _) }
  levels-grow named = record { rest = _; grown = refl }
  levels-grow unnamed = record { rest = _; grown = refl }
  levels-grow opens = record { rest = []; grown = sym (append-nil _) }
  levels-grow shuts = record { rest = []; grown = sym (append-nil _) }
  levels-grow call = record { rest = []; grown = sym (append-nil _) }
  levels-grow assign = record { rest = []; grown = sym (append-nil _) }
  levels-grow read = record { rest = []; grown = sym (append-nil _) }
  levels-grow mention = record { rest = []; grown = sym (append-nil _) }
  levels-grow descend = record { rest = []; grown = sym (append-nil _) }
  levels-grow ask = record { rest = []; grown = sym (append-nil _) }
  levels-grow settle = settle-levels b.held

  pub mentions-grow : (r : Role) → More (tell_of r k t b).mentions b.mentions
  unfolding Tale.opened ◌▸◌
  mentions-grow other = record { rest = []; grown = sym (append-nil _) }
  mentions-grow number = record { rest = []; grown = sym (append-nil _) }
  mentions-grow command = record { rest = _; grown = refl }
  mentions-grow lookup = record { rest = _; grown = refl }
  mentions-grow variable = record { rest = _; grown = refl }
  mentions-grow named = record { rest = _; grown = refl }
  mentions-grow unnamed = record { rest = []; grown = sym (append-nil _) }
  mentions-grow opens = record { rest = []; grown = sym (append-nil _) }
  mentions-grow shuts = record { rest = []; grown = sym (append-nil _) }
  mentions-grow call = record { rest = _; grown = refl }
  mentions-grow assign = record { rest = _; grown = refl }
  mentions-grow read = record { rest = _; grown = refl }
  mentions-grow mention = record { rest = []; grown = sym (append-nil _) }
  mentions-grow descend = record { rest = []; grown = sym (append-nil _) }
  mentions-grow ask = record { rest = _; grown = refl }
  mentions-grow settle = settle-mentions b.held

module _ {A : Type 0} where
  more-none : (l : List A) → More l l
  more-none l = record { rest = []; grown = sym (append-nil l) }

  more-more : {l m n : List A} → More l m → More m n → More l n
  more-more {n = n} f g = record { rest = g.rest ++ f.rest; grown = f.grown ∙ ap (λ x. x ++ f.rest) g.grown ∙ append_assoc n g.rest f.rest }

pub lists-grow-all : (l : List (Said Saying)) (b : Tale) (s : ℕ) → s < 4 → More (list_of s (tell_all l b)) (list_of s b)
unfolding tell_all tell
lists-grow-all [] b s h = more-none _
lists-grow-all (w ∷ l) b s h = more-more (lists-grow-all l (tell w b) s h) (record { rest = _; grown = grows (detail_of w.what w.token.bytes) w.token b (role_of w.what) s h })

pub levels-grow-all : (l : List (Said Saying)) (b : Tale) → More (tell_all l b).levels b.levels
unfolding tell_all tell
levels-grow-all [] b = more-none _
levels-grow-all (w ∷ l) b = more-more (levels-grow-all l (tell w b)) (levels-grow (detail_of w.what w.token.bytes) w.token b (role_of w.what))

pub mentions-grow-all : (l : List (Said Saying)) (b : Tale) → More (tell_all l b).mentions b.mentions
unfolding tell_all tell
mentions-grow-all [] b = more-none _
mentions-grow-all (w ∷ l) b = more-more (mentions-grow-all l (tell w b)) (mentions-grow (detail_of w.what w.token.bytes) w.token b (role_of w.what))

-- ---- what is found stays found
pub find-stays : {A : Type 0} (f : A → Bool) (l m : List A) (i j : ℕ) → find_from i f l ≡ at j → find_from i f (l ++ m) ≡ at j
unfolding find_from
find-stays f [] m i j e = absurd (let z : ◌≡◌ {A = ℕ} 0 1 = cc in omega arith)
find-stays f (a ∷ l) m i j e = onto (f a) (find-stays f l m (suc i) j) e
  where
    onto : (t : Bool) → (find_from (suc i) f l ≡ at j → find_from (suc i) f (l ++ m) ≡ at j) → ◌≡◌ {A = Found} (elim t [ true ↦ at i | false ↦ find_from (suc i) f l ]) (at j) → ◌≡◌ {A = Found} (elim t [ true ↦ at i | false ↦ find_from (suc i) f (l ++ m) ]) (at j)
    onto true h e = e
    onto false h e = h e

pub find-later : {A : Type 0} (f : A → Bool) (l m : List A) (i : ℕ) → find_from i f l ≡ nowhere → find_from i f (l ++ m) ≡ find_from (i + length l) f m
unfolding find_from
find-later f [] m i e = rw (add-zero i)
find-later f (a ∷ l) m i e = onto (f a) (find-later f l m (suc i)) e
  where
    onto : (t : Bool) → (find_from (suc i) f l ≡ nowhere → find_from (suc i) f (l ++ m) ≡ find_from (suc i + length l) f m) → ◌≡◌ {A = Found} (elim t [ true ↦ at i | false ↦ find_from (suc i) f l ]) nowhere → ◌≡◌ {A = Found} (elim t [ true ↦ at i | false ↦ find_from (suc i) f (l ++ m) ]) (find_from (i + suc (length l)) f m)
    onto true h e = absurd (let z : ◌≡◌ {A = ℕ} 0 1 = cc in omega arith)
    onto false h e = let z : i + suc (length l) ≡ suc i + length l = omega arith in rw z (h e)

pub bad-stays : (d : Draft) (l m : List Mentioned) (n : ℕ) → bad_mention d l ≡ at n → bad_mention d (l ++ m) ≡ at n
unfolding bad_mention
bad-stays d [] m n e = absurd (let z : ◌≡◌ {A = ℕ} 0 1 = cc in omega arith)
bad-stays d (a ∷ l) m n e = onto (in_order d a.mention) (bad-stays d l m n) e
  where
    onto : (t : Bool) → (bad_mention d l ≡ at n → bad_mention d (l ++ m) ≡ at n) → ◌≡◌ {A = Found} (elim t [ true ↦ bad_mention d l | false ↦ at a.place ]) (at n) → ◌≡◌ {A = Found} (elim t [ true ↦ bad_mention d (l ++ m) | false ↦ at a.place ]) (at n)
    onto true h e = h e
    onto false h e = e

pub bad-later : (d : Draft) (l m : List Mentioned) → bad_mention d l ≡ nowhere → bad_mention d (l ++ m) ≡ bad_mention d m
unfolding bad_mention
bad-later d [] m e = refl
bad-later d (a ∷ l) m e = onto (in_order d a.mention) (bad-later d l m) e
  where
    onto : (t : Bool) → (bad_mention d l ≡ nowhere → bad_mention d (l ++ m) ≡ bad_mention d m) → ◌≡◌ {A = Found} (elim t [ true ↦ bad_mention d l | false ↦ at a.place ]) nowhere → ◌≡◌ {A = Found} (elim t [ true ↦ bad_mention d (l ++ m) | false ↦ at a.place ]) (bad_mention d m)
    onto true h e = h e
    onto false h e = absurd (let z : ◌≡◌ {A = ℕ} 0 1 = cc in omega arith)

pub shallow-front : (l m : List ℕ) → Shallow (l ++ m) → Shallow l
unfolding Shallow
shallow-front [] m h = tt
shallow-front (n ∷ l) m h = (h.0, shallow-front l m h.1)

-- where the whole tale is shallow, so is what has been told of it
pub shallow-told : (l : List (Said Saying)) (b : Tale) → Shallow (tell_all l b).levels → Shallow b.levels
shallow-told l b h = shallow-front b.levels (levels-grow-all l b).rest (rw (levels-grow-all l b).grown at h)
