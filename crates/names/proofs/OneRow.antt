-- One row more in the tables.
use Prim.Native.Nat.{ℕ, zero, suc, ◌+◌, ◌<◌, ◌≤◌}
use mathlib.Core.Path.{◌≡◌, refl, ap, sym, ◌∙◌}
use mathlib.Core.Logic.{◌⊎◌, inl, inr}
use mathlib.Core.Bool.{Bool, true, false}
use mathlib.Core.List.{List, [], ◌∷◌, ◌++◌}
use native.Mathlib.Omega.{arith}
use native.Mathlib.Numerals.{add-one}
use borrow.Author.Tests.{eqb-true, eqb-false}
use lib.Dec.{eqb}
use lib.ListN.{length, get_or, set, length-append}
use lib.Seq.{get_or-set_same, get_or-set_other}
use Rattle.grammar.specs.Table.{Said}
use Rattle.notation.specs.Sayings.{Saying}
use Rattle.recognise.specs.Hears.{piece}
use Rattle.names.specs.declared.walk.Walk.{Walk}
use Rattle.names.specs.declared.table.Told.{Told}
use Rattle.names.specs.Tale.{Tale, untold, list_of, tell}
use Rattle.names.specs.Order.{Standing, declaring}
use Rattle.names.specs.Walking.{sort_no}
use Rattle.names.specs.Answers.{tale_said}
use Rattle.names.specs.Judging.{count_no}
use Rattle.names.specs.Tables as Tables
use Rattle.names.specs.Tables.{base_of, room_of, count_of, row_at, rows, Fair, TabledSort, more_of, Roomy, Within}
use Rattle.names.proofs.Grown.{fourfold, lists-grow-all}
use Rattle.names.proofs.Halfway.{Newly}
use Rattle.names.proofs.Search.{heard_one, told-one, told_none}
use Rattle.names.proofs.RowLaws.{rows-length}

-- a store outside the rows keeps them
module _ (u fs ts os : List ℕ) (j a e o : ℕ) where
  pub rows-set : (n i : ℕ) → (j < i) ⊎ (i + n ≤ j) → rows u (set fs j a) (set ts j e) (set os j o) i n ≡ rows u fs ts os i n
  unfolding rows row_at
  rows-set zero i h = refl
  rows-set (suc n) i (inl h) = rw (get_or-set_other fs j i a 0 (λ z. omega arith), get_or-set_other ts j i e 0 (λ z. omega arith), get_or-set_other os j i o 0 (λ z. omega arith), rows-set n (suc i) (inl (omega arith)))
  rows-set (suc n) i (inr h) = rw (get_or-set_other fs j i a 0 (λ z. omega arith), get_or-set_other ts j i e 0 (λ z. omega arith), get_or-set_other os j i o 0 (λ z. omega arith), rows-set n (suc i) (inr (omega arith)))

  pub fair-set : (n i : ℕ) → (j < i) ⊎ (i + n ≤ j) → Fair u fs ts i n → Fair u (set fs j a) (set ts j e) i n
  unfolding Fair
  fair-set zero i h c = tt
  fair-set (suc n) i (inl h) c = rw (get_or-set_other fs j i a 0 (λ z. omega arith), get_or-set_other ts j i e 0 (λ z. omega arith)) (c.0, c.1, fair-set n (suc i) (inl (omega arith)) c.2)
  fair-set (suc n) i (inr h) c = rw (get_or-set_other fs j i a 0 (λ z. omega arith), get_or-set_other ts j i e 0 (λ z. omega arith)) (c.0, c.1, fair-set n (suc i) (inr (omega arith)) c.2)

pub rows_snoc : (u fs ts os : List ℕ) (n i : ℕ) → rows u fs ts os i (suc n) ≡ rows u fs ts os i n ++ (row_at u fs ts os (i + n) ∷ [])
unfolding rows
rows_snoc u fs ts os zero i = let z : i + 0 ≡ i = omega arith in rw z
rows_snoc u fs ts os (suc n) i = let z : i + suc n ≡ suc i + n = omega arith in ap (λ k. row_at u fs ts os i ∷ k) (rows_snoc u fs ts os n (suc i) ∙ rw z)

pub fair-snoc : (u fs ts : List ℕ) (n i : ℕ) → Fair u fs ts i n → get_or fs (i + n) 0 ≤ get_or ts (i + n) 0 → get_or ts (i + n) 0 ≤ length u → Fair u fs ts i (suc n)
unfolding Fair
fair-snoc u fs ts zero i c h k = let z : i + 0 ≡ i = omega arith in (rw z at h, rw z at k, tt)
fair-snoc u fs ts (suc n) i c h k = let z : i + suc n ≡ suc i + n = omega arith in (c.0, c.1, fair-snoc u fs ts n (suc i) c.2 (rw z at h) (rw z at k))

count_same : (t : Told) (s : ℕ) → s < 4 → count_of (more_of t s) s ≡ count_of t s + 1
unfolding count_of more_of count_no
count_same t s h = fourfold (λ s. count_of (more_of t s) s ≡ count_of t s + 1) refl refl refl refl s h

count-other : (t : Told) (k : ℕ) → k < 4 → (s : ℕ) → s < 4 → (k ≡ s → ⊥) → count_of (more_of t s) k ≡ count_of t k
unfolding count_of more_of count_no
count-other t k h = fourfold (λ k. (s : ℕ) → s < 4 → (k ≡ s → ⊥) → count_of (more_of t s) k ≡ count_of t k)
    (λ s g. fourfold (λ s. (0 ≡ s → ⊥) → count_of (more_of t s) 0 ≡ count_of t 0) (λ z. absurd (z refl)) (λ z. refl) (λ z. refl) (λ z. refl) s g)
    (λ s g. fourfold (λ s. (1 ≡ s → ⊥) → count_of (more_of t s) 1 ≡ count_of t 1) (λ z. refl) (λ z. absurd (z refl)) (λ z. refl) (λ z. refl) s g)
    (λ s g. fourfold (λ s. (2 ≡ s → ⊥) → count_of (more_of t s) 2 ≡ count_of t 2) (λ z. refl) (λ z. refl) (λ z. absurd (z refl)) (λ z. refl) s g)
    (λ s g. fourfold (λ s. (3 ≡ s → ⊥) → count_of (more_of t s) 3 ≡ count_of t 3) (λ z. refl) (λ z. refl) (λ z. refl) (λ z. absurd (z refl)) s g)
    k h

segments : (k : ℕ) → k < 4 → (s : ℕ) → s < 4 → (k ≡ s → ⊥) → (base_of s + room_of s ≤ base_of k) ⊎ (base_of k + room_of k ≤ base_of s)
unfolding base_of room_of
segments k h = fourfold (λ k. (s : ℕ) → s < 4 → (k ≡ s → ⊥) → (base_of s + room_of s ≤ base_of k) ⊎ (base_of k + room_of k ≤ base_of s))
    (λ s g. fourfold (λ s. (0 ≡ s → ⊥) → (base_of s + room_of s ≤ base_of 0) ⊎ (base_of 0 + room_of 0 ≤ base_of s)) (λ z. absurd (z refl)) (λ z. inr (omega arith)) (λ z. inr (omega arith)) (λ z. inr (omega arith)) s g)
    (λ s g. fourfold (λ s. (1 ≡ s → ⊥) → (base_of s + room_of s ≤ base_of 1) ⊎ (base_of 1 + room_of 1 ≤ base_of s)) (λ z. inl (omega arith)) (λ z. absurd (z refl)) (λ z. inr (omega arith)) (λ z. inr (omega arith)) s g)
    (λ s g. fourfold (λ s. (2 ≡ s → ⊥) → (base_of s + room_of s ≤ base_of 2) ⊎ (base_of 2 + room_of 2 ≤ base_of s)) (λ z. inl (omega arith)) (λ z. inl (omega arith)) (λ z. absurd (z refl)) (λ z. inr (omega arith)) s g)
    (λ s g. fourfold (λ s. (3 ≡ s → ⊥) → (base_of s + room_of s ≤ base_of 3) ⊎ (base_of 3 + room_of 3 ≤ base_of s)) (λ z. inl (omega arith)) (λ z. inl (omega arith)) (λ z. inl (omega arith)) (λ z. absurd (z refl)) s g)
    k h

pub sort-within : (s : ℕ) → s < 4 → base_of s + room_of s ≤ 704
unfolding base_of room_of
sort-within s h = fourfold (λ s. base_of s + room_of s ≤ 704) (omega arith) (omega arith) (omega arith) (omega arith) s h

pub roomy-more : (t : Told) (s : ℕ) → s < 4 → Roomy t → count_of t s < room_of s → Roomy (more_of t s)
unfolding count_of room_of more_of count_no
roomy-more t s h r = fourfold (λ s. count_of t s < room_of s → Roomy (more_of t s))
    (λ z. record { commands = omega arith; lookups = r.lookups; variables = r.variables; nodes = r.nodes })
    (λ z. record { commands = r.commands; lookups = omega arith; variables = r.variables; nodes = r.nodes })
    (λ z. record { commands = r.commands; lookups = r.lookups; variables = omega arith; nodes = r.nodes })
    (λ z. record { commands = r.commands; lookups = r.lookups; variables = r.variables; nodes = omega arith }) s h

-- the rows of each sort are those of the tale
abbrev pub Rowed : List ℕ → List ℕ → List ℕ → List ℕ → Told → Tale → Standing → Type 0
Rowed u fs ts os t b q = (k : ℕ) → k < 4 → TabledSort u b fs ts os t k

abbrev pub none_told : Told
none_told = record { whole = true; commands = 0; lookups = 0; variables = 0; nodes = 0 }

pub nothing-rowed : (u fs ts os : List ℕ) → Rowed u fs ts os none_told untold declaring
unfolding Tables.opened list_of
nothing-rowed u fs ts os k h = fourfold (TabledSort u untold fs ts os none_told) (record { room = omega arith; fair = tt; same = refl }) (record { room = omega arith; fair = tt; same = refl }) (record { room = omega arith; fair = tt; same = refl }) (record { room = omega arith; fair = tt; same = refl }) k h

module _ (u fs ts os : List ℕ) (t : Told) (b b' : Tale) (s a e o : ℕ) (h : s < 4) (lf : length fs ≡ 704) (lt : length ts ≡ 704) (lo : length os ≡ 10525) (r : count_of t s < room_of s) (v : a ≤ e) (w : e ≤ length u) where
  abbrev place : ℕ
  place = base_of s + count_of t s

  put_same : TabledSort u b fs ts os t s → list_of s b' ≡ list_of s b ++ (record { name = piece u a e; owner = o } ∷ []) → TabledSort u b' (set fs place a) (set ts place e) (set os place o) (more_of t s) s
  unfolding row_at
  put_same c l =
      let z : count_of (more_of t s) s ≡ suc (count_of t s) = count_same t s h ∙ add-one _ in
      let p : place < 704 = omega (arith, sort-within s h) in
      let f : get_or (set fs place a) place 0 ≡ a = get_or-set_same fs place a 0 (omega arith) in
      let g : get_or (set ts place e) place 0 ≡ e = get_or-set_same ts place e 0 (omega arith) in
      let i : get_or (set os place o) place 0 ≡ o = get_or-set_same os place o 0 (omega arith) in
      record {
        room = rw z r;
        fair = rw z (fair-snoc u (set fs place a) (set ts place e) (count_of t s) (base_of s) (fair-set u fs ts os place a e o (count_of t s) (base_of s) (inr (omega arith)) c.fair) (rw (f, g) v) (rw g w));
        same = rw z (rows_snoc u (set fs place a) (set ts place e) (set os place o) (count_of t s) (base_of s) ∙ rw (rows-set u fs ts os place a e o (count_of t s) (base_of s) (inr (omega arith)), c.same, f, g, i, l));
      }

  put_other : (k : ℕ) → k < 4 → (k ≡ s → ⊥) → TabledSort u b fs ts os t k → list_of k b' ≡ list_of k b → TabledSort u b' (set fs place a) (set ts place e) (set os place o) (more_of t s) k
  put_other k g n c l =
      let z : count_of (more_of t s) k ≡ count_of t k = count-other t k g s h n in
      let x : (place < base_of k) ⊎ (base_of k + count_of t k ≤ place) = elim (segments k g s h n) [ inl y ↦ inl (omega arith) | inr y ↦ inr (omega (arith, c.room)) ] in
      record { room = rw z c.room; fair = rw z (fair-set u fs ts os place a e o (count_of t k) (base_of k) x c.fair); same = rw (z, rows-set u fs ts os place a e o (count_of t k) (base_of k) x, l) c.same }

  pub put-row : ((k : ℕ) → k < 4 → TabledSort u b fs ts os t k) → list_of s b' ≡ list_of s b ++ (record { name = piece u a e; owner = o } ∷ []) → ((k : ℕ) → k < 4 → (k ≡ s → ⊥) → list_of k b' ≡ list_of k b) →
      (k : ℕ) → k < 4 → TabledSort u b' (set fs place a) (set ts place e) (set os place o) (more_of t s) k
  put-row c l m k g = onto (eqb k s) refl
    where
      onto : (x : Bool) → eqb k s ≡ x → TabledSort u b' (set fs place a) (set ts place e) (set os place o) (more_of t s) k
      onto true z = rw (eqb-true k s z) (put_same (c s h) l)
      onto false z = put_other k g (eqb-false k s z) (c k g) (m k g (eqb-false k s z))

module _ {u ls fs ts os : List ℕ} {t : Told} {w : Walk} {l : List (Said Saying)} (n : Newly u ls w l (Rowed u fs ts os t)) where
  pub filled_on : (s : ℕ) → s < 4 → sort_no w.role ≡ s → length fs ≡ 704 → length ts ≡ 704 → length os ≡ 10525 → count_of t s < room_of s → w.from ≤ w.to → w.to ≤ length u →
      Rowed u (set fs (base_of s + count_of t s) w.from) (set ts (base_of s + count_of t s) w.to) (set os (base_of s + count_of t s) w.owner) (more_of t s) (tell n.said n.tale) n.next
  filled_on s h e lf lt lo r v x = put-row u fs ts os t n.tale (tell n.said n.tale) s w.from w.to w.owner h lf lt lo r v x n.known (told-one n s h e) (λ k g z. told_none n k g (λ y. z (sym y ∙ e)))

  pub filled-same : 4 ≤ sort_no w.role → Rowed u fs ts os t (tell n.said n.tale) n.next
  filled-same h k g = let c = n.known k g in record { room = c.room; fair = c.fair; same = c.same ∙ sym (told_none n k g (λ y. omega arith)) }

  pub overfull : (s : ℕ) → s < 4 → sort_no w.role ≡ s → room_of s ≤ count_of t s → Within (tale_said l) → ⊥
  unfolding Within
  overfull s h e r x =
      let c = n.known s h in
      let g = lists-grow-all n.rest (tell n.said n.tale) s h in
      let y : length (list_of s (tale_said l)) ≡ length (list_of s (tell n.said n.tale)) + length g.rest = ap (λ (b : Tale). length (list_of s b)) (sym n.whole) ∙ ap length g.grown ∙ length-append (list_of s (tell n.said n.tale)) g.rest in
      let z : length (list_of s (tell n.said n.tale)) ≡ length (list_of s n.tale) + 1 = ap length (told-one n s h e) ∙ length-append (list_of s n.tale) (heard_one n s h ∷ []) in
      let v : count_of t s ≡ length (list_of s n.tale) = sym (rows-length u fs ts os (base_of s) (count_of t s)) ∙ ap length c.same in
      omega (arith, x s h)

pub not-whole : ◌≡◌ {A = Bool} false true → ⊥
not-whole e = let z : ◌≡◌ {A = ℕ} 0 1 = cc in omega arith
