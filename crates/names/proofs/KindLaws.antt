-- What one more saying adds to the kinds of the variables.
use Prim.Native.Nat.{ℕ, zero, suc, ◌+◌, ◌-◌, ◌≤◌, ◌<◌}
use mathlib.Core.Path.{◌≡◌, refl, ap, sym, ◌∙◌}
use mathlib.Core.Bool.{Bool, true, false, not, cond, ◌||◌}
use mathlib.Core.List.{List, [], ◌∷◌, map}
use native.Mathlib.Omega.{arith}
use borrow.Author.Tests.{eqb-true, eq-eqb, ne_eqb, ltb-true, ltb-false}
use lib.Dec.{eqb, ltb}
use lib.ListN.{length, get_or, set, length-set, length-map, get_or-eq_default}
use lib.Seq.{get_or-set_same, get_or-set_other}
use Rattle.plexil.specs.Lists.{all_below}
use Rattle.plexil.proofs.ListLaws.{all_below-at}
use Rattle.grammar.specs.Spelling.{Token, Placed}
use Rattle.grammar.specs.Table.{Said}
use Rattle.notation.specs.Sayings.{Kind, boolean, integer, float, Saying, silence}
use Rattle.notation.specs.Draft.{Variable}
use Rattle.notation.specs.Hearing.{◌▸◌, draft_of}
use Rattle.notation.specs.Mapping.{kind_code, kind_of_variable}
use Rattle.recognise.specs.Codes as Codes
use Rattle.recognise.specs.Codes.{sayings, say_of}
use Rattle.names.specs.declared.walk.Walk.{Walk}
use Rattle.names.specs.Roles as Roles
use Rattle.names.specs.Roles.{Role, role_of, role_number, kind_number, detail_of}
use Rattle.names.specs.Tale.{Tale, tell, tell_of, settling}
use Rattle.names.specs.Order.{Standing}
use Rattle.names.specs.Answers.{Accepted, tale_said}
use Rattle.names.specs.Kinds.{Kinded}
use Rattle.names.proofs.Halfway.{Newly}
use Rattle.names.proofs.ToldLaws.{told}
use Rattle.names.proofs.ViewLaws.{length-snoc, get_or-snoc-other, get_or-snoc-last}

-- ---- a variable's kind is the number of its saying less 20
by_number : Token → ℕ → Bool
by_number t n = not (eqb (role_number (role_of (say_of n))) 2) || eqb (detail_of (say_of n) t) (n - 20)

all-by-number : (t : Token) → all_below 94 (by_number t) ≡ true
unfolding all_below by_number Codes.opened Roles.opened
all-by-number t = refl

silent-beyond : (n : ℕ) → 94 ≤ n → role_number (role_of (say_of n)) ≡ 15
unfolding Codes.opened Roles.opened
silent-beyond n h = rw (get_or-eq_default sayings silence {n = n} h)

kind-by-number : (n : ℕ) (t : Token) → role_number (role_of (say_of n)) ≡ 2 → detail_of (say_of n) t ≡ n - 20
kind-by-number n t e = go (ltb n 94) refl
  where
    passed : (b : Bool) → b ≡ true → not b || eqb (detail_of (say_of n) t) (n - 20) ≡ true → eqb (detail_of (say_of n) t) (n - 20) ≡ true
    passed true h k = k
    passed false h k = let z : ◌≡◌ {A = ℕ} 0 1 = cc in absurd (omega arith)

    go : (b : Bool) → ltb n 94 ≡ b → detail_of (say_of n) t ≡ n - 20
    go true h = eqb-true _ _ (passed _ (eq-eqb _ 2 e) (unfold by_number in all_below-at 94 (by_number t) (all-by-number t) n (ltb-true n 94 h)))
    go false h = absurd (omega (arith, silent-beyond n (ltb-false n 94 h)))

-- ---- one more saying
settling-kinds : (h : List Placed) (b : Tale) → (settling h b).variable_kinds ≡ b.variable_kinds
unfolding settling
settling-kinds [] b = refl
settling-kinds (t ∷ ts) b = refl

kinds-told : (r : Role) (k : ℕ) (t : Placed) (b : Tale) → (tell_of r k t b).variable_kinds ≡ cond (eqb (role_number r) 2) (b.variable_kinds ▸ k) b.variable_kinds
unfolding Roles.opened tell_of
kinds-told Role.other k t b = refl
kinds-told Role.number k t b = refl
kinds-told Role.command k t b = refl
kinds-told Role.lookup k t b = refl
kinds-told Role.variable k t b = refl
kinds-told Role.named k t b = refl
kinds-told Role.unnamed k t b = refl
kinds-told Role.opens k t b = refl
kinds-told Role.shuts k t b = refl
kinds-told Role.call k t b = refl
kinds-told Role.assign k t b = refl
kinds-told Role.read k t b = refl
kinds-told Role.mention k t b = refl
kinds-told Role.descend k t b = refl
kinds-told Role.ask k t b = refl
kinds-told Role.settle k t b = settling-kinds b.held b

-- ---- the table
-- of the kinds l, where they are at most 128, there are n, and the table has them
pub record Tabled (old ks : List ℕ) (n : ℕ) (l : List ℕ) : Type 0 where
  pub size : length ks ≡ 704
  pub room : n ≤ 128
  pub kept : (i : ℕ) → i < 320 → get_or ks i 0 ≡ get_or old i 0
  pub many : length l ≤ 128 → n ≡ length l
  pub kinds : length l ≤ 128 → (i : ℕ) → i < n → get_or ks (320 + i) 0 ≡ get_or l i 0

pub tabled-none : (ks : List ℕ) → length ks ≡ 704 → Tabled ks ks 0 []
tabled-none ks e = record { size = e; room = omega arith; kept = λ i h. refl; many = λ h. refl; kinds = λ h i j. absurd (omega arith) }

module _ (old ks : List ℕ) (n : ℕ) (l : List ℕ) (v : ℕ) (t : Tabled old ks n l) where
  tabled-full : 128 ≤ n → Tabled old ks n (l ▸ v)
  tabled-full h =
      record {
        size = t.size;
        room = t.room;
        kept = t.kept;
        many = λ k. absurd (full k);
        kinds = λ k. absurd (full k);
      }
    where
      full : length (l ▸ v) ≤ 128 → ⊥
      full k = let e = length-snoc l v in omega (arith, t.many (omega arith))

  tabled-more : n < 128 → Tabled old (set ks (320 + n) v) (n + 1) (l ▸ v)
  tabled-more h =
      record {
        size = length-set ks (320 + n) v ∙ t.size;
        room = omega arith;
        kept = λ i k. get_or-set_other ks (320 + n) i v 0 (λ e. omega arith) ∙ t.kept i k;
        many = λ k. let e = length-snoc l v in omega (arith, t.many (omega arith));
        kinds = λ k i j. let e = length-snoc l v in at_place (omega arith) i j (ltb i n) refl;
      }
    where
      at_place : length l ≤ 128 → (i : ℕ) → i < n + 1 → (b : Bool) → ltb i n ≡ b → get_or (set ks (320 + n) v) (320 + i) 0 ≡ get_or (l ▸ v) i 0
      at_place k i j true e =
          let m = ltb-true i n e in
          get_or-set_other ks (320 + n) (320 + i) v 0 (λ z. omega arith)
          ∙ t.kinds k i m ∙ sym (get_or-snoc-other l v 0 i (omega (arith, t.many k)))
      at_place k i j false e =
          let m : i ≡ n = omega (arith, ltb-false i n e) in
          let q : i ≡ length l = m ∙ t.many k in
          ap (λ x. get_or (set ks (320 + n) v) (320 + x) 0) m
          ∙ get_or-set_same ks (320 + n) v 0 (omega (arith, t.size)) ∙ sym (ap (λ x. get_or (l ▸ v) x 0) q ∙ get_or-snoc-last l v 0)

-- told so far are n kinds, and the table has them
abbrev pub Kinding : List ℕ → List ℕ → ℕ → Tale → Standing → Type 0
Kinding old ks n b q = Tabled old ks n b.variable_kinds

module _ (old ks : List ℕ) (m : ℕ) {u ls : List ℕ} {w : Walk} {l : List (Said Saying)} (n : Newly u ls w l (Kinding old ks m)) where
  kinds-by : (b : Bool) → eqb w.role 2 ≡ b → (tell n.said n.tale).variable_kinds ≡ cond b (n.tale.variable_kinds ▸ detail_of n.said.what n.said.token.bytes) n.tale.variable_kinds
  unfolding tell
  kinds-by b e = kinds-told (role_of n.said.what) _ n.said.token n.tale ∙ rw (← n.tells.role, e)

  kinds-more : w.role ≡ 2 → (tell n.said n.tale).variable_kinds ≡ n.tale.variable_kinds ▸ (w.cursor.says - 20)
  kinds-more e =
      kinds-by true (eq-eqb _ 2 e)
      ∙ ap (λ x. n.tale.variable_kinds ▸ x)
      (ap (λ x. detail_of x n.said.token.bytes) (sym n.tells.says)
      ∙ kind-by-number w.cursor.says n.said.token.bytes (ap (λ x. role_number (role_of x)) n.tells.says ∙ sym n.tells.role ∙ e))

  pub kinding-same : (w.role ≡ 2 → ⊥) → Kinding old ks m (tell n.said n.tale) n.next
  kinding-same e = rw (kinds-by false (ne_eqb _ 2 e)) n.known

  pub kinding-full : w.role ≡ 2 → 128 ≤ m → Kinding old ks m (tell n.said n.tale) n.next
  kinding-full e h = rw (kinds-more e) (tabled-full old ks m _ _ n.known h)

  pub kinding-more : (v : ℕ) → w.role ≡ 2 → m < 128 → v ≡ w.cursor.says - 20 → Kinding old (set ks (320 + m) v) (m + 1) (tell n.said n.tale) n.next
  kinding-more v e h f = rw (kinds-more e, ← f) (tabled-more old ks m _ _ n.known h)

-- ---- the draft
kind-code : (k : Kind) → kind_number k ≡ kind_code k
unfolding kind_number kind_code
kind-code boolean = refl
kind-code integer = refl
kind-code float = refl

kind-of : (vs : List Variable) (i : ℕ) → get_or (map (λ (v : Variable). kind_number v.kind) vs) i 0 ≡ kind_of_variable vs i
unfolding kind_of_variable
kind-of [] i = refl
kind-of (v ∷ vs) zero = kind-code v.kind
kind-of (v ∷ vs) (suc i) = kind-of vs i

pub kinded : (u : List ℕ) (l : List (Said Saying)) (old ks : List ℕ) (m : ℕ) → Accepted u l → Tabled old ks m (tale_said l).variable_kinds → Kinded (draft_of l) old ks
kinded u l old ks m a t =
    let d = draft_of l in
    let e : map (λ (v : Variable). kind_number v.kind) d.variables ≡ (tale_said l).variable_kinds = ap (λ (b : Tale). b.variable_kinds) (told u l a.says).view in
    let n : length (tale_said l).variable_kinds ≡ length d.variables = sym (ap length e) ∙ length-map d.variables (λ (v : Variable). kind_number v.kind) in
    record {
      size = t.size;
      kept = t.kept;
      kinds = λ h i j. t.kinds (omega arith) i (omega (arith, t.many (omega arith))) ∙ rw (← e) (kind-of d.variables i);
    }
