-- What is kept on the tape: a packed number tells what was packed, and each saying more leaves those before it.
use Prim.Native.Nat.{ℕ, zero, suc, ◌+◌, ◌*◌, ◌/◌, ◌%◌, ◌-◌, ◌<◌, ◌≤◌}
use mathlib.Core.Path.{◌≡◌, refl, ◌∙◌, sym, ap, subst, subst⁻¹}
use mathlib.Core.Logic.{◌⊎◌, inl, inr}
use mathlib.Core.Bool.{Bool, true, false, cond, false≢true}
use mathlib.Core.List.{List, [], ◌∷◌, ◌++◌, append-nil}
use mathlib.Core.Option.{some}
use native.Mathlib.Omega.{arith}
use native.Mathlib.Nat.{add-mul-mod_self_left, add-mul-div_left, div-eq_of_lt, div-eq_of_lt-le, mod-eq_of_lt, mod-lt, mod-mod}
use borrow.Author.Tests.{ltb-false, eqb-true, eqb-false}
use lib.Dec.{eqb, ltb}
use lib.ListN.{length, drop, get_or, set, length-append, length-drop, length-set}
use lib.Seq.{drop-nil, drop-append-le, drop-append_seam, get_or-set_same, get_or-set_other, length-slice}
use Rattle.grammar.specs.Table.{Said}
use Rattle.grammar.specs.Scan.{token_in}
use Rattle.notation.specs.Sayings.{Saying}
use Rattle.notation.specs.Spoken.{is_silent, spoken}
use Rattle.notation.specs.Reading.{plan_says}
use Rattle.notation.proofs.Spoken.{spoken-append}
use Rattle.recognise.specs.declared.Recognised.{Recognised}
use Rattle.recognise.specs.declared.taking.Taken.{Taken}
use Rattle.recognise.specs.Codes as Codes
use Rattle.recognise.specs.Codes.{say_of}
use Rattle.recognise.specs.Hears.{Narrow, Brief, piece}
use Rattle.recognise.specs.Recognised.{accepted_as, recognised_by, recognised_of}
use Rattle.recognise.specs.Tape.{packed, says_in, from_in, to_in, held_in, holding, Tells, Has, Taped, Tape, sealed, Winds}
use Rattle.recognise.proofs.Pieces.{slice-part}
use Rattle.recognise.proofs.Advances.{token_said, says-something, spoken-heard, spoken-silent}

-- ---- one number
module _ (s i j : ℕ) (small : s ≤ 93) (low : i < 262144) where
  as_one : packed s i j ≡ s + 128 * (i + 262144 * (j - i))
  as_one = omega arith

  says-packed : says_in (packed s i j) ≡ s
  says-packed = ap (λ v. v % 128) as_one ∙ add-mul-mod_self_left s 128 (i + 262144 * (j - i)) ∙ mod-eq_of_lt (omega arith)

  from-packed : from_in (packed s i j) ≡ i
  from-packed =
      let h : packed s i j / 128 ≡ i + 262144 * (j - i) = ap (λ v. v / 128) as_one ∙ add-mul-div_left s (i + 262144 * (j - i)) (omega arith) ∙ ap (λ k. k + (i + 262144 * (j - i))) (div-eq_of_lt {n = s} {m = 128} (omega arith)) ∙ omega arith in
      ap (λ v. v % 262144) h ∙ add-mul-mod_self_left i 262144 (j - i) ∙ mod-eq_of_lt low

  to-packed : i ≤ j → to_in (packed s i j) ≡ j
  to-packed o =
      let h : packed s i j / 33554432 ≡ j - i = div-eq_of_lt-le 33554432 (omega arith) (omega arith) in
      omega (arith, from-packed, h)

  pub tells-packed : (u : List ℕ) → i ≤ j → j ≤ length u → Tells u (packed s i j) (record { what = say_of s; token = token_in u i j })
  unfolding piece token_in
  tells-packed u o h = record {
    known = omega (arith, says-packed);
    what = ap say_of says-packed;
    ordered = omega (arith, from-packed, to-packed o);
    within = omega (arith, to-packed o);
    bytes = ap (λ x. piece u x (to_in (packed s i j))) from-packed ∙ ap (λ y. piece u i y) (to-packed o) ∙ sym (slice-part i j u);
    place = from-packed;
  }

-- ---- two in a place
place-small : (i : ℕ) → i < 19640 → i / 2 < 9820
place-small i h = omega arith

-- what the place of the saying i has where v is kept as it
abbrev two_in : List ℕ → ℕ → ℕ → ℕ
two_in os i v = cond (eqb (i % 2) 0) v (get_or os (705 + i / 2) 0 % 4294967296 + 4294967296 * v)

pub holding-length : (os : List ℕ) (i v : ℕ) → length (holding os i v) ≡ length os
unfolding holding
holding-length os i v = length-set os (705 + i / 2) (two_in os i v)

elsewhere : (os : List ℕ) (i x q : ℕ) → (q / 2 ≡ i / 2 → ⊥) → held_in (set os (705 + i / 2) x) q ≡ held_in os q
unfolding held_in
elsewhere os i x q n = rw (get_or-set_other os (705 + i / 2) (705 + q / 2) x 0 (λ z. n (omega (arith, z))))

module _ (os : List ℕ) (i v : ℕ) (small : v < 4294967296) (room : 705 + i / 2 < length os) where
  abbrev old : ℕ
  old = get_or os (705 + i / 2) 0

  two : (x : ℕ) → get_or (set os (705 + i / 2) x) (705 + i / 2) 0 ≡ x
  two x = get_or-set_same os (705 + i / 2) x 0 room

  pub held_same : held_in (holding os i v) i ≡ v
  unfolding held_in holding
  held_same = by (eqb (i % 2) 0)
    where
      by : (b : Bool) → cond b (get_or (set os (705 + i / 2) (cond b v (old % 4294967296 + 4294967296 * v))) (705 + i / 2) 0 % 4294967296) (get_or (set os (705 + i / 2) (cond b v (old % 4294967296 + 4294967296 * v))) (705 + i / 2) 0 / 4294967296) ≡ v
      by true = ap (λ x. x % 4294967296) (two v) ∙ mod-eq_of_lt small
      by false =
          ap (λ x. x / 4294967296) (two (old % 4294967296 + 4294967296 * v)) ∙ add-mul-div_left (old % 4294967296) v (omega arith) ∙ ap (λ x. x + v) (div-eq_of_lt {n = old % 4294967296} {m = 4294967296} (mod-lt old (omega arith))) ∙ omega arith

  beside : (q : ℕ) → q < i → q / 2 ≡ i / 2 → held_in (set os (705 + i / 2) (two_in os i v)) q ≡ held_in os q
  unfolding held_in
  beside q h p =
      let even : q % 2 ≡ 0 = omega (arith, p, h) in
      let odd : i % 2 ≡ 1 = omega (arith, p, h) in
      rw (even, p, odd, two (old % 4294967296 + 4294967296 * v)) (add-mul-mod_self_left (old % 4294967296) 4294967296 v ∙ mod-mod old 4294967296)

  pub held-before : (q : ℕ) → q < i → held_in (holding os i v) q ≡ held_in os q
  unfolding holding
  held-before q h = by (eqb (q / 2) (i / 2)) refl
    where
      by : (b : Bool) → eqb (q / 2) (i / 2) ≡ b → held_in (set os (705 + i / 2) (two_in os i v)) q ≡ held_in os q
      by true e = beside q h (eqb-true _ _ e)
      by false e = elsewhere os i (two_in os i v) q (eqb-false _ _ e)

-- a store before the tape leaves what is kept
held-set : (os : List ℕ) (j v q : ℕ) → j < 705 → held_in (set os j v) q ≡ held_in os q
unfolding held_in
held-set os j v q h = rw (get_or-set_other os j (705 + q / 2) v 0 (λ z. omega (arith, z)))

-- ---- one saying more
last_or : {A : Type 0} (l : List A) (w : A) (q : ℕ) (x : A) (k : List A) → drop q (l ++ (w ∷ [])) ≡ x ∷ k → ((m : List A) × (drop q l ≡ x ∷ m)) ⊎ ((q ≡ length l) × (w ≡ x))
last_or [] w zero x k e = inr (refl, cc)
last_or [] w (suc q) x k e = absurd (let z : [] ≡ x ∷ k = sym (drop-nil q) ∙ e in let y : ◌≡◌ {A = ℕ} 0 1 = cc in omega arith)
last_or (y ∷ l) w zero x k e = inl (l, cc)
last_or (y ∷ l) w (suc q) x k e = elim (last_or l w q x k e) [ inl h ↦ inl h | inr h ↦ inr (ap suc h.0, h.1) ]

-- a place from which something is left lies within
pub left-within : {A : Type 0} (l : List A) (q : ℕ) (x : A) (k : List A) → drop q l ≡ x ∷ k → q < length l
left-within l q x k e = let h : length l - q ≡ suc (length k) = sym (length-drop q l) ∙ ap length e in omega arith

narrow-less : (l : List (Said Saying)) (w : Said Saying) → Narrow (l ++ (w ∷ [])) → Narrow l
narrow-less l w n q x k e = n q x (k ++ (w ∷ [])) (drop-append-le q l (w ∷ []) (let h = left-within l q x k e in omega arith) ∙ ap (λ m. m ++ (w ∷ [])) e)

narrow-more : (l : List (Said Saying)) (w : Said Saying) → Narrow l → (w.token.place + length w.token.bytes < 262144) × (length w.token.bytes < 128) → Narrow (l ++ (w ∷ []))
narrow-more l w n h q x k e = elim (last_or l w q x k e) [ inl (m, z) ↦ n q x m z | inr (z, y) ↦ subst (λ (v : Said Saying). (v.token.place + length v.token.bytes < 262144) × (length v.token.bytes < 128)) y h ]

-- the array has the sayings l, of which there are n, as far as there is room
pub record Wound (u os : List ℕ) (l : List (Said Saying)) (n : ℕ) : Type 0 where
  pub size : length os ≡ 10525
  pub told : n ≤ 19640 → (n ≡ length l) × Narrow l
  pub exact : Brief l → n ≡ length l
  pub has : Brief l → Has u os l

pub nothing-wound : (u os : List ℕ) → length os ≡ 10525 → Wound u os [] 0
nothing-wound u os e = record {
  size = e;
  told = λ h. (refl, λ q x k h. absurd (let y = left-within [] q x k h in omega arith));
  exact = λ b. refl;
  has = λ b q x k h. absurd (let y = left-within [] q x k h in omega arith);
}

module _ (u os after : List ℕ) (l : List (Said Saying)) (n : ℕ) (t : Wound u os l n) (r : Taken) (m : ℕ) (g : Winds os n r.says r.from r.to m after) where
  wound-silent : r.says ≡ 0 → Wound u after l m
  wound-silent e =
      let s = g.silent e in
      record {
        size = g.size ∙ t.size;
        told = λ h. (let k = t.told (omega (arith, h, s.0)) in (s.0 ∙ k.0, k.1));
        exact = λ b. s.0 ∙ t.exact b;
        has = subst⁻¹ (λ a. Brief l → Has u a l) s.1 t.has;
      }

  module _ (small : r.says ≤ 93) (ordered : r.from ≤ r.to) (within : r.to ≤ length u) where
    -- how long the token is
    wide : length (token_said u r).token.bytes ≡ r.to - r.from
    unfolding token_in
    wide = length-slice r.from r.to u within

    begins : (token_said u r).token.place ≡ r.from
    unfolding token_in
    begins = refl

    one_more : length (l ++ (token_said u r ∷ [])) ≡ suc (length l)
    one_more = length-append l (token_said u r ∷ []) ∙ omega arith

    -- what a saying more that is kept asks
    pub record Fits : Type 0 where
      pub brief : Brief l
      pub low : n < 19640
      pub near : r.to < 262144
      pub short : r.to - r.from < 128

    fits : Brief (l ++ (token_said u r ∷ [])) → Fits
    fits b =
        let d : Brief l = record { few = omega (arith, b.few, one_more); narrow = narrow-less l (token_said u r) b.narrow } in
        let w = b.narrow (length l) (token_said u r) [] (drop-append_seam l (token_said u r ∷ [])) in
        record { brief = d; low = omega (arith, b.few, one_more, t.exact d); near = omega (arith, w.0, w.1, wide, begins, ordered); short = omega (arith, w.1, wide) }

    wound-said : (r.says ≡ 0 → ⊥) → Wound u after (l ++ (token_said u r ∷ [])) m
    wound-said e = record { size = g.size ∙ t.size; told = told; exact = exact; has = has }
      where
        told : m ≤ 19640 → (m ≡ length (l ++ (token_said u r ∷ []))) × Narrow (l ++ (token_said u r ∷ []))
        told h =
            let f = g.room e h in
            let s = t.told (omega (arith, f.0)) in
            ((g.kept e f.0 f.1 f.2).0 ∙ ap suc s.0 ∙ sym one_more, narrow-more l (token_said u r) s.1 (omega (arith, wide, begins, f.1, ordered), omega (arith, wide, f.2)))

        exact : Brief (l ++ (token_said u r ∷ [])) → m ≡ length (l ++ (token_said u r ∷ []))
        exact b = let f = fits b in (g.kept e f.low f.near f.short).0 ∙ ap suc (t.exact f.brief) ∙ sym one_more

        has : Brief (l ++ (token_said u r ∷ [])) → Has u after (l ++ (token_said u r ∷ []))
        has b q x k h =
            let f = fits b in
            let p = packed r.says r.from r.to in
            let is : after ≡ holding os n p = (g.kept e f.low f.near f.short).1 in
            let little : p < 4294967296 = omega (arith, f.near, f.short, small, ordered) in
            let room : 705 + n / 2 < length os = omega (arith, place-small n f.low, t.size) in
            let c = t.exact f.brief in
            elim (last_or l (token_said u r) q x k h) [
              | inl (k', h') ↦
                  let y = left-within l q x k' h' in
                  subst⁻¹ (λ v. Tells u v x) (ap (λ a. held_in a q) is ∙ held-before os n p little room q (omega (arith, y, c))) (t.has f.brief q x k' h')
              | inr (z, e') ↦
                  subst (Tells u (held_in after q)) e'
                  (subst⁻¹ (λ v. Tells u v (token_said u r)) (ap (λ a. held_in a q) is ∙ ap (held_in (holding os n p)) (z ∙ sym c) ∙ held_same os n p little room)
                  (tells-packed r.says r.from r.to small (omega (arith, f.near, ordered)) u ordered within))
            ]

    -- of the tokens k that have been heard the sayings are on the tape
    pub wound-on : (k k' : List (Said Saying)) → l ≡ spoken k → k' ≡ k ++ (token_said u r ∷ []) → Wound u after (spoken k') m
    unfolding Codes.opened is_silent spoken
    wound-on k k' e h = by r.says refl
      where
        is : (x : List (Said Saying)) → spoken (token_said u r ∷ []) ≡ x → spoken k' ≡ l ++ x
        is x z = ap spoken h ∙ spoken-append k (token_said u r ∷ []) ∙ ap (λ y. spoken k ++ y) z ∙ ap (λ y. y ++ x) (sym e)

        by : (n : ℕ) → r.says ≡ n → Wound u after (spoken k') m
        by zero z = subst⁻¹ (λ x. Wound u after x m) (is [] (spoken-silent (token_said u r) [] (ap (λ n. is_silent (say_of n)) z)) ∙ append-nil l) (wound-silent z)
        by (suc n) z = subst⁻¹ (λ x. Wound u after x m) (is (token_said u r ∷ []) (spoken-heard (token_said u r) [] (says-something r.says (λ y. omega (arith, y, z)) small))) (wound-said (λ y. omega (arith, y, z)))

-- ---- the whole text
sealed-is : (n : ℕ) → (sealed n ≡ 0) ⊎ ((sealed n ≡ n) × (n ≤ 19640))
unfolding sealed
sealed-is n = by (ltb 19640 n) refl
  where
    by : (a : Bool) → ltb 19640 n ≡ a → (cond a 0 n ≡ 0) ⊎ ((cond a 0 n ≡ n) × (n ≤ 19640))
    by false e = inr (refl, ltb-false _ _ e)
    by true e = inl refl

pub tape-sealed : (u os after : List ℕ) (l : List (Said Saying)) (n : ℕ) → Wound u os (spoken l) n → plan_says u ≡ some l → after ≡ set os 704 (sealed n) → (length after ≡ 10525) × Tape u after
unfolding Tape
tape-sealed u os after l n t e is = (ap length is ∙ length-set os 704 (sealed n) ∙ t.size, λ k f. whole k (let z : some l ≡ some k = sym e ∙ f in cc))
  where
    told : get_or after 704 0 ≡ sealed n
    told = ap (λ a. get_or a 704 0) is ∙ get_or-set_same os 704 (sealed n) 0 (omega (arith, t.size))

    taped : Taped u after (spoken l)
    taped = record {
      count = elim (sealed-is n) [ inl z ↦ inl (told ∙ z) | inr z ↦ (let k = t.told z.1 in inr (told ∙ z.0 ∙ k.0, record { few = omega (arith, z.1, k.0); narrow = k.1 })) ];
      has = λ b q x k h. subst⁻¹ (λ v. Tells u v x) (ap (λ a. held_in a q) is ∙ held-set os 704 (sealed n) q (omega arith)) (t.has b q x k h);
    }

    whole : (k : List (Said Saying)) → l ≡ k → Taped u after (spoken k)
    whole k z = subst (λ x. Taped u after (spoken x)) z taped

-- a text that is refused has no sayings
pub tape-refused : (u os : List ℕ) (r : Recognised) → r ≡ recognised_of u → r.accepted ≡ false → Tape u os
unfolding Tape recognised_of recognised_by accepted_as
tape-refused u os r e h l f = absurd (false≢true (sym h ∙ ap (λ (x : Recognised). x.accepted) (e ∙ ap (λ o. recognised_by o u) f)))

-- what is written before the tape leaves it
pub tape-kept : (u os : List ℕ) (j v : ℕ) → j < 704 → Tape u os → Tape u (set os j v)
unfolding Tape
tape-kept u os j v h t l e = record {
  count = subst⁻¹ (λ n. (n ≡ 0) ⊎ ((n ≡ length (spoken l)) × Brief (spoken l))) (get_or-set_other os j 704 v 0 (λ z. omega (arith, z))) (t l e).count;
  has = λ b q x k d. subst⁻¹ (λ n. Tells u n x) (held-set os j v q (omega arith)) ((t l e).has b q x k d);
}
