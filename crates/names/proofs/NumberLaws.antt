-- What one more saying adds to the numbers of the commands.
use Prim.Native.Nat.{ℕ, zero, suc, ◌+◌, ◌≤◌}
use mathlib.Core.Path.{◌≡◌, refl, ap, sym, ◌∙◌}
use mathlib.Core.Bool.{Bool, true, false, cond, ◌&&◌}
use mathlib.Core.List.{List, [], ◌∷◌, map}
use native.Mathlib.Omega.{arith}
use borrow.Author.Tests.{eqb-true, eqb-false}
use lib.Dec.{eqb}
use lib.ListN.{length, get_or}
use Rattle.grammar.specs.Spelling.{Token, Placed}
use Rattle.grammar.specs.Leads.{is_number, value_from}
use Rattle.grammar.specs.Table.{Said}
use Rattle.grammar.proofs.Bools.{both}
use Rattle.notation.specs.Sayings as Sayings
use Rattle.notation.specs.Sayings.{Saying}
use Rattle.notation.specs.Draft.{Command}
use Rattle.notation.specs.Hearing.{◌▸◌, at_last, draft_of}
use Rattle.notation.specs.Mapping.{number_of_command}
use Rattle.recognise.specs.Hears.{piece}
use Rattle.recognise.specs.Aptness.{Apt}
use Rattle.names.specs.declared.walk.Walk.{Walk}
use Rattle.names.specs.Roles as Roles
use Rattle.names.specs.Roles.{Role, role_of, role_number, detail_of}
use Rattle.names.specs.Tale.{Tale, tell, tell_of, settling}
use Rattle.names.specs.Order.{Standing}
use Rattle.names.specs.Walking.{name_by}
use Rattle.names.specs.Judging.{count_no}
use Rattle.names.specs.Answers.{Accepted, tale_said}
use Rattle.names.proofs.Halfway.{Newly}
use Rattle.names.proofs.ToldLaws.{told}
use Rattle.names.proofs.ViewLaws.{length-snoc, length_last}

-- ---- one more saying
settling-numbers : (h : List Placed) (b : Tale) → (settling h b).numbers ≡ b.numbers
unfolding settling
settling-numbers [] b = refl
settling-numbers (t ∷ ts) b = refl

numbers-told : (r : Role) (k : ℕ) (t : Placed) (b : Tale) → (tell_of r k t b).numbers ≡ cond (eqb (role_number r) 0) (b.numbers ▸ 0) (cond (eqb (role_number r) 14) (at_last (λ n. k) b.numbers) b.numbers)
unfolding Roles.opened tell_of
numbers-told Role.other k t b = refl
numbers-told Role.number k t b = refl
numbers-told Role.command k t b = refl
numbers-told Role.lookup k t b = refl
numbers-told Role.variable k t b = refl
numbers-told Role.named k t b = refl
numbers-told Role.unnamed k t b = refl
numbers-told Role.opens k t b = refl
numbers-told Role.shuts k t b = refl
numbers-told Role.call k t b = refl
numbers-told Role.assign k t b = refl
numbers-told Role.read k t b = refl
numbers-told Role.mention k t b = refl
numbers-told Role.descend k t b = refl
numbers-told Role.ask k t b = refl
numbers-told Role.settle k t b = settling-numbers b.held b

-- a command's number is what its token writes, and the token is as its row asks
number-said : (x : Saying) (t : Token) → role_number (role_of x) ≡ 14 → Apt x t → (name_by (role_of x) t ≡ t) × (detail_of x t ≡ value_from 0 t) × (is_number t ≡ true) × (value_from 0 t ≤ 65534)
unfolding Roles.opened name_by Apt
number-said Sayings.silence t e a = absurd (omega arith)
number-said Sayings.declares_command t e a = absurd (omega arith)
number-said Sayings.numbers_command t e a = (refl, refl, a.0, a.1)
number-said (Sayings.declares_lookup k) t e a = absurd (omega arith)
number-said Sayings.names t e a = absurd (omega arith)
number-said Sayings.begins t e a = absurd (omega arith)
number-said Sayings.opens_list t e a = absurd (omega arith)
number-said Sayings.closes_list t e a = absurd (omega arith)
number-said Sayings.calls t e a = absurd (omega arith)
number-said Sayings.assigns t e a = absurd (omega arith)
number-said (Sayings.conditions k) t e a = absurd (omega arith)
number-said Sayings.ranks t e a = absurd (omega arith)
number-said (Sayings.declares_variable k) t e a = absurd (omega arith)
number-said (Sayings.initial_truth b) t e a = absurd (omega arith)
number-said (Sayings.initial_whole b) t e a = absurd (omega arith)
number-said (Sayings.initial_decimal b) t e a = absurd (omega arith)
number-said (Sayings.initial_bits b) t e a = absurd (omega arith)
number-said (Sayings.truth b) t e a = absurd (omega arith)
number-said (Sayings.whole b) t e a = absurd (omega arith)
number-said (Sayings.decimal b) t e a = absurd (omega arith)
number-said (Sayings.bits b) t e a = absurd (omega arith)
number-said (Sayings.unknown k) t e a = absurd (omega arith)
number-said Sayings.reads t e a = absurd (omega arith)
number-said Sayings.mentions t e a = absurd (omega arith)
number-said Sayings.descends t e a = absurd (omega arith)
number-said (Sayings.asks w n k) t e a = absurd (omega arith)
number-said Sayings.negates t e a = absurd (omega arith)
number-said (Sayings.operates o) t e a = absurd (omega arith)
number-said Sayings.parenthesis t e a = absurd (omega arith)
number-said Sayings.closes t e a = absurd (omega arith)
number-said Sayings.ends t e a = absurd (omega arith)

-- ---- the number at a place
get_or-snoc-zero : (l : List ℕ) (i : ℕ) → get_or (l ▸ 0) i 0 ≡ get_or l i 0
unfolding ◌▸◌
get_or-snoc-zero [] zero = refl
get_or-snoc-zero [] (suc i) = refl
get_or-snoc-zero (x ∷ l) zero = refl
get_or-snoc-zero (x ∷ l) (suc i) = get_or-snoc-zero l i

module _ (k : ℕ) where
  get_or-last : (l : List ℕ) (i : ℕ) → length l ≡ suc i → get_or (at_last (λ n. k) l) i 0 ≡ k
  unfolding at_last
  get_or-last [] i e = absurd (omega arith)
  get_or-last (x ∷ []) zero e = refl
  get_or-last (x ∷ []) (suc i) e = absurd (omega arith)
  get_or-last (x ∷ (y ∷ l)) zero e = absurd (omega arith)
  get_or-last (x ∷ (y ∷ l)) (suc i) e = get_or-last (y ∷ l) i (omega arith)

  get_or-before-last : (l : List ℕ) (i : ℕ) → (length l ≡ suc i → ⊥) → get_or (at_last (λ n. k) l) i 0 ≡ get_or l i 0
  unfolding at_last
  get_or-before-last [] i e = refl
  get_or-before-last (x ∷ []) zero e = absurd (e refl)
  get_or-before-last (x ∷ []) (suc i) e = refl
  get_or-before-last (x ∷ (y ∷ l)) zero e = refl
  get_or-before-last (x ∷ (y ∷ l)) (suc i) e = get_or-before-last (y ∷ l) i (λ h. e (ap suc h))

-- of the numbers l there are n, and the number of the command i is v, 0 if it is not among them
pub record Numbered (i n v : ℕ) (l : List ℕ) : Type 0 where
  pub many : n ≡ length l
  pub here : v ≡ get_or l i 0

abbrev pub Numbering : ℕ → ℕ → ℕ → Tale → Standing → Type 0
Numbering i n v b q = Numbered i n v b.numbers

module _ (i n v k : ℕ) (l : List ℕ) (h : Numbered i n v l) where
  numbered-same : (s t : Bool) → (s ≡ false → t ≡ true → n ≡ i + 1 → ⊥) → Numbered i (cond s (n + 1) n) v (cond s (l ▸ 0) (cond t (at_last (λ x. k) l) l))
  numbered-same true t f = record { many = omega (arith, h.many, length-snoc l 0); here = h.here ∙ sym (get_or-snoc-zero l i) }
  numbered-same false true f = record { many = h.many ∙ sym (length_last (λ x. k) l); here = h.here ∙ sym (get_or-before-last k l i (λ e. f refl refl (omega (arith, h.many)))) }
  numbered-same false false f = h

  numbered-last : n ≡ i + 1 → Numbered i n k (at_last (λ x. k) l)
  numbered-last e = record { many = h.many ∙ sym (length_last (λ x. k) l); here = sym (get_or-last k l i (omega (arith, h.many))) }

module _ (i m v : ℕ) {u ls : List ℕ} {w : Walk} {l : List (Said Saying)} (n : Newly u ls w l (Numbering i m v)) (m' : ℕ) (c : m' ≡ count_no w.role 0 m) where
  numbers-by : (tell n.said n.tale).numbers ≡ cond (eqb w.role 0) (n.tale.numbers ▸ 0) (cond (eqb w.role 14) (at_last (λ x. detail_of n.said.what n.said.token.bytes) n.tale.numbers) n.tale.numbers)
  unfolding tell
  numbers-by = numbers-told (role_of n.said.what) _ n.said.token n.tale ∙ rw (← n.tells.role)

  pub numbering-same : (eqb w.role 14 && eqb m' (i + 1)) ≡ false → Numbering i m' v (tell n.said n.tale) n.next
  unfolding count_no
  numbering-same e = rw (numbers-by, c) (numbered-same i m v _ _ n.known (eqb w.role 0) (eqb w.role 14) (λ x y z. eqb-false m' (i + 1) (rw y at e) (c ∙ rw x z)))

  pub numbering-last : (eqb w.role 14 && eqb m' (i + 1)) ≡ true → (r : ℕ) → (is_number (piece u w.from w.to) ≡ true → value_from 0 (piece u w.from w.to) ≤ 9223372036854775808 → r ≡ value_from 0 (piece u w.from w.to))
      → Numbering i m' r (tell n.said n.tale) n.next
  unfolding count_no
  numbering-last e r f =
      let b = both (eqb w.role 14) (eqb m' (i + 1)) e in
      let role : w.role ≡ 14 = eqb-true w.role 14 b.0 in
      let s = number-said n.said.what n.said.token.bytes (sym n.tells.role ∙ role) n.asked in
      let name : piece u w.from w.to ≡ n.said.token.bytes = n.tells.name ∙ s.0 in
      let is : r ≡ detail_of n.said.what n.said.token.bytes = f (rw name s.2) (rw name (omega (arith, s.3))) ∙ rw name (sym s.1) in
      let last : m ≡ i + 1 = sym (c ∙ rw role) ∙ eqb-true m' (i + 1) b.1 in
      rw (numbers-by, c, role, is) (numbered-last i m v _ _ n.known last)

-- ---- the draft
number_of : (cs : List Command) (i : ℕ) → get_or (map (λ (c : Command). c.number) cs) i 0 ≡ number_of_command cs i
unfolding number_of_command
number_of [] i = refl
number_of (c ∷ cs) zero = refl
number_of (c ∷ cs) (suc i) = number_of cs i

pub numbered : (u : List ℕ) (l : List (Said Saying)) (i n v : ℕ) → Accepted u l → Numbered i n v (tale_said l).numbers → v ≡ number_of_command (draft_of l).commands i
numbered u l i n v a h =
    let e : map (λ (c : Command). c.number) (draft_of l).commands ≡ (tale_said l).numbers = ap (λ (b : Tale). b.numbers) (told u l a.says).view in
    h.here ∙ rw (← e) (number_of (draft_of l).commands i)
