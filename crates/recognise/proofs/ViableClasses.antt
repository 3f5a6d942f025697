-- How much of a token can begin one of a row: by the class of the row's lead, and by every class that the row takes.
use Prim.Native.Nat.{ℕ, zero, suc, ◌+◌, ◌-◌, ◌*◌, ◌<◌, ◌≤◌, max}
use Prim.Native.String.{String}
use mathlib.Core.Path.{◌≡◌, refl, ◌∙◌, sym, ap}
use mathlib.Core.Bool.{Bool, true, false, ◌&&◌, ◌||◌, cond}
use mathlib.Core.List.{List, [], ◌∷◌}
use mathlib.Core.Option.{Option, none, some}
use native.Mathlib.Omega.{arith}
use lib.Dec.{eqb, leb}
use borrow.Author.Tests.{eqb-true, leb-true, le-leb, eq-eqb}
use Rattle.plexil.specs.Lists.{Found, at, nowhere}
use Rattle.grammar.specs.Spelling.{Token, whole, is_digit}
use Rattle.grammar.specs.Leads.{bytes, same, Lead, the, name, up_to, real}
use Rattle.grammar.specs.Table.{Row}
use Rattle.grammar.specs.Scan.{common, digits_up_to, viable_by, viable_by_rows}
use Rattle.grammar.proofs.Same.{same-eq}
use Rattle.notation.specs.Sayings.{Saying}
use Rattle.notation.specs.Rows as Rows
use Rattle.notation.specs.Rows.{Sort, met}
use Rattle.notation.specs.Classes as Classes
use Rattle.notation.specs.Classes.{literals, literal_from, bound_from, bounds, within_bound, is_literal, accepts_class, pick_class, is_found, known_lead, all_known}
use Rattle.notation.proofs.Classes.{literals-number}
use Rattle.words.specs.Viable as Viable
use Rattle.words.specs.Viable.{word_at, lead_of, viable_of, viable_class}
use Rattle.recognise.proofs.Claims.{listing}
use Rattle.recognise.proofs.Claimed.{listed}

no_bool : true ≡ false → ⊥
no_bool e = let z : ◌≡◌ {A = ℕ} 0 1 = cc in omega arith

-- a literal's number
pub record Worded (ws : List String) (q : Token) (i j : ℕ) : Type 0 where
  pub number : ℕ
  pub placed : j ≡ i + number
  pub word : String
  pub found : word_at number ws ≡ some word
  pub spelled : bytes word ≡ q

worded : (ws : List String) (q : Token) (i j : ℕ) → literal_from i ws q ≡ at j → Worded ws q i j
unfolding literal_from word_at
worded [] q i j e = absurd (let z : ◌≡◌ {A = ℕ} 0 1 = cc in omega arith)
worded (w ∷ ws) q i j e = go (same (bytes w) q) refl e (worded ws q (suc i) j)
  where
    go : (b : Bool) → same (bytes w) q ≡ b → (elim b as (λ x. Found) [ true ↦ at i | false ↦ literal_from (suc i) ws q ]) ≡ at j
        → (literal_from (suc i) ws q ≡ at j → Worded ws q (suc i) j) → Worded (w ∷ ws) q i j
    go true h f k = let z : i ≡ j = cc in record { number = 0; placed = omega arith; word = w; found = refl; spelled = same-eq (bytes w) q h }
    go false h f k = let r = k f in record { number = suc r.number; placed = omega (arith, r.placed); word = r.word; found = r.found; spelled = r.spelled }

literal-viable : (w : String) (t : Token) (j : ℕ) → literal_from 0 literals (bytes w) ≡ at j → viable_class j t ≡ viable_by (the w) t
unfolding viable_class viable_of lead_of viable_by
literal-viable w t j e =
    let r = worded literals (bytes w) 0 j e in
    let n : word_at j literals ≡ some r.word = ap (λ (x : ℕ). word_at x literals) (omega (arith, r.placed)) ∙ r.found in
    ap (λ (o : Option String). viable_of (elim o as (λ x. Option Lead) [ some x ↦ some (the x) | none ↦ Viable.other_lead j ]) t) n
    ∙ ap (λ (q : List ℕ). cond (whole q) (common q t) zero) r.spelled

-- numbers
abbrev bound_lead : ℕ → Option ℕ → Option Lead
bound_lead c (some b) = some (up_to b)
bound_lead c none = lead_of c

bounds-lead : listing (λ c. bound_lead c (bound_from 68 bounds c)) 0 76 ≡ listing (λ c. lead_of c) 0 76
unfolding Rows.opened Classes.opened Viable.opened listing
bounds-lead = refl

number-viable : (c b : ℕ) (t : Token) → c < 76 → bound_from 68 bounds c ≡ some b → viable_class c t ≡ digits_up_to b 0 t
unfolding viable_class viable_of viable_by
number-viable c b t h e =
    ap (λ (o : Option Lead). viable_of o t) (sym (listed (λ x. bound_lead x (bound_from 68 bounds x)) (λ x. lead_of x) 76 none bounds-lead c h) ∙ ap (bound_lead c) e)

digits_more : (b n m : ℕ) (t : Token) → b ≤ n → digits_up_to b m t ≤ digits_up_to n m t
unfolding digits_up_to
digits_more b n m [] h = omega arith
digits_more b n m (x ∷ t) h = go (is_digit x) (leb k b) refl (digits_more b n k t h)
  where
    k : ℕ
    k = m * 10 + (x - 48)

    go : (d e : Bool) → leb k b ≡ e → digits_up_to b k t ≤ digits_up_to n k t → cond (d && e) (suc (digits_up_to b k t)) zero ≤ cond (d && leb k n) (suc (digits_up_to n k t)) zero
    go true true f g = rw (le-leb k n (omega (arith, leb-true k b f))) (omega arith)
    go true false f g = omega arith
    go false e f g = omega arith

-- the classes of names and decimals
name-viable : (t : Token) → viable_class 67 t ≡ viable_by name t
unfolding Rows.opened Classes.opened Viable.opened
name-viable t = refl

real-viable : (t : Token) → viable_class 74 t ≡ viable_by real t
unfolding Rows.opened Classes.opened Viable.opened
real-viable t = refl

-- a class that a lead takes is viable no further than the lead
literal-within : (w : String) (c : ℕ) (t : Token) (f : Found) → literal_from 0 literals (bytes w) ≡ f → is_literal f c ≡ true → viable_class c t ≤ viable_by (the w) t
unfolding is_literal
literal-within w c t (at j) g k =
    let z : viable_class c t ≡ viable_by (the w) t = ap (λ (x : ℕ). viable_class x t) (sym (eqb-true j c k)) ∙ literal-viable w t j g in
    omega arith
literal-within w c t nowhere g k = absurd (no_bool (sym k))

bound-within : (n c : ℕ) (t : Token) (o : Option ℕ) → c < 76 → bound_from 68 bounds c ≡ o → within_bound o n ≡ true → viable_class c t ≤ digits_up_to n 0 t
unfolding within_bound
bound-within n c t none h g k = absurd (no_bool (sym k))
bound-within n c t (some b) h g k =
    let z = number-viable c b t h g in
    omega (arith, z, digits_more b n 0 t (leb-true b n k))

pub class-within : (l : Lead) (c : ℕ) (t : Token) → c < 76 → accepts_class l c ≡ true → viable_class c t ≤ viable_by l t
unfolding accepts_class viable_by
class-within (the w) c t h e = literal-within w c t (literal_from 0 literals (bytes w)) refl e
class-within name c t h e =
    let z : viable_class c t ≡ viable_by name t = ap (λ (x : ℕ). viable_class x t) (eqb-true c 67 e) ∙ name-viable t in
    omega arith
class-within (up_to n) c t h e = bound-within n c t (bound_from 68 bounds c) h refl e
class-within real c t h e =
    let z : viable_class c t ≡ viable_by real t = ap (λ (x : ℕ). viable_class x t) (eqb-true c 74 e) ∙ real-viable t in
    omega arith

-- a class of the lead itself
pub record Own (l : Lead) (t : Token) : Type 0 where
  pub class : ℕ
  pub below : class < 76
  pub taken : accepts_class l class ≡ true
  pub viable : viable_class class t ≡ viable_by l t

literal-own : (w : String) (t : Token) (f : Found) → literal_from 0 literals (bytes w) ≡ f → is_found f && whole (bytes w) ≡ true → Own (the w) t
unfolding is_found accepts_class is_literal
literal-own w t (at j) g k =
    record { class = j; below = omega (arith, literals-number j (bytes w) g); taken = ap (λ (x : Found). is_literal x j) g ∙ eq-eqb j j refl; viable = literal-viable w t j g }
literal-own w t nowhere g k = absurd (no_bool (sym k))

-- the bounds, one by one
number-own : (n i : ℕ) (t : Token) → i < 76 → bound_from 68 bounds i ≡ some n → Own (up_to n) t
unfolding accepts_class within_bound viable_by
number-own n i t h e =
    record { class = i; below = h; taken = ap (λ (o : Option ℕ). within_bound o n) e ∙ le-leb n n (omega arith); viable = number-viable i n t h e }

or_step : (x y : Bool) {A : Type 0} → (x ≡ true → A) → (y ≡ true → A) → x || y ≡ true → A
or_step true y f g h = f refl
or_step false y f g h = g h

bounds-own : (n : ℕ) (t : Token) → met n bounds ≡ true → Own (up_to n) t
unfolding met bounds bound_from
bounds-own n t h =
    or_step (eqb n 65534) _ (own 68 65534 (omega arith) refl) (or_step (eqb n 65535) _ (own 69 65535 (omega arith) refl) (or_step (eqb n 999999999999999) _ (own 70 999999999999999 (omega arith) refl) (or_step (eqb n 9218868437227405311) _ (own 71 9218868437227405311 (omega arith) refl) (or_step (eqb n 9223372036854775807) _ (own 72 9223372036854775807 (omega arith) refl) (or_step (eqb n 9223372036854775808) _ (own 73 9223372036854775808 (omega arith) refl) (λ e. absurd (no_bool (sym e))))))))
    h
  where
    own : (i b : ℕ) → i < 76 → bound_from 68 bounds i ≡ some b → eqb n b ≡ true → Own (up_to n) t
    own i b l e g = number-own n i t l (e ∙ ap some (sym (eqb-true n b g)))

pub lead-own : (l : Lead) (t : Token) → known_lead l ≡ true → Own l t
unfolding known_lead accepts_class
lead-own (the w) t h = literal-own w t (literal_from 0 literals (bytes w)) refl h
lead-own name t h = record { class = 67; below = omega arith; taken = refl; viable = name-viable t }
lead-own (up_to n) t h = bounds-own n t h
lead-own real t h = record { class = 74; below = omega arith; taken = refl; viable = real-viable t }

unfoldable pub any_takes : List (Row Sort Saying) → ℕ → Bool
any_takes [] c = false
any_takes (x ∷ rs) c = accepts_class x.lead c || any_takes rs c

or-first : (x y : Bool) → x ≡ true → x || y ≡ true
or-first x y h = rw h

or-second : (x y : Bool) → y ≡ true → x || y ≡ true
or-second true y h = refl
or-second false y h = h

and_first : (x y z : Bool) → (x && y) && z ≡ true → x ≡ true
and_first true y z h = refl
and_first false y z h = h

and_last : (x y z : Bool) → (x && y) && z ≡ true → z ≡ true
and_last true true z h = h
and_last true false z h = absurd (no_bool (sym h))
and_last false y z h = absurd (no_bool (sym h))

-- the rows of a sort: every class that they take, and no further
pub rows-within : (rs : List (Row Sort Saying)) (c : ℕ) (t : Token) (r : Row Sort Saying) → c < 76 → pick_class rs c ≡ some r → viable_class c t ≤ viable_by_rows rs t
unfolding pick_class viable_by_rows
rows-within [] c t r h e = absurd (let z : ◌≡◌ {A = ℕ} 0 1 = cc in omega arith)
rows-within (x ∷ rs) c t r h e = go (accepts_class x.lead c) refl e (rows-within rs c t r h)
  where
    go : (b : Bool) → accepts_class x.lead c ≡ b → (elim b as (λ y. Option (Row Sort Saying)) [ true ↦ some x | false ↦ pick_class rs c ]) ≡ some r
        → (pick_class rs c ≡ some r → viable_class c t ≤ viable_by_rows rs t) → viable_class c t ≤ max (viable_by x.lead t) (viable_by_rows rs t)
    go true g k f = omega (arith, class-within x.lead c t h g)
    go false g k f = let m = f k in omega arith

-- what bounds every class that the rows take bounds the rows
pub rows-most : (rs : List (Row Sort Saying)) (t : Token) (n : ℕ) → all_known rs ≡ true
    → ((c : ℕ) → c < 76 → any_takes rs c ≡ true → viable_class c t ≤ n) → viable_by_rows rs t ≤ n
unfolding all_known any_takes viable_by_rows
rows-most [] t n k f = omega arith
rows-most (x ∷ rs) t n k f =
    let o = lead-own x.lead t (and_first (known_lead x.lead) _ _ k) in
    let a = f o.class o.below (or-first (accepts_class x.lead o.class) (any_takes rs o.class) o.taken) in
    let b = rows-most rs t n (and_last (known_lead x.lead) _ _ k) (λ c h e. f c h (or-second (accepts_class x.lead c) (any_takes rs c) e)) in
    omega (arith, a, b, o.viable)

-- a row is picked where one takes the class
pub picks-some : (rs : List (Row Sort Saying)) (c : ℕ) → any_takes rs c ≡ true → pick_class rs c ≡ none → ⊥
unfolding any_takes pick_class
picks-some [] c h e = no_bool (sym h)
picks-some (x ∷ rs) c h e = go (accepts_class x.lead c) h e (picks-some rs c)
  where
    go : (b : Bool) → b || any_takes rs c ≡ true → ◌≡◌ {A = Option (Row Sort Saying)} (elim b as (λ y. Option (Row Sort Saying)) [ true ↦ some x | false ↦ pick_class rs c ]) none
        → (any_takes rs c ≡ true → pick_class rs c ≡ none → ⊥) → ⊥
    go true g k f = let z : ◌≡◌ {A = ℕ} 0 1 = cc in omega arith
    go false g k f = f g k
