-- Operators end, parentheses open and close: what stands in the array, and what an expression's reader knows.
use Prim.Native.Nat.{ℕ, zero, suc, ◌+◌, ◌-◌, ◌*◌, ◌≤◌, ◌<◌, ◌%◌}
use mathlib.Core.Path.{◌≡◌, refl, sym, ◌∙◌, ap, subst}
use mathlib.Core.Bool.{Bool, true, false}
use mathlib.Core.List.{List, [], ◌∷◌}
use native.Mathlib.Omega.{arith}
use lib.Dec.{eqb}
use borrow.Author.Tests.{eqb-true, eqb-false}
use lib.ListN.{length, get_or, set, length-set}
use lib.Seq.{get_or-set_same}
use Rattle.grammar.specs.Table.{Said}
use Rattle.notation.specs.Sayings.{Operator, Saying, closes, ends}
use Rattle.notation.specs.Phrases.{Sayings}
use Rattle.notation.specs.Draft.{Entry, Mentioned, Pending, prefix, paren, infix'}
use Rattle.notation.specs.Hearing.{hear_all}
use Rattle.recognise.specs.declared.Cursor.{Cursor}
use Rattle.build.specs.Flow as Flow
use Rattle.build.specs.Flow.{After, binding, code_of, of_operator}
use Rattle.build.specs.Standing.{Scene, Fair, within, parens, Still}
use Rattle.build.specs.Known.{Tables, Known}
use Rattle.build.specs.Operators.{Binds}
use Rattle.build.specs.Steps.{Stepped, Due, Past, Emits, Leaves}
use Rattle.build.specs.Pendings.{opens, operators, Lefts, Kept, none, not, operator, places, DueBy, MetBy, PastBy, Held, empty, group, weaker, Weighs, EndsOne, Pushed, Lowered, Keeps}
use Rattle.build.proofs.Climbing.{met, group-due, not-due, closes-past, past-binds, operator-due, operator-past, not-past, at_code, code-closes, code-ends, operates-code}
use Rattle.build.proofs.Ending.{still-nothing, still-group, still-operator, still-not}
use Rattle.build.proofs.Numbers.{operator-range}
use Rattle.build.proofs.Runs.{met_at, past-at}
use Rattle.build.proofs.Burden.{burden-grows}
use Rattle.build.proofs.PendingLaws.{kept-open, kept-close, kept-not, kept-operator, pushed-length, kept-many, nest-few, before-opens}

-- ---- left operands
lefts-more : (n m : ℕ) (ps : List Pending) → n ≤ m → Lefts n ps → Lefts m ps
unfolding Lefts
lefts-more n m [] h l = tt
lefts-more n m (paren ∷ ps) h l = lefts-more n m ps h l
lefts-more n m (prefix ∷ ps) h l = lefts-more n m ps h l
lefts-more n m (infix' o a ∷ ps) h l = (omega (arith, l.0), lefts-more n m ps h l.1)

code-byte : (o : Operator) (n : ℕ) → n ≡ of_operator o → n % 256 ≡ of_operator o
code-byte o n e = omega (arith, operator-range o)

pub emits-last : (base n a : ℕ) (image : List ℕ) (r : ℕ) (after : List ℕ) → a ≡ n - 1 → Emits base n 6 0 a 0 0 image r after → Emits base n 6 0 (n - 1) 0 0 image r after
emits-last base n a image r after e h = subst (λ x. Emits base n 6 0 x 0 0 image r after) e h

-- ---- one operator ends
module _ (u : List ℕ) (s : Scene) (node base size : ℕ) (c : Cursor) (a : List ℕ) (t n k m r : ℕ) (image after : List ℕ) (f : Fair s node base) (b : Binds c.says k)
    (w : Weighs (get_or a (3 * suc t) 0 % 256) r) (h : k ≤ r) (ends : EndsOne base n (get_or a (3 * suc t) 0 % 256) (get_or a (3 * suc t + 1) 0) image m after) where
  ended-not : (ps : List Pending) → get_or a (3 * suc t) 0 ≡ 79 → Kept a t ps → Lefts n ps → Past u s base (opens ps) (prefix ∷ ps) size c n image → PastBy u s base a t size c m after × (n ≤ m)
  ended-not ps e k' l p =
      let z : get_or a (3 * suc t) 0 % 256 ≡ 79 = omega arith in
      let x = not-past u s base (opens ps) ps size node n m c image after f p (omega (arith, past-binds u s base (opens ps) (prefix ∷ ps) size c n k image p b, w.not z)) (ends.0 z) in
      (record { pending = ps; kept = k'; lefts = lefts-more n m ps (omega (arith, x.1)) l; past = x.0 }, omega (arith, x.1))

  ended-operator : (ps : List Pending) (o : Operator) → get_or a (3 * suc t) 0 ≡ of_operator o → Kept a t ps → (get_or a (3 * suc t + 1) 0 < n) × Lefts n ps → Past u s base (opens ps) (infix' o (get_or a (3 * suc t + 1) 0) ∷ ps) size c n image
      → PastBy u s base a t size c m after × (n ≤ m)
  ended-operator ps o e k' l p =
      let z = code-byte o (get_or a (3 * suc t) 0) e in
      let first : ℕ = get_or a (3 * suc t + 1) 0 in
      let x = operator-past u s base (opens ps) ps size node first n m o c image after f p (omega (arith, past-binds u s base (opens ps) (infix' o first ∷ ps) size c n k image p b, w.tells o z)) l.0
      (λ es sd q few. ends.1 (λ y. omega (arith, z, operator-range o)) s es o f.room f.low sd q few z) in
      (record { pending = ps; kept = k'; lefts = lefts-more n m ps (omega (arith, x.1)) l.1; past = x.0 }, omega (arith, x.1))

  pub ended-one : get_or a (3 * suc t + 2) 0 ≡ 0 → PastBy u s base a (suc t) size c n image → PastBy u s base a t size c m after × (n ≤ m)
  unfolding parens Lefts opens
  ended-one e x = by x.pending x.kept x.lefts x.past
    where
      by : (ps : List Pending) → Kept a (suc t) ps → Lefts n ps → Past u s base (opens ps) ps size c n image → PastBy u s base a t size c m after × (n ≤ m)
      by _ (not {ps = qs} g k') l p =
          let q : parens (get_or a (3 * suc t + 2) 0) (prefix ∷ qs) ≡ prefix ∷ qs = ap (λ y. parens y (prefix ∷ qs)) e in
          ended-not qs g k' (subst (Lefts n) q l) (subst (λ y. Past u s base (opens y) y size c n image) q p)
      by _ (operator {ps = qs} o g k') l p =
          let q : parens (get_or a (3 * suc t + 2) 0) (infix' o (get_or a (3 * suc t + 1) 0) ∷ qs) ≡ infix' o (get_or a (3 * suc t + 1) 0) ∷ qs = ap (λ y. parens y (infix' o (get_or a (3 * suc t + 1) 0) ∷ qs)) e in
          ended-operator qs o g k' (subst (Lefts n) q l) (subst (λ y. Past u s base (opens y) y size c n image) q p)

pub ended_at : (u : List ℕ) (s : Scene) (node base size : ℕ) (c : Cursor) (a : List ℕ) (t n k m r : ℕ) (image after : List ℕ) → Fair s node base → Binds c.says k → 0 < t → Weighs (get_or a (3 * t) 0 % 256) r → k ≤ r
    → EndsOne base n (get_or a (3 * t) 0 % 256) (get_or a (3 * t + 1) 0) image m after → get_or a (3 * t + 2) 0 ≡ 0 → PastBy u s base a t size c n image → PastBy u s base a (t - 1) size c m after × (n ≤ m)
ended_at u s node base size c a zero n k m r image after f b z w h v e x = absurd (omega arith)
ended_at u s node base size c a (suc t) n k m r image after f b z w h v e x =
    let y : t ≡ suc t - 1 = omega arith in
    subst (λ i. PastBy u s base a i size c m after × (n ≤ m)) y (ended-one u s node base size c a t n k m r image after f b w h v e x)

-- ---- what is kept does not end
pub held-weaker : (a : List ℕ) (k t r : ℕ) → 0 < t → Weighs (get_or a (3 * t) 0 % 256) r → r < k → Held a k t
held-weaker a k zero r z w h = absurd (omega arith)
held-weaker a k (suc t) r z w h = weaker w h

pub held_none : (a : List ℕ) (k t : ℕ) → t ≡ 0 → Held a k t
held_none a k t e = subst (Held a k) (sym e) empty

held-still : (a : List ℕ) (k t : ℕ) (ps : List Pending) → Kept a t ps → Held a k t → Still k ps
held-still a k t ps x h = by t ps x h
  where
    nested : (n : ℕ) (qs : List Pending) → (n ≡ 0 → Still k qs) → Still k (parens n qs)
    nested n qs f = go n f
      where
        go : (n : ℕ) → (n ≡ 0 → Still k qs) → Still k (parens n qs)
        go zero f = unfold parens in f refl
        go (suc n) f = unfold parens in still-group k (parens n qs)

    by : (t : ℕ) (ps : List Pending) → Kept a t ps → Held a k t → Still k ps
    by _ _ none h = nested (get_or a 2 0) [] (λ e. still-nothing k)
    by _ _ (not {t} {ps} e x) (group g) = nested (get_or a (3 * suc t + 2) 0) (prefix ∷ ps) (λ z. absurd (g z))
    by _ _ (not {t} {ps} e x) (weaker w l) = nested (get_or a (3 * suc t + 2) 0) (prefix ∷ ps) (λ z. let q : get_or a (3 * suc t) 0 % 256 ≡ 79 = omega arith in still-not k ps (omega (arith, w.not q)))
    by _ _ (operator {t} {ps} o e x) (group g) = nested (get_or a (3 * suc t + 2) 0) (infix' o (get_or a (3 * suc t + 1) 0) ∷ ps) (λ z. absurd (g z))
    by _ _ (operator {t} {ps} o e x) (weaker w l) = nested (get_or a (3 * suc t + 2) 0) (infix' o (get_or a (3 * suc t + 1) 0) ∷ ps) (λ z. still-operator k o (get_or a (3 * suc t + 1) 0) ps (omega (arith, w.tells o (code-byte o (get_or a (3 * suc t) 0) e))))

-- nothing at all is kept where every operator would end and no parenthesis is open
held-empty : (a : List ℕ) (t : ℕ) (ps : List Pending) → Kept a t ps → Held a 0 t → get_or a (3 * t + 2) 0 ≡ 0 → (t ≡ 0) × (ps ≡ [])
unfolding parens
held-empty a _ _ none h e = (refl, ap (λ n. parens n []) e)
held-empty a _ _ (not k x) (group g) e = absurd (g e)
held-empty a _ _ (not k x) (weaker w l) e = absurd (omega arith)
held-empty a _ _ (operator o k x) (group g) e = absurd (g e)
held-empty a _ _ (operator o k x) (weaker w l) e = absurd (omega arith)

-- ---- how many operators there can be
few-pending : (s : Scene) (l : Sayings) (es : List Entry) (ps : List Pending) (ms : List Mentioned) → hear_all l (within s.start es ms ps) ≡ s.whole → s.whole.pending ≡ [] → length s.whole.entries ≤ 2048 → operators ps ≤ 2048
unfolding operators
few-pending s l es ps ms e f h = omega (arith, burden-grows l (within s.start es ms ps), ap (λ d. length d.entries) e, ap (λ d. operators d.pending) e, ap operators f)

-- ---- the steps
module _ (u : List ℕ) (s : Scene) (node base : ℕ) (f : Fair s node base) (rest : s.whole.pending ≡ []) (a : List ℕ) (z : length a ≡ places) where
  pub top-few : (top size : ℕ) (c : Cursor) (count : ℕ) (image : List ℕ) → PastBy u s base a top size c count image → top ≤ 2048
  top-few top size c count image x = omega (arith, kept-many a top x.pending x.kept, few-pending s (x.past.next ∷ x.past.later) x.past.entries x.pending x.past.mentioned x.past.leads rest f.few)

  pub due-few : (top size : ℕ) (c : Cursor) (count : ℕ) (image : List ℕ) → DueBy u s base a top size c count image → top ≤ 2048
  due-few top size c count image x = omega (arith, kept-many a top x.pending x.kept, few-pending s x.due.later x.due.entries x.pending x.due.mentioned x.due.leads rest f.few)

  pub met-few : (top size : ℕ) (c : Cursor) (count : ℕ) (image : List ℕ) → MetBy u s base a top size c count image → top ≤ 2048
  met-few top size c count image x = omega (arith, kept-many a top x.pending x.kept, few-pending s (x.met.next ∷ x.met.later) x.met.entries x.pending x.met.mentioned x.met.leads rest f.few)

  -- the operand's first saying
  pub due-met : (top size : ℕ) (c r : Cursor) (count : ℕ) (image : List ℕ) → DueBy u s base a top size c count image → Stepped u c r → MetBy u s base a top size r count image
  due-met top size c r count image x st = record { pending = x.pending; kept = x.kept; lefts = x.lefts; met = met u s base (opens x.pending) x.pending size c r count image x.due st }

  -- "("
  pub met-nest : (top size : ℕ) (c : Cursor) (count : ℕ) (image : List ℕ) → MetBy u s base a top size c count image → get_or a (3 * top + 2) 0 < size
  met-nest top size c count image x = omega (arith, nest-few a top x.pending x.kept, before-opens x.met.before, x.met.short)

  pub met-opens : (top size : ℕ) (c : Cursor) (count : ℕ) (image : List ℕ) → MetBy u s base a top size c count image → c.says ≡ 91
      → DueBy u s base (set a (3 * top + 2) (get_or a (3 * top + 2) 0 + 1)) top (size - 1) c count image
  unfolding Lefts opens
  met-opens top size c count image x e =
      record {
        pending = paren ∷ x.pending;
        kept = kept-open a top x.pending (omega (arith, met-few top size c count image x)) x.kept;
        lefts = x.lefts;
        due = group-due u s base (opens x.pending) x.pending size c count image x.met e;
      }

  -- NOT
  pub met-not : (top size : ℕ) (c : Cursor) (count : ℕ) (image : List ℕ) → MetBy u s base a top size c count image → c.says ≡ 79
      → (top < 2048) × DueBy u s base (set (set (set a (3 * (top + 1)) 79) (3 * (top + 1) + 1) 0) (3 * (top + 1) + 2) 0) (top + 1) (size - 1) c count image
  unfolding Lefts opens operators
  met-not top size c count image x e =
      let d = not-due u s base (opens x.pending) x.pending size c count image x.met e in
      let h : top < 2048 = omega (arith, kept-many a top x.pending x.kept, few-pending s d.later d.entries (prefix ∷ x.pending) d.mentioned d.leads rest f.few) in
      let one : suc top ≡ top + 1 = omega arith in (
        h,
        record {
          pending = prefix ∷ x.pending;
          kept = subst (λ t. Kept (set (set (set a (3 * (top + 1)) 79) (3 * (top + 1) + 1) 0) (3 * (top + 1) + 2) 0) t (prefix ∷ x.pending)) one (kept-not a top 79 0 (omega arith) x.pending refl x.kept);
          lefts = x.lefts;
          due = d;
        },
      )

  -- ")"
  pub past-closes : (top size k : ℕ) (c r : Cursor) (count : ℕ) (image : List ℕ) → PastBy u s base a top size c count image → Binds c.says k → Held a k top → c.says ≡ 92 → Stepped u c r
      → PastBy u s base (set a (3 * top + 2) (get_or a (3 * top + 2) 0 - 1)) top (size - 1) r count image
  unfolding Lefts opens
  past-closes top size k c r count image x b h e st =
      let zero-k : k ≡ 0 = b.none (omega arith) in
      let q = kept-close a top x.pending (omega (arith, top-few top size c count image x)) (λ y. none_open y zero-k) x.kept in
      record {
        pending = q.0;
        kept = q.2;
        lefts = subst (Lefts count) q.1 x.lefts;
        past = closes-past u s base (opens q.0) q.0 size c r count image (subst (λ y. Past u s base (opens y) y size c count image) q.1 x.past) e st;
      }
    where
      not-closed : {w : Said Saying} {l m : Sayings} → After 0 (w ∷ l) m → code_of w.what ≡ 92 → ⊥
      not-closed {w} (Flow.operator o g y) i = omega (arith, operates-code w o g, operator-range o)
      not-closed {w} (Flow.ending g) i = omega (arith, at_code w ends 93 g code-ends)

      none_open : get_or a (3 * top + 2) 0 ≡ 0 → k ≡ 0 → ⊥
      none_open y i =
          let g = held-empty a top x.pending x.kept (subst (λ j. Held a j top) i h) y in
          let p = subst (λ ps. Past u s base (opens ps) ps size c count image) g.1 x.past in
          not-closed p.after (sym p.code ∙ e)

  -- the operator that is said next is kept
  pub past-operates : (top size k : ℕ) (c : Cursor) (count : ℕ) (image : List ℕ) → PastBy u s base a top size c count image → Binds c.says k → Held a k top → c.says ≤ 90 → 0 < count
      → (top < 2048) × DueBy u s base (set (set (set a (3 * (top + 1)) c.says) (3 * (top + 1) + 1) (count - 1)) (3 * (top + 1) + 2) 0) (top + 1) (size - 1) c count image
  unfolding Lefts opens operators
  past-operates top size k c count image x b h low some =
      let y = operator-due u s base (opens x.pending) x.pending size c count k image x.past low (held-still a k top x.pending x.kept h) (omega (arith, past-binds u s base (opens x.pending) x.pending size c count k image x.past b)) in
      let o = y.0 in
      let d = y.3 in
      let g : top < 2048 = omega (arith, kept-many a top x.pending x.kept, few-pending s d.later d.entries (infix' o (count - 1) ∷ x.pending) d.mentioned d.leads rest f.few) in
      let one : suc top ≡ top + 1 = omega arith in (
        g,
        record {
          pending = infix' o (count - 1) ∷ x.pending;
          kept = subst (λ t. Kept (set (set (set a (3 * (top + 1)) c.says) (3 * (top + 1) + 1) (count - 1)) (3 * (top + 1) + 2) 0) t (infix' o (count - 1) ∷ x.pending)) one (kept-operator a top c.says (count - 1) (omega arith) x.pending o y.1 x.kept);
          lefts = (omega arith, x.lefts);
          due = d;
        },
      )

  -- the end of the expression
  pub past-ends : (top size k : ℕ) (c : Cursor) (count : ℕ) (image : List ℕ) → PastBy u s base a top size c count image → Binds c.says k → Held a k top → 90 < c.says → (c.says ≡ 92 → ⊥)
      → (p : Past u s base 0 [] size c count image) × (binding p.next.what < 1)
  unfolding opens
  past-ends top size k c count image x b h lo n92 =
      let zero-k : k ≡ 0 = b.none lo in
      let shut : opens x.pending ≡ 0 = all-shut x.past.after in
      let q = held-empty a top x.pending x.kept (subst (λ j. Held a j top) zero-k h) (omega (arith, nest-few a top x.pending x.kept)) in
      let p = subst (λ ps. Past u s base (opens ps) ps size c count image) q.1 x.past in
      (p, omega (arith, past-binds u s base 0 [] size c count k image p b))
    where
      all-shut : {m : ℕ} {l j : Sayings} → After m (x.past.next ∷ l) j → m ≡ 0
      all-shut (Flow.closing e y) = absurd (n92 (x.past.code ∙ at_code x.past.next closes 92 e code-closes))
      all-shut (Flow.operator o e y) = absurd (omega (arith, x.past.code, operates-code x.past.next o e, operator-range o))
      all-shut (Flow.ending e) = refl

-- with more left than there may be
pub met-by-on : {u : List ℕ} {s : Scene} {base : ℕ} {a : List ℕ} {top size sizes : ℕ} {at : Cursor} {count : ℕ} {image : List ℕ} → size ≤ sizes → MetBy u s base a top size at count image → MetBy u s base a top sizes at count image
met-by-on {u} {s} {base} {a} {top} {size} {sizes} {at} {count} {image} h x = record { pending = x.pending; kept = x.kept; lefts = x.lefts; met = met_at u s base at count image _ _ _ _ size sizes refl refl h x.met }

pub past-by-on : {u : List ℕ} {s : Scene} {base : ℕ} {a : List ℕ} {top size sizes : ℕ} {at : Cursor} {count : ℕ} {image : List ℕ} → size ≤ sizes → PastBy u s base a top size at count image → PastBy u s base a top sizes at count image
past-by-on {u} {s} {base} {a} {top} {size} {sizes} {at} {count} {image} h x = record { pending = x.pending; kept = x.kept; lefts = x.lefts; past = past-at u s base at count image _ _ _ _ size sizes refl refl h x.past }

-- "(" or NOT is kept
pub met-kept : (u : List ℕ) (s : Scene) (node base : ℕ) (a b : List ℕ) (top size r left : ℕ) (c : Cursor) (count : ℕ) (image : List ℕ) → Fair s node base → s.whole.pending ≡ [] → length a ≡ places → size ≤ left → left < 18446744073709551616
    → MetBy u s base a top size c count image → ((c.says ≡ 91 → ⊥) → c.says ≡ 79) → Keeps a top c.says r b → DueBy u s base b r (size - 1) c count image × (length b ≡ places)
met-kept u s node base a b top size r left c count image f rest z h m x p k = by (eqb c.says 91) refl
  where
    by : (t : Bool) → eqb c.says 91 ≡ t → DueBy u s base b r (size - 1) c count image × (length b ≡ places)
    by true e =
        let y = k.0 (eqb-true c.says 91 e) in
        let q : b ≡ set a (3 * top + 2) (get_or a (3 * top + 2) 0 + 1) = y.0 z (met-few u s node base f rest a z top size c count image x) (omega (arith, met-nest u s node base f rest a z top size c count image x)) in (
          subst (λ i. DueBy u s base b i (size - 1) c count image) (sym y.1) (subst (λ i. DueBy u s base i top (size - 1) c count image) (sym q) (met-opens u s node base f rest a z top size c count image x (eqb-true c.says 91 e))),
          ap length q ∙ length-set a (3 * top + 2) (get_or a (3 * top + 2) 0 + 1) ∙ z,
        )
    by false e =
        let y = met-not u s node base f rest a z top size c count image x (p (eqb-false c.says 91 e)) in
        let q = k.1 (eqb-false c.says 91 e) z y.0 in (
          subst (λ i. DueBy u s base b i (size - 1) c count image) (sym q.0) (subst (λ i. DueBy u s base i (top + 1) (size - 1) c count image) (sym q.1) y.1),
          ap length q.1 ∙ pushed-length a top 79 0 (omega (arith, y.0)) ∙ z,
        )

-- ")" closes
pub past-lowered : (u : List ℕ) (s : Scene) (node base : ℕ) (a b : List ℕ) (top size k : ℕ) (c r : Cursor) (count : ℕ) (image : List ℕ) → Fair s node base → s.whole.pending ≡ [] → length a ≡ places → PastBy u s base a top size c count image
    → Binds c.says k → Held a k top → c.says ≡ 92 → Lowered a top b → Stepped u c r → PastBy u s base b top (size - 1) r count image × (length b ≡ places)
past-lowered u s node base a b top size k c r count image f rest z x e h y low st =
    let q : b ≡ set a (3 * top + 2) (get_or a (3 * top + 2) 0 - 1) = low z (top-few u s node base f rest a z top size c count image x) in (
      subst (λ i. PastBy u s base i top (size - 1) r count image) (sym q) (past-closes u s node base f rest a z top size k c r count image x e h y st),
      ap length q ∙ length-set a (3 * top + 2) (get_or a (3 * top + 2) 0 - 1) ∙ z,
    )

-- the operator that is said next is kept
pub past-pushed : (u : List ℕ) (s : Scene) (node base : ℕ) (a b : List ℕ) (top up size k first : ℕ) (c : Cursor) (count : ℕ) (image : List ℕ) → Fair s node base → s.whole.pending ≡ [] → length a ≡ places → PastBy u s base a top size c count image
    → Binds c.says k → Held a k top → c.says ≤ 90 → 0 < count → first ≡ count - 1 → Pushed a top c.says first up b → DueBy u s base b up (size - 1) c count image × (length b ≡ places)
past-pushed u s node base a b top up size k first c count image f rest z x e h low some g p =
    let y = past-operates u s node base f rest a z top size k c count image x e h low some in
    let q = subst (λ i. Pushed a top c.says i up b) g p z y.0 in (
      subst (λ i. DueBy u s base b i (size - 1) c count image) (sym q.0) (subst (λ i. DueBy u s base i (top + 1) (size - 1) c count image) (sym q.1) y.1),
      ap length q.1 ∙ pushed-length a top c.says (count - 1) (omega (arith, y.0)) ∙ z,
    )

-- ---- an expression
pub due-by-on : {u : List ℕ} {s : Scene} {base : ℕ} {a : List ℕ} {top size sizes : ℕ} {at : Cursor} {count : ℕ} {image : List ℕ} → size ≤ sizes → DueBy u s base a top size at count image → DueBy u s base a top sizes at count image
due-by-on h x =
    let d = x.due in
    record { pending = x.pending; kept = x.kept; lefts = x.lefts; due = record { later = d.later; entries = d.entries; mentioned = d.mentioned; hears = d.hears; before = d.before; leads = d.leads; stands = d.stands; short = omega (arith, d.short) } }

pub first-length : (a : List ℕ) → length a ≡ places → length (set a 2 0) ≡ places
first-length a z = length-set a 2 0 ∙ z

-- nothing is pending where it begins
pub due-first : {u : List ℕ} {s : Scene} {base : ℕ} {size : ℕ} {at : Cursor} {count : ℕ} {image : List ℕ} (a : List ℕ) → length a ≡ places → Due u s base 0 [] size at count image → DueBy u s base (set a 2 0) 0 size at count image
unfolding parens Lefts opens
due-first a z d = record { pending = []; kept = subst (λ n. Kept (set a 2 0) 0 (parens n [])) (get_or-set_same a 2 0 0 (omega arith)) none; lefts = tt; due = d }

-- an operand is read
pub operand_read : {u : List ℕ} {s : Scene} {base : ℕ} {a : List ℕ} {top size : ℕ} {c r : Cursor} {count many : ℕ} {image after : List ℕ} (t : Tables) (node left : ℕ) → Known u s.whole t → Fair s node base → size ≤ left
    → MetBy u s base a top size c count image → (c.says ≡ 91 → ⊥) → (c.says ≡ 79 → ⊥) → Leaves u t node base left c count image r many after → PastBy u s base a top size r many after × (count < many)
operand_read {s = s} {size = size} {count = count} {many = many} t node left k f h x p q reads =
    let y = reads s (opens x.pending) x.pending size k f h p q x.met in
    (record { pending = x.pending; kept = x.kept; lefts = lefts-more count many x.pending (omega (arith, y.1)) x.lefts; past = y.0 }, y.1)
