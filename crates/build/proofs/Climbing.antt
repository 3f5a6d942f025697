-- The steps of a reader of expressions.
use Prim.Native.Nat.{ℕ, suc, ◌-◌, ◌≤◌, ◌<◌}
use mathlib.Core.Path.{◌≡◌, refl, sym, ◌∙◌, ap}
use mathlib.Core.Bool.{true, false}
use mathlib.Core.List.{List, [], ◌∷◌, ◌++◌}
use native.Mathlib.Omega.{arith}
use lib.ListN.{length, length-append}
use Rattle.grammar.specs.Table.{Said}
use Rattle.notation.specs.Sayings.{boolean, integer, float, Operator, Saying, mentions, operates, negates, parenthesis, closes, ends}
use Rattle.notation.specs.Phrases.{Sayings, Says, Leaf, is-truth, is_whole, is-decimal, is-bits, is-unknown, is-lookup}
use Rattle.notation.specs.Draft.{Entry, negation, Pending, prefix, paren, infix'}
use Rattle.notation.specs.Hearing as Hearing
use Rattle.notation.specs.Hearing.{strength, made, last, ◌▸◌, hear, hear_all}
use Rattle.recognise.specs.declared.Cursor.{Cursor}
use Rattle.build.specs.Hearsay.{Hears}
use Rattle.build.specs.Flow as Flow
use Rattle.build.specs.Flow.{Before, After, binding, code_of, of_operator, of_kind, of_sign}
use Rattle.build.specs.Standing.{Scene, Fair, Stands, within, Still}
use Rattle.build.specs.Steps.{Stepped, Due, Met, Past, Emits}
use Rattle.plexil.specs.Assemble as Assemble
use Rattle.build.specs.Operators.{Binds}
use Rattle.build.proofs.Numbers.{operator-range, made-two}
use Rattle.build.proofs.EntryLaws.{length_more}
use Rattle.build.proofs.Ending.{operator-ends, not-ends}
use Rattle.build.proofs.Growth.{grows}
use Rattle.build.proofs.OperatorLaws.{negation-bytes}

-- ---- the numbers of what can be said
leaf-code : (x : Saying) → Leaf x → (31 ≤ code_of x) × (code_of x ≤ 42)
unfolding code_of of_sign of_kind
leaf-code _ (is-truth true) = (omega arith, omega arith)
leaf-code _ (is-truth false) = (omega arith, omega arith)
leaf-code _ (is_whole true) = (omega arith, omega arith)
leaf-code _ (is_whole false) = (omega arith, omega arith)
leaf-code _ (is-decimal true) = (omega arith, omega arith)
leaf-code _ (is-decimal false) = (omega arith, omega arith)
leaf-code _ (is-bits true) = (omega arith, omega arith)
leaf-code _ (is-bits false) = (omega arith, omega arith)
leaf-code _ (is-unknown boolean) = (omega arith, omega arith)
leaf-code _ (is-unknown integer) = (omega arith, omega arith)
leaf-code _ (is-unknown float) = (omega arith, omega arith)
leaf-code _ is-lookup = (omega arith, omega arith)

pub at_code : (w : Said Saying) (x : Saying) (n : ℕ) → Says w x → code_of x ≡ n → code_of w.what ≡ n
at_code w x n e f = ap code_of e ∙ f

code-mentions : code_of mentions ≡ 43
unfolding code_of
code-mentions = refl

code-negates : code_of negates ≡ 79
unfolding code_of
code-negates = refl

code-parenthesis : code_of parenthesis ≡ 91
unfolding code_of
code-parenthesis = refl

pub code-closes : code_of closes ≡ 92
unfolding code_of
code-closes = refl

pub code-ends : code_of ends ≡ 93
unfolding code_of
code-ends = refl

code-operates : (o : Operator) → code_of (operates o) ≡ of_operator o
unfolding code_of
code-operates o = refl

-- ---- what can be said before and after an operand
before-code : {n : ℕ} {w : Said Saying} {l k : Sayings} → Before n (w ∷ l) k → (31 ≤ code_of w.what) × (code_of w.what ≤ 91)
before-code {w = w} (Flow.leaf f a) = omega (arith, leaf-code w.what f)
before-code {w = w} (Flow.variable e a) = omega (arith, at_code w mentions 43 e code-mentions)
before-code {w = w} (Flow.path e p a) = omega (arith, at_code w mentions 43 e code-mentions)
before-code {w = w} (Flow.not e b) = omega (arith, at_code w negates 79 e code-negates)
before-code {w = w} (Flow.group e b) = omega (arith, at_code w parenthesis 91 e code-parenthesis)

before-some : {n : ℕ} {l k : Sayings} → Before n l k → 0 < length l
before-some (Flow.leaf f a) = omega arith
before-some (Flow.variable e a) = omega arith
before-some (Flow.path e p a) = omega arith
before-some (Flow.not e b) = omega arith
before-some (Flow.group e b) = omega arith

before-group : {n : ℕ} {w : Said Saying} {l k : Sayings} → Before n (w ∷ l) k → code_of w.what ≡ 91 → Says w parenthesis × Before (suc n) l k
before-group {w = w} (Flow.leaf f a) h = absurd (omega (arith, leaf-code w.what f))
before-group {w = w} (Flow.variable e a) h = absurd (omega (arith, at_code w mentions 43 e code-mentions))
before-group {w = w} (Flow.path e p a) h = absurd (omega (arith, at_code w mentions 43 e code-mentions))
before-group {w = w} (Flow.not e b) h = absurd (omega (arith, at_code w negates 79 e code-negates))
before-group {w = w} (Flow.group e b) h = (e, b)

before-not : {n : ℕ} {w : Said Saying} {l k : Sayings} → Before n (w ∷ l) k → code_of w.what ≡ 79 → Says w negates × Before n l k
before-not {w = w} (Flow.leaf f a) h = absurd (omega (arith, leaf-code w.what f))
before-not {w = w} (Flow.variable e a) h = absurd (omega (arith, at_code w mentions 43 e code-mentions))
before-not {w = w} (Flow.path e p a) h = absurd (omega (arith, at_code w mentions 43 e code-mentions))
before-not {w = w} (Flow.not e b) h = (e, b)
before-not {w = w} (Flow.group e b) h = absurd (omega (arith, at_code w parenthesis 91 e code-parenthesis))

pub operates-code : (w : Said Saying) (o : Operator) → Says w (operates o) → code_of w.what ≡ of_operator o
operates-code w o e = at_code w (operates o) (of_operator o) e (code-operates o)

pub after-code : {n : ℕ} {w : Said Saying} {l k : Sayings} → After n (w ∷ l) k → (80 ≤ code_of w.what) × (code_of w.what ≤ 93)
after-code {w = w} (Flow.closing e a) = omega (arith, at_code w closes 92 e code-closes)
after-code {w = w} (Flow.operator o e b) = omega (arith, operates-code w o e, operator-range o)
after-code {w = w} (Flow.ending e) = omega (arith, at_code w ends 93 e code-ends)

after-closes : {n : ℕ} {w : Said Saying} {l k : Sayings} → After (suc n) (w ∷ l) k → code_of w.what ≡ 92 → Says w closes × After n l k
after-closes (Flow.closing e a) h = (e, a)
after-closes {w = w} (Flow.operator o e b) h = absurd (omega (arith, operates-code w o e, operator-range o))

pub after-some : {n : ℕ} {l k : Sayings} → After n l k → 0 < length l
after-some (Flow.closing e a) = omega arith
after-some (Flow.operator o e b) = omega arith
after-some (Flow.ending e) = omega arith

-- an operator and what follows it
record Operation (n : ℕ) (w : Said Saying) (l k : Sayings) : Type 0 where
  o : Operator
  says : Says w (operates o)
  then : Before n l k

after-operator : {n : ℕ} {w : Said Saying} {l k : Sayings} → After n (w ∷ l) k → code_of w.what ≤ 90 → Operation n w l k
after-operator {w = w} (Flow.closing e a) h = absurd (omega (arith, at_code w closes 92 e code-closes))
after-operator {w = w} (Flow.operator o e b) h = record { o = o; says = e; then = b }
after-operator {w = w} (Flow.ending e) h = absurd (omega (arith, at_code w ends 93 e code-ends))

made_more : (es : List Entry) (o : Operator) (a b m : ℕ) → length es < length (es ++ made o a b m)
made_more es o a b m = omega (arith, length-append es (made o a b m), ap length (made-two o a b m))

after-binds : {n : ℕ} {l k : Sayings} (w : Said Saying) (r : ℕ) → After n (w ∷ l) k → Binds (code_of w.what) r → r ≡ binding w.what
unfolding binding
after-binds w r (Flow.closing e a) b = b.none (omega (arith, at_code w closes 92 e code-closes)) ∙ sym (ap binding e)
after-binds w r (Flow.operator o e a) b = b.tells o (operates-code w o e) ∙ sym (ap binding e)
after-binds w r (Flow.ending e) b = b.none (omega (arith, at_code w ends 93 e code-ends)) ∙ sym (ap binding e)

-- ---- steps
module _ (u : List ℕ) (s : Scene) (base n : ℕ) (ps : List Pending) (size : ℕ) where
  pub met : (c r : Cursor) (count : ℕ) (image : List ℕ) → Due u s base n ps size c count image → Stepped u c r → Met u s base n ps size r count image
  met c r count image d t = go d.later d.before d.hears d.leads d.short
    where
      go : (l : Sayings) → Before n l s.rest → Hears u c l → hear_all l (within s.start d.entries d.mentioned ps) ≡ s.whole → length l ≤ size → Met u s base n ps size r count image
      go [] b h e m = absurd (omega (arith, before-some b))
      go (w ∷ l) b h e m =
          let step = t.more w l h (omega (arith, before-code b)) in
          record { next = w; later = l; entries = d.entries; mentioned = d.mentioned; heard = step.0; code = step.2; hears = step.1; before = b; leads = e; stands = d.stands; short = omega arith }

  pub group-due : (c : Cursor) (count : ℕ) (image : List ℕ) → Met u s base n ps size c count image → c.says ≡ 91 → Due u s base (suc n) (paren ∷ ps) (size - 1) c count image
  unfolding hear_all hear
  group-due c count image m e =
      let b = before-group m.before (sym m.code ∙ e) in
      record { later = m.later; entries = m.entries; mentioned = m.mentioned; hears = m.hears; before = b.1; leads = rw b.0 at m.leads; stands = m.stands; short = omega (arith, m.short) }

  pub not-due : (c : Cursor) (count : ℕ) (image : List ℕ) → Met u s base n ps size c count image → c.says ≡ 79 → Due u s base n (prefix ∷ ps) (size - 1) c count image
  unfolding hear_all hear
  not-due c count image m e =
      let b = before-not m.before (sym m.code ∙ e) in
      record { later = m.later; entries = m.entries; mentioned = m.mentioned; hears = m.hears; before = b.1; leads = rw b.0 at m.leads; stands = m.stands; short = omega (arith, m.short) }

  -- an operator that is taken
  pub operator-due : (c : Cursor) (count k : ℕ) (image : List ℕ) (p : Past u s base n ps size c count image) → c.says ≤ 90 → Still k ps → k ≤ binding p.next.what
      → (o : Operator) × (c.says ≡ of_operator o) × (binding p.next.what ≡ strength o) × Due u s base n (infix' o (count - 1) ∷ ps) (size - 1) c count image
  unfolding hear_all hear binding Hearing.end_operators Hearing.settled Hearing.settle_name last
  operator-due c count k image p h st q =
      let x = after-operator p.after (omega (arith, p.code)) in
      let b : binding p.next.what ≡ strength x.o = ap binding x.says in
      let still = st (strength x.o) (omega arith) in
      let heard = rw x.says at p.leads in (
        x.o,
        p.code ∙ operates-code p.next x.o x.says,
        b,
        record {
          later = p.later;
          entries = p.entries;
          mentioned = p.mentioned;
          hears = p.hears;
          before = x.then;
          leads = rw (still.0 p.entries, still.1, ← p.stands.counted) at heard;
          stands = p.stands;
          short = omega (arith, p.short);
        },
      )

  -- an operator whose right operand has been read
  pub operator-past : (node a count many : ℕ) (o : Operator) (c : Cursor) (image after : List ℕ) → Fair s node base
      → (p : Past u s base n (infix' o a ∷ ps) size c count image) → binding p.next.what ≤ strength o → a < count
      → ((es : List Entry) → Stands s base image es count → a < length es → length (es ++ made o a (last es) (length es)) ≤ 2048 → Stands s base after (es ++ made o a (last es) (length es)) many)
      → Past u s base n ps size c many after × (count < many)
  operator-past node a count many o c image after f p h q ended =
      let es = p.entries in
      let all = es ++ made o a (last es) (length es) in
      let leads : hear_all (p.next ∷ p.later) (within s.start all p.mentioned ps) ≡ s.whole = sym (operator-ends s.start es p.mentioned o a ps p.after h) ∙ p.leads in
      let few : length all ≤ 2048 = omega (arith, grows (p.next ∷ p.later) (within s.start all p.mentioned ps), ap (λ d. length d.entries) leads, f.few) in
      let stands = ended es p.stands (omega (arith, p.stands.counted)) few in (
        record { next = p.next; later = p.later; entries = all; mentioned = p.mentioned; heard = p.heard; code = p.code; hears = p.hears; after = p.after; leads = leads; stands = stands; short = p.short },
        omega (arith, stands.counted, p.stands.counted, made_more es o a (last es) (length es)),
      )

  -- NOT, whose operand has been read
  pub not-past : (node count many : ℕ) (c : Cursor) (image after : List ℕ) → Fair s node base
      → (p : Past u s base n (prefix ∷ ps) size c count image) → binding p.next.what ≤ 3 → Emits base count 6 0 (count - 1) 0 0 image many after
      → Past u s base n ps size c many after × (count < many)
  unfolding last
  not-past node count many c image after f p h emits =
      let es = p.entries in
      let e = negation (last es) in
      let leads : hear_all (p.next ∷ p.later) (within s.start (es ▸ e) p.mentioned ps) ≡ s.whole = sym (not-ends s.start es p.mentioned ps p.after h) ∙ p.leads in
      let few : length es < 2048 = omega (arith, length_more es e, grows (p.next ∷ p.later) (within s.start (es ▸ e) p.mentioned ps), ap (λ d. length d.entries) leads, f.few) in
      let stands = emits s es e f.room f.low few p.stands (negation-bytes s.whole _ (last es) ∙ ap (λ z. Assemble.expr 6 0 (z - 1) 0 0) (sym p.stands.counted)) in (
        record { next = p.next; later = p.later; entries = es ▸ e; mentioned = p.mentioned; heard = p.heard; code = p.code; hears = p.hears; after = p.after; leads = leads; stands = stands; short = p.short },
        omega (arith, stands.counted, p.stands.counted, length_more es e),
      )

  pub closes-past : (c r : Cursor) (count : ℕ) (image : List ℕ) → Past u s base (suc n) (paren ∷ ps) size c count image → c.says ≡ 92 → Stepped u c r → Past u s base n ps (size - 1) r count image
  unfolding hear_all hear Hearing.end_operators Hearing.settled Hearing.settle_name Hearing.ending Hearing.waiting
  closes-past c r count image p e t =
      let a = after-closes p.after (sym p.code ∙ e) in
      go p.later a.1 p.hears (rw a.0 at p.leads) p.short
    where
      go : (l : Sayings) → After n l s.rest → Hears u c l → hear_all l (within s.start p.entries p.mentioned ps) ≡ s.whole → length l < size → Past u s base n ps (size - 1) r count image
      go [] b h e m = absurd (omega (arith, after-some b))
      go (w ∷ l) b h e m =
          let step = t.more w l h (omega (arith, after-code b)) in
          record { next = w; later = l; entries = p.entries; mentioned = p.mentioned; heard = step.0; code = step.2; hears = step.1; after = b; leads = e; stands = p.stands; short = omega arith }

  -- what a number says of the next saying
  pub past-binds : (c : Cursor) (count r : ℕ) (image : List ℕ) (p : Past u s base n ps size c count image) → Binds c.says r → r ≡ binding p.next.what
  past-binds c count r image p b = after-binds p.next r p.after (rw p.code at b)
