-- The attributes of a node, by the numbers of their sayings.
use Prim.Native.Nat.{ℕ, ◌+◌, ◌≤◌, ◌<◌}
use mathlib.Core.Path.{◌≡◌, refl, sym, ◌∙◌, ap}
use mathlib.Core.Bool.{Bool, true, false}
use mathlib.Core.List.{List, ◌∷◌}
use native.Mathlib.Omega.{arith}
use lib.Dec.{ltb}
use borrow.Author.Tests.{ltb-true}
use Rattle.plexil.specs.Lists.{all_below}
use Rattle.plexil.proofs.ListLaws.{all_below-at}
use Rattle.grammar.specs.Spelling.{Placed}
use Rattle.grammar.specs.Table.{Said}
use Rattle.notation.specs.Sayings.{Kind, boolean, integer, float, Operator, Saying, silence, declares_command, numbers_command, declares_lookup, names, begins, opens_list, closes_list, calls, assigns, conditions, ranks, declares_variable, initial_truth, initial_whole, initial_decimal, initial_bits, truth, whole, decimal, bits, unknown, reads, mentions, descends, asks, negates, operates, parenthesis, closes, ends}
use Rattle.notation.specs.Phrases.{Sayings, Says, Leaf, is-truth, is_whole, is-decimal, is-bits, Expression, Initial, Opening, named, unnamed, Attributes, Nodes}
use Rattle.notation.specs.Phrases as Phrases
use Rattle.notation.specs.Draft.{Draft, with_initial}
use Rattle.notation.specs.Hearing as Hearing
use Rattle.notation.specs.Hearing.{hear, on_variable}
use Rattle.recognise.specs.Codes as Codes
use Rattle.recognise.specs.Codes.{say_of}
use Rattle.recognise.specs.declared.Cursor.{Cursor}
use Rattle.build.specs.Flow as Flow
use Rattle.build.specs.Flow.{After, binding, code_of, of_kind}
use Rattle.build.specs.Hearsay.{Heard, Apt}
use Rattle.build.specs.Literals.{word_of}

-- ---- "Skip, Start, Pre, Inv, End, Post, Repeat"
few : Saying → Bool
few silence = true
few declares_command = true
few numbers_command = true
few (declares_lookup k) = true
few names = true
few begins = true
few opens_list = true
few closes_list = true
few calls = true
few assigns = true
few (conditions k) = ltb k 7
few ranks = true
few (declares_variable k) = true
few (initial_truth b) = true
few (initial_whole b) = true
few (initial_decimal b) = true
few (initial_bits b) = true
few (truth b) = true
few (whole b) = true
few (decimal b) = true
few (bits b) = true
few (unknown k) = true
few reads = true
few mentions = true
few descends = true
few (asks w n k) = true
few negates = true
few (operates o) = true
few parenthesis = true
few closes = true
few ends = true

all-few : all_below 95 (λ n. few (say_of n)) ≡ true
unfolding all_below few Codes.opened
all-few = refl

condition-is : (i : ℕ) → few (conditions i) ≡ ltb i 7
unfolding few
condition-is i = refl

-- a condition that is heard is one of the seven
pub condition-few : (u : List ℕ) (c : Cursor) (w : Said Saying) → Heard u c w → (i : ℕ) → w.what ≡ conditions i → i < 7
condition-few u c w h i e =
    let f : few (conditions i) ≡ true = ap few (sym e) ∙ ap few (sym h.just.what) ∙ all_below-at 95 (λ n. few (say_of n)) all-few c.says (omega (arith, h.known)) in
    ltb-true i 7 (sym (condition-is i) ∙ f)

-- ---- what can be said
pub initial-code : (x : Saying) → Initial x → (23 ≤ code_of x) × (code_of x ≤ 30)
unfolding Flow.opened
initial-code _ (Initial.is-truth true) = (omega arith, omega arith)
initial-code _ (Initial.is-truth false) = (omega arith, omega arith)
initial-code _ (Initial.is_whole true) = (omega arith, omega arith)
initial-code _ (Initial.is_whole false) = (omega arith, omega arith)
initial-code _ (Initial.is-decimal true) = (omega arith, omega arith)
initial-code _ (Initial.is-decimal false) = (omega arith, omega arith)
initial-code _ (Initial.is-bits true) = (omega arith, omega arith)
initial-code _ (Initial.is-bits false) = (omega arith, omega arith)

kind-code : (a : Kind) → of_kind a ≤ 2
unfolding of_kind
kind-code boolean = omega arith
kind-code integer = omega arith
kind-code float = omega arith

-- the codes of what begins an attribute
condition-code : (w : Said Saying) (i : ℕ) → Says w (conditions i) → code_of w.what ≡ 12 + i
unfolding code_of
condition-code w i e = ap code_of e

rank-code : (w : Said Saying) → Says w ranks → code_of w.what ≡ 19
unfolding code_of
rank-code w e = ap code_of e

variable-code : (w : Said Saying) (a : Kind) → Says w (declares_variable a) → code_of w.what ≡ 20 + of_kind a
unfolding code_of
variable-code w a e = ap code_of e

list_code : (w : Said Saying) → Says w opens_list → code_of w.what ≡ 8
unfolding code_of
list_code w e = ap code_of e

command-code : (w : Said Saying) → Says w calls → code_of w.what ≡ 10
unfolding code_of
command-code w e = ap code_of e

assignment-code : (w : Said Saying) → Says w assigns → code_of w.what ≡ 11
unfolding code_of
assignment-code w e = ap code_of e

pub closed-code : (w : Said Saying) → Says w closes_list → code_of w.what ≡ 9
unfolding code_of
closed-code w e = ap code_of e

opening_code : (x : Saying) → Opening x → (6 ≤ code_of x) × (code_of x ≤ 7)
unfolding code_of
opening_code _ named = (omega arith, omega arith)
opening_code _ unnamed = (omega arith, omega arith)

-- ---- what is said first
pub first_said : {l k : Sayings} → Attributes l k → (w : Said Saying) × (m : Sayings) × (l ≡ w ∷ m) × (0 < code_of w.what)
first_said (Attributes.condition {w} {l} i e x m) = (w, l, refl, omega (arith, condition-code w i e))
first_said (Attributes.rank {w} {l} e m) = (w, l, refl, omega (arith, rank-code w e))
first_said (Attributes.variable {w} {l} a e m) = (w, l, refl, omega (arith, variable-code w a e))
first_said (Attributes.initial {w} {l} x m) = (w, l, refl, omega (arith, initial-code w.what x))
first_said (Attributes.list {w} {l} e n) = (w, l, refl, omega (arith, list_code w e))
first_said (Attributes.command {w} {k} e) = (w, k, refl, omega (arith, command-code w e))
first_said (Attributes.assignment {w} {l} e x) = (w, l, refl, omega (arith, assignment-code w e))

pub is-condition : {w : Said Saying} {l k : Sayings} → Attributes (w ∷ l) k → 12 ≤ code_of w.what → code_of w.what < 19
    → (i : ℕ) × Says w (conditions i) × (code_of w.what ≡ 12 + i) × (m : Sayings) × Expression l m × Attributes m k
is-condition {w} (Attributes.condition {m = m} i e x a) lo hi = (i, e, condition-code w i e, m, x, a)
is-condition {w} (Attributes.rank e a) lo hi = absurd (omega (arith, rank-code w e))
is-condition {w} (Attributes.variable a e m) lo hi = absurd (omega (arith, variable-code w a e))
is-condition {w} (Attributes.initial x m) lo hi = absurd (omega (arith, initial-code w.what x))
is-condition {w} (Attributes.list e n) lo hi = absurd (omega (arith, list_code w e))
is-condition {w} (Attributes.command e) lo hi = absurd (omega (arith, command-code w e))
is-condition {w} (Attributes.assignment e x) lo hi = absurd (omega (arith, assignment-code w e))

pub is-rank : {w : Said Saying} {l k : Sayings} → Attributes (w ∷ l) k → ((i : ℕ) → w.what ≡ conditions i → i < 7) → code_of w.what ≡ 19 → Says w ranks × Attributes l k
is-rank {w} (Attributes.condition i e x a) s h = absurd (omega (arith, condition-code w i e, s i e))
is-rank {w} (Attributes.rank e a) s h = (e, a)
is-rank {w} (Attributes.variable a e m) s h = absurd (omega (arith, variable-code w a e))
is-rank {w} (Attributes.initial x m) s h = absurd (omega (arith, initial-code w.what x))
is-rank {w} (Attributes.list e n) s h = absurd (omega (arith, list_code w e))
is-rank {w} (Attributes.command e) s h = absurd (omega (arith, command-code w e))
is-rank {w} (Attributes.assignment e x) s h = absurd (omega (arith, assignment-code w e))

pub is-variable : {w : Said Saying} {l k : Sayings} → Attributes (w ∷ l) k → ((i : ℕ) → w.what ≡ conditions i → i < 7) → 20 ≤ code_of w.what → code_of w.what < 23
    → (a : Kind) × Says w (declares_variable a) × (code_of w.what ≡ 20 + of_kind a) × Attributes l k
is-variable {w} (Attributes.condition i e x a) s lo hi = absurd (omega (arith, condition-code w i e, s i e))
is-variable {w} (Attributes.rank e a) s lo hi = absurd (omega (arith, rank-code w e))
is-variable {w} (Attributes.variable a e m) s lo hi = (a, e, variable-code w a e, m)
is-variable {w} (Attributes.initial x m) s lo hi = absurd (omega (arith, initial-code w.what x))
is-variable {w} (Attributes.list e n) s lo hi = absurd (omega (arith, list_code w e))
is-variable {w} (Attributes.command e) s lo hi = absurd (omega (arith, command-code w e))
is-variable {w} (Attributes.assignment e x) s lo hi = absurd (omega (arith, assignment-code w e))

pub is-initial : {w : Said Saying} {l k : Sayings} → Attributes (w ∷ l) k → ((i : ℕ) → w.what ≡ conditions i → i < 7) → 23 ≤ code_of w.what → Initial w.what × Attributes l k
is-initial {w} (Attributes.condition i e x a) s lo = absurd (omega (arith, condition-code w i e, s i e))
is-initial {w} (Attributes.rank e a) s lo = absurd (omega (arith, rank-code w e))
is-initial {w} (Attributes.variable a e m) s lo = absurd (omega (arith, variable-code w a e, kind-code a))
is-initial {w} (Attributes.initial x m) s lo = (x, m)
is-initial {w} (Attributes.list e n) s lo = absurd (omega (arith, list_code w e))
is-initial {w} (Attributes.command e) s lo = absurd (omega (arith, command-code w e))
is-initial {w} (Attributes.assignment e x) s lo = absurd (omega (arith, assignment-code w e))

pub is-list : {w : Said Saying} {l k : Sayings} → Attributes (w ∷ l) k → code_of w.what ≡ 8 → Says w opens_list × Nodes l k
is-list {w} (Attributes.condition i e x a) h = absurd (omega (arith, condition-code w i e))
is-list {w} (Attributes.rank e a) h = absurd (omega (arith, rank-code w e))
is-list {w} (Attributes.variable a e m) h = absurd (omega (arith, variable-code w a e))
is-list {w} (Attributes.initial x m) h = absurd (omega (arith, initial-code w.what x))
is-list {w} (Attributes.list e n) h = (e, n)
is-list {w} (Attributes.command e) h = absurd (omega (arith, command-code w e))
is-list {w} (Attributes.assignment e x) h = absurd (omega (arith, assignment-code w e))

pub is-command : {w : Said Saying} {l k : Sayings} → Attributes (w ∷ l) k → code_of w.what ≡ 10 → Says w calls × (l ≡ k)
is-command {w} (Attributes.condition i e x a) h = absurd (omega (arith, condition-code w i e))
is-command {w} (Attributes.rank e a) h = absurd (omega (arith, rank-code w e))
is-command {w} (Attributes.variable a e m) h = absurd (omega (arith, variable-code w a e))
is-command {w} (Attributes.initial x m) h = absurd (omega (arith, initial-code w.what x))
is-command {w} (Attributes.list e n) h = absurd (omega (arith, list_code w e))
is-command {w} (Attributes.command e) h = (e, refl)
is-command {w} (Attributes.assignment e x) h = absurd (omega (arith, assignment-code w e))

pub is-assignment : {w : Said Saying} {l k : Sayings} → Attributes (w ∷ l) k → (code_of w.what ≡ 8 → ⊥) → (code_of w.what ≡ 10 → ⊥) → code_of w.what < 12 → Says w assigns × Expression l k
is-assignment {w} (Attributes.condition i e x a) f g h = absurd (omega (arith, condition-code w i e))
is-assignment {w} (Attributes.rank e a) f g h = absurd (omega (arith, rank-code w e))
is-assignment {w} (Attributes.variable a e m) f g h = absurd (omega (arith, variable-code w a e))
is-assignment {w} (Attributes.initial x m) f g h = absurd (omega (arith, initial-code w.what x))
is-assignment {w} (Attributes.list e n) f g h = absurd (f (list_code w e))
is-assignment {w} (Attributes.command e) f g h = absurd (g (command-code w e))
is-assignment {w} (Attributes.assignment e x) f g h = (e, x)

-- ---- the nodes of a list
pub first-node : {l k : Sayings} → Nodes l k → (w : Said Saying) × (m : Sayings) × (l ≡ w ∷ m) × (0 < code_of w.what)
first-node (Nodes.closed {w} {k} e) = (w, k, refl, omega (arith, closed-code w e))
first-node (Nodes.also (Phrases.node {w} {l} o a) n) = (w, l, refl, omega (arith, opening_code w.what o))

pub is-closed : {w : Said Saying} {l k : Sayings} → Nodes (w ∷ l) k → code_of w.what ≡ 9 → Says w closes_list × (l ≡ k)
is-closed (Nodes.closed e) h = (e, refl)
is-closed {w} (Nodes.also (Phrases.node o a) n) h = absurd (omega (arith, opening_code w.what o))

pub is-node : {w : Said Saying} {l k : Sayings} → Nodes (w ∷ l) k → (code_of w.what ≡ 9 → ⊥) → Opening w.what × (m : Sayings) × Attributes l m × Nodes m k
is-node {w} (Nodes.closed e) h = absurd (h (closed-code w e))
is-node (Nodes.also {m = m} (Phrases.node o a) n) h = (o, m, a, n)

-- ---- the end of an expression
strong : (o : Operator) → 1 ≤ Hearing.strength o
unfolding Hearing.strength
strong Operator.disjunction = omega arith
strong Operator.conjunction = omega arith
strong Operator.equal = omega arith
strong Operator.unequal = omega arith
strong Operator.less = omega arith
strong Operator.at_most = omega arith
strong Operator.greater = omega arith
strong Operator.at_least = omega arith
strong Operator.plus = omega arith
strong Operator.minus = omega arith
strong Operator.times = omega arith

pub is-end : {w : Said Saying} {l k : Sayings} → After 0 (w ∷ l) k → binding w.what < 1 → Says w ends × (l ≡ k)
unfolding binding
is-end (Flow.operator o e b) h = absurd (omega (arith, ap binding e, strong o))
is-end (Flow.ending e) h = (e, refl)

-- ---- an initial value is a constant, whose saying has the number higher by 8
pub record Likewise (x : Saying) (t : Placed) : Type 0 where
  pub leaf : Saying
  pub is : Leaf leaf
  pub code : code_of leaf ≡ 8 + code_of x
  pub low : code_of x ≤ 30
  pub apt : Apt x t.bytes → Apt leaf t.bytes
  pub hears : (d : Draft) → hear x t d ≡ on_variable (with_initial (word_of leaf t.bytes)) d

pub likewise : (x : Saying) (t : Placed) → Initial x → Likewise x t
unfolding Flow.opened Apt hear word_of
likewise _ t (Initial.is-truth true) = record { leaf = truth true; is = is-truth true; code = refl; low = omega arith; apt = λ a. a; hears = λ d. refl }
likewise _ t (Initial.is-truth false) = record { leaf = truth false; is = is-truth false; code = refl; low = omega arith; apt = λ a. a; hears = λ d. refl }
likewise _ t (Initial.is_whole true) = record { leaf = whole true; is = is_whole true; code = refl; low = omega arith; apt = λ a. a; hears = λ d. refl }
likewise _ t (Initial.is_whole false) = record { leaf = whole false; is = is_whole false; code = refl; low = omega arith; apt = λ a. a; hears = λ d. refl }
likewise _ t (Initial.is-decimal true) = record { leaf = decimal true; is = is-decimal true; code = refl; low = omega arith; apt = λ a. a; hears = λ d. refl }
likewise _ t (Initial.is-decimal false) = record { leaf = decimal false; is = is-decimal false; code = refl; low = omega arith; apt = λ a. a; hears = λ d. refl }
likewise _ t (Initial.is-bits true) = record { leaf = bits true; is = is-bits true; code = refl; low = omega arith; apt = λ a. a; hears = λ d. refl }
likewise _ t (Initial.is-bits false) = record { leaf = bits false; is = is-bits false; code = refl; low = omega arith; apt = λ a. a; hears = λ d. refl }
