-- "Any two replies it permits are proved equal", of the entries: what each contract permits, which its `ensures` cites, and that it permits one.
-- A reply is the number returned, and what was lent at exit.
use Rattle.std.specs.Prelude.{ℕ, ◌≡◌, List}
use Rattle.plexil.specs.declared.State.{State}
use Rattle.plexil.specs.declared.Card.{Card}
use Rattle.plexil.specs.declared.Counts.{Counts}
use Rattle.plexil.specs.Image.{Image}
use Rattle.plexil.specs.Replies.{RunReply, check_reply, fresh_reply, run_reply, turn_reply}
use Rattle.samblokur.specs.declared.reports.Report.{Report}
use Rattle.samblokur.specs.declared.calls.TurnExit.{TurnExit}
use Rattle.samblokur.specs.Exits.{check_exit, fresh_exit, run_exit}

abbrev pub CheckLeaves : Image → ℕ → Counts → Report → Type 0
CheckLeaves p number counts report =
    (number ≡ (check_exit (check_reply p)).number) × (counts ≡ (check_exit (check_reply p)).counts) × (report ≡ (check_exit (check_reply p)).report)

-- of a fresh start, a run and a turn
abbrev pub TurnLeaves : TurnExit → ℕ → State → Card → Report → Type 0
TurnLeaves e number state card report = (number ≡ e.number) × (state ≡ e.state) × (card ≡ e.card) × (report ≡ e.report)

abbrev pub FreshLeaves : Image → State → Card → ℕ → State → Card → Report → Type 0
FreshLeaves p s c = TurnLeaves (fresh_exit (fresh_reply p s c))

abbrev pub ListLeaves : RunReply → ℕ → State → Card → Report → List ℕ → Type 0
ListLeaves r number state card report list =
    (number ≡ (run_exit r.ran).number) × (state ≡ (run_exit r.ran).state) × (card ≡ (run_exit r.ran).card) × (report ≡ (run_exit r.ran).report) × (list ≡ r.list)

abbrev pub RunLeaves : Image → State → Card → ℕ → List ℕ → ℕ → ℕ → State → Card → Report → List ℕ → Type 0
RunLeaves p s c budget list start = ListLeaves (run_reply p s c budget list start)

abbrev pub EventLeaves : Image → State → Card → List ℕ → ℕ → List ℕ → ℕ → ℕ → State → Card → Report → List ℕ → Type 0
EventLeaves p s c event budget list start = ListLeaves (turn_reply p s c event budget list start)

-- ---- one reply
abbrev pub OneCheck : Type 0
OneCheck =
    (p : Image) (m n : ℕ) (a b : Counts) (x y : Report) → CheckLeaves p m a x → CheckLeaves p n b y → (m ≡ n) × (a ≡ b) × (x ≡ y)

abbrev pub OneFresh : Type 0
OneFresh =
    (p : Image) (s : State) (c : Card) (m n : ℕ) (s₁ s₂ : State) (c₁ c₂ : Card) (x y : Report)
    → FreshLeaves p s c m s₁ c₁ x → FreshLeaves p s c n s₂ c₂ y → (m ≡ n) × (s₁ ≡ s₂) × (c₁ ≡ c₂) × (x ≡ y)

-- of a run, and of a turn
abbrev pub OneList : (ℕ → State → Card → Report → List ℕ → Type 0) → Type 0
OneList Leaves =
    (m n : ℕ) (s₁ s₂ : State) (c₁ c₂ : Card) (x y : Report) (k l : List ℕ)
    → Leaves m s₁ c₁ x k → Leaves n s₂ c₂ y l → (m ≡ n) × (s₁ ≡ s₂) × (c₁ ≡ c₂) × (x ≡ y) × (k ≡ l)

abbrev pub OneRun : Type 0
OneRun = (p : Image) (s : State) (c : Card) (budget : ℕ) (list : List ℕ) (start : ℕ) → OneList (RunLeaves p s c budget list start)

abbrev pub OneTurn : Type 0
OneTurn = (p : Image) (s : State) (c : Card) (event : List ℕ) (budget : ℕ) (list : List ℕ) (start : ℕ) → OneList (EventLeaves p s c event budget list start)
