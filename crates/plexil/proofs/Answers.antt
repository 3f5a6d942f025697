-- An answer's number, the record it names and its ending tell it from every other.
use Prim.Native.Nat.{ℕ}
use mathlib.Core.Path.{◌≡◌, refl, sym, ap, ◌∙◌}
use mathlib.Core.List.{List, [], ◌∷◌}
use lib.ListN.{get_or}
use Rattle.plexil.specs.declared.Rule.{Rule}
use Rattle.plexil.specs.declared.Rule.TheVariants.{Short, Edition, Count, Layout, Tree, Node, Variable, Lookup, Expression, Deep, Kind, Reach}
use Rattle.plexil.specs.declared.Verdict.{Verdict}
use Rattle.plexil.specs.declared.Verdict.TheVariants.{Admitted, Refused}
use Rattle.plexil.specs.declared.RunAnswer.{RunAnswer}
use Rattle.plexil.specs.declared.RunAnswer.TheVariants as ran
use Rattle.plexil.specs.Check.{rule_number}
use Rattle.plexil.specs.Replies.{Numbered, numbered, unrefused, verdict_number, run_number}
use Rattle.plexil.specs.ReplyPromises.{AnswersApart}

-- the answers by their numbers; a number that is none gives State
answers : ℕ → ℕ → List RunAnswer
answers i e =
    get_or (ran.State ∷ ran.Quiet ∷ ran.Spent ∷ []) e ran.State
    ∷ ran.Refused Short i ∷ ran.Refused Edition i ∷ ran.Refused Count i ∷ ran.Refused Layout i ∷ ran.Refused Tree i ∷ ran.Refused Node i
    ∷ ran.Refused Variable i ∷ ran.Refused Lookup i ∷ ran.Refused Expression i ∷ ran.Refused Deep i ∷ ran.Refused Kind i ∷ ran.Refused Reach i
    ∷ ran.State ∷ ran.State ∷ ran.State ∷ ran.State ∷ ran.State ∷ ran.State ∷ ran.State
    ∷ ran.Busy ∷ ran.Shape ∷ ran.Turn ∷ ran.Entry i ∷ ran.Twice i ∷ ran.NotAwaited i
    ∷ ran.State ∷ ran.State ∷ ran.State ∷ ran.State ∷ ran.State ∷ ran.Place ∷ ran.NoRoom ∷ []

told : Numbered → RunAnswer
told n = get_or (answers n.record' n.ending) n.number ran.State

told-rule : (r : Rule) (i : ℕ) → told (numbered (rule_number r) i) ≡ ran.Refused r i
unfolding told answers numbered rule_number
told-rule Short i = refl
told-rule Edition i = refl
told-rule Count i = refl
told-rule Layout i = refl
told-rule Tree i = refl
told-rule Node i = refl
told-rule Variable i = refl
told-rule Lookup i = refl
told-rule Expression i = refl
told-rule Deep i = refl
told-rule Kind i = refl
told-rule Reach i = refl

told-run : (a : RunAnswer) → told (run_number a) ≡ a
unfolding told answers run_number numbered unrefused
told-run (ran.Refused r i) = told-rule r i
told-run ran.State = refl
told-run ran.Place = refl
told-run ran.Busy = refl
told-run ran.Shape = refl
told-run ran.Turn = refl
told-run (ran.Entry k) = refl
told-run (ran.Twice k) = refl
told-run (ran.NotAwaited k) = refl
told-run ran.NoRoom = refl
told-run ran.Spent = refl
told-run ran.Quiet = refl

-- the verdict that a run is refused for
verdict_of : RunAnswer → Verdict
verdict_of (ran.Refused r i) = Refused r i
verdict_of ran.State = Admitted
verdict_of ran.Place = Admitted
verdict_of ran.Busy = Admitted
verdict_of ran.Shape = Admitted
verdict_of ran.Turn = Admitted
verdict_of (ran.Entry k) = Admitted
verdict_of (ran.Twice k) = Admitted
verdict_of (ran.NotAwaited k) = Admitted
verdict_of ran.NoRoom = Admitted
verdict_of ran.Spent = Admitted
verdict_of ran.Quiet = Admitted

told-verdict : (v : Verdict) → verdict_of (told (verdict_number v)) ≡ v
unfolding verdict_of told answers verdict_number numbered unrefused
told-verdict Admitted = refl
told-verdict (Refused r i) = ap verdict_of (told-rule r i)

pub answers-apart : AnswersApart
answers-apart = record {
  runs = λ a b e. sym (told-run a) ∙ ap told e ∙ told-run b;
  verdicts = λ v w e. sym (told-verdict v) ∙ ap (λ (n : Numbered). verdict_of (told n)) e ∙ told-verdict w;
}
