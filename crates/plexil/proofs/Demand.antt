-- Demand 3 whole: every state of every session, and the micro step from it.
use Rattle.plexil.specs.declared.State.{State}
use Rattle.plexil.specs.Image.{Image}
use Rattle.plexil.specs.Promises.{IsAdmitted, IsKept, Sized, Reached, left, told, stepped, Sound, Demand3}
use Rattle.plexil.proofs.Exactness.{refused-exact, admitted-exact}
use Rattle.plexil.proofs.NoClash.{no-clash, entry_has, condition-has, assigned-has}
use Rattle.plexil.proofs.KeptState.{table_of}
use Rattle.plexil.proofs.NoReset.{not-written-and-reset}
use Rattle.plexil.proofs.Writers.{writers-settled}
use Rattle.plexil.proofs.AnyOrder.{any-order}
use Rattle.plexil.proofs.StepKept.{step_kept}
use Rattle.plexil.proofs.SizesKept.{step-sized}
use Rattle.plexil.proofs.Sessions.{kept_of, event-passes, session-kept}

-- what every state of a session keeps
record Reachable (p : Image) (s : State) : Type 0 where
  admitted : IsAdmitted p
  kept : IsKept p s
  sized : Sized s

reachable : (p : Image) (s : State) → Reached p s → Reachable p s
reachable p s (left {c = c} x) =
    let h = session-kept p s c x in record { admitted = h.admitted; kept = kept_of p s c h.passes.kept; sized = h.passes.sized }
reachable p s (told {s = t} {c = c} x event e) =
    let h = session-kept p t c x in
    let q = event-passes p t c event h.admitted h.passes.kept h.passes.sized e in
    record { admitted = h.admitted; kept = kept_of p s _ q.kept; sized = q.sized }
reachable p s (stepped {s = t} x) =
    let h = reachable p t x in record { admitted = h.admitted; kept = step_kept p t h.admitted h.kept; sized = step-sized p t h.admitted h.sized }

sound : (p : Image) (s : State) → Reachable p s → Sound p s
sound p s h =
    let a = h.admitted in
    let k = h.kept in
    record {
      no_clash = no-clash p s a k;
      entries = entry_has p s a k;
      conditions = condition-has p s a k;
      assigned = assigned-has p s a k;
      table = table_of p s k;
      not_both = not-written-and-reset p s a k;
      writers = writers-settled p s;
      any_order = any-order p s a h.sized;
    }

pub demand-3 : Demand3
demand-3 = record { refused = refused-exact; admitted = admitted-exact; sessions = λ p s x. sound p s (reachable p s x) }
