-- A node that stayed stays, by the flags of what was altered and of whose answer changed: it may be passed over.
use Prim.Native.Nat.{ℕ, zero, suc}
use mathlib.Core.Path.{◌≡◌, refl, ap}
use mathlib.Core.Bool.{Bool, false}
use mathlib.Core.List.{List}
use Rattle.plexil.specs.declared.State.{State}
use Rattle.plexil.specs.declared.Status.{Status}
use Rattle.plexil.specs.Image.{Image, parent}
use Rattle.plexil.specs.Places.{status_of, status_at, seen}
use Rattle.plexil.specs.Atomic.{is_finished, is_resting, children, parent_status}
use Rattle.answers.specs.Changes.{up, Covers}
use Rattle.answers.specs.Reads.{Calm, CalmStays}
use Rattle.answers.proofs.Given.{given-there}
use Rattle.answers.proofs.Frame.{condition-same, children-same}
use Rattle.answers.proofs.Stays.{stays-still}

module _ (p : Image) (s t : State) (altered changed : List ℕ) (v : Covers (seen s) (seen t) altered) where
  status-same : (i : ℕ) → up altered i ≡ false → status_at s i ≡ status_at t i
  unfolding status_at
  status-same i h = ap status_of (v.nodes i h).status

  parent-same : (i : ℕ) → up altered (parent p i) ≡ false → parent_status p s i ≡ parent_status p t i
  unfolding parent_status
  parent-same zero h = refl
  parent-same (suc i) h = status-same (parent p (suc i)) h

  tests_same : (i : ℕ) (f : Status → Bool) → Calm p s altered changed i → children p s i f ≡ children p t i f
  tests_same i f q = children-same p s t i f (λ j b e. status-same j (q.beneath j b e))

pub calm-stays : CalmStays
calm-stays p s t altered changed a v u i b m q =
    stays-still p s t i (record {
      own = status-same p s t altered changed v i q.own;
      parent = parent-same p s t altered changed v i q.above;
      mark = m;
      conditions = λ c k. condition-same p s t i (tests_same p s t altered changed v i is_finished q) c (λ g. u _ (given-there p a i b c g) (q.conditions c k g));
      resting = tests_same p s t altered changed v i is_resting q;
    })
