-- A visit of a node that stays carries on what it met: so a walk may pass such a node over.
use Prim.Native.Nat.{ℕ}
use mathlib.Core.Path.{◌≡◌, ◌∙◌}
use mathlib.Core.Bool.{false}
use lib.Seq.{set-get_or}
use Rattle.plexil.specs.declared.State.{State}
use Rattle.plexil.specs.declared.Move.TheVariants.{Stay}
use Rattle.plexil.specs.Image.{Image}
use Rattle.plexil.specs.Places.{outcome_at, failure_at, mark_at}
use Rattle.plexil.specs.Atomic.{move_of}
use Rattle.plexil.specs.Micro.{judges, writes, place_by, place, sent_by, sent}
use Rattle.plexil.specs.Order.{put_place, visit}
use Rattle.plexil.proofs.ListLaws.{if-false, every-false}
use Rattle.answers.specs.Passing.{Passed, NoneSent}

no_write : (p : Image) (s : State) (i : ℕ) → move_of p s i ≡ Stay → writes p s i ≡ false
unfolding writes judges
no_write p s i h = every-false _ 1 (rw h)

pub none-sent : NoneSent
unfolding sent sent_by
none-sent p s i h = rw h

pub passed : Passed
unfolding visit put_place place place_by outcome_at failure_at mark_at
passed p s i h c u =
    if-false _ _ _ (no_write p s i h)
    ∙ rw (no_write p s i h, h, u.status, u.outcome, u.failure, u.mark, u.wrote, set-get_or c.status i 0, set-get_or c.outcome i 0, set-get_or c.failure i 0, set-get_or c.mark i 0, set-get_or c.wrote i false)
