-- A micro step keeps the form of the state: places, kinds of the cells, unused places.
use mathlib.Core.Path.{◌∙◌}
use Rattle.plexil.specs.Image.{node_count}
use Rattle.plexil.specs.Form.{good_state}
use Rattle.plexil.specs.Promises.{StepKept}
use Rattle.plexil.proofs.ListLaws.{every-cons, every-nil, all_below-all}
use Rattle.plexil.proofs.PlacesKept.{places-kept}
use Rattle.plexil.proofs.CellsKept.{variables-kept, lookups-kept, unused-kept}

pub step_kept : StepKept
unfolding good_state
step_kept p s a k =
    every-cons _ _ (all_below-all (node_count p) _ (places-kept p s a k)) ∙ every-cons _ _ (variables-kept p s a k) ∙ every-cons _ _ (lookups-kept p s k)
    ∙ every-cons _ _ (unused-kept p s k) ∙ every-nil
