-- After v variables the first v cells are made; what is left of the variables falls.
use mathlib.Core.Path.{◌≡◌}
use Rattle.plexil.specs.Image.{var_count}
use Rattle.places.proofs.FreshLaws.{tags_to, bits_to}
use Rattle.places.proofs.fresh.fresh_state.Given as goal

abbrev pub invariant-loop-v : goal.invariant-loop-v
invariant-loop-v l = (l.v-end ≡ var_count l.image) × (l.vartags ≡ tags_to l.image l.v) × (l.varbits ≡ bits_to l.image l.v)
