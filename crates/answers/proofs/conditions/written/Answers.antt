-- The cell of the value that the table tells.
use mathlib.Core.Path.{ap, ◌∙◌}
use Rattle.plexil.specs.Values.{encode}
use Rattle.answers.proofs.Given.{written-tells}
use Rattle.answers.proofs.conditions.written.Goals as goal

pub returns : goal.returns
returns c s t b w = c.encode.ensures ∙ (ap encode c.cell_value.ensures ∙ written-tells _ s _ _ t _ b w c.value_field.ensures)
