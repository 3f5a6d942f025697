-- A node's condition, where `normal` answers for the default.
use Rattle.std.specs.Prelude.{ℕ, Bool, eqb}
use Rattle.plexil.specs.declared.Worked.{Worked}
use Rattle.plexil.specs.declared.Worked.TheVariants.{Bool as Flag}
use Rattle.plexil.specs.declared.Condition.{Condition}
use Rattle.plexil.specs.Lists.{when◌then◌else◌}
use Rattle.plexil.specs.Image.{Image, default, condition_field}
use Rattle.plexil.specs.Places.{Seen}
use Rattle.plexil.specs.Expressions.{value_of}

-- "expression, or 65535 for default"
unfoldable pub condition_or : Image → Seen → ℕ → Condition → Bool → Worked
condition_or p s i c normal = when eqb (condition_field p i c) default then Flag normal else value_of p s (condition_field p i c)
