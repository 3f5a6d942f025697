-- The whole reply of a step into a list's part, and the part at its exit.
use Rattle.std.specs.Prelude.{ℕ, List, length, leb}
use Rattle.plexil.specs.declared.State.{State}
use Rattle.plexil.specs.Lists.{when◌then◌else◌, put}
use Rattle.plexil.specs.Image.{Image}
use Rattle.plexil.specs.Micro.{step, words, quiet}
use Rattle.micro.specs.declared.steps.Stepped.{Stepped}
use Rattle.micro.specs.declared.steps.Stepped.TheVariants.{Quiet, NoRoom, Done}

unfoldable pub stepped_of : Image → State → List ℕ → Stepped
stepped_of p s part =
    when quiet p s then Quiet else when leb (length (words p s)) (length part) then Done (length (words p s)) (step p s) else NoRoom

-- "32 NoRoom": a step whose words do not fit writes nothing
unfoldable pub part_after : Image → State → List ℕ → List ℕ
part_after p s part = when quiet p s then part else when leb (length (words p s)) (length part) then put part 0 (words p s) else part
