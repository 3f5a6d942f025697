-- What one pass over the nodes has answered of the children of every node, by the statuses.
use Rattle.std.specs.Prelude.{ℕ, ◌<◌, ◌≡◌, false, List, get_or, length}
use Rattle.plexil.specs.Image.{Image}
use Rattle.plexil.specs.Atomic.{children_by, is_finished, is_resting}
use Rattle.atomic.specs.declared.children.ChildTests.{ChildTests}

pub record Answered (p : Image) (st : List ℕ) (r : ChildTests) : Type 0 where
  pub finished : (i : ℕ) → i < 256 → get_or r.finished i false ≡ children_by p st i is_finished
  pub resting : (i : ℕ) → i < 256 → get_or r.resting i false ≡ children_by p st i is_resting

-- "Any two replies it permits are proved equal": an array of 256 has that length
pub record Long (r : ChildTests) : Type 0 where
  pub finished : length r.finished ≡ 256
  pub resting : length r.resting ≡ 256

abbrev pub OneAnswered : Type 0
OneAnswered = (p : Image) (st : List ℕ) (a b : ChildTests) → Long a → Long b → Answered p st a → Answered p st b → a ≡ b
