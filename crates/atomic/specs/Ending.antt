-- A node's outcome and failure, as the code answers them.
use Rattle.std.specs.Prelude.{ℕ}
use Rattle.atomic.specs.declared.moved.Ending.{Ending}

abbrev pub ending_of : ℕ × ℕ → Ending
ending_of r = record { outcome = r.0; failure = r.1 }
