-- The check, rule after rule: Ok lets the next be asked, Err is the verdict.
use Rattle.std.specs.Prelude.{ℕ, Option, Some, None, Result, Ok, Err}
use Rattle.plexil.specs.declared.Rule.{Rule}
use Rattle.plexil.specs.declared.Verdict.{Verdict}
use Rattle.plexil.specs.declared.Verdict.TheVariants.{Admitted, Refused}

abbrev pub Kept : Type 0
Kept = Result (Unit {0}) Verdict

abbrev pub kept : Rule → Option ℕ → Kept
kept r None = Ok tt
kept r (Some i) = Err (Refused r i)

abbrev pub verdict_of : Kept → Verdict
verdict_of (Ok x) = Admitted
verdict_of (Err v) = v
