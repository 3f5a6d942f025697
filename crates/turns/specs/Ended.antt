-- The two kinds of a run's reply: of a run that ended, and of one that was refused.
use Rattle.std.specs.Prelude.{ℕ}
use Rattle.plexil.specs.declared.State.{State}
use Rattle.plexil.specs.declared.Card.{Card}
use Rattle.plexil.specs.declared.RunAnswer.{RunAnswer}
use Rattle.plexil.specs.declared.Ran.{Ran}

abbrev pub ran_to : RunAnswer → ℕ → ℕ → ℕ → State → Card → Ran
ran_to a phase steps next s c = record { answer = a; steps = steps; next = next; state = s; card = record { serial = c.serial; phase = phase } }

abbrev pub unrun : RunAnswer → ℕ → State → Card → Ran
unrun a start s c = record { answer = a; steps = 0; next = start; state = s; card = c }
