-- What the tests before a run or a turn answer: what is given is accepted, or the first broken one refuses.
use Rattle.std.specs.Prelude.{◌≡◌, Result, Ok, Err}
use Rattle.plexil.specs.declared.RunAnswer.{RunAnswer}

pub data Tested : Type 0 where
  Accepted : Tested
  Refused : RunAnswer → Tested

-- as the code answers it
abbrev pub tested_of : Result Unit RunAnswer → Tested
tested_of (Ok u) = Accepted
tested_of (Err a) = Refused a

-- "Any two replies it permits are proved equal": the contracts of the tests are this equation
abbrev pub OneTested : Type 0
OneTested = (a b : Result Unit RunAnswer) (t : Tested) → tested_of a ≡ t → tested_of b ≡ t → a ≡ b
