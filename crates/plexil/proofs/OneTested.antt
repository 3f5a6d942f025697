-- What the code answers of the tests says one thing: `tested_of` tells two answers apart.
use mathlib.Core.Path.{◌≡◌, refl, sym, ap, ◌∙◌}
use Rattle.std.specs.Prelude.{Result, Ok, Err}
use Rattle.plexil.specs.declared.RunAnswer.{RunAnswer}
use Rattle.plexil.specs.Tested.{Tested, Accepted, Refused, tested_of, OneTested}

back : Tested → Result Unit RunAnswer
back Accepted = Ok tt
back (Refused a) = Err a

back-is : (a : Result Unit RunAnswer) → back (tested_of a) ≡ a
unfolding back
back-is (Ok u) = refl
back-is (Err a) = refl

pub one-tested : OneTested
one-tested a b t e f = sym (back-is a) ∙ ap back (e ∙ sym f) ∙ back-is b
