-- The machine compares Ints by their bits.
use Rattle.std.proofs.Common.{rules, ap}
use Rattle.arithmetic.proofs.Integers.{eq-bits}
use Rattle.plexil.specs.Values.{eq_of}
use Rattle.plexil.specs.declared.Worked.TheVariants as w
use Rattle.values.proofs.pairs.eq_of.Goals as goal

pub returns-in-Ints : goal.returns-in-Ints
unfolding eq_of
returns-in-Ints c = rw c.in-Ints.is (ap w.Bool (eq-bits _ _ (search rules) (search rules)))
