-- The answer of two worked-out operands by the operator: only 7 to 14 take two.
use Rattle.plexil.specs.declared.Worked.{Worked}
use Rattle.plexil.specs.declared.Worked.TheVariants.{Clash}
use Rattle.plexil.specs.Expressions.{Operator, leaf, not_op, binary, no_operator, binary_of}

unfoldable pub join_of : Operator → Worked → Worked → Worked
join_of (leaf o) x y = Clash
join_of not_op x y = Clash
join_of (binary o) x y = binary_of o x y
join_of no_operator x y = Clash
