-- Every text of the tables is answered as it says, worked out by the definitions themselves.
use mathlib.Core.Path.{◌≡◌, refl}
use mathlib.Core.Bool.{true}
use Rattle.notation.specs.Everything as Everything
use Rattle.notation.specs.TextVectors as Table

pub refused-40 : Table.all_answered Table.not_of_the_grammar ≡ true
unfolding Everything.opened Table.opened
refused-40 = refl

pub refused-41 : Table.all_answered Table.too_deeps ≡ true
unfolding Everything.opened Table.opened
refused-41 = refl

pub refused-42 : Table.all_answered Table.bad_names ≡ true
unfolding Everything.opened Table.opened
refused-42 = refl

pub refused-counts : Table.all_answered Table.counts ≡ true
unfolding Everything.opened Table.opened
refused-counts = refl

pub refused-checks : Table.all_answered Table.checks ≡ true
unfolding Everything.opened Table.opened
refused-checks = refl

pub formulas-bind : Table.formulas ≡ Table.formulas_expected
unfolding Everything.opened Table.opened
formulas-bind = refl

pub literals-say : Table.literals ≡ Table.literals_expected
unfolding Everything.opened Table.opened
literals-say = refl

pub texts-alike : Table.all_alike Table.alikes ≡ true
unfolding Everything.opened Table.opened
texts-alike = refl

pub written-alike : Table.all_alike Table.written_k6 ≡ true
unfolding Everything.opened Table.opened
written-alike = refl
