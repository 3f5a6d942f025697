-- Refusals 1 to 9: each damaged plan is refused with its number and record.
use mathlib.Core.Path.{◌≡◌, refl}
use mathlib.Core.Bool.{true}
use Rattle.plexil.specs.Everything as Everything
use Rattle.vectors.specs.Records as Table

pub headers-checked : Table.all_checked Table.headers ≡ true
unfolding Everything.opened Table.opened
headers-checked = refl

pub layout-hits : Table.all_hit Table.nodes Table.layout_hits ≡ true
unfolding Everything.opened Table.opened
layout-hits = refl

pub tree-hits : Table.all_hit Table.nodes Table.tree_hits ≡ true
unfolding Everything.opened Table.opened
tree-hits = refl

pub condition-hits : Table.all_hit Table.nodes Table.condition_hits ≡ true
unfolding Everything.opened Table.opened
condition-hits = refl

pub what-hits : Table.all_hit Table.nodes Table.what_hits ≡ true
unfolding Everything.opened Table.opened
what-hits = refl

pub variable-hits : Table.all_hit Table.variables Table.variable_hits ≡ true
unfolding Everything.opened Table.opened
variable-hits = refl

pub lookup-hits : Table.all_hit Table.variables Table.lookup_hits ≡ true
unfolding Everything.opened Table.opened
lookup-hits = refl

pub lowest-named : Table.all_checked Table.lowest ≡ true
unfolding Everything.opened Table.opened
lowest-named = refl

pub counts-answered : Table.counted_all ≡ Table.counted_expected
unfolding Everything.opened Table.opened
counts-answered = refl

pub records-counted : Table.records_all ≡ Table.records_expected
unfolding Everything.opened Table.opened
records-counted = refl
