-- Each class by its lead.
use Rattle.std.proofs.Common.{refl, arith}
use Rattle.grammar.specs.Leads.{name, real}
use Rattle.notation.specs.Classes.{bounds}
use Rattle.words.proofs.ViableLaws.{leads, lead-told, bounded-told, no_lead}
use Rattle.words.proofs.prefixes.viable.Goals as goal

pub returns-then-class-lt67 : goal.returns-then-class-lt67
returns-then-class-lt67 c = c.literal_prefix.ensures (omega arith)

pub returns-in-67 : goal.returns-in-67
returns-in-67 c = lead-told 67 name _ c.in-67.is c.name_prefix.ensures (unfold leads in refl)

pub returns-in-68-to-73 : goal.returns-in-68-to-73
unfolding bounds
returns-in-68-to-73 c = bounded-told _ _ (omega arith) (omega arith) c.number_prefix.ensures

pub returns-in-74 : goal.returns-in-74
returns-in-74 c = lead-told 74 real _ c.in-74.is c.real_prefix.ensures (unfold leads in refl)

pub returns-in_default-2 : goal.returns-in_default-2
returns-in_default-2 c = no_lead _ _ (omega arith)
