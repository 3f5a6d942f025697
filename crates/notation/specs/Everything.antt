-- Opens every definition of the notation and what it stands on, for the theorems that work them out.
use Rattle.grammar.specs.Grammar as Grammar
use Rattle.grammar.specs.Spelling as Spelling
use Rattle.grammar.specs.Leads as Leads
use Rattle.grammar.specs.Table as Table
use Rattle.grammar.specs.Text as Text
use Rattle.plexil.specs.Everything as Everything
use Rattle.notation.specs.Rows as Rows
use Rattle.notation.specs.Numbers as Numbers
use Rattle.notation.specs.Hearing as Hearing
use Rattle.notation.specs.Names as Names
use Rattle.notation.specs.Mapping as Mapping
use Rattle.notation.specs.Reading as Reading

unfoldable pub opened : Unit {0}
unfolding Grammar.opened Spelling.opened Leads.opened Table.opened Text.opened Everything.opened Rows.opened Numbers.opened Hearing.opened Names.opened Mapping.opened Reading.opened
opened = tt
