-- What is told of a text before it is read: whether it is of the notation, how far it is viable if not, whether it is too deep, and its counts.
use Rattle.std.specs.Prelude.{ℕ, true, false, List, length}
use Rattle.std.proofs.Math.Option.{Option, none, some}
use Rattle.plexil.specs.Lists.{Found, at, nowhere}
use Rattle.grammar.specs.Table.{Said}
use Rattle.notation.specs.Sayings.{Saying}
use Rattle.notation.specs.Draft.{Draft}
use Rattle.notation.specs.Hearing.{draft_of}
use Rattle.notation.specs.Names.{is_found, too_deep}
use Rattle.notation.specs.Reading.{plan_says, text_reach}
use Rattle.recognise.specs.declared.Recognised.{Recognised}

unfoldable pub place_of : Found → ℕ
place_of (at n) = n
place_of nowhere = 0

abbrev pub refused_at : ℕ → Recognised
refused_at k = record { accepted = false; reach = k; deep = false; place = 0; nodes = 0; entries = 0; variables = 0; lookups = 0; commands = 0 }

unfoldable pub accepted_as : Draft → Recognised
accepted_as d = record {
  accepted = true;
  reach = 0;
  deep = is_found (too_deep d.nodes);
  place = place_of (too_deep d.nodes);
  nodes = length d.nodes;
  entries = length d.entries;
  variables = length d.variables;
  lookups = length d.lookups;
  commands = length d.commands;
}

unfoldable pub recognised_by : Option (List (Said Saying)) → List ℕ → Recognised
recognised_by none u = refused_at (text_reach u)
recognised_by (some l) u = accepted_as (draft_of l)

unfoldable pub recognised_of : List ℕ → Recognised
recognised_of u = recognised_by (plan_says u) u

-- opens every definition of this file
unfoldable pub opened : Unit {0}
unfolding place_of accepted_as recognised_by recognised_of
opened = tt
