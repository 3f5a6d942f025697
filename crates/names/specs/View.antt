-- What a draft has of names, as a tale.
use Rattle.std.specs.Prelude.{ℕ, suc, List, [], ◌∷◌, map}
use Rattle.notation.specs.Draft.{Command, Lookup, Variable, Node, Draft}
use Rattle.names.specs.Roles.{kind_number}
use Rattle.names.specs.Tale.{Declared, Tale}

abbrev pub of_command : Command → Declared
of_command c = record { name = c.name; owner = 0 }

abbrev pub of_lookup : Lookup → Declared
of_lookup l = record { name = l.name; owner = 0 }

abbrev pub of_variable : Variable → Declared
of_variable v = record { name = v.name; owner = v.owner }

abbrev pub of_root : Node → Declared
of_root n = record { name = n.name; owner = 0 }

abbrev pub of_node : Node → Declared
of_node n = record { name = n.name; owner = suc n.parent }

unfoldable pub of_nodes : List Node → List Declared
of_nodes [] = []
of_nodes (r ∷ ns) = of_root r ∷ map of_node ns

-- the draft's names, where the lists s are open
abbrev pub view_of : Draft → List ℕ → Tale
view_of d s =
    record {
      commands = map of_command d.commands;
      lookups = map of_lookup d.lookups;
      variables = map of_variable d.variables;
      nodes = of_nodes d.nodes;
      numbers = map (λ c. c.number) d.commands;
      variable_kinds = map (λ v. kind_number v.kind) d.variables;
      levels = map (λ n. n.level) d.nodes;
      lists = s;
      mentions = d.mentions;
      held = d.held;
    }
