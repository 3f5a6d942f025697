-- Counts to which a token's own can be added.
use Rattle.std.specs.Prelude.{◌+◌, ◌<◌}
use Rattle.recognise.specs.declared.Counts.{Counts}
use Rattle.recognise.specs.Counting.{flagged}

pub record Room (c : Counts) : Type 0 where
  pub nodes : c.nodes < 18446744073709551615
  pub entries : c.entries + flagged c.held < 18446744073709551613
  pub variables : c.variables < 18446744073709551615
  pub lookups : c.lookups < 18446744073709551615
  pub commands : c.commands < 18446744073709551615
  pub depth : c.depth < 18446744073709551615
