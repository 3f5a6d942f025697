-- What is sought from n is sought from `node`, at most as many nodes further up as the loop has turns left.
use Rattle.std.proofs.Common.{◌≡◌, ℕ, List, suc, ◌<◌, ◌-◌}
use Rattle.plexil.specs.Lists.{Found}
use Rattle.grammar.specs.Table.{Said}
use Rattle.notation.specs.Sayings.{Saying}
use Rattle.notation.specs.Hearing.{draft_of, parent_in}
use Rattle.names.specs.Answers.{Accepted}
use Rattle.names.specs.Climb.{Finds, go_up}
use Rattle.names.specs.Tables.{Prepared}
use Rattle.names.proofs.table.Tables.climb.Given as goal

abbrev pub invariant-loop : goal.invariant-loop
invariant-loop g v = ((l : List (Said Saying)) → Accepted v.self.text.now l → Prepared v.self l → (f : ℕ → Found) → Finds (goal.F-post g v.own) f → go_up f (parent_in (draft_of l).nodes) (suc v.n) v.n ≡ go_up f (parent_in (draft_of l).nodes) (suc (v.n - v.counter)) v.node)
    × goal.F-pre g v.own v.node × (v.node < 18446744073709551616)
