-- An opened plan, and what stands in it at a number: of n records, the numbers from n on have none.
use Rattle.std.specs.Prelude.{ℕ, ltb, Option, Some, None}
use Rattle.std.specs.Borrow.{Bor}
use Rattle.plan.specs.declared.Opened.{Opened}
use Rattle.image.specs.declared.records.NodeRecord.{NodeRecord}
use Rattle.image.specs.declared.records.ExprRecord.{ExprRecord}
use Rattle.image.specs.declared.records.VarRecord.{VarRecord}
use Rattle.image.specs.declared.records.LookRecord.{LookRecord}
use Rattle.plexil.specs.Lists.{when◌then◌else◌}
use Rattle.plexil.specs.Image.{Image}
use Rattle.plexil.specs.Replies.{check_reply}
use Rattle.image.specs.Records.{node_record, expr_record, var_record, look_record}

-- "a view over the caller's image bytes": the same slice, beside the check's reply
abbrev pub opened_of : Bor Image → Opened
opened_of image =
    record {
      plan = record { image = image; counts = (check_reply image.now).counts };
      verdict = (check_reply image.now).verdict;
    }

unfoldable pub node_at_of : Image → ℕ → ℕ → Option NodeRecord
node_at_of p n i = when ltb i n then Some (node_record p i) else None

unfoldable pub expression_at_of : Image → ℕ → ℕ → Option ExprRecord
expression_at_of p n e = when ltb e n then Some (expr_record p e) else None

unfoldable pub variable_at_of : Image → ℕ → ℕ → Option VarRecord
variable_at_of p n v = when ltb v n then Some (var_record p v) else None

unfoldable pub lookup_at_of : Image → ℕ → ℕ → Option LookRecord
lookup_at_of p n l = when ltb l n then Some (look_record p l) else None
