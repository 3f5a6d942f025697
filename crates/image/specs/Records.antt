-- "Plan image": whole records, made of the fields that plexil defines one by one.
use Rattle.std.specs.Prelude.{ℕ}
use Rattle.image.specs.declared.records.NodeRecord.{NodeRecord}
use Rattle.image.specs.declared.records.ExprRecord.{ExprRecord}
use Rattle.image.specs.declared.records.VarRecord.{VarRecord}
use Rattle.image.specs.declared.records.LookRecord.{LookRecord}
use Rattle.plexil.specs.declared.Condition.TheVariants.{Skip, Start, Pre, Inv, End, Post, Repeat}
use Rattle.plexil.specs.Image as plan
use Rattle.plexil.specs.Image.{Image, condition_field}

unfoldable pub node_record : Image → ℕ → NodeRecord
node_record p i =
    record {
      parent = plan.parent p i;
      form = plan.node_type p i;
      priority = plan.priority p i;
      skip = condition_field p i Skip;
      start = condition_field p i Start;
      pre = condition_field p i Pre;
      inv = condition_field p i Inv;
      end = condition_field p i End;
      post = condition_field p i Post;
      repeat = condition_field p i Repeat;
      what = plan.what p i;
      value = plan.value_field p i;
    }

unfoldable pub expr_record : Image → ℕ → ExprRecord
expr_record p e =
    record {
      operator = plan.operator p e;
      kind = plan.result_kind p e;
      a = plan.operand_a p e;
      b = plan.operand_b p e;
      constant = plan.constant p e;
    }

unfoldable pub var_record : Image → ℕ → VarRecord
var_record p v =
    record { kind = plan.var_kind p v; known = plan.var_known p v; owner = plan.owner p v; initial = plan.initial_bits p v }

unfoldable pub look_record : Image → ℕ → LookRecord
look_record p l = record { kind = plan.look_kind p l }

-- opens every definition of this file
unfoldable pub opened : Unit {0}
unfolding node_record expr_record var_record look_record
opened = tt
