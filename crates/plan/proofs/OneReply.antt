-- Each reader's contract permits one reply.
use mathlib.Core.Path.{sym, ◌∙◌}
use Rattle.plan.specs.Permits.{NodePermits, ExpressionPermits, VariablePermits, LookupPermits, OneOpened, OneRecord}

pub one-opened : OneOpened
one-opened image r q e f = e ∙ sym f

pub one-node : OneRecord NodePermits
one-node plan i r q e f = e ∙ sym f

pub one-expression : OneRecord ExpressionPermits
one-expression plan i r q e f = e ∙ sym f

pub one-variable : OneRecord VariablePermits
one-variable plan i r q e f = e ∙ sym f

pub one-lookup : OneRecord LookupPermits
one-lookup plan i r q e f = e ∙ sym f
