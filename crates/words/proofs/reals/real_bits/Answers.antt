-- `words::real_bits` meets its contract: the quotient is the decimal rounded once, and is negated where the sign is '-'. Assumes nothing.
use Rattle.words.proofs.RealLaws.{rounded, rounded-minus, too-high, minus-bits, plus-bits}
use Rattle.words.proofs.reals.real_bits.Goals as goal

pub returns-then-m-gt9007199254740992 : goal.returns-then-m-gt9007199254740992
returns-then-m-gt9007199254740992 c = λ x. too-high _ c.all_digits-m.ensures x _ c.if-m-gt9007199254740992.true

pub returns-then-negative : goal.returns-then-negative
returns-then-negative c = λ x.
    minus-bits _ c.all_digits-m.ensures x
    c.places.ensures c.power.ensures.2 c.quotient-q.ensures
    c.if-negative.true

pub float_to_bits-result : goal.float_to_bits-result
float_to_bits-result c = search rounded-minus

pub float_to_bits-result-2 : goal.float_to_bits-result-2
float_to_bits-result-2 c = search rounded

pub returns : goal.returns
returns c = λ x.
    plus-bits _ c.all_digits-m.ensures x
    c.places.ensures c.power.ensures.2 c.quotient-q.ensures
    c.if-negative.false
