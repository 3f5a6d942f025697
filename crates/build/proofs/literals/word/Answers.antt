use native.Mathlib.Omega.{arith}
use Rattle.recognise.specs.Hears.{piece}
use Rattle.build.proofs.LiteralLaws.{no_word, true-word, false-word, whole_word, decimal-word, bits-word}
use Rattle.build.proofs.literals.word.Goals as goal

pub returns-then-says-gt38 : goal.returns-then-says-gt38
returns-then-says-gt38 c x l e h f g a = no_word _ x l _ e (omega arith)

pub returns-then-says-eq32 : goal.returns-then-says-eq32
returns-then-says-eq32 c x l e h f g a = true-word _ x l _ e c.if-says-eq32.true

pub returns-then-says-lt33 : goal.returns-then-says-lt33
returns-then-says-lt33 c x l e h f g a = false-word _ x l _ e c.if-says-lt33.true c.if-says-eq32.false

pub returns-then-says-lt35 : goal.returns-then-says-lt35
unfolding piece
returns-then-says-lt35 c x l e h f g a = whole_word _ x l _ _ _ e (omega arith) (omega arith) a (rw c.in-Some.ensures.lookup.0.2 at c.number_of.ensures) c.signed.ensures

pub returns-then-says-lt37 : goal.returns-then-says-lt37
unfolding piece
returns-then-says-lt37 c x l e h f g a = decimal-word _ x l _ _ e (omega arith) (omega arith) a (rw c.in-Some.ensures.lookup.0.2 at c.real_bits.ensures)

pub returns : goal.returns
unfolding piece
returns c x l e h f g a = bits-word _ x l _ _ _ e (omega arith) (omega arith) a (rw c.in-Some.ensures.lookup.0.2 at c.number_of-2.ensures) c.signed_bits.ensures
