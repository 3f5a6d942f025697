-- `words::literal_prefix` meets its contract: its bytes are the literals in the order of their classes, a test that antt computes. Assumes nothing.
use Rattle.std.proofs.Common.{refl}
use Rattle.words.proofs.WordTable.{tests, prefix-told}
use Rattle.words.proofs.prefixes.literal_prefix.Goals as goal

pub returns : goal.returns
returns c = prefix-told _ _ _ c.word_prefix.ensures (unfold tests in refl)
