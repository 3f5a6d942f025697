-- `next` meets its contract: by its tests what the tape tells is a token of the text.
use native.Mathlib.Omega.{arith}
use Rattle.recognise.proofs.Taping.{scanned-on, over-so, told-on}
use Rattle.recognise.proofs.tape.next.Goals as goal

-- src/tape.rt:115:9
pub returns-then-sayings-eq0 : goal.returns-then-sayings-eq0
returns-then-sayings-eq0 c = scanned-on _ _ _ c.if-sayings-eq0.true _ c.advance.ensures

-- src/tape.rt:119:9
pub returns-then-i-sayings : goal.returns-then-i-sayings
returns-then-i-sayings c = over-so _ _ _ c.if-sayings-eq0.false (λ w n. omega (arith, n.inside, c.if-i-sayings.true)) _ c.over.ensures

-- src/tape.rt:122:9
pub returns-then-i-ge19640 : goal.returns-then-i-ge19640
returns-then-i-ge19640 c = over-so _ _ _ c.if-sayings-eq0.false (λ w n. omega (arith, n.few, c.if-i-ge19640.true)) _ c.over-then-i-ge19640.ensures

-- src/tape.rt:129:9
pub returns-then-says-ge-OVER : goal.returns-then-says-ge-OVER
returns-then-says-ge-OVER c = over-so _ _ _ c.if-sayings-eq0.false (λ w n. omega (arith, n.tells.known, rw c.held-kept.ensures at c.if-says-ge-OVER.true)) _ c.over-then-says-ge-OVER.ensures

-- src/tape.rt:132:9
pub returns-then-text-to : goal.returns-then-text-to
returns-then-text-to c = over-so _ _ _ c.if-sayings-eq0.false (λ w n. omega (arith, n.tells.within, rw c.held-kept.ensures at c.if-text-to.true)) _ c.over-then-text-to.ensures

-- src/tape.rt:110:1
pub returns : goal.returns
returns c = told-on _ _ _ c.if-sayings-eq0.false _ c.held-kept.ensures c.if-i-sayings.false c.if-says-ge-OVER.false c.if-text-to.false
