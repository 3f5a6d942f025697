-- `keep` meets its contract: by its tests.
use mathlib.Core.Path.{refl, ap, ◌∙◌}
use native.Mathlib.Omega.{arith}
use lib.ListN.{length}
use Rattle.recognise.specs.Tape.{holding}
use Rattle.recognise.proofs.Tapes.{holding-length}
use Rattle.recognise.proofs.tape.keep.Goals as goal

-- src/tape.rt:50:9
pub returns-then-says-eq0 : goal.returns-then-says-eq0
returns-then-says-eq0 c = record { silent = λ e. (refl, refl); kept = λ e. absurd (e c.if-says-eq0.true); room = λ e. absurd (e c.if-says-eq0.true); size = refl }

-- src/tape.rt:53:9
pub returns-then-i-ge19640 : goal.returns-then-i-ge19640
returns-then-i-ge19640 c = record { silent = λ e. absurd (c.if-says-eq0.false e); kept = λ e h k o. absurd (omega (arith, h, c.if-i-ge19640.true)); room = λ e h. absurd (omega (arith, h)); size = refl }

-- src/tape.rt:56:9
pub returns-then-to-ge262144 : goal.returns-then-to-ge262144
returns-then-to-ge262144 c = record { silent = λ e. absurd (c.if-says-eq0.false e); kept = λ e h k o. absurd (omega (arith, k, c.if-to-ge262144.true)); room = λ e h. absurd (omega (arith, h)); size = refl }

-- src/tape.rt:59:9
pub returns-then-to-from-ge128 : goal.returns-then-to-from-ge128
returns-then-to-from-ge128 c = record { silent = λ e. absurd (c.if-says-eq0.false e); kept = λ e h k o. absurd (omega (arith, o, c.if-to-from-ge128.true)); room = λ e h. absurd (omega (arith, h)); size = refl }

-- src/tape.rt:45:1
pub returns : goal.returns
returns c = let is = c.hold.ensures in
    record {
      silent = λ e. absurd (c.if-says-eq0.false e);
      kept = λ e h k o. (omega arith, is ∙ ap (holding c.args.owner.now c.args.i) c.pack.ensures.0);
      room = λ e h. (c.if-i-ge19640.false, c.if-to-ge262144.false, c.if-to-from-ge128.false);
      size = ap length is ∙ holding-length c.args.owner.now c.args.i c.pack.result;
    }
