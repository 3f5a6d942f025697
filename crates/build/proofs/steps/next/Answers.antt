use Rattle.build.specs.Hearsay.{AllApt}
use Rattle.build.proofs.Codes.{heard-code}
use Rattle.build.proofs.steps.next.Goals as goal

pub returns : goal.returns
unfolding AllApt
returns c k = record {
  more = λ w l h n.
      let a = c.next.ensures.more k w l h.ahead in (
        record { just = a.0; apt = h.apt.0; ordered = c.next.ensures.ordered; inside = c.next.ensures.within; known = c.next.ensures.known },
        record { ahead = a.1; apt = h.apt.1 },
        heard-code _ _ w a.0 c.next.ensures.known n,
      );
}
