-- What the turn by value leaves, place by place. It is written out so that another contract is refused at the place that differs.
use Rattle.std.proofs.Common.{ap}
use Rattle.samblokur.specs.declared.calls.TurnExit.{TurnExit}
use Rattle.samblokur.proofs.entries.samblokur_turn.Goals as goal

pub returns : goal.returns
returns c =
    let e = c.turn-r.ensures.0 in
    (ap (λ (x : TurnExit). x.number) e, ap (λ (x : TurnExit). x.state) e, ap (λ (x : TurnExit). x.card) e, ap (λ (x : TurnExit). x.report) e, c.turn-r.ensures.1)
