use mathlib.Core.List.{[]}
use Rattle.build.proofs.PathLaws.{asked-one, asked-two}
use Rattle.build.proofs.leaves.question.Goals as goal

pub returns-then-ask_not-eq0 : goal.returns-then-ask_not-eq0
returns-then-ask_not-eq0 c s n ps size es ms h kn f m lies e st hl = let w = c.walk-q.ensures s n ps size es ms h kn f.small m lies e hl in
    asked-one _ s _ n ps size es ms _ _ _ _ _ _ 0 _ _ _ _ _ _ [] f st (c.next-end.ensures kn.ready.tape) w.3 c.ask_op.ensures c.ask_code.ensures c.ask_not.ensures c.emit-n.ensures w.1 w.2 c.if-ask_not-eq0.true

pub returns : goal.returns
returns c s n ps size es ms h kn f m lies e st hl = let w = c.walk-q.ensures s n ps size es ms h kn f.small m lies e hl in
    asked-two _ s _ n ps size es ms _ _ _ _ _ _ _ _ _ _ _ _ _ _ f st (c.next-end.ensures kn.ready.tape) w.3 c.ask_op.ensures c.ask_code.ensures c.ask_not.ensures c.emit-n.ensures w.1 w.2 c.if-ask_not-eq0.false c.emit-m.ensures
