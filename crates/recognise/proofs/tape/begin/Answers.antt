-- `begin` meets its contract.
use mathlib.Core.Path.{subst, sym}
use lib.ListN.{get_or}
use Rattle.recognise.specs.declared.Ahead.{Ahead}
use Rattle.recognise.specs.Tape.{Begun}
use Rattle.recognise.proofs.Taping.{begun-told}
use Rattle.recognise.proofs.tape.begin.Goals as goal

pub returns : goal.returns
returns c = let os = c.args.owner.now in
    subst (λ (a : Ahead). Begun os (record { at = 0; from = 0; to = 0; says = 94; ahead = a; sayings = get_or os 704 0 })) (sym c.start.ensures) (begun-told os)
