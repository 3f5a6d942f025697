use mathlib.Core.Path.{sym, ◌∙◌}
use native.Mathlib.Omega.{arith}
use Rattle.build.proofs.LeafLaws.{leaf-past, name-past, name-held, lookup-stands}
use Rattle.build.proofs.leaves.numeric.Goals as goal

pub returns-then-at-lt42 : goal.returns-then-at-lt42
returns-then-at-lt42 c s n ps size kn f h g1 g2 m = leaf-past _ s _ n ps size _ _ _ _ _ _ _ m f (omega arith) (c.next-after.ensures kn.ready.tape)
    (λ es x few t l e a. c.literal-n.ensures s es x f.room f.low few t l e c.if-at-lt42.true m.heard.ordered m.heard.inside a)

pub returns-then-at-eq42 : goal.returns-then-at-eq42
returns-then-at-eq42 c s n ps size kn f h g1 g2 m = leaf-past _ s _ n ps size _ _ _ _ _ _ _ m f (omega arith) (c.next-after.ensures kn.ready.tape)
    (λ es x few t l e a. lookup-stands s _ _ _ es x _ l (sym e ∙ c.if-at-eq42.true) (c.lookup_entry-n.ensures s es kn f.room f.low few t (m.heard.ordered, m.heard.inside)))

pub returns-then-after-lt79 : goal.returns-then-after-lt79
returns-then-after-lt79 c s n ps size kn f h g1 g2 m = c.question.ensures s n ps size m.entries m.mentioned m.next.token kn f h (m.heard.ordered, m.heard.inside) m.heard.just.bytes m.stands
    (name-held _ s _ n ps size _ _ _ _ m (omega arith) g1 g2 (c.next-after.ensures kn.ready.tape) c.if-after-lt79.true)

pub returns : goal.returns
returns c s n ps size kn f h g1 g2 m = name-past _ s _ n ps size _ _ _ _ _ _ _ m f (omega arith) g1 g2 (c.next-after.ensures kn.ready.tape) (omega arith)
    (λ es few t. c.variable_entry-n.ensures s es kn f.room f.low few t (m.heard.ordered, m.heard.inside))
