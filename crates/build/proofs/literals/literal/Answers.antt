use Rattle.build.specs.Literals.{leaf_entry}
use Rattle.build.proofs.LiteralLaws.{literal-expr}
use Rattle.build.proofs.literals.literal.Goals as goal

pub returns : goal.returns
returns c s es x room low few t l e h f g a = c.emit.ensures s es (leaf_entry x _) room low few t (literal-expr x l _ _ _ _ _ _ _ e h (c.kind.ensures x l e h) (c.known.ensures x l e h) (c.word.ensures x l e h f g a))
