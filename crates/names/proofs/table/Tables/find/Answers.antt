-- `names::Tables::find` meets its contract: where the tables are whole, the rows of the sort are its declarations.
use Rattle.names.proofs.GoingUp.{small-nowhere, none-is}
use native.Mathlib.Omega.{arith}
use mathlib.Core.Path.{ap, ◌∙◌}
use Rattle.names.specs.Answers.{found_of}
use Rattle.names.proofs.Quick.{quick-find, quick-fair, quick-room, sort-lies}
use Rattle.names.proofs.table.Tables.find.Goals as goal

pub returns-then-count-room_of : goal.returns-then-count-room_of
returns-then-count-room_of c = (λ l a r. absurd (omega (arith, quick-room _ _ _ _ _ _ c.if-self.true r c.args.sort c.requires, c.count_of-count.ensures, c.room_of.ensures, c.if-count-room_of.true)), small-nowhere none-is)

pub first_row-requires : goal.first_row-requires
first_row-requires c = omega (arith, sort-lies c.args.sort, c.base_of-base.ensures, c.count_of-count.ensures, c.room_of.ensures, c.if-count-room_of.false)

pub returns-then-self : goal.returns-then-self
returns-then-self c = (
  λ l a r.
      let f = quick-fair _ _ _ _ _ _ c.if-self.true r c.args.sort c.requires in
      rw (c.base_of-base.ensures, c.count_of-count.ensures) at c.first_row.ensures.0 f ∙ ap found_of (quick-find _ _ _ _ _ _ c.if-self.true r c.args.sort c.requires _ _),
  c.first_row.ensures.1,
)

pub returns : goal.returns
returns c = (λ l a r. c.find.ensures.0 l a r.tape, c.find.ensures.1)
