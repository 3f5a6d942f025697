-- `build::attributes::attribute` meets its contract.
use mathlib.Core.Path.{refl}
use native.Mathlib.Omega.{arith}
use Rattle.build.proofs.AttributeLaws.{told-condition, told-rank, told-variable, told-initial}
use borrow.Author.Rules.{rules}
use Rattle.build.proofs.attributes.attribute.Goals as goal

pub returns-then-says-lt12 : goal.returns-then-says-lt12
returns-then-says-lt12 c = (λ whole before parent size k room site n m lo t. absurd (omega arith), refl)

pub returns-then-says-lt19 : goal.returns-then-says-lt19
returns-then-says-lt19 c = (λ whole before parent size k room site n m lo t. told-condition _ whole before parent size k _ _ _ t _ _ _ _ _ _ _ _ _ room site n m lo (omega arith) c.expression-e.ensures c.last.ensures (c.next.ensures site.known.ready.tape), search rules)

pub returns-then-says-eq19 : goal.returns-then-says-eq19
returns-then-says-eq19 c = (λ whole before parent size k room site n m lo t. (told-rank _ whole before parent size k _ _ _ t _ _ (omega arith) c.rank.ensures (c.next-then.ensures site.known.ready.tape), room), refl)

pub returns-then-says-lt23 : goal.returns-then-says-lt23
returns-then-says-lt23 c = (λ whole before parent size k room site n m lo t. (told-variable _ whole before parent size k _ _ _ t _ _ _ _ _ _ _ _ site n (omega arith) (omega arith) refl c.add_variable.ensures (c.next-then.ensures site.known.ready.tape), room), refl)

pub returns : goal.returns
returns c = (λ whole before parent size k room site n m lo t. (told-initial _ whole before parent size k _ _ _ t _ _ _ _ _ _ site (omega arith) c.initial.ensures c.set_initial.ensures (c.next-then.ensures site.known.ready.tape), room), refl)
