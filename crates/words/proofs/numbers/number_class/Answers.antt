-- The first bound that the number does not pass.
use borrow.Author.Tests.{tests}
use Rattle.std.proofs.Common.{arith, rules, ◌<◌, ◌≤◌}
use Rattle.std.proofs.lemmas.Iterator.{YieldsList-from_slice, IsFirst-from_position}
use Rattle.notation.specs.Classes.{bounds}
use Rattle.words.proofs.ClassLaws.{class-first, class-none}
use Rattle.words.proofs.numbers.number_class.Goals as goal

pub returns-in-Some : goal.returns-in-Some
unfolding bounds
returns-in-Some c = let p = IsFirst-from_position _ _ _ (λ x. c.args.n ≤ x) (λ x. x < c.args.n) c.in-Some.ensures.ran (YieldsList-from_slice bounds cc) (λ x q k. search (rules, tests)) (λ x q k. search (rules, tests)) in
    class-first bounds 68 _ _ p.0 (p.1 0) (λ j l. p.2 j 0 (omega arith) l)

pub returns-in-None : goal.returns-in-None
unfolding bounds
returns-in-None c = let p = IsFirst-from_position _ _ _ (λ x. c.args.n ≤ x) (λ x. x < c.args.n) c.in-None.ensures.ran (YieldsList-from_slice bounds cc) (λ x q k. search (rules, tests)) (λ x q k. search (rules, tests)) in
    class-none bounds 68 _ (λ j l. p j 0 (omega arith) l)
