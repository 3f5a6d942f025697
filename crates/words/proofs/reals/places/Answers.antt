-- The first '.'.
use borrow.Author.Tests.{tests}
use Rattle.std.proofs.Common.{◌≡◌, arith, rules}
use Rattle.std.proofs.lemmas.Iterator.{YieldsList-from_slice, IsFirst-from_position}
use Rattle.words.proofs.PlaceLaws.{point-found, point-none}
use Rattle.words.proofs.reals.places.Goals as goal

pub returns-in-Some : goal.returns-in-Some
returns-in-Some c = let p = IsFirst-from_position _ _ _ (λ x. x ≡ 46) (λ x. x ≡ 46 → ⊥) c.in-Some.ensures.ran (YieldsList-from_slice c.args.t.now cc) (λ x q k. search (rules, tests)) (λ x q k. search (rules, tests)) in
    point-found _ _ p.0 (p.1 0) (λ j l. p.2 j 0 (omega arith) l)

pub returns-in-None : goal.returns-in-None
returns-in-None c = let p = IsFirst-from_position _ _ _ (λ x. x ≡ 46) (λ x. x ≡ 46 → ⊥) c.in-None.ensures.ran (YieldsList-from_slice c.args.t.now cc) (λ x q k. search (rules, tests)) (λ x q k. search (rules, tests)) in
    point-none _ (λ j l. p j 0 (omega arith) l)
