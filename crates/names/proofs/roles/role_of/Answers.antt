-- `names::roles::role_of` meets its contract: the table is that of the sayings, through their roles.
use mathlib.Core.Path.{◌≡◌, refl, sym, ◌∙◌}
use mathlib.Core.List.{map}
use borrow.Author.Rules.{rules}
use lib.ListN.{length, get_or-map, get_or-eq_default}
use Rattle.notation.specs.Sayings.{silence}
use Rattle.recognise.specs.Codes as Codes
use Rattle.recognise.specs.Codes.{sayings}
use Rattle.names.specs.Roles as Roles
use Rattle.names.specs.Roles.{role_of, role_number}
use Rattle.names.proofs.ViewLaws.{get_or_any}
use Rattle.names.proofs.roles.role_of.Goals as goal

many : length sayings ≡ 94
unfolding Codes.opened
many = refl

pub returns-then-says-ge94 : goal.returns-then-says-ge94
unfolding Codes.opened Roles.opened
returns-then-says-ge94 c = sym (rw (get_or-eq_default sayings silence {n = c.args.says} (rw many (search rules))))

pub returns : goal.returns
unfolding Codes.opened Roles.opened
returns c = get_or_any (map (λ x. role_number (role_of x)) sayings) c.args.says 0 15 (search rules) ∙ get_or-map (λ x. role_number (role_of x)) sayings c.args.says silence
