-- Place after place, from n on.
use Rattle.std.proofs.Common.{rules, ◌∙◌}
use borrow.Author.Tests.{tests}
use Rattle.std.proofs.lemmas.Iterator.{YieldsList-from_slice}
use Rattle.std.proofs.lemmas.Iterator.Adapters.{YieldsList-from_skip}
use Rattle.std.proofs.lemmas.Iterator.Search.{all_from_yields_List}
use Rattle.form.proofs.Places.{each-in}
use Rattle.form.proofs.unused.zero_from.Goals as goal

pub returns : goal.returns
returns g c =
    all_from_yields_List (λ x. g.T.PartialEq.eq x c.args.zero) _ _ _ c.all.ensures.ran
    (YieldsList-from_skip _ (YieldsList-from_slice c.args.places.now cc) cc) (λ x b q k. search (rules, tests))
    ∙ each-in _ _
