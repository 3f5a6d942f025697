-- K1 to K9 as texts: every one of the table passes, worked out by the definitions themselves.
use mathlib.Core.Path.{◌≡◌, refl}
use mathlib.Core.Bool.{true}
use Rattle.notation.specs.Everything as Everything
use Rattle.notation.specs.KnownTexts as Table

pub known-texts : Table.all_texts_pass Table.known_texts ≡ true
unfolding Everything.opened Table.opened
known-texts = refl
