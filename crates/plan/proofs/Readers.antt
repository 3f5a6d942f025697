-- What `then` answers, as the definitions say it: Q is what its closure tells of a value.
use Rattle.std.proofs.Common.{◌≡◌, Bool, true, false, Option, Some, None, is_some, IfSome}
use mathlib.Core.Path.{refl, sym, ap}
use mathlib.Core.Bool.{false≢true}
use Rattle.plexil.specs.Lists.{when◌then◌else◌}

pub then_some : {A : Type 0} (b : Bool) (o : Option A) (a : A) {Q : A → Type 0} → is_some o ≡ b → IfSome o Q → ((x : A) → Q x → x ≡ a) → o ≡ (when b then Some a else None)
then_some true None a h e tells = absurd (false≢true h)
then_some false None a h e tells = unfold when◌then◌else◌ in refl
then_some true (Some x) a h e tells = unfold when◌then◌else◌ in ap Some (tells x e)
then_some false (Some x) a h e tells = absurd (false≢true (sym h))
