-- What is viable of a token for a class is the longest part of its front that can become a token of the class's lead.
use Rattle.std.proofs.Common.{◌≡◌, ℕ, true, sym}
use mathlib.Core.Option.{some}
use Rattle.grammar.specs.Spelling.{Token, whole}
use Rattle.grammar.specs.Leads.{Lead, could}
use Rattle.grammar.specs.Scan.{longest}
use Rattle.grammar.proofs.ViableBy.{viable-by}
use Rattle.words.specs.Viable.{lead_of, viable_of, viable_class}

pub viable-longest : (c : ℕ) (l : Lead) (t : Token) → lead_of c ≡ some l → whole t ≡ true → viable_class c t ≡ longest (could l) t
unfolding viable_class viable_of
viable-longest c l t e h = rw e (sym (viable-by l t h))
