-- Demand 3, "The check refuses exactly the plans that break a listed rule", in two statements. proofs/Exactness proves each.
use Rattle.std.specs.Prelude.{ℕ, ◌<◌, ◌≡◌, ◌↔◌, true, false}
use Rattle.plexil.specs.declared.Rule.{Rule}
use Rattle.plexil.specs.declared.Verdict.TheVariants.{Admitted, Refused}
use Rattle.plexil.specs.Image.{Image}
use Rattle.plexil.specs.Check.{rule_number, records, breaks, verdict}

-- no record breaks the rule
abbrev pub Unbroken : Rule → Image → Type 0
Unbroken r p = (j : ℕ) → j < records r p → breaks r p j ≡ false

-- "The lowest broken of 1 to 12 is answered, with the lowest record number that breaks it"
pub record Broken (p : Image) (r : Rule) (i : ℕ) : Type 0 where
  pub in_range : i < records r p
  pub broken : breaks r p i ≡ true
  pub lowest : (j : ℕ) → j < i → breaks r p j ≡ false
  pub earlier : (q : Rule) → rule_number q < rule_number r → Unbroken q p

-- an image is refused with a rule and a record exactly where these are the lowest broken ones
abbrev pub RefusedExact : Type 0
RefusedExact = (p : Image) (r : Rule) (i : ℕ) → (verdict p ≡ Refused r i) ↔ Broken p r i

-- and admitted exactly where no rule is broken
abbrev pub AdmittedExact : Type 0
AdmittedExact = (p : Image) → (verdict p ≡ Admitted) ↔ ((r : Rule) → Unbroken r p)
