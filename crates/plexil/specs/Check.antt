-- The check: which record breaks which of the rules 1 to 12, and the verdict.
use Rattle.std.specs.Prelude.{ℕ, Bool, not, List, [], ◌∷◌, eqb}
use Rattle.plexil.specs.declared.Rule.{Rule}
use Rattle.plexil.specs.declared.Rule.TheVariants.{Short, Edition, Count, Layout, Tree, Node, Variable, Lookup, Expression, Deep, Kind, Reach}
use Rattle.plexil.specs.declared.Verdict.{Verdict}
use Rattle.plexil.specs.declared.Verdict.TheVariants.{Admitted, Refused}
use Rattle.plexil.specs.Lists.{first, at, nowhere}
use Rattle.plexil.specs.Image.{Image, edition, node_count, expr_count, var_count, look_count}
use Rattle.plexil.specs.Records.{short, good_count, good_layout, good_parent, good_node, good_variable, good_lookup, good_expression}
use Rattle.plexil.specs.Scope.{shallow, good_kinds, good_reach}

-- the numbers of the table "Refusal numbers"
unfoldable pub rule_number : Rule → ℕ
rule_number Short = 1
rule_number Edition = 2
rule_number Count = 3
rule_number Layout = 4
rule_number Tree = 5
rule_number Node = 6
rule_number Variable = 7
rule_number Lookup = 8
rule_number Expression = 9
rule_number Deep = 10
rule_number Kind = 11
rule_number Reach = 12

-- how many records a rule is about, one and so number "0 for 1 to 4", and whether record i breaks it; "2 Edition: not 1"
unfoldable pub rule_on : Rule → Image → ℕ × (ℕ → Bool)
rule_on Short p = (1, λ i. short p)
rule_on Edition p = (1, λ i. not (eqb (edition p) 1))
rule_on Count p = (1, λ i. not (good_count p))
rule_on Layout p = (1, λ i. not (good_layout p))
rule_on Tree p = (node_count p, λ i. not (good_parent p i))
rule_on Node p = (node_count p, λ i. not (good_node p i))
rule_on Variable p = (var_count p, λ i. not (good_variable p i))
rule_on Lookup p = (look_count p, λ i. not (good_lookup p i))
rule_on Expression p = (expr_count p, λ i. not (good_expression p i))
rule_on Deep p = (expr_count p, λ i. not (shallow p i))
rule_on Kind p = (node_count p, λ i. not (good_kinds p i))
rule_on Reach p = (node_count p, λ i. not (good_reach p i))

-- how many records rule r is about
unfoldable pub records : Rule → Image → ℕ
records r p = (rule_on r p).0

-- record i breaks rule r
unfoldable pub breaks : Rule → Image → ℕ → Bool
breaks r p i = (rule_on r p).1 i

-- "The lowest broken of 1 to 12 is answered, with the lowest record number that breaks it"
unfoldable pub verdict_on : List Rule → Image → Verdict
verdict_on [] p = Admitted
verdict_on (r ∷ rs) p = elim (first (records r p) (breaks r p)) [ at i ↦ Refused r i | nowhere ↦ verdict_on rs p ]

-- the rules in the order of their numbers
unfoldable pub rules : List Rule
rules = Short ∷ Edition ∷ Count ∷ Layout ∷ Tree ∷ Node ∷ Variable ∷ Lookup ∷ Expression ∷ Deep ∷ Kind ∷ Reach ∷ []

-- the verdict on an image
unfoldable pub verdict : Image → Verdict
verdict p = verdict_on rules p

-- opens every definition of this file
unfoldable pub opened : Unit {0}
unfolding rule_number rule_on records breaks verdict_on rules verdict
opened = tt
