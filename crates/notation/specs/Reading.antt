-- The whole reply of reading a text: "Refusals, in this order: 40 Text .., 41 Level, 42 Name .., 3, 43 ImageRoom, then the others of 1 to 12".
use Rattle.std.specs.Prelude.{ℕ, List, [], ◌∷◌, ◌++◌, length, drop, ltb}
use Rattle.std.proofs.Math.Option.{Option, none, some}
use Rattle.plexil.specs.declared.Verdict.{Verdict}
use Rattle.plexil.specs.declared.Verdict.TheVariants.{Admitted, Refused}
use Rattle.plexil.specs.Lists.{when◌then◌else◌, Found, at, nowhere}
use Rattle.plexil.specs.Check.{rule_number, verdict}
use Rattle.grammar.specs.Text.{start, reach}
use Rattle.grammar.specs.Table.{sort, Said, grammar, hope_of, text_says}
use Rattle.notation.specs.Sayings.{Saying}
use Rattle.notation.specs.Rows.{plan, notation}
use Rattle.notation.specs.Draft.{Draft}
use Rattle.notation.specs.Hearing.{draft_of}
use Rattle.notation.specs.Names.{too_deep, bad_name}
use Rattle.notation.specs.Mapping.{image_of, within_counts, image_length}

-- what a text says, where it is of the notation
unfoldable pub plan_says : List ℕ → Option (List (Said Saying))
plan_says u = text_says notation (sort plan ∷ []) u

-- "the length of the longest prefix that some text of the grammar begins with"
unfoldable pub text_reach : List ℕ → ℕ
text_reach u = reach (grammar notation) (hope_of notation) (start (grammar notation) (sort plan ∷ [])) u

-- a refusal's number with its place in the text or its record, 0 where the text is accepted; the length of the image; the lent image at exit
pub record Reading : Type 0 where
  pub number : ℕ
  pub place : ℕ
  pub made : ℕ
  pub image : List ℕ

-- "The image length is 0 on every refusal"; "Nothing is written on any of them"
unfoldable pub refused : ℕ → ℕ → List ℕ → Reading
refused n k old = record { number = n; place = k; made = 0; image = old }

-- "nor ever beyond the image"
unfoldable pub written : List ℕ → List ℕ → Reading
written p old = record { number = 0; place = 0; made = length p; image = p ++ drop (length p) old }

-- the check of the image
unfoldable pub judged : Verdict → List ℕ → List ℕ → Reading
judged Admitted p old = written p old
judged (Refused r i) p old = refused (rule_number r) i old

-- 3 Count, and 43 ImageRoom
unfoldable pub measured : Draft → List ℕ → Reading
measured d old =
    when within_counts d then (when ltb (length old) (image_length d) then refused 43 0 old else judged (verdict (image_of d)) (image_of d) old) else refused 3 0 old

-- 42 Name
unfoldable pub named : Found → Draft → List ℕ → Reading
named (at k) d old = refused 42 k old
named nowhere d old = measured d old

-- 41 Level
unfoldable pub levelled : Found → Draft → List ℕ → Reading
levelled (at k) d old = refused 41 k old
levelled nowhere d old = named (bad_name d) d old

-- 40 Text
unfoldable pub heard : Option (List (Said Saying)) → List ℕ → List ℕ → Reading
heard none u old = refused 40 (text_reach u) old
heard (some l) u old = levelled (too_deep (draft_of l).nodes) (draft_of l) old

-- the whole reply of reading the text u into the lent image `old`
unfoldable pub read_reply : List ℕ → List ℕ → Reading
read_reply u old = heard (plan_says u) u old

-- opens every definition of this file
unfoldable pub opened : Unit {0}
unfolding plan_says text_reach refused written judged measured named levelled heard read_reply
opened = tt
