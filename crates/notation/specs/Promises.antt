-- What is promised of the notation, in statements: which texts are plans, that each is read in one way, and how far another text goes. proofs/ proves each.
use Rattle.std.specs.Prelude.{ℕ, suc, ◌≤◌, ◌<◌, ◌≡◌, ◌↔◌, ◌≢◌, true, length, take, drop}
use mathlib.Core.List.{List, [], ◌∷◌, ◌++◌, Memᴰ}
use Rattle.std.proofs.Math.Option.{some, IsSome}
use Rattle.plexil.specs.declared.Verdict.TheVariants.{Admitted}
use Rattle.plexil.specs.Lists.{nowhere}
use Rattle.plexil.specs.Values.{good_bits}
use Rattle.plexil.specs.Check.{verdict}
use Rattle.grammar.specs.Spelling.{Token}
use Rattle.grammar.specs.Leads.{accepts}
use Rattle.grammar.specs.Text.{OfText, trees_of, BeginsText}
use Rattle.grammar.specs.Table.{sort, Row, grammar, pick, Said}
use Rattle.notation.specs.Sayings.{Kind, Saying}
use Rattle.notation.specs.Rows.{Sort, plan, reserved, rows, notation}
use Rattle.notation.specs.Spoken.{spoken}
use Rattle.notation.specs.Phrases.{Plan}
use Rattle.notation.specs.Draft.{Mentioned, Draft}
use Rattle.notation.specs.Hearing.{hear_all, draft_of}
use Rattle.notation.specs.Names.{bad_name, too_deep}
use Rattle.notation.specs.Mapping.{kind_code, image_of, within_counts, image_length}
use Rattle.notation.specs.Abstract.{Abstract, is_constant, FineAbstract, lay_plan, unplaced}
use Rattle.notation.specs.Writing.{write}
use Rattle.notation.specs.Reading.{plan_says, text_reach, Reading, read_reply}

-- the text is of the notation: its bytes spell tokens, and the tokens are a tree's
abbrev pub PlanText : List ℕ → Type 0
PlanText u = OfText (grammar notation) (sort plan ∷ []) u

-- some text of the notation begins with u
abbrev pub BeginsPlan : List ℕ → Type 0
BeginsPlan u = BeginsText (grammar notation) (sort plan ∷ []) u

-- 1. "accepted exactly": a text says something exactly when it is of the notation
abbrev pub PlansExactly : Type 0
PlansExactly = (u : List ℕ) → IsSome (plan_says u) ↔ PlanText u

-- 2. "read uniquely": a text has one tree
abbrev pub PlansUnique : Type 0
PlansUnique = (u : List ℕ) (x y : PlanText u) → trees_of (grammar notation) u x ≡ trees_of (grammar notation) u y

-- any row that a token begins is the row of that token: the order of the rows says nothing
abbrev pub OneRow : Type 0
OneRow =
    (x : Sort) (r : Row Sort Saying) (t : Token) → Memᴰ r (rows x) → accepts reserved r.lead t ≡ true → pick reserved (rows x) t ≡ some r

-- 3. refusal 40's place is "the length of the longest prefix that some text of the grammar begins with"
abbrev pub PlansViable : Type 0
PlansViable =
    (u : List ℕ)
    → (text_reach u ≤ length u) × BeginsPlan (take (text_reach u) u) × ((n : ℕ) → n ≤ length u → BeginsPlan (take n u) → n ≤ text_reach u)

-- a text of the notation is viable to its end
abbrev pub PlansWhole : Type 0
PlansWhole = (u : List ℕ) → PlanText u → text_reach u ≡ length u

-- what a text of the notation says is a phrase of `Phrases`, and the tokens that say nothing add nothing
abbrev pub PlansPhrased : Type 0
PlansPhrased = (u : List ℕ) (l : List (Said Saying)) → plan_says u ≡ some l → Plan (spoken l)

abbrev pub SilenceAddsNothing : Type 0
SilenceAddsNothing = (l : List (Said Saying)) (d : Draft) → hear_all (spoken l) d ≡ hear_all l d

-- 4. "the image is the mapping's bytes and has the mapping's length"
abbrev pub ImageLength : Type 0
ImageLength = (l : List (Said Saying)) → length (image_of (draft_of l)) ≡ image_length (draft_of l)

-- 5. "an accepted text's image is admitted by the check": what holds where the reply's number is 0
pub record Made (u old : List ℕ) (r : Reading) : Type 0 where
  pub sayings : List (Said Saying)
  pub says : plan_says u ≡ some sayings
  pub levels : too_deep (draft_of sayings).nodes ≡ nowhere
  pub names : bad_name (draft_of sayings) ≡ nowhere
  pub counts : within_counts (draft_of sayings) ≡ true
  pub admitted : verdict (image_of (draft_of sayings)) ≡ Admitted
  pub place : r.place ≡ 0
  pub made : r.made ≡ image_length (draft_of sayings)
  pub room : image_length (draft_of sayings) ≤ length old
  pub image : r.image ≡ image_of (draft_of sayings) ++ drop (image_length (draft_of sayings)) old

abbrev pub AcceptedAdmitted : Type 0
AcceptedAdmitted = (u old : List ℕ) → (read_reply u old).number ≡ 0 → Made u old (read_reply u old)

-- "The image length is 0 on every refusal"; "Nothing is written on any of them"
abbrev pub RefusedKeeps : Type 0
RefusedKeeps = (u old : List ℕ) → (read_reply u old).number ≢ 0 → ((read_reply u old).made ≡ 0) × ((read_reply u old).image ≡ old)

-- "nor ever beyond the image"; the lent image keeps its length
abbrev pub BeyondStays : Type 0
BeyondStays =
    (u old : List ℕ) → (drop (read_reply u old).made (read_reply u old).image ≡ drop (read_reply u old).made old) × (length (read_reply u old).image ≡ length old)

-- "12 never comes from a text"
abbrev pub NeverTwelve : Type 0
NeverTwelve = (u old : List ℕ) → (read_reply u old).number ≢ 12

-- 6. "Any two replies it permits are proved equal"
abbrev pub ReadPermits : List ℕ → List ℕ → Reading → Type 0
ReadPermits u old r = r ≡ read_reply u old

abbrev pub OneReading : Type 0
OneReading = (u old : List ℕ) (r q : Reading) → ReadPermits u old r → ReadPermits u old q → r ≡ q

-- 7. "combined freely": every abstract plan is said by some text, and what the text says are the plan's own records
pub record Tells (p : Abstract) (d : Draft) : Type 0 where
  pub commands : d.commands ≡ p.commands
  pub lookups : d.lookups ≡ p.lookups
  pub nodes : unplaced d.nodes ≡ (lay_plan p).nodes
  pub entries : d.entries ≡ (lay_plan p).entries
  pub variables : d.variables ≡ (lay_plan p).variables

abbrev pub CombinedFreely : Type 0
CombinedFreely = (p : Abstract) → FineAbstract p → (l : List (Said Saying)) × (plan_says (write p) ≡ some l) × Tells p (draft_of l)

-- every constant of document 01 is one of an abstract plan: "Bool 0 or 1, Int two's complement, finite Real's bits"
abbrev pub ConstantsAll : Type 0
ConstantsAll = (k : Kind) (w : ℕ) → w < 18446744073709551616 → good_bits (kind_code k) w ≡ true → is_constant k w ≡ true

-- 8. names are tested "in text order": the mentions stand in the order of their places
abbrev pub InTextOrder : ℕ → List Mentioned → Type 0
InTextOrder n [] = Unit {0}
InTextOrder n (m ∷ ms) = (n ≤ m.place) × InTextOrder (suc m.place) ms

abbrev pub MentionsOrdered : Type 0
MentionsOrdered = (u : List ℕ) (l : List (Said Saying)) → plan_says u ≡ some l → InTextOrder 0 (draft_of l).mentions
