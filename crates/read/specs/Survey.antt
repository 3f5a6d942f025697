-- The stages of a reading before there is an image: what they answer, and what the whole reply is after them.
use Rattle.std.specs.Prelude.{ℕ, ◌≤◌, ◌≡◌, ◌≢◌, true, List, length, ltb, Result, Ok, Err, MatchResult}
use Rattle.std.proofs.Math.Option.{Option, none, some}
use Rattle.plexil.specs.Lists.{when◌then◌else◌, Found, at, nowhere}
use Rattle.plexil.specs.Check.{verdict}
use Rattle.grammar.specs.Table.{Said}
use Rattle.notation.specs.Sayings.{Saying}
use Rattle.notation.specs.Draft.{Draft}
use Rattle.notation.specs.Hearing.{draft_of}
use Rattle.notation.specs.Names.{too_deep, bad_name}
use Rattle.notation.specs.Mapping.{image_of, within_counts, image_length}
use Rattle.notation.specs.Reading.{plan_says, text_reach, refused, judged, read_reply}
use Rattle.recognise.specs.Recognised.{accepted_as}
use Rattle.names.specs.Answers.{Accepted, tale_said}
use Rattle.names.specs.Tables.{Filled}
use Rattle.read.specs.declared.reply.ReadReply.{ReadReply}
use Rattle.read.specs.declared.surveying.Overview.{Overview}
use Rattle.read.specs.Reply.{refused_reply, made_reply}

-- 3 Count, and 43 ImageRoom
unfoldable pub measured_by : Draft → ℕ → ReadReply
measured_by d room =
    when within_counts d then (when ltb room (image_length d) then refused_reply 43 0 else made_reply (image_length d)) else refused_reply 3 0

-- 42 Name
unfoldable pub named_by : Found → Draft → ℕ → ReadReply
named_by (at k) d room = refused_reply 42 k
named_by nowhere d room = measured_by d room

-- 41 Level
unfoldable pub levelled_by : Found → Draft → ℕ → ReadReply
levelled_by (at k) d room = refused_reply 41 k
levelled_by nowhere d room = named_by (bad_name d) d room

-- 40 Text
unfoldable pub heard_by : Option (List (Said Saying)) → List ℕ → ℕ → ReadReply
heard_by none u room = refused_reply 40 (text_reach u)
heard_by (some l) u room = levelled_by (too_deep (draft_of l).nodes) (draft_of l) room

-- what a survey of the text answers, with so much room for its image
unfoldable pub survey_of : List ℕ → ℕ → ReadReply
survey_of u room = heard_by (plan_says u) u room

-- the text says l, within the levels and the counts; its image fits and is as long as the survey says, and the reply is the check's
pub record Passes (u old : List ℕ) (made : ℕ) (l : List (Said Saying)) : Type 0 where
  pub accepted : Accepted u l
  pub counted : within_counts (draft_of l) ≡ true
  pub long : made ≡ image_length (draft_of l)
  pub room : image_length (draft_of l) ≤ length old
  pub reply : read_reply u old ≡ judged (verdict (image_of (draft_of l))) (image_of (draft_of l)) old

-- a refusal of the survey is the whole reply
pub record Foretells (u old : List ℕ) (r : ReadReply) : Type 0 where
  pub refuses : r.number ≢ 0 → read_reply u old ≡ refused r.number r.place old
  pub nothing : r.number ≢ 0 → r.made ≡ 0
  pub passes : r.number ≡ 0 → (l : List (Said Saying)) × Passes u old r.made l

abbrev pub SurveyForetells : Type 0
SurveyForetells = (u old : List ℕ) → Foretells u old (survey_of u (length old))

-- the reply so far, of a length or of a refusal
unfoldable pub reply_by : Result ℕ ReadReply → ReadReply
reply_by (Ok n) = made_reply n
reply_by (Err r) = r

-- a refusal has a number
abbrev pub Refuses : Result ℕ ReadReply → Type 0
Refuses o = MatchResult o (λ n. Unit {0}) (λ r. r.number ≢ 0)

-- what a look over a text that passes has found: the reply so far, its counts, and the tables of its declarations
pub record Looked (u : List ℕ) (room : ℕ) (fs ts os : List ℕ) (s : Overview) : Type 0 where
  pub reply : made_reply s.made ≡ survey_of u room
  pub found : (l : List (Said Saying)) → Accepted u l → (s.seen ≡ accepted_as (draft_of l)) × Filled u (tale_said l) fs ts os s.told

-- what a survey answers: a refusal, or what it has found
abbrev pub Surveyed : List ℕ → ℕ → List ℕ → List ℕ → List ℕ → Result Overview ReadReply → Type 0
Surveyed u room fs ts os o = MatchResult o (λ s. Looked u room fs ts os s) (λ r. (r ≡ survey_of u room) × (r.number ≢ 0))

-- opens every definition of this file
unfoldable pub opened : Unit {0}
unfolding measured_by named_by levelled_by heard_by survey_of reply_by
opened = tt
