-- What a call leaves: a refusal of the survey, or what is delivered of the image that was made.
use Prim.Native.Nat.{ℕ, ◌≤◌}
use mathlib.Core.Path.{◌≡◌, refl, sym, ap, ◌∙◌, subst}
use mathlib.Core.Logic.{◌≢◌}
use mathlib.Core.Bool.{true}
use mathlib.Core.List.{List}
use native.Mathlib.Omega.{arith}
use borrow.Author.Tests.{leb-true}
use lib.ListN.{length, take}
use Rattle.plexil.specs.Check.{verdict}
use Rattle.plexil.proofs.ListLaws.{every-at}
use Rattle.grammar.specs.Table.{Said}
use Rattle.notation.specs.Sayings.{Saying}
use Rattle.notation.specs.Draft.{Draft}
use Rattle.notation.specs.Hearing.{draft_of}
use Rattle.notation.specs.Mapping.{within_counts, image_length, image_of}
use Rattle.notation.specs.Reading.{judged, read_reply}
use Rattle.recognise.specs.declared.Recognised.{Recognised}
use Rattle.recognise.specs.Recognised.{accepted_as}
use Rattle.names.specs.declared.table.Told.{Told}
use Rattle.names.specs.Answers.{Accepted, tale_said}
use Rattle.names.specs.Tables.{Filled}
use Rattle.read.specs.declared.reply.ReadReply.{ReadReply}
use Rattle.read.specs.declared.surveying.Overview.{Overview}
use Rattle.read.specs.Reply.{made_reply}
use Rattle.read.specs.Survey.{survey_of, Foretells, Looked}
use Rattle.read.proofs.Foretold.{survey-foretells}
use Rattle.read.proofs.Handed.{Leaves, refuses}

-- "N (1..256), .. E (0..2048), .. V (0..128), .. L (0..64)": an image has at most 41108 bytes
most-bytes : (d : Draft) → within_counts d ≡ true → image_length d ≤ 41108
unfolding within_counts image_length
most-bytes d h =
    let n : length d.nodes ≤ 256 = leb-true _ _ (every-at _ 0 h) in
    let e : length d.entries ≤ 2048 = leb-true _ _ (every-at _ 1 h) in
    let v : length d.variables ≤ 128 = leb-true _ _ (every-at _ 2 h) in
    let l : length d.lookups ≤ 64 = leb-true _ _ (every-at _ 3 h) in
    omega arith

-- what is built in a scratch array of full length
abbrev Built : List ℕ → Recognised → List ℕ → List ℕ → List ℕ → Told → List ℕ → Type 0
Built u seen fs ts os told after =
    (l : List (Said Saying)) → Accepted u l → seen ≡ accepted_as (draft_of l) → Filled u (tale_said l) fs ts os told → within_counts (draft_of l) ≡ true
    → (take (image_length (draft_of l)) after ≡ image_of (draft_of l)) × (length after ≡ 41108)

-- the first `made` bytes of what was built are the image of which the reply is told
pub record Made (u old : List ℕ) (made : ℕ) (after : List ℕ) : Type 0 where
  pub size : length after ≡ 41108
  pub within : made ≤ 41108
  pub room : made ≤ length old
  pub reply : read_reply u old ≡ judged (verdict (take made after)) (take made after) old

module _ (u old : List ℕ) (r : ReadReply) (e : r ≡ survey_of u (length old)) where
  pub foretold : Foretells u old r
  foretold = subst (Foretells u old) (sym e) (survey-foretells u old)

  pub survey-refused : r.number ≢ 0 → Leaves r old (read_reply u old)
  survey-refused h = refuses r r.number r.place old (read_reply u old) (ap (λ n. record { number = r.number; place = r.place; made = n }) (foretold.nothing h)) (foretold.refuses h)

module _ (u old fs ts os : List ℕ) (s : Overview) (t : Looked u (length old) fs ts os s) where
  pub image-made : (after : List ℕ) → Built u s.seen fs ts os s.told after → Made u old s.made after
  image-made after b =
      let p = (foretold u old (made_reply s.made) t.reply).passes refl in
      let l = p.0 in
      let q = p.1 in
      let f = t.found l q.accepted in
      let m = b l q.accepted f.0 f.1 q.counted in
      let same : take s.made after ≡ image_of (draft_of l) = ap (λ n. take n after) q.long ∙ m.0 in
      record {
        size = m.1;
        within = omega (arith, q.long, most-bytes (draft_of l) q.counted);
        room = omega (arith, q.long, q.room);
        reply = q.reply ∙ ap (λ x. judged (verdict x) x old) (sym same);
      }

pub image-left : (u old after image : List ℕ) (n : ℕ) (r : ReadReply) → Made u old n after → Leaves r image (judged (verdict (take n after)) (take n after) old) → Leaves r image (read_reply u old)
image-left u old after image n r m h = subst (Leaves r image) (sym m.reply) h
