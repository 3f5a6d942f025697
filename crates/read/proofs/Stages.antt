-- Each stage of a survey, from what its pass found.
use Prim.Native.Nat.{ℕ, ◌≤◌, ◌<◌}
use mathlib.Core.Path.{◌≡◌, refl, sym, ap, ◌∙◌}
use mathlib.Core.Bool.{Bool, true, false, not, true≢false, false≢true}
use mathlib.Core.List.{List}
use mathlib.Core.Option.{Option, none, some}
use native.Mathlib.Omega.{arith}
use borrow.Author.Tests.{lt-ltb, le-ltb, not-true, not-false}
use Rattle.plexil.specs.Lists.{when◌then◌else◌, Found, at, nowhere}
use Rattle.grammar.specs.Table.{Said}
use Rattle.notation.specs.Sayings.{Saying}
use Rattle.notation.specs.Draft.{Draft}
use Rattle.notation.specs.Hearing.{draft_of}
use Rattle.notation.specs.Names.{is_found, too_deep, bad_name}
use Rattle.notation.specs.Mapping.{within_counts, image_length}
use Rattle.notation.specs.Reading.{plan_says}
use Rattle.recognise.specs.declared.Recognised.{Recognised}
use Rattle.recognise.specs.Recognised.{place_of, accepted_as, recognised_by, recognised_of}
use Rattle.std.specs.Prelude.{unwrap_or, is_some, Some, None}
use Rattle.names.specs.Answers.{found_of, Accepted}
use Rattle.read.specs.declared.reply.ReadReply.{ReadReply}
use Rattle.read.specs.Reply.{refused_reply, made_reply}
use Rattle.read.specs.Limits.{fits, length_of}
use Rattle.read.specs.Survey.{measured_by, named_by, levelled_by, heard_by, survey_of}

pub limits-kept : (s : Recognised) (o : Bool) → o ≡ not (fits s) → o ≡ false → fits s ≡ true
limits-kept s o h e = not-false (fits s) (sym h ∙ e)

pub limits-passed : (s : Recognised) (o : Bool) → o ≡ not (fits s) → o ≡ true → fits s ≡ false
limits-passed s o h e = not-true (fits s) (sym h ∙ e)

pub refused-not : (r : ReadReply) (n k : ℕ) → r ≡ refused_reply n k → 0 < n → r.number ≡ 0 → ⊥
refused-not r n k e h z = omega (arith, ap (λ (x : ReadReply). x.number) e)

-- ---- 42, 3 and 43
module _ (d : Draft) (room : ℕ) (s : Recognised) (seen : s ≡ accepted_as d) (r : ReadReply) where
  pub name-refused : (k : ℕ) → Some k ≡ found_of (bad_name d) → r ≡ refused_reply 42 k → r ≡ named_by (bad_name d) d room
  unfolding found_of named_by
  name-refused k h e = by (bad_name d) refl
    where
      by : (b : Found) → bad_name d ≡ b → r ≡ named_by (bad_name d) d room
      by (at j) q = e ∙ ap (λ x. refused_reply 42 (unwrap_or x 0)) (h ∙ ap found_of q) ∙ sym (ap (λ b. named_by b d room) q)
      by nowhere q = absurd (true≢false (ap is_some (h ∙ ap found_of q)))

  no-bad-name : None ≡ found_of (bad_name d) → bad_name d ≡ nowhere
  unfolding found_of
  no-bad-name h = by (bad_name d) refl
    where
      by : (b : Found) → bad_name d ≡ b → bad_name d ≡ nowhere
      by (at k) q = absurd (false≢true (ap is_some (h ∙ ap found_of q)))
      by nowhere q = q

  fits-is : fits s ≡ within_counts d
  unfolding fits within_counts accepted_as
  fits-is = rw seen refl

  length-is : length_of s ≡ image_length d
  unfolding length_of image_length accepted_as
  length-is = rw seen refl

  pub count-refused : None ≡ found_of (bad_name d) → fits s ≡ false → r ≡ refused_reply 3 0 → r ≡ named_by (bad_name d) d room
  unfolding named_by measured_by when◌then◌else◌
  count-refused h g e = rw (no-bad-name h, sym fits-is ∙ g) e

  pub room-refused : None ≡ found_of (bad_name d) → fits s ≡ true → (n : ℕ) → n ≡ length_of s → room < n → r ≡ refused_reply 43 0 → r ≡ named_by (bad_name d) d room
  unfolding named_by measured_by when◌then◌else◌
  room-refused h g n en l e = rw (no-bad-name h, sym fits-is ∙ g, lt-ltb room (image_length d) (rw (en ∙ length-is) at l)) e

  pub all-passed : None ≡ found_of (bad_name d) → fits s ≡ true → (n : ℕ) → n ≡ length_of s → n ≤ room → r ≡ made_reply n → r ≡ named_by (bad_name d) d room
  unfolding named_by measured_by when◌then◌else◌
  all-passed h g n en l e = rw (no-bad-name h, sym fits-is ∙ g, le-ltb room (image_length d) (rw (en ∙ length-is) at l)) (e ∙ ap made_reply (en ∙ length-is))

-- what the look over the text found, where it is accepted
pub seen_as : (u : List ℕ) (s : Recognised) → s ≡ recognised_of u → (l : List (Said Saying)) → Accepted u l → s ≡ accepted_as (draft_of l)
unfolding recognised_of recognised_by
seen_as u s seen l a = seen ∙ ap (λ x. recognised_by x u) a.says

-- ---- 40 and 41
module _ (u : List ℕ) (room : ℕ) (s : Recognised) (seen : s ≡ recognised_of u) (r : ReadReply) where
  seen_by : (o : Option (List (Said Saying))) → plan_says u ≡ o → s ≡ recognised_by o u
  unfolding recognised_of
  seen_by o q = seen ∙ ap (λ x. recognised_by x u) q

  pub text-refused : s.accepted ≡ false → r ≡ refused_reply 40 s.reach → r ≡ survey_of u room
  unfolding recognised_by accepted_as survey_of heard_by
  text-refused h e = by (plan_says u) refl
    where
      by : (o : Option (List (Said Saying))) → plan_says u ≡ o → r ≡ survey_of u room
      by none q = e ∙ ap (λ (x : Recognised). refused_reply 40 x.reach) (seen_by none q) ∙ sym (ap (λ x. heard_by x u room) q)
      by (some l) q = absurd (false≢true (sym h ∙ ap (λ (x : Recognised). x.accepted) (seen_by (some l) q)))

  -- the text is accepted: it says l
  accepted : s.accepted ≡ true → (l : List (Said Saying)) × (plan_says u ≡ some l)
  unfolding recognised_by
  accepted h = by (plan_says u) refl
    where
      by : (o : Option (List (Said Saying))) → plan_says u ≡ o → (l : List (Said Saying)) × (plan_says u ≡ some l)
      by none q = absurd (true≢false (sym h ∙ ap (λ (x : Recognised). x.accepted) (seen_by none q)))
      by (some l) q = (l, q)

  pub level-refused : s.accepted ≡ true → s.deep ≡ true → r ≡ refused_reply 41 s.place → r ≡ survey_of u room
  unfolding recognised_by survey_of heard_by levelled_by accepted_as is_found place_of
  level-refused h g e = let a = accepted h in by a.0 a.1 (too_deep (draft_of a.0).nodes) refl
    where
      by : (l : List (Said Saying)) → plan_says u ≡ some l → (b : Found) → too_deep (draft_of l).nodes ≡ b → r ≡ survey_of u room
      by l q (at k) t =
          e ∙ ap (λ (x : Recognised). refused_reply 41 x.place) (seen_by (some l) q) ∙ ap (λ b. refused_reply 41 (place_of b)) t
          ∙ sym (ap (λ x. heard_by x u room) q ∙ ap (λ b. levelled_by b (draft_of l) room) t)
      by l q nowhere t = absurd (true≢false (sym g ∙ ap (λ (x : Recognised). x.deep) (seen_by (some l) q) ∙ ap is_found t))

  pub names-next : s.accepted ≡ true → s.deep ≡ false
      → ((l : List (Said Saying)) → Accepted u l → s ≡ accepted_as (draft_of l) → r ≡ named_by (bad_name (draft_of l)) (draft_of l) room) → r ≡ survey_of u room
  unfolding recognised_by survey_of heard_by levelled_by accepted_as is_found
  names-next h g f = let a = accepted h in by a.0 a.1 (too_deep (draft_of a.0).nodes) refl
    where
      by : (l : List (Said Saying)) → plan_says u ≡ some l → (b : Found) → too_deep (draft_of l).nodes ≡ b → r ≡ survey_of u room
      by l q (at k) t = absurd (false≢true (sym g ∙ ap (λ (x : Recognised). x.deep) (seen_by (some l) q) ∙ ap is_found t))
      by l q nowhere t = rw (q, t) (f l (record { says = q; levels = t }) (seen_by (some l) q))
