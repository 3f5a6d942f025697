-- The reply of reading a text: one for each text and lent image; 0 only with an image that the check admits; a refusal writes nothing and is never 12.
use Prim.Native.Nat.{ℕ, ◌+◌, ◌≤◌}
use mathlib.Core.Path.{◌≡◌, refl, sym, ◌∙◌, ap}
use mathlib.Core.Logic.{◌≢◌}
use mathlib.Core.Bool.{Bool, true, false}
use mathlib.Core.List.{List, [], ◌∷◌, ◌++◌}
use mathlib.Core.Option.{Option, none, some}
use native.Mathlib.Omega.{arith}
use lib.ListN.{length, drop, length-append, length-drop}
use lib.Dec.{ltb, nltb→le}
use Rattle.plexil.specs.declared.Rule.{Rule}
use Rattle.plexil.specs.declared.Rule.TheVariants.{Short, Edition, Count, Layout, Tree, Node, Variable, Lookup, Expression, Deep, Kind, Reach}
use Rattle.plexil.specs.declared.Verdict.{Verdict}
use Rattle.plexil.specs.declared.Verdict.TheVariants.{Admitted, Refused}
use Rattle.plexil.specs.Lists.{when◌then◌else◌, Found, at, nowhere}
use Rattle.plexil.specs.Check.{rule_number, verdict}
use Rattle.plexil.proofs.ReplyLaws.{rule-range}
use Rattle.grammar.specs.Table.{Said}
use Rattle.notation.specs.Sayings.{Saying}
use Rattle.notation.specs.Hearing.{draft_of}
use Rattle.notation.specs.Names.{bad_name, too_deep}
use Rattle.notation.specs.Mapping.{image_of, within_counts, image_length}
use Rattle.notation.specs.Reading.{plan_says, text_reach, Reading, refused, written, judged, measured, named, levelled, heard, read_reply}
use Rattle.notation.specs.Promises.{Made, AcceptedAdmitted, RefusedKeeps, BeyondStays, NeverTwelve, OneReading}
use Rattle.notation.proofs.Phrased.{plans-phrased}
use Rattle.notation.proofs.ImageLength.{image-length}
use Rattle.notation.proofs.NeverReach.{never-reach}

pub one-reading : OneReading
one-reading u old r q e f = e ∙ sym f

-- a reply is a refusal, or the mapping's image of an accepted text
data Outcome (u old : List ℕ) : Reading → Type 0 where
  is_refused : (n k : ℕ) → n ≢ 0 → n ≢ 12 → Outcome u old (refused n k old)
  is_made : (l : List (Said Saying)) → plan_says u ≡ some l → too_deep (draft_of l).nodes ≡ nowhere → bad_name (draft_of l) ≡ nowhere → within_counts (draft_of l) ≡ true
      → verdict (image_of (draft_of l)) ≡ Admitted → image_length (draft_of l) ≤ length old → Outcome u old (written (image_of (draft_of l)) old)

-- the one rule that is numbered 12
twelfth : (r : Rule) → rule_number r ≡ 12 → r ≡ Reach
unfolding rule_number
twelfth Short e = absurd (omega arith)
twelfth Edition e = absurd (omega arith)
twelfth Count e = absurd (omega arith)
twelfth Layout e = absurd (omega arith)
twelfth Tree e = absurd (omega arith)
twelfth Node e = absurd (omega arith)
twelfth Variable e = absurd (omega arith)
twelfth Lookup e = absurd (omega arith)
twelfth Expression e = absurd (omega arith)
twelfth Deep e = absurd (omega arith)
twelfth Kind e = absurd (omega arith)
twelfth Reach e = refl

module _ (u old : List ℕ) where
  module _ (l : List (Said Saying)) (says : plan_says u ≡ some l) where
    by-check : (v : Verdict) → too_deep (draft_of l).nodes ≡ nowhere → bad_name (draft_of l) ≡ nowhere → within_counts (draft_of l) ≡ true → image_length (draft_of l) ≤ length old
        → verdict (image_of (draft_of l)) ≡ v → Outcome u old (judged v (image_of (draft_of l)) old)
    unfolding judged
    by-check Admitted t n c r e = is_made l says t n c e r
    by-check (Refused r i) t n c m e = is_refused (rule_number r) i (λ z. absurd (omega (arith, rule-range r))) (λ z. never-reach l (plans-phrased u l says) n c i (e ∙ ap (λ q. Refused q i) (twelfth r z)))

    by-room : (b : Bool) → too_deep (draft_of l).nodes ≡ nowhere → bad_name (draft_of l) ≡ nowhere → within_counts (draft_of l) ≡ true → ltb (length old) (image_length (draft_of l)) ≡ b
        → Outcome u old (when b then refused 43 0 old else judged (verdict (image_of (draft_of l))) (image_of (draft_of l)) old)
    unfolding when◌then◌else◌
    by-room true t n c e = is_refused 43 0 (λ z. absurd (omega arith)) (λ z. absurd (omega arith))
    by-room false t n c e = by-check (verdict (image_of (draft_of l))) t n c (nltb→le (length old) (image_length (draft_of l)) (rw e tt)) refl

    by-counts : (b : Bool) → too_deep (draft_of l).nodes ≡ nowhere → bad_name (draft_of l) ≡ nowhere → within_counts (draft_of l) ≡ b
        → Outcome u old (when b then (when ltb (length old) (image_length (draft_of l)) then refused 43 0 old else judged (verdict (image_of (draft_of l))) (image_of (draft_of l)) old) else refused 3 0 old)
    unfolding when◌then◌else◌
    by-counts true t n e = by-room (ltb (length old) (image_length (draft_of l))) t n e refl
    by-counts false t n e = is_refused 3 0 (λ z. absurd (omega arith)) (λ z. absurd (omega arith))

    by_names : (f : Found) → too_deep (draft_of l).nodes ≡ nowhere → bad_name (draft_of l) ≡ f → Outcome u old (named f (draft_of l) old)
    unfolding named measured
    by_names (at k) t e = is_refused 42 k (λ z. absurd (omega arith)) (λ z. absurd (omega arith))
    by_names nowhere t e = by-counts (within_counts (draft_of l)) t e refl

    by-levels : (f : Found) → too_deep (draft_of l).nodes ≡ f → Outcome u old (levelled f (draft_of l) old)
    unfolding levelled
    by-levels (at k) e = is_refused 41 k (λ z. absurd (omega arith)) (λ z. absurd (omega arith))
    by-levels nowhere e = by_names (bad_name (draft_of l)) e refl

  by-text : (o : Option (List (Said Saying))) → plan_says u ≡ o → Outcome u old (heard o u old)
  unfolding heard
  by-text none e = is_refused 40 (text_reach u) (λ z. absurd (omega arith)) (λ z. absurd (omega arith))
  by-text (some l) e = by-levels l e (too_deep (draft_of l).nodes) refl

  outcome : Outcome u old (read_reply u old)
  unfolding read_reply
  outcome = by-text (plan_says u) refl

  made_of : (r : Reading) → Outcome u old r → r.number ≡ 0 → Made u old r
  unfolding refused written
  made_of r (is_refused n k h t) e = absurd (h e)
  made_of r (is_made l says t n c v m) e = record {
    sayings = l;
    says = says;
    levels = t;
    names = n;
    counts = c;
    admitted = v;
    place = refl;
    made = image-length l;
    room = m;
    image = ap (λ (k : ℕ). image_of (draft_of l) ++ drop k old) (image-length l);
  }

  kept_of : (r : Reading) → Outcome u old r → r.number ≢ 0 → (r.made ≡ 0) × (r.image ≡ old)
  unfolding refused written
  kept_of r (is_refused n k h t) e = (refl, refl)
  kept_of r (is_made l says t n c v m) e = absurd (e refl)

  drop-front : (a b : List ℕ) → drop (length a) (a ++ b) ≡ b
  drop-front [] b = refl
  drop-front (x ∷ a) b = drop-front a b

  beyond-of : (r : Reading) → Outcome u old r → (drop r.made r.image ≡ drop r.made old) × (length r.image ≡ length old)
  unfolding refused written
  beyond-of r (is_refused n k h t) = (refl, refl)
  beyond-of r (is_made l says t n c v m) =
      let p = image_of (draft_of l) in
      (drop-front p (drop (length p) old), length-append p (drop (length p) old) ∙ ap (λ (k : ℕ). length p + k) (length-drop (length p) old) ∙ omega (arith, image-length l))

  not-twelve : (r : Reading) → Outcome u old r → r.number ≢ 12
  unfolding refused written
  not-twelve r (is_refused n k h t) = t
  not-twelve r (is_made l says t n c v m) = λ z. absurd (omega arith)

pub never-twelve : NeverTwelve
never-twelve u old = not-twelve u old (read_reply u old) (outcome u old)

pub accepted-admitted : AcceptedAdmitted
accepted-admitted u old e = made_of u old (read_reply u old) (outcome u old) e

pub refused-keeps : RefusedKeeps
refused-keeps u old e = kept_of u old (read_reply u old) (outcome u old) e

pub beyond-stays : BeyondStays
beyond-stays u old = beyond-of u old (read_reply u old) (outcome u old)
