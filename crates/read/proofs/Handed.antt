-- The check of an image that was made decides what is handed on.
use Prim.Native.Nat.{ℕ}
use mathlib.Core.Path.{◌≡◌, refl, sym, ap, ◌∙◌}
use mathlib.Core.List.{List, ◌++◌}
use lib.ListN.{length, drop}
use Rattle.plexil.specs.declared.Rule.{Rule}
use Rattle.plexil.specs.declared.Verdict.{Verdict}
use Rattle.plexil.specs.declared.Verdict.TheVariants.{Admitted, Refused}
use Rattle.plexil.specs.declared.Checked.{Checked}
use Rattle.plexil.specs.Check.{rule_number, verdict}
use Rattle.plexil.specs.Replies.{checked_by, check_reply}
use Rattle.notation.specs.Reading.{Reading, refused, written, judged}
use Rattle.read.specs.declared.reply.ReadReply.{ReadReply}
use Rattle.read.specs.Reply.{reply_of, refused_reply, made_reply}

-- what a call leaves: its answer r and the image at exit are those of the whole reply
abbrev pub Leaves : ReadReply → List ℕ → Reading → Type 0
Leaves r image w = (r ≡ reply_of w) × (image ≡ w.image)

-- the whole reply is a refusal
pub refuses : (r : ReadReply) (n k : ℕ) (old : List ℕ) (w : Reading) → r ≡ refused_reply n k → w ≡ refused n k old → Leaves r old w
unfolding reply_of refused
refuses r n k old w e h = rw h (e, refl)

-- ---- the check of the image
check-verdict : (p : List ℕ) → (check_reply p).verdict ≡ verdict p
unfolding check_reply checked_by
check-verdict p = by (verdict p)
  where
    by : (v : Verdict) → (checked_by v p).verdict ≡ v
    by Admitted = refl
    by (Refused r i) = refl

module _ (p old : List ℕ) (k : Checked) (e : k ≡ check_reply p) where
  pub image-refused : (q : Rule) (i n : ℕ) (r : ReadReply) → k.verdict ≡ Refused q i → n ≡ rule_number q → r ≡ refused_reply n i → Leaves r old (judged (verdict p) p old)
  unfolding judged
  image-refused q i n r v h er = refuses r n i old (judged (verdict p) p old) er (ap (λ x. judged x p old) is ∙ ap (λ m. refused m i old) (sym h))
    where
      is : verdict p ≡ Refused q i
      is = sym (check-verdict p) ∙ sym (ap (λ (x : Checked). x.verdict) e) ∙ v

  pub image-admitted : (n : ℕ) (r : ReadReply) (image : List ℕ) → k.verdict ≡ Admitted → length p ≡ n → r ≡ made_reply n → image ≡ p ++ drop n old → Leaves r image (judged (verdict p) p old)
  unfolding judged written reply_of
  image-admitted n r image v h er em = rw (is, h) (er, em)
    where
      is : verdict p ≡ Admitted
      is = sym (check-verdict p) ∙ sym (ap (λ (x : Checked). x.verdict) e) ∙ v
