-- The report says all that it can say, and a call permits one reply.
use Prim.Native.Nat.{ℕ}
use mathlib.Core.Path.{◌≡◌, refl, sym, ap, ◌∙◌}
use mathlib.Core.List.{List, [], ◌∷◌}
use native.Mathlib.Omega.{arith}
use lib.ListN.{set}
use Rattle.notation.specs.Reading.{Reading}
use Rattle.read.specs.declared.reply.ReadReply.{ReadReply}
use Rattle.read.specs.Reply.{reply_of}
use Rattle.samblokur_text.specs.Report.{report_of, WholeReport, OneRead}

pub whole-report : WholeReport
unfolding report_of
whole-report r (a ∷ (b ∷ (c ∷ []))) e = refl
whole-report r [] e = absurd (omega arith)
whole-report r (a ∷ []) e = absurd (omega arith)
whole-report r (a ∷ (b ∷ [])) e = absurd (omega arith)
whole-report r (a ∷ (b ∷ (c ∷ (d ∷ l)))) e = absurd (omega arith)

pub one-read : OneRead
one-read u image report n m i j p q e f = (e.number_is ∙ sym f.number_is, e.image-is ∙ sym f.image-is, e.report-is ∙ sym f.report-is)

-- the report by the answer of the call by value
pub reported : (r : ReadReply) (w : Reading) (old : List ℕ) → r ≡ reply_of w → (r.number ≡ w.number) × (set (set (set old 0 r.number) 1 r.place) 2 r.made ≡ report_of w old)
unfolding reply_of report_of
reported r w old e = (ap (λ (x : ReadReply). x.number) e, ap (λ (x : ReadReply). set (set (set old 0 x.number) 1 x.place) 2 x.made) e)
