-- Each entry's contract permits one reply.
use mathlib.Core.Path.{sym, ◌∙◌}
use Rattle.plexil.specs.Replies.{RunReply}
use Rattle.samblokur.specs.Permits.{ListLeaves, OneCheck, OneFresh, OneList, OneRun, OneTurn}

pub one-check : OneCheck
one-check p m n a b x y e f = (e.0 ∙ sym f.0, e.1 ∙ sym f.1, e.2 ∙ sym f.2)

pub one-fresh : OneFresh
one-fresh p s c m n s₁ s₂ c₁ c₂ x y e f = (e.0 ∙ sym f.0, e.1 ∙ sym f.1, e.2 ∙ sym f.2, e.3 ∙ sym f.3)

one_list : (r : RunReply) → OneList (ListLeaves r)
one_list r m n s₁ s₂ c₁ c₂ x y k l e f = (e.0 ∙ sym f.0, e.1 ∙ sym f.1, e.2 ∙ sym f.2, e.3 ∙ sym f.3, e.4 ∙ sym f.4)

pub one-run : OneRun
one-run p s c budget list start = one_list _

pub one-turn : OneTurn
one-turn p s c event budget list start = one_list _
