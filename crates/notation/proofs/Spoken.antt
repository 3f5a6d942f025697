-- Tokens that say nothing may be left out: the draft of a text's spoken sayings is the draft of all of them.
use mathlib.Core.Path.{◌≡◌, refl, ap, ◌∙◌}
use mathlib.Core.Bool.{Bool, true, false, false≢true}
use mathlib.Core.List.{List, [], ◌∷◌, ◌++◌}
use Rattle.grammar.specs.Spelling.{Placed}
use Rattle.grammar.specs.Table.{Said}
use Rattle.notation.specs.Sayings.{Saying, silence, declares_command, numbers_command, declares_lookup, names, begins, opens_list, closes_list, calls, assigns, conditions, ranks, declares_variable, initial_truth, initial_whole, initial_decimal, initial_bits, truth, whole, decimal, bits, unknown, reads, mentions, descends, asks, negates, operates, parenthesis, closes, ends}
use Rattle.notation.specs.Spoken.{is_silent, spoken}
use Rattle.notation.specs.Draft.{Draft}
use Rattle.notation.specs.Hearing.{hear, hear_all}
use Rattle.notation.specs.Promises.{SilenceAddsNothing}

pub silent-silence : (x : Saying) → is_silent x ≡ true → x ≡ silence
unfolding is_silent
silent-silence silence e = refl
silent-silence declares_command e = absurd (false≢true e)
silent-silence numbers_command e = absurd (false≢true e)
silent-silence (declares_lookup k) e = absurd (false≢true e)
silent-silence names e = absurd (false≢true e)
silent-silence begins e = absurd (false≢true e)
silent-silence opens_list e = absurd (false≢true e)
silent-silence closes_list e = absurd (false≢true e)
silent-silence calls e = absurd (false≢true e)
silent-silence assigns e = absurd (false≢true e)
silent-silence (conditions k) e = absurd (false≢true e)
silent-silence ranks e = absurd (false≢true e)
silent-silence (declares_variable k) e = absurd (false≢true e)
silent-silence (initial_truth b) e = absurd (false≢true e)
silent-silence (initial_whole b) e = absurd (false≢true e)
silent-silence (initial_decimal b) e = absurd (false≢true e)
silent-silence (initial_bits b) e = absurd (false≢true e)
silent-silence (truth b) e = absurd (false≢true e)
silent-silence (whole b) e = absurd (false≢true e)
silent-silence (decimal b) e = absurd (false≢true e)
silent-silence (bits b) e = absurd (false≢true e)
silent-silence (unknown k) e = absurd (false≢true e)
silent-silence reads e = absurd (false≢true e)
silent-silence mentions e = absurd (false≢true e)
silent-silence descends e = absurd (false≢true e)
silent-silence (asks w n k) e = absurd (false≢true e)
silent-silence negates e = absurd (false≢true e)
silent-silence (operates o) e = absurd (false≢true e)
silent-silence parenthesis e = absurd (false≢true e)
silent-silence closes e = absurd (false≢true e)
silent-silence ends e = absurd (false≢true e)

-- a silent token adds nothing
pub hear-silent : (x : Saying) (t : Placed) (d : Draft) → is_silent x ≡ true → hear x t d ≡ d
unfolding hear
hear-silent x t d e = rw (silent-silence x e) refl

pub hear-spoken : SilenceAddsNothing
unfolding spoken hear_all
hear-spoken [] d = refl
hear-spoken (w ∷ l) d = go (is_silent w.what) refl (hear-spoken l d) (hear-spoken l (hear w.what w.token d))
  where
    go : (b : Bool) → is_silent w.what ≡ b → hear_all (spoken l) d ≡ hear_all l d → hear_all (spoken l) (hear w.what w.token d) ≡ hear_all l (hear w.what w.token d)
        → hear_all (elim b [ true ↦ spoken l | false ↦ w ∷ spoken l ]) d ≡ hear_all l (hear w.what w.token d)
    go true e silent said = silent ∙ ap (hear_all l) (rw (hear-silent w.what w.token d e) refl)
    go false e silent said = said

pub spoken-append : (l k : List (Said Saying)) → spoken (l ++ k) ≡ spoken l ++ spoken k
unfolding spoken
spoken-append [] k = refl
spoken-append (w ∷ l) k = go (is_silent w.what) (spoken-append l k)
  where
    go : (b : Bool) → spoken (l ++ k) ≡ spoken l ++ spoken k
        → elim b as (λ _. List (Said Saying)) [ true ↦ spoken (l ++ k) | false ↦ w ∷ spoken (l ++ k) ] ≡ elim b as (λ _. List (Said Saying)) [ true ↦ spoken l | false ↦ w ∷ spoken l ] ++ spoken k
    go true e = e
    go false e = ap (λ m. w ∷ m) e

-- what is said in two parts is heard one after the other
pub hear-append : (l k : List (Said Saying)) (d : Draft) → hear_all (l ++ k) d ≡ hear_all k (hear_all l d)
unfolding hear_all
hear-append [] k d = refl
hear-append (w ∷ l) k d = hear-append l k (hear w.what w.token d)
