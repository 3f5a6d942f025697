-- How much of a token can begin a token of a class's lead; and the literals in one run of bytes, each followed by a blank.
use Rattle.std.specs.Prelude.{ℕ, zero, suc, true, false, cond, List, [], ◌∷◌, ◌==◌}
use Prim.Native.String.{String}
use Rattle.std.proofs.Math.Option.{Option, none, some}
use Rattle.grammar.specs.Spelling.{Token}
use Rattle.grammar.specs.Leads.{Lead, the, name, up_to, real}
use Rattle.grammar.specs.Scan.{viable_by}
use Rattle.notation.specs.Classes.{literals, a_name, a_real, bounds, bound_from}

unfoldable pub word_at : ℕ → List String → Option String
word_at c [] = none
word_at zero (w ∷ ws) = some w
word_at (suc c) (w ∷ ws) = word_at c ws

unfoldable pub other_lead : ℕ → Option Lead
other_lead c =
    elim (bound_from 68 bounds c) [ some n ↦ some (up_to n) | none ↦ elim (c == a_name) [ true ↦ some name | false ↦ elim (c == a_real) [ true ↦ some real | false ↦ none ] ] ]

-- what a token of class c is
unfoldable pub lead_of : ℕ → Option Lead
lead_of c = elim (word_at c literals) [ some w ↦ some (the w) | none ↦ other_lead c ]

unfoldable pub viable_of : Option Lead → Token → ℕ
viable_of none t = 0
viable_of (some l) t = viable_by l t

unfoldable pub viable_class : ℕ → Token → ℕ
viable_class c t = viable_of (lead_of c) t

-- what comes after k blanks
unfoldable pub after_blanks : ℕ → List ℕ → List ℕ
after_blanks zero l = l
after_blanks (suc k) [] = []
after_blanks (suc k) (b ∷ l) = elim (b == 32) [ true ↦ after_blanks k l | false ↦ after_blanks (suc k) l ]

-- the bytes before the first blank that t begins with
unfoldable pub common_run : List ℕ → Token → ℕ
common_run [] t = zero
common_run (b ∷ l) [] = zero
common_run (b ∷ l) (c ∷ t) = let later = common_run l t in cond (b == 32) zero (cond (c == b) (suc later) zero)

-- opens every definition of this file
unfoldable pub opened : Unit {0}
unfolding word_at other_lead lead_of viable_of viable_class after_blanks common_run
opened = tt
