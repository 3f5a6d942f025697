-- The classes of tokens: each word and sign of the notation by itself, names, whole numbers by the bounds of the rows, decimals, and all others.
use Rattle.std.specs.Prelude.{ℕ, suc, Bool, true, false, ◌&&◌, cond, List, [], ◌∷◌, ◌++◌, eqb, leb}
use Prim.Native.String.{String}
use Rattle.std.proofs.Math.Option.{Option, none, some}
use Rattle.plexil.specs.Lists.{Found, at, nowhere}
use Rattle.grammar.specs.Spelling.{Token, whole}
use Rattle.grammar.specs.Leads.{bytes, same, is_word, is_number, is_real, value_from, Lead, the, name, up_to, real}
use Rattle.grammar.specs.Table.{Item, lit, sort, Row}
use Rattle.notation.specs.Sayings.{Saying}
use Rattle.notation.specs.Rows.{reserved, met, Sort}

-- the signs of the notation, numbered after its 47 words
unfoldable pub signs : List String
signs =
    "{" ∷ "}" ∷ "(" ∷ ")" ∷ ":" ∷ ";" ∷ "=" ∷ "." ∷ "==" ∷ "!=" ∷ "<" ∷ "<=" ∷ ">" ∷ ">=" ∷ "+" ∷ "-" ∷ "*" ∷ "&&" ∷ "||" ∷ "!" ∷ []

-- 0 to 46 the words, 47 to 66 the signs
unfoldable pub literals : List String
literals = reserved ++ signs

-- the number of a word in a list that begins with the number i
unfoldable pub literal_from : ℕ → List String → Token → Found
literal_from i [] t = nowhere
literal_from i (w ∷ ws) t = elim (same (bytes w) t) [ true ↦ at i | false ↦ literal_from (suc i) ws t ]

-- the classes after the literals
abbrev pub a_name : ℕ
a_name = 67

abbrev pub a_real : ℕ
a_real = 74

abbrev pub another : ℕ
another = 75

-- the bounds of the rows, each of which begins a class: 68 to 73
unfoldable pub bounds : List ℕ
bounds = 65534 ∷ 65535 ∷ 999999999999999 ∷ 9218868437227405311 ∷ 9223372036854775807 ∷ 9223372036854775808 ∷ []

-- the first bound, with the number i, that a number does not pass
unfoldable pub number_class : ℕ → List ℕ → ℕ → ℕ
number_class i [] n = another
number_class i (b ∷ bs) n = elim (leb n b) [ true ↦ i | false ↦ number_class (suc i) bs n ]

-- what a token is that is no word or sign of the notation
unfoldable pub other_class : Token → ℕ
other_class t = cond (is_word t) a_name (cond (is_number t) (number_class 68 bounds (value_from 0 t)) (cond (is_real t) a_real another))

unfoldable pub class_of : Token → ℕ
class_of t = elim (literal_from 0 literals t) [ at i ↦ i | nowhere ↦ other_class t ]

-- the bound of a class of numbers
unfoldable pub bound_from : ℕ → List ℕ → ℕ → Option ℕ
bound_from i [] c = none
bound_from i (b ∷ bs) c = elim (eqb i c) [ true ↦ some b | false ↦ bound_from (suc i) bs c ]

unfoldable pub within_bound : Option ℕ → ℕ → Bool
within_bound none n = false
within_bound (some b) n = leb b n

unfoldable pub is_literal : Found → ℕ → Bool
is_literal (at i) c = eqb i c
is_literal nowhere c = false

-- a token of class c is of the lead
unfoldable pub accepts_class : Lead → ℕ → Bool
accepts_class (the w) c = is_literal (literal_from 0 literals (bytes w)) c
accepts_class name c = eqb c a_name
accepts_class (up_to n) c = within_bound (bound_from 68 bounds c) n
accepts_class real c = eqb c a_real

-- the row that a token of class c begins
unfoldable pub pick_class : List (Row Sort Saying) → ℕ → Option (Row Sort Saying)
pick_class [] c = none
pick_class (r ∷ rs) c = elim (accepts_class r.lead c) [ true ↦ some r | false ↦ pick_class rs c ]

-- whether classes tell of a lead: a word or sign of the notation that is a token, a bound of `bounds`
unfoldable pub is_found : Found → Bool
is_found (at i) = true
is_found nowhere = false

unfoldable pub known_lead : Lead → Bool
known_lead (the w) = is_found (literal_from 0 literals (bytes w)) && whole (bytes w)
known_lead name = true
known_lead (up_to n) = met n bounds
known_lead real = true

unfoldable pub known_item : Item Sort → Bool
known_item (lit w) = known_lead (the w)
known_item (sort x) = true

unfoldable pub known_items : List (Item Sort) → Bool
known_items [] = true
known_items (i ∷ s) = known_item i && known_items s

-- of the lead of each row, and of the words and signs that follow
unfoldable pub all_known : List (Row Sort Saying) → Bool
all_known [] = true
all_known (r ∷ rs) = (known_lead r.lead && known_items r.rest) && all_known rs

-- opens every definition of this file
unfoldable pub opened : Unit {0}
unfolding signs literals literal_from bounds number_class other_class class_of bound_from within_bound is_literal accepts_class pick_class is_found known_lead known_item known_items all_known
opened = tt
