-- What a row of a grammar begins with: a word or a sign of the notation, or any name, whole number up to a bound, or decimal.
use Rattle.std.specs.Prelude.{ℕ, zero, suc, ◌+◌, ◌*◌, ◌-◌, Bool, true, false, not, ◌&&◌, ◌||◌, cond, List, [], ◌∷◌, eqb, leb}
use Prim.Native.String as Str
use Prim.Native.String.{String}
use Prim.Native.Char.{code}
use Rattle.grammar.specs.Spelling.{Token, is_letter, is_digit, is_word_byte, whole}

-- a word's bytes
unfoldable pub bytes : String → List ℕ
bytes Str.[] = []
bytes (Str.◌∷◌ c s) = code c ∷ bytes s

-- byte for byte the same
unfoldable pub same : List ℕ → List ℕ → Bool
same [] [] = true
same [] (c ∷ t) = false
same (b ∷ s) [] = false
same (b ∷ s) (c ∷ t) = eqb b c && same s t

-- t begins with q
unfoldable pub begins : List ℕ → List ℕ → Bool
begins [] t = true
begins (b ∷ q) [] = false
begins (b ∷ q) (c ∷ t) = eqb b c && begins q t

-- one of the words is t
unfoldable pub among : List String → Token → Bool
among [] t = false
among (w ∷ ws) t = same (bytes w) t || among ws t

-- letters, digits and '_'
unfoldable pub word_bytes : List ℕ → Bool
word_bytes [] = true
word_bytes (b ∷ t) = is_word_byte b && word_bytes t

-- a letter, then letters, digits and '_'
unfoldable pub is_word : Token → Bool
is_word [] = false
is_word (b ∷ t) = is_letter b && word_bytes t

-- digits only
unfoldable pub digits : List ℕ → Bool
digits [] = true
digits (b ∷ t) = is_digit b && digits t

-- the number that digits write after those that wrote n
unfoldable pub value_from : ℕ → List ℕ → ℕ
value_from n [] = n
value_from n (b ∷ t) = value_from (n * 10 + (b - 48)) t

-- a digit, then digits
unfoldable pub is_number : Token → Bool
is_number [] = false
is_number (b ∷ t) = is_digit b && digits t

-- at most k more digits, and no other byte
unfoldable pub fewer : ℕ → List ℕ → Bool
fewer k [] = true
fewer zero (b ∷ t) = false
fewer (suc k) (b ∷ t) = is_digit b && fewer k t

-- 1 to k digits
unfoldable pub fraction : ℕ → List ℕ → Bool
fraction k [] = false
fraction zero (b ∷ t) = false
fraction (suc k) (b ∷ t) = is_digit b && fewer k t

-- digits, '.' and digits, with at most k digits and a digit after '.'
unfoldable pub decimal : ℕ → List ℕ → Bool
decimal k [] = false
decimal zero (b ∷ t) = false
decimal (suc k) (b ∷ t) = cond (eqb b 46) (fraction (suc k) t) (is_digit b && decimal k t)

-- whether bytes can become the digits after '.'
unfoldable pub could_fraction : ℕ → List ℕ → Bool
could_fraction zero t = false
could_fraction (suc k) [] = true
could_fraction (suc k) (b ∷ t) = is_digit b && fewer k t

-- whether bytes can become the rest of a decimal
unfoldable pub could_decimal : ℕ → List ℕ → Bool
could_decimal zero t = false
could_decimal (suc k) [] = true
could_decimal (suc k) (b ∷ t) = cond (eqb b 46) (could_fraction (suc k) t) (is_digit b && could_decimal k t)

-- a decimal of at most 15 digits, leading zeros counted
unfoldable pub is_real : Token → Bool
is_real [] = false
is_real (b ∷ t) = is_digit b && decimal 14 t

-- what a row begins with
pub data Lead : Type 0 where
  the : String → Lead
  name : Lead
  up_to : ℕ → Lead
  real : Lead

-- the token is of the lead; the words in `reserved` are no names
unfoldable pub fits : List String → Lead → Token → Bool
fits reserved (the w) t = same (bytes w) t
fits reserved name t = is_word t && not (among reserved t)
fits reserved (up_to n) t = is_number t && leb (value_from 0 t) n
fits reserved real t = is_real t

-- a token, and of the lead
unfoldable pub accepts : List String → Lead → Token → Bool
accepts reserved l t = whole t && fits reserved l t

-- bytes can become a token of the lead
unfoldable pub could : Lead → Token → Bool
could (the w) q = whole (bytes w) && begins q (bytes w)
could name q = is_word q
could (up_to n) q = is_number q && leb (value_from 0 q) n
could real [] = false
could real (b ∷ q) = is_digit b && could_decimal 14 q

-- opens every definition of this file
unfoldable pub opened : Unit {0}
unfolding bytes same begins among word_bytes is_word digits value_from is_number fewer fraction decimal could_fraction could_decimal is_real fits accepts could
opened = tt
