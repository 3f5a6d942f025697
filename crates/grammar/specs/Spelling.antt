-- How bytes spell tokens: words, numbers and signs, each as long as it can be, with blanks and comments between them.
use Rattle.std.specs.Prelude.{ℕ, suc, ◌-◌, ◌≡◌, Bool, true, false, not, ◌&&◌, ◌||◌, cond, List, [], ◌∷◌, ◌++◌, length, eqb, leb}

-- a token is its own bytes
abbrev pub Token : Type 0
Token = List ℕ

-- space, tab, line feed, carriage return
unfoldable pub is_blank : ℕ → Bool
is_blank b = eqb b 32 || eqb b 9 || eqb b 10 || eqb b 13

-- A-Z a-z
unfoldable pub is_letter : ℕ → Bool
is_letter b = (leb 65 b && leb b 90) || (leb 97 b && leb b 122)

-- 0-9
unfoldable pub is_digit : ℕ → Bool
is_digit b = leb 48 b && leb b 57

-- A-Z a-z 0-9 _
unfoldable pub is_word_byte : ℕ → Bool
is_word_byte b = is_letter b || is_digit b || eqb b 95

-- <= >= == != && ||
unfoldable pub is_pair : ℕ → ℕ → Bool
is_pair c b = (eqb b 61 && (eqb c 60 || eqb c 62 || eqb c 61 || eqb c 33)) || (eqb c 38 && eqb b 38) || (eqb c 124 && eqb b 124)

-- there is no byte
unfoldable pub is_nil : List ℕ → Bool
is_nil [] = true
is_nil (x ∷ xs) = false

-- the byte b belongs to the token whose bytes so far are q: "as long as it can be"
unfoldable pub joins : List ℕ → ℕ → Bool
joins [] b = false
joins (c ∷ q) b = cond (is_letter c) (is_word_byte b) (cond (is_digit c) (is_word_byte b || eqb b 46) (is_nil q && is_pair c b))

-- each byte of r belongs to the token whose bytes before it are q and those of r before it
unfoldable pub goes_on : List ℕ → List ℕ → Bool
goes_on q [] = true
goes_on q (b ∷ r) = joins q b && goes_on (q ++ (b ∷ [])) r

-- a token's bytes: the first is no blank and no '/', each other belongs to the ones before it
unfoldable pub whole : Token → Bool
whole [] = false
whole (b ∷ r) = (not (is_blank b) && not (eqb b 47)) && goes_on (b ∷ []) r

-- the token t ends where the text u goes on
unfoldable pub apart : Token → List ℕ → Bool
apart t [] = true
apart t (b ∷ u) = not (joins t b)

-- the first byte is x
unfoldable pub opens : ℕ → List ℕ → Bool
opens x [] = false
opens x (b ∷ u) = eqb b x

-- no "*/" stands in c
unfoldable pub inside : List ℕ → Bool
inside [] = true
inside (b ∷ c) = not (eqb b 42 && opens 47 c) && inside c

-- no line feed stands in c
unfoldable pub one_line : List ℕ → Bool
one_line [] = true
one_line (b ∷ c) = not (eqb b 10) && one_line c

-- The text spells the tokens
pub data Spells : List ℕ → List Token → Type 0 where
  done : Spells [] []
  blank : {b : ℕ} {u : List ℕ} {w : List Token} → is_blank b ≡ true → Spells u w → Spells (b ∷ u) w
  comment : (c : List ℕ) {u : List ℕ} {w : List Token} → inside c ≡ true → Spells u w → Spells (47 ∷ (42 ∷ (c ++ (42 ∷ (47 ∷ u))))) w
  line : (c : List ℕ) {u : List ℕ} {w : List Token} → one_line c ≡ true → Spells u w → Spells (47 ∷ (47 ∷ (c ++ (10 ∷ u)))) w
  last_line : (c : List ℕ) → one_line c ≡ true → Spells (47 ∷ (47 ∷ c)) []
  token : (t : Token) {u : List ℕ} {w : List Token} → whole t ≡ true → apart t u ≡ true → Spells u w → Spells (t ++ u) (t ∷ w)

-- The machine over bytes: where it stands between or in tokens
pub data Part : Type 0 where
  between slash star lost remark aside : Part
  chunk : Token → Part

-- at the first byte after a token or a blank
unfoldable pub begin : ℕ → Part
begin b = cond (is_blank b) between (cond (eqb b 47) slash (chunk (b ∷ [])))

-- one byte more
unfoldable pub feed : Part → ℕ → Part
feed between b = begin b
feed slash b = cond (eqb b 42) remark (cond (eqb b 47) aside lost)
feed remark b = cond (eqb b 42) star remark
feed star b = cond (eqb b 47) between (cond (eqb b 42) star remark)
feed lost b = lost
feed aside b = cond (eqb b 10) between aside
feed (chunk q) b = cond (joins q b) (chunk (q ++ (b ∷ []))) (begin b)

-- the token that ends before the byte b
unfoldable pub given : Part → ℕ → List Token
given between b = []
given slash b = []
given remark b = []
given star b = []
given lost b = []
given aside b = []
given (chunk q) b = cond (joins q b) [] (q ∷ [])

-- where the bytes leave the machine
unfoldable pub after : Part → List ℕ → Part
after p [] = p
after p (b ∷ u) = after (feed p b) u

-- the tokens that end within the bytes
unfoldable pub emitted : Part → List ℕ → List Token
emitted p [] = []
emitted p (b ∷ u) = given p b ++ emitted (feed p b) u

-- the token that the end of the text ends
unfoldable pub pending : Part → List Token
pending between = []
pending slash = []
pending remark = []
pending star = []
pending lost = []
pending aside = []
pending (chunk q) = q ∷ []

-- the text may end here
unfoldable pub shut : Part → Bool
shut between = true
shut slash = false
shut remark = false
shut star = false
shut lost = false
shut aside = true
shut (chunk q) = true

-- the machine finds the tokens w in the text
unfoldable pub Lexes : Part → List ℕ → List Token → Type 0
Lexes p u w = (shut (after p u) ≡ true) × (emitted p u ++ pending (after p u) ≡ w)

-- a token, and the place of its first byte in the text
pub record Placed : Type 0 where
  pub bytes : Token
  pub place : ℕ

-- a token that ends before place n
unfoldable pub ends_at : ℕ → Token → Placed
ends_at n t = record { bytes = t; place = n - length t }

-- tokens, if there is one, that end before place n
unfoldable pub all_end_at : ℕ → List Token → List Placed
all_end_at n [] = []
all_end_at n (t ∷ w) = ends_at n t ∷ all_end_at n w

-- the tokens of the text u, which begins at place n of the whole, and the one under way at its end
unfoldable pub placed_from : Part → ℕ → List ℕ → List Placed
placed_from p n [] = all_end_at n (pending p)
placed_from p n (b ∷ u) = all_end_at n (given p b) ++ placed_from (feed p b) (suc n) u

-- the tokens of a text with their places
unfoldable pub placed : List ℕ → List Placed
placed u = placed_from between 0 u

-- opens every definition of this file
unfoldable pub opened : Unit {0}
unfolding is_blank is_letter is_digit is_word_byte is_pair is_nil joins goes_on whole apart opens inside one_line begin feed given after emitted pending shut Lexes ends_at all_end_at placed_from placed
opened = tt
