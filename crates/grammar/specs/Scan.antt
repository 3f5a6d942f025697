-- What stands next in a text, in the way in which a loop over its bytes finds it: token by token, and how far a token's bytes are viable.
use Rattle.std.specs.Prelude.{ℕ, zero, suc, ◌+◌, ◌*◌, ◌-◌, max, Bool, false, ◌&&◌, cond, List, [], ◌∷◌, ◌++◌, length, drop, eqb, leb}
use Rattle.std.proofs.Math.Option.{Option, none}
use Rattle.std.proofs.Math.Seq.{slice}
use Rattle.grammar.specs.Spelling.{Token, is_letter, is_digit, joins, whole, Part, between, slash, star, lost, remark, aside, chunk, feed, after, shut, Placed, placed_from}
use Rattle.grammar.specs.Text.{start, reach}
use Rattle.grammar.specs.Leads.{bytes, Lead, the, name, up_to, real}
use Rattle.grammar.specs.Table.{Item, Row, Table, Said, any_could, grammar, hope_of, said}

-- After blanks and comments there is: no token more; a text that is broken, of which nothing past `reach` is viable; a token, its bytes those
-- from `from` up to `to`
pub data Next : Type 0 where
  done : Next
  broken : (reach : ℕ) → Next
  token : (from : ℕ) (to : ℕ) → Next

-- where the token ends whose bytes so far are q; u's first byte stands at place n
unfoldable pub ending : Token → ℕ → List ℕ → ℕ
ending q n [] = n
ending q n (b ∷ u) = let later = ending (q ++ (b ∷ [])) (suc n) u in cond (joins q b) later n

-- the byte at place n has taken the machine to the part: it ends the search there, or not
unfoldable pub stop : Part → ℕ → List ℕ → Next → Next
stop between n u later = later
stop slash n u later = later
stop star n u later = later
stop remark n u later = later
stop aside n u later = later
stop lost n u later = broken n
stop (chunk q) n u later = token n (ending q (suc n) u)

-- what comes next in u, whose first byte stands at place n, where the machine is at the part p
unfoldable pub next_from : Part → ℕ → List ℕ → Next
next_from p n [] = cond (shut p) done (broken n)
next_from p n (b ∷ u) = let later = next_from (feed p b) (suc n) u in stop (feed p b) n u later

-- what comes next in the text u at place `at` or after it
unfoldable pub token_at : List ℕ → ℕ → Next
token_at u at = next_from between at (drop at u)

-- the tokens of u from place `at` on
unfoldable pub rest : List ℕ → ℕ → List Placed
rest u at = placed_from between at (drop at u)

-- the text u may end, as read from place `at` on
unfoldable pub shut_from : List ℕ → ℕ → Bool
shut_from u at = shut (after between (drop at u))

-- the token whose bytes stand from `from` up to `to`
unfoldable pub token_in : List ℕ → ℕ → ℕ → Placed
token_in u from to = record { bytes = slice from to u; place = from }

-- how many bytes of t keep the test P: the longest prefix of which each prefix but the empty one passes
unfoldable pub longest : (List ℕ → Bool) → List ℕ → ℕ
longest P [] = zero
longest P (b ∷ t) = let later = longest (λ q. P (b ∷ q)) t in cond (P (b ∷ [])) (suc later) zero

-- how many bytes of t can begin a token of some row
unfoldable pub viable : {S W : Type 0} → List (Row S W) → Token → ℕ
viable rows t = longest (any_could rows) t

module _ (Y : Table) where
  -- what u says from place `at` on, where s is to come
  unfoldable pub says_from : List (Item Y.Sort) → List ℕ → ℕ → Option (List (Said Y.Saying))
  says_from s u at = cond (shut_from u at) (said Y s (rest u at)) none

  -- the place up to which u is viable from place `at` on, where s is to come
  unfoldable pub reach_from : List (Item Y.Sort) → List ℕ → ℕ → ℕ
  reach_from s u at = at + reach (grammar Y) (hope_of Y) (start (grammar Y) s) (drop at u)

-- the bytes that two lists begin with alike
unfoldable pub common : List ℕ → List ℕ → ℕ
common [] t = zero
common (c ∷ w) [] = zero
common (c ∷ w) (b ∷ t) = let later = common w t in cond (eqb b c) (suc later) zero

-- digits that write a number up to n, after those that wrote m
unfoldable pub digits_up_to : ℕ → ℕ → List ℕ → ℕ
digits_up_to n m [] = zero
digits_up_to n m (b ∷ t) =
    let m' = m * 10 + (b - 48) in
    let later = digits_up_to n m' t in
    cond (is_digit b && leb m' n) (suc later) zero

-- at most k digits
unfoldable pub some_digits : ℕ → List ℕ → ℕ
some_digits k [] = zero
some_digits zero (b ∷ t) = zero
some_digits (suc k) (b ∷ t) = let later = some_digits k t in cond (is_digit b) (suc later) zero

-- digits, '.' and digits, at most suc k digits in all, so that one may stand after '.'
unfoldable pub some_decimal : ℕ → List ℕ → ℕ
some_decimal k [] = zero
some_decimal zero (b ∷ t) = let later = some_digits 1 t in cond (eqb b 46) (suc later) zero
some_decimal (suc k) (b ∷ t) =
    let fraction = some_digits (suc (suc k)) t in
    let later = some_decimal k t in
    cond (eqb b 46) (suc fraction) (cond (is_digit b) (suc later) zero)

-- the first byte is a letter
unfoldable pub of_letter : Token → Bool
of_letter [] = false
of_letter (b ∷ t) = is_letter b

-- how many bytes of the token t can begin a token of the lead
unfoldable pub viable_by : Lead → Token → ℕ
viable_by (the w) t = cond (whole (bytes w)) (common (bytes w) t) zero
viable_by name t = cond (of_letter t) (length t) zero
viable_by (up_to n) t = digits_up_to n 0 t
viable_by real [] = zero
viable_by real (b ∷ t) = let later = some_decimal 13 t in cond (is_digit b) (suc later) zero

-- the most of any row
unfoldable pub viable_by_rows : {S W : Type 0} → List (Row S W) → Token → ℕ
viable_by_rows [] t = zero
viable_by_rows (r ∷ rows) t = max (viable_by r.lead t) (viable_by_rows rows t)

-- opens every definition of this file
unfoldable pub opened : Unit {0}
unfolding ending stop next_from token_at rest shut_from token_in longest viable says_from reach_from common digits_up_to some_digits some_decimal of_letter viable_by viable_by_rows
opened = tt
