-- The order of sayings within an expression as a reader meets it: an operand is due, or one has been read, with n parentheses open.
use Rattle.std.specs.Prelude.{ℕ, suc, ◌+◌, Bool, true, false, ◌∷◌}
use Rattle.grammar.specs.Table.{Said}
use Rattle.notation.specs.Sayings.{Kind, boolean, integer, float, What, status, outcome, failure, Operator, disjunction, conjunction, equal, unequal, less, at_most, greater, at_least, plus, minus, times, Saying, silence, declares_command, numbers_command, declares_lookup, names, begins, opens_list, closes_list, calls, assigns, conditions, ranks, declares_variable, initial_truth, initial_whole, initial_decimal, initial_bits, truth, whole, decimal, bits, unknown, reads, mentions, descends, asks, negates, operates, parenthesis, closes, ends}
use Rattle.notation.specs.Phrases.{Sayings, Says, Leaf, Path}
use Rattle.notation.specs.Hearing.{strength}

mutual
  -- an operand is due; the expression's last saying is followed by k
  pub data Before : ℕ → Sayings → Sayings → Type 0 where
    leaf : {n : ℕ} {w : Said Saying} {l k : Sayings} → Leaf w.what → After n l k → Before n (w ∷ l) k
    variable : {n : ℕ} {w : Said Saying} {l k : Sayings} → Says w mentions → After n l k → Before n (w ∷ l) k
    path : {n : ℕ} {w : Said Saying} {l m k : Sayings} → Says w mentions → Path l m → After n m k → Before n (w ∷ l) k
    not : {n : ℕ} {w : Said Saying} {l k : Sayings} → Says w negates → Before n l k → Before n (w ∷ l) k
    group : {n : ℕ} {w : Said Saying} {l k : Sayings} → Says w parenthesis → Before (suc n) l k → Before n (w ∷ l) k

  -- an operand has been read
  pub data After : ℕ → Sayings → Sayings → Type 0 where
    closing : {n : ℕ} {w : Said Saying} {l k : Sayings} → Says w closes → After n l k → After (suc n) (w ∷ l) k
    operator : {n : ℕ} {w : Said Saying} {l k : Sayings} (o : Operator) → Says w (operates o) → Before n l k → After n (w ∷ l) k
    ending : {w : Said Saying} {k : Sayings} → Says w ends → After 0 (w ∷ k) k

-- how strongly what is said binds the operand before it; what ends a group or an expression does not
unfoldable pub binding : Saying → ℕ
binding silence = 0
binding declares_command = 0
binding numbers_command = 0
binding (declares_lookup k) = 0
binding names = 0
binding begins = 0
binding opens_list = 0
binding closes_list = 0
binding calls = 0
binding assigns = 0
binding (conditions k) = 0
binding ranks = 0
binding (declares_variable k) = 0
binding (initial_truth b) = 0
binding (initial_whole b) = 0
binding (initial_decimal b) = 0
binding (initial_bits b) = 0
binding (truth b) = 0
binding (whole b) = 0
binding (decimal b) = 0
binding (bits b) = 0
binding (unknown k) = 0
binding reads = 0
binding mentions = 0
binding descends = 0
binding (asks w n k) = 0
binding negates = 0
binding (operates o) = strength o
binding parenthesis = 0
binding closes = 0
binding ends = 0

unfoldable pub of_kind : Kind → ℕ
of_kind boolean = 0
of_kind integer = 1
of_kind float = 2

unfoldable pub of_sign : Bool → ℕ
of_sign false = 0
of_sign true = 1

-- where the questions about a status, an outcome and a failure begin, without "!=" and with it
unfoldable pub of_question : What → Bool → ℕ
of_question status false = 45
of_question status true = 52
of_question outcome false = 59
of_question outcome true = 63
of_question failure false = 67
of_question failure true = 73

unfoldable pub of_operator : Operator → ℕ
of_operator disjunction = 80
of_operator conjunction = 81
of_operator equal = 82
of_operator unequal = 83
of_operator less = 84
of_operator at_most = 85
of_operator greater = 86
of_operator at_least = 87
of_operator plus = 88
of_operator minus = 89
of_operator times = 90

-- the number of a saying
unfoldable pub code_of : Saying → ℕ
code_of silence = 0
code_of declares_command = 1
code_of numbers_command = 2
code_of (declares_lookup k) = 3 + of_kind k
code_of names = 6
code_of begins = 7
code_of opens_list = 8
code_of closes_list = 9
code_of calls = 10
code_of assigns = 11
code_of (conditions k) = 12 + k
code_of ranks = 19
code_of (declares_variable k) = 20 + of_kind k
code_of (initial_truth b) = 23 + of_sign b
code_of (initial_whole b) = 25 + of_sign b
code_of (initial_decimal b) = 27 + of_sign b
code_of (initial_bits b) = 29 + of_sign b
code_of (truth b) = 31 + of_sign b
code_of (whole b) = 33 + of_sign b
code_of (decimal b) = 35 + of_sign b
code_of (bits b) = 37 + of_sign b
code_of (unknown k) = 39 + of_kind k
code_of reads = 42
code_of mentions = 43
code_of descends = 44
code_of (asks w n k) = of_question w n + k
code_of negates = 79
code_of (operates o) = of_operator o
code_of parenthesis = 91
code_of closes = 92
code_of ends = 93

-- opens every definition of this file
unfoldable pub opened : Unit {0}
unfolding binding of_kind of_sign of_question of_operator code_of
opened = tt
