-- The numbers of the sayings, as the code has them.
use Rattle.std.specs.Prelude.{ℕ, zero, suc, Bool, true, false, List, [], ◌∷◌, ◌++◌, get_or}
use Rattle.notation.specs.Sayings.{boolean, integer, float, What, status, outcome, failure, disjunction, conjunction, equal, unequal, less, at_most, greater, at_least, plus, minus, times, Saying, silence, declares_command, numbers_command, declares_lookup, names, begins, opens_list, closes_list, calls, assigns, conditions, ranks, declares_variable, initial_truth, initial_whole, initial_decimal, initial_bits, truth, whole, decimal, bits, unknown, reads, mentions, descends, asks, negates, operates, parenthesis, closes, ends}

-- what is asked of a node: codes 0 to 6 of a status, 0 to 3 of an outcome, 0 to 5 of a failure; first without "!=", then with it
unfoldable pub questions : What → Bool → ℕ → ℕ → List Saying
questions w n k zero = []
questions w n k (suc m) = asks w n k ∷ questions w n (suc k) m

-- in the order of their numbers: 0 silence, 1 and 2 a command's declaration, 3 to 5 a lookup's, 6 and 7 a node, 8 and 9 its list, 10 its call,
-- 11 its target, 12 to 18 its conditions, 19 its priority, 20 to 22 a variable, 23 to 30 its initial value, 31 to 42 leaves, 43 and 44 names,
-- 45 to 58 a status, 59 to 66 an outcome, 67 to 78 a failure, 79 NOT, 80 to 90 operators, 91 and 92 parentheses, 93 the end of an expression
unfoldable pub sayings : List Saying
sayings =
    silence ∷ declares_command ∷ numbers_command ∷ declares_lookup boolean ∷ declares_lookup integer ∷ declares_lookup float
    ∷ names ∷ begins ∷ opens_list ∷ closes_list ∷ calls ∷ assigns
    ∷ conditions 0 ∷ conditions 1 ∷ conditions 2 ∷ conditions 3 ∷ conditions 4 ∷ conditions 5 ∷ conditions 6 ∷ ranks
    ∷ declares_variable boolean ∷ declares_variable integer ∷ declares_variable float
    ∷ initial_truth false ∷ initial_truth true ∷ initial_whole false ∷ initial_whole true ∷ initial_decimal false ∷ initial_decimal true ∷ initial_bits false ∷ initial_bits true
    ∷ truth false ∷ truth true ∷ whole false ∷ whole true ∷ decimal false ∷ decimal true ∷ bits false ∷ bits true
    ∷ unknown boolean ∷ unknown integer ∷ unknown float ∷ reads ∷ mentions ∷ descends
    ∷ (questions status false 0 7 ++ (questions status true 0 7 ++ (questions outcome false 0 4 ++ (questions outcome true 0 4 ++ (questions failure false 0 6 ++ (questions failure true 0 6
    ++ (negates ∷ operates disjunction ∷ operates conjunction ∷ operates equal ∷ operates unequal ∷ operates less ∷ operates at_most ∷ operates greater ∷ operates at_least
    ∷ operates plus ∷ operates minus ∷ operates times ∷ parenthesis ∷ closes ∷ ends ∷ [])))))))

-- the saying of a number
unfoldable pub say_of : ℕ → Saying
say_of n = get_or sayings n silence

-- the number for the end of the text
abbrev pub over : ℕ
over = 94

-- opens every definition of this file
unfoldable pub opened : Unit {0}
unfolding questions sayings say_of
opened = tt
