-- "Operators" in vectors: what each kind of entry answers in one state.
use Rattle.std.specs.Prelude.{ℕ, zero, suc, List, [], ◌∷◌}
use Rattle.plexil.specs.declared.State.{State}
use Rattle.plexil.specs.Lists.{count_from}
use Rattle.plexil.specs.Bytes.{byte_at, le16, le32, le64}
use Rattle.plexil.specs.Places.{seen, status_code, status_at, outcome_at, failure_at, mark_at, var_cell, look_cell, known_cell, fresh_state}
use Rattle.plexil.specs.Expressions.{value_of}
use Rattle.plexil.specs.Assemble.{no, plain, a_list, a_command, expr, const, variable, lookup, plan}
use Rattle.plexil.specs.Play.{statuses, outcomes, failures, look_tags, look_bits, state_kept}
use Rattle.vectors.specs.Values.{tag_of, bits_of}

-- b, the Bool variable, is False, x = 7; the Int lookup says 9, the Real one Unknown
unfoldable pub readers : List ℕ
readers =
    plan (a_list no plain ∷ a_command 0 plain ∷ [])
    (const 0 1 ∷ expr 0 1 0 0 0 ∷ const 1 18446744073709551615 ∷ const 2 4609434218613702656 ∷ expr 1 0 0 0 0 ∷ expr 1 1 1 0 0 ∷ expr 2 1 0 0 0 ∷ expr 2 2 1 0 0
    ∷ expr 3 0 1 6 0 ∷ expr 3 0 0 6 0 ∷ expr 4 0 1 3 0 ∷ expr 4 0 0 3 0 ∷ expr 5 0 1 5 0 ∷ expr 5 0 0 5 0
    ∷ expr 6 0 4 0 0 ∷ expr 7 0 0 4 0 ∷ expr 8 0 0 4 0 ∷ expr 9 0 5 6 0 ∷ expr 10 0 5 6 0 ∷ expr 11 0 6 5 0
    ∷ expr 12 1 5 6 0 ∷ expr 13 1 6 5 0 ∷ expr 14 1 5 6 0 ∷ expr 15 0 0 0 0 ∷ [])
    (variable 0 1 0 0 ∷ variable 1 1 0 7 ∷ []) (lookup 1 ∷ lookup 2 ∷ [])

-- node 1 is Finished with outcome 3 and failure 5
unfoldable pub read_in : State
read_in = state_kept statuses 1 6 (state_kept outcomes 1 3 (state_kept failures 1 5 (state_kept look_tags 0 2 (state_kept look_bits 0 9 (fresh_state readers)))))

unfoldable pub answer : List ℕ → State → ℕ → List ℕ
answer p s e = tag_of (value_of p (seen s) e) ∷ bits_of (value_of p (seen s) e) ∷ []

unfoldable pub answers : List (List ℕ)
answers = count_from 0 (answer readers read_in) 24

-- "0 constant (b = 1 known, b = 0 Unknown with constant 0); 1 variable a; 2 lookup a; 3 status of node a is b; 4 outcome of node a is b;
-- 5 failure of node a is b; 6 NOT a; 7 AND; 8 OR; 9 EQ; 10 LT; 11 LE; 12 ADD; 13 SUB; 14 MUL", and no operator at 15
unfoldable pub answers_expected : List (List ℕ)
answers_expected =
    (1 ∷ 1 ∷ []) ∷ (0 ∷ 0 ∷ []) ∷ (2 ∷ 18446744073709551615 ∷ []) ∷ (3 ∷ 4609434218613702656 ∷ []) ∷ (1 ∷ 0 ∷ []) ∷ (2 ∷ 7 ∷ []) ∷ (2 ∷ 9 ∷ []) ∷ (0 ∷ 0 ∷ [])
    ∷ (1 ∷ 1 ∷ []) ∷ (1 ∷ 0 ∷ []) ∷ (1 ∷ 1 ∷ []) ∷ (1 ∷ 0 ∷ []) ∷ (1 ∷ 1 ∷ []) ∷ (1 ∷ 0 ∷ [])
    ∷ (1 ∷ 1 ∷ []) ∷ (1 ∷ 0 ∷ []) ∷ (1 ∷ 1 ∷ []) ∷ (1 ∷ 0 ∷ []) ∷ (1 ∷ 1 ∷ []) ∷ (1 ∷ 0 ∷ [])
    ∷ (2 ∷ 16 ∷ []) ∷ (2 ∷ 2 ∷ []) ∷ (2 ∷ 63 ∷ []) ∷ (4 ∷ 0 ∷ []) ∷ []

-- n NOTs one over the other, over entry e
unfoldable pub nots : ℕ → ℕ → List (List ℕ)
nots e zero = []
nots e (suc n) = expr 6 0 e 0 0 ∷ nots (suc e) n

-- "an expression tree is at most 12 deep": at 12 eleven NOTs of True are False, at 13 nothing is worked out
unfoldable pub deepest : List (List ℕ)
deepest = count_from 11 (answer (plan (a_list no plain ∷ []) (const 0 1 ∷ nots 0 12) [] []) read_in) 2

unfoldable pub deepest_expected : List (List ℕ)
deepest_expected = (1 ∷ 0 ∷ []) ∷ (4 ∷ 0 ∷ []) ∷ []

-- "Little-endian": 16, 32 and 64 bits from byte 1 on, a byte, and what stands past the end
unfoldable pub numbers_at : List ℕ → List ℕ
numbers_at b = le16 b 1 ∷ le32 b 1 ∷ le64 b 1 ∷ byte_at b 8 ∷ byte_at b 9 ∷ le16 b 8 ∷ []

unfoldable pub bytes_read : List ℕ
bytes_read = numbers_at (1 ∷ 2 ∷ 3 ∷ 4 ∷ 5 ∷ 6 ∷ 7 ∷ 8 ∷ 9 ∷ [])

unfoldable pub bytes_expected : List ℕ
bytes_expected = 770 ∷ 84148994 ∷ 650777868590383874 ∷ 9 ∷ 0 ∷ 9 ∷ []

-- past an array every place is 0 and every cell Unknown with bits 0
unfoldable pub nothing : State
nothing = record { status = []; outcome = []; failure = []; mark = []; vartags = []; varbits = []; looktags = []; lookbits = [] }

-- with cells of kinds 2 and 3, past kind 2 nothing being known, and whether the status of node 0 is Inactive there
unfoldable pub places_read : List ℕ
places_read =
    status_code (status_at nothing 0) ∷ outcome_at nothing 0 ∷ failure_at nothing 0 ∷ mark_at nothing 0 ∷ (var_cell nothing 0).tag ∷ (var_cell nothing 0).bits ∷ (look_cell nothing 0).tag
    ∷ (look_cell nothing 0).bits ∷ (known_cell 2 5).tag ∷ (known_cell 2 5).bits ∷ (known_cell 3 5).tag ∷ (known_cell 3 5).bits
    ∷ bits_of (value_of (plan (a_list no plain ∷ []) (expr 3 0 0 0 0 ∷ []) [] []) (seen nothing) 0) ∷ []

unfoldable pub places_expected : List ℕ
places_expected = 0 ∷ 0 ∷ 0 ∷ 0 ∷ 0 ∷ 0 ∷ 0 ∷ 0 ∷ 3 ∷ 5 ∷ 0 ∷ 0 ∷ 1 ∷ []

-- opens every definition of this file
unfoldable pub opened : Unit {0}
unfolding nothing places_read places_expected numbers_at bytes_read bytes_expected readers read_in answer answers answers_expected nots deepest deepest_expected
opened = tt
