-- Refusals 1 to 9 in vectors: good plans with one byte damaged, at each limit and just past it, with the record that is named.
use Rattle.std.specs.Prelude.{ℕ, Bool, true, false, List, [], ◌∷◌, ◌++◌, map, take, set, eqb}
use Rattle.plexil.specs.Lists.{every}
use Rattle.plexil.specs.Check.{records, rules}
use Rattle.plexil.specs.Replies.{verdict_number, check_reply}
use Rattle.plexil.specs.Assemble.{no, plain, words16, a_list, an_assignment, node, const, variable, lookup, plan}

-- the check answers number n and record i
unfoldable pub checks_as : List ℕ → ℕ → ℕ → Bool
checks_as p n i =
    let r = check_reply p in
    every (eqb (verdict_number r.verdict).number n ∷ eqb (verdict_number r.verdict).record' i ∷ [])

-- an image, with the number and record that the check answers
pub data Answered : Type 0 where
  image : List ℕ → ℕ → ℕ → Answered

unfoldable pub all_checked : List Answered → Bool
all_checked [] = true
all_checked (image p n i ∷ ps) = elim (checks_as p n i) [ true ↦ all_checked ps | false ↦ false ]

-- byte k of a good plan set to x, with the number and record that the check answers
pub data Hit : Type 0 where
  hit : ℕ → ℕ → ℕ → ℕ → Hit

unfoldable pub all_hit : List ℕ → List Hit → Bool
all_hit p [] = true
all_hit p (hit k x n i ∷ hs) = elim (checks_as (set p k x) n i) [ true ↦ all_hit p hs | false ↦ false ]

-- ---- 1 to 4
-- a header alone, of this edition and these counts
unfoldable pub header : ℕ → ℕ → ℕ → ℕ → ℕ → List ℕ
header edition n e v l = words16 (edition ∷ n ∷ e ∷ v ∷ l ∷ 20 ∷ 0 ∷ 0 ∷ 0 ∷ 0 ∷ [])

unfoldable pub smallest : List ℕ
smallest = plan (a_list no plain ∷ []) [] [] []

-- "44 bytes hold the smallest plan; 19 bytes are Short"; "edition (1), counts of nodes N (1..256), expressions E (0..2048), variables V (0..128),
-- lookups L (0..64)": at the limits the counts pass and the layout is wrong
unfoldable pub headers : List Answered
headers =
    image [] 1 0 ∷ image (take 19 smallest) 1 0 ∷ image (take 20 smallest) 4 0 ∷ image (take 43 smallest) 4 0 ∷ image (smallest ++ (0 ∷ [])) 4 0 ∷ image smallest 0 0
    ∷ image (header 0 1 0 0 0) 2 0 ∷ image (header 2 1 0 0 0) 2 0 ∷ image (header 257 1 0 0 0) 2 0 ∷ image (header 2 0 0 0 0) 2 0
    ∷ image (header 1 0 0 0 0) 3 0 ∷ image (header 1 256 2048 128 64) 4 0 ∷ image (header 1 257 0 0 0) 3 0 ∷ image (header 1 1 2049 0 0) 3 0
    ∷ image (header 1 1 0 129 0) 3 0 ∷ image (header 1 1 0 0 65) 3 0 ∷ []

-- ---- 5 and 6: a list with all conditions given, a command of the greatest number, an assignment, a list
unfoldable pub nodes : List ℕ
nodes =
    plan (a_list no (1 ∷ 1 ∷ 1 ∷ 1 ∷ 1 ∷ 1 ∷ 1 ∷ []) ∷ node 0 1 0 plain 65534 no ∷ an_assignment 0 0 plain 0 0 ∷ a_list 0 plain ∷ []) (const 1 5 ∷ const 0 1 ∷ [])
    (variable 1 1 0 5 ∷ []) []

-- "then the offsets of these four sections, then total length"
unfoldable pub layout_hits : List Hit
layout_hits =
    hit 0 1 0 0 ∷ hit 10 21 4 0 ∷ hit 12 117 4 0 ∷ hit 14 149 4 0 ∷ hit 16 165 4 0 ∷ hit 18 166 4 0 ∷ hit 2 3 4 0 ∷ hit 4 1 4 0 ∷ hit 6 2 4 0 ∷ hit 8 1 4 0 ∷ []

-- "Node 0 has parent 65535; any other parent is a list with a lower number"
unfoldable pub tree_hits : List Hit
tree_hits =
    hit 20 254 5 0 ∷ hit 21 0 5 0 ∷ hit 22 1 5 1 ∷ hit 44 1 5 1 ∷ hit 68 1 5 2 ∷ hit 68 2 5 2 ∷ hit 68 3 5 2 ∷ hit 92 2 5 3 ∷ hit 92 3 5 3 ∷ hit 93 1 5 3 ∷ []

-- "spare 8; priority 16; Skip, Start, Pre, Inv, End, Post, Repeat 16 each (expression, or 65535 for default)"; 11 where it is no Bool
unfoldable pub condition_hits : List Hit
condition_hits =
    hit 23 1 6 0 ∷ hit 24 255 0 0 ∷ hit 25 255 0 0 ∷ hit 26 2 6 0 ∷ hit 28 2 6 0 ∷ hit 30 2 6 0 ∷ hit 32 2 6 0 ∷ hit 34 2 6 0 ∷ hit 36 2 6 0 ∷ hit 38 2 6 0
    ∷ hit 26 0 11 0 ∷ hit 28 0 11 0 ∷ hit 30 0 11 0 ∷ hit 32 0 11 0 ∷ hit 34 0 11 0 ∷ hit 36 0 11 0 ∷ hit 38 0 11 0 ∷ hit 27 1 6 0 ∷ hit 27 255 6 0 ∷ hit 50 254 6 1 ∷ []

-- "type 8 (0 list, 1 command, 2 assignment)"; "what 16 (assignment: variable; command: command number 0..65534; list: 65535); value 16
-- (assignment: expression; else 65535)"; 11 where the value's kind is not the target's
unfoldable pub what_hits : List Hit
what_hits =
    hit 40 254 6 0 ∷ hit 42 254 6 0 ∷ hit 46 0 6 1 ∷ hit 46 2 6 1 ∷ hit 46 3 6 1 ∷ hit 47 1 6 1 ∷ hit 64 255 6 1 ∷ hit 64 0 0 0 ∷ hit 66 254 6 1 ∷ hit 70 0 6 2
    ∷ hit 70 1 6 2 ∷ hit 88 1 6 2 ∷ hit 89 1 6 2 ∷ hit 90 2 6 2 ∷ hit 91 1 6 2 ∷ hit 90 1 11 2 ∷ hit 94 3 6 3 ∷ []

-- ---- 7 and 8: a Bool, a Real, an Int and an Int not known; a lookup
unfoldable pub variables : List ℕ
variables =
    plan (a_list no plain ∷ []) [] (variable 0 1 0 1 ∷ variable 2 1 0 4607182418800017408 ∷ variable 1 1 0 18446744073709551615 ∷ variable 1 0 0 0 ∷ []) (lookup 1 ∷ lookup 2 ∷ [])

-- "kind 8; known 8 (0 or 1); owner node 16; spare 32; initial value 64 (as a constant; 0 if not known)"; "owner not below N, real not finite"
unfoldable pub variable_hits : List Hit
variable_hits =
    hit 44 3 7 0 ∷ hit 44 1 0 0 ∷ hit 45 2 7 0 ∷ hit 45 0 7 0 ∷ hit 46 1 7 0 ∷ hit 47 1 7 0 ∷ hit 48 1 7 0 ∷ hit 49 1 7 0 ∷ hit 50 1 7 0 ∷ hit 51 1 7 0 ∷ hit 52 2 7 0
    ∷ hit 52 0 0 0 ∷ hit 53 1 7 0 ∷ hit 59 1 7 0 ∷ hit 75 127 7 1 ∷ hit 75 255 7 1 ∷ hit 75 191 0 0 ∷ hit 76 2 7 2 ∷ hit 76 0 7 2 ∷ hit 92 2 0 0 ∷ hit 92 3 7 3 ∷ hit 100 1 7 3 ∷ []

-- "kind 8, spare 8"
unfoldable pub lookup_hits : List Hit
lookup_hits = hit 108 0 0 0 ∷ hit 108 3 8 0 ∷ hit 109 1 8 0 ∷ hit 110 3 8 1 ∷ hit 111 1 8 1 ∷ []

-- ---- lowest rule and lowest record: two bytes damaged
unfoldable pub lowest : List Answered
lowest =
    image (set (set nodes 47 1) 23 1) 6 0 ∷ image (set (set nodes 23 1) 92 3) 5 3 ∷ image (set (set variables 108 3) 44 3) 7 0 ∷ image (set (set nodes 26 0) 70 1) 6 2
    ∷ image (set (set variables 111 1) 108 3) 8 0 ∷ []

-- "N, E, V, L" of an admitted plan
unfoldable pub counted : List ℕ → List ℕ
counted p = let r = check_reply p in r.counts.nodes ∷ r.counts.exprs ∷ r.counts.vars ∷ r.counts.looks ∷ []

unfoldable pub counted_all : List (List ℕ)
counted_all = counted nodes ∷ counted variables ∷ counted (set nodes 23 1) ∷ []

unfoldable pub counted_expected : List (List ℕ)
counted_expected = (4 ∷ 2 ∷ 1 ∷ 0 ∷ []) ∷ (1 ∷ 0 ∷ 4 ∷ 2 ∷ []) ∷ (0 ∷ 0 ∷ 0 ∷ 0 ∷ []) ∷ []

-- "with the lowest record number that breaks it (0 for 1 to 4)": how many records each rule is about
unfoldable pub records_all : List ℕ
records_all = map (λ r. records r nodes) rules

unfoldable pub records_expected : List ℕ
records_expected = 1 ∷ 1 ∷ 1 ∷ 1 ∷ 4 ∷ 4 ∷ 1 ∷ 0 ∷ 2 ∷ 2 ∷ 4 ∷ 4 ∷ []

-- opens every definition of this file
unfoldable pub opened : Unit {0}
unfolding checks_as all_checked all_hit header smallest headers nodes layout_hits tree_hits condition_hits what_hits variables variable_hits lookup_hits lowest counted counted_all counted_expected records_all records_expected
opened = tt
