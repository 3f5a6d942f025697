-- "Events" in vectors: refusals 20 to 25 with the entry that is named, and what an accepted event changes.
use Rattle.std.specs.Prelude.{ℕ, List, [], ◌∷◌, ◌++◌, replicate, set, take}
use Rattle.plexil.specs.declared.RunAnswer.TheVariants as ran
use Rattle.plexil.specs.Assemble.{no, plain, only, bytes, a_list, a_command, expr, const, lookup, plan, entry, event}
use Rattle.plexil.specs.Play.{Turn, runs, enters, stands, looks, marked, shows, keeps, serials, phases, statuses, Case}

-- a list with a command, a command that waits for lookup 0, and a command whose End is False; a lookup of each kind and two more. Past the last node the
-- bytes of the first expression would make a command.
unfoldable pub awaiting : List ℕ
awaiting =
    plan (a_list no plain ∷ a_command 0 plain ∷ a_command 0 (only 1 1) ∷ a_command 0 (only 4 2) ∷ []) (expr 2 1 1 0 0 ∷ expr 2 0 0 0 0 ∷ const 0 0 ∷ []) []
    (lookup 0 ∷ lookup 1 ∷ lookup 2 ∷ lookup 0 ∷ lookup 0 ∷ [])

-- after the first run: nodes 1 and 3 are awaited
unfoldable pub ready : List Turn → Case
ready ts = record { image = awaiting; turns = runs ran.Quiet 3 (2 ∷ 6 ∷ []) ∷ ts }

-- an event of serial 0 with these entries
unfoldable pub of : List (List ℕ) → List ℕ
of es = event 0 es

-- "20 Busy: event while Running", before any other
unfoldable pub busy : Case
busy = record { image = awaiting; turns = enters (of []) 20 0 ∷ enters [] 20 0 ∷ shows 0 0 ∷ [] }

-- "21 Shape: event length, count or spare wrong"; "count 16 (0..128)": with 128 entries the first has a wrong form. "22 Turn: serial not the next"
unfoldable pub shapes : Case
shapes = ready
    (enters [] 21 0 ∷ enters (take 7 (of [])) 21 0 ∷ enters (event 1 [] ++ (0 ∷ [])) 21 0 ∷ enters (set (event 1 []) 4 1) 21 0 ∷ enters (set (of []) 6 1) 21 0
    ∷ enters (set (of []) 7 1) 21 0 ∷ enters (take 19 (of (entry 1 0 0 ∷ []))) 21 0 ∷ enters (bytes 4 0 ++ (128 ∷ 0 ∷ 0 ∷ 0 ∷ 3 ∷ replicate 1535 0)) 23 0
    ∷ enters (bytes 4 0 ++ (129 ∷ 0 ∷ 0 ∷ 0 ∷ 3 ∷ replicate 1547 0)) 21 0 ∷ enters (event 1 []) 22 0 ∷ enters (event 65536 []) 22 0 ∷ enters (event 1 (entry 3 0 0 ∷ [])) 22 0 ∷ [])

-- "23 Entry: form, spare, index, value or non-command node wrong"
unfoldable pub entries : Case
entries = ready
    (enters (of (entry 3 0 0 ∷ [])) 23 0 ∷ enters (set (of (entry 1 0 0 ∷ [])) 9 1) 23 0 ∷ enters (of (entry 0 5 0 ∷ [])) 23 0 ∷ enters (of (entry 0 0 2 ∷ [])) 23 0
    ∷ enters (of (entry 0 2 9218868437227405312 ∷ [])) 23 0 ∷ enters (of (entry 1 5 0 ∷ [])) 23 0 ∷ enters (of (entry 1 0 1 ∷ [])) 23 0 ∷ enters (of (entry 2 4 0 ∷ [])) 23 0
    ∷ enters (of (entry 2 1 1 ∷ [])) 23 0 ∷ enters (of (entry 2 0 0 ∷ [])) 23 0 ∷ enters (of (entry 1 4 0 ∷ entry 2 3 0 ∷ entry 0 256 0 ∷ entry 3 0 0 ∷ [])) 23 2 ∷ [])

-- "24 Twice: one lookup or node named twice", the later one. "25 NotAwaited: return for a node not Executing or Failing". The lowest number first.
unfoldable pub repeated : Case
repeated = ready
    (enters (of (entry 0 1 7 ∷ entry 1 1 0 ∷ [])) 24 1 ∷ enters (of (entry 1 0 0 ∷ entry 2 1 0 ∷ entry 1 0 0 ∷ [])) 24 2 ∷ enters (of (entry 2 1 0 ∷ entry 2 3 0 ∷ entry 2 1 0 ∷ [])) 24 2
    ∷ enters (of (entry 2 2 0 ∷ [])) 25 0 ∷ enters (of (entry 2 1 0 ∷ entry 1 2 0 ∷ entry 2 2 0 ∷ [])) 25 2 ∷ enters (of (entry 2 2 0 ∷ entry 1 0 0 ∷ entry 1 0 0 ∷ entry 3 0 0 ∷ [])) 23 3
    ∷ enters (of (entry 2 2 0 ∷ entry 1 0 0 ∷ entry 1 0 0 ∷ [])) 24 2 ∷ shows 0 1 ∷ marked 1 0 ∷ looks 1 0 0 ∷ [])

-- "An accepted event changes lookups and marks, moves the serial on": each kind, Unknown, a node and a lookup of one number; a node "marked already". Where
-- no rule applies then, the turn is Quiet at once
unfoldable pub accepted : Case
accepted = ready
    (enters (of (entry 0 3 1 ∷ entry 0 1 18446744073709551615 ∷ entry 0 2 4609434218613702656 ∷ entry 2 3 0 ∷ entry 1 0 0 ∷ [])) 0 0 ∷ shows 1 1 ∷ looks 3 1 1
    ∷ looks 1 2 18446744073709551615 ∷ looks 2 3 4609434218613702656 ∷ looks 0 0 0 ∷ looks 4 0 0 ∷ marked 3 1 ∷ marked 1 0 ∷ stands 3 2 0 0
    ∷ enters (event 1 (entry 2 3 0 ∷ [])) 25 0
    ∷ enters (event 1 (entry 1 1 0 ∷ entry 1 2 0 ∷ entry 0 3 0 ∷ [])) 0 0 ∷ shows 2 1 ∷ looks 1 0 0 ∷ looks 2 0 0 ∷ looks 3 1 0 ∷ marked 3 1 ∷ [])

-- "After serial 4294967295 the next serial is 0"
unfoldable pub wrapping : Case
wrapping = ready
    (keeps serials 0 4294967294 ∷ enters (event 4294967294 []) 0 0 ∷ shows 4294967295 1 ∷ enters (of []) 22 0 ∷ enters (event 4294967295 []) 0 0 ∷ shows 0 1 ∷ [])

-- 30 before 20 to 25
unfoldable pub spoilt : Case
spoilt = record { image = awaiting; turns = keeps phases 0 1 ∷ enters [] 30 0 ∷ keeps phases 0 0 ∷ keeps statuses 0 0 ∷ enters [] 30 0 ∷ shows 0 0 ∷ [] }

unfoldable pub events : List Case
events = busy ∷ shapes ∷ entries ∷ repeated ∷ accepted ∷ wrapping ∷ spoilt ∷ []

-- opens every definition of this file
unfoldable pub opened : Unit {0}
unfolding awaiting ready of busy shapes entries repeated accepted wrapping spoilt events
opened = tt
