-- "One call per report": the order of a turn's tests, and what each answer keeps of the event, as one table played through the whole replies.
use Rattle.std.specs.Prelude.{ℕ, List, [], ◌∷◌}
use Rattle.plexil.specs.declared.RunAnswer.TheVariants as ran
use Rattle.plexil.specs.Assemble.{no, plain, only, a_list, a_command, expr, lookup, plan, entry, event}
use Rattle.plexil.specs.Play.{Turn, runs, runs_on, turns_on, enters, stands, looks, marked, shows, keeps, phases, Case}

-- a list with a command, and a command that waits for lookup 0
unfoldable pub waiting : List ℕ
waiting = plan (a_list no plain ∷ a_command 0 plain ∷ a_command 0 (only 1 0) ∷ []) (expr 2 0 0 0 0 ∷ []) [] (lookup 0 ∷ [])

-- after the first run: node 1 is awaited, node 2 waits
unfoldable pub quiet : List Turn → Case
quiet ts = record { image = waiting; turns = runs ran.Quiet 3 (2 ∷ []) ∷ ts }

-- lookup 0 is True, so that node 2 starts and sends its word; node 1 has returned
unfoldable pub starts : List ℕ
starts = event 0 (entry 0 0 1 ∷ [])

unfoldable pub returns : List ℕ
returns = event 0 (entry 2 1 0 ∷ [])

-- "31 is now tested after 30 and before 20": while Running, with no event at all; then Quiet while a rule applies
unfoldable pub order : Case
order = record {
  image = waiting;
  turns = turns_on starts 100 (7 ∷ []) 2 ran.Place 0 2 (7 ∷ []) ∷ turns_on [] 100 (7 ∷ []) 2 ran.Place 0 2 (7 ∷ []) ∷ turns_on [] 100 (7 ∷ []) 1 ran.Busy 0 1 (7 ∷ []) ∷ shows 0 0
      ∷ keeps phases 0 1 ∷ turns_on [] 100 (7 ∷ []) 2 ran.State 0 2 (7 ∷ []) ∷ turns_on starts 100 (7 ∷ []) 1 ran.State 0 1 (7 ∷ []) ∷ shows 0 1 ∷ [];
}

-- "a refusal of either's input leaves everything, the event included", and answers 0 and the given start place
unfoldable pub refused : Case
refused = quiet
    (turns_on starts 100 (7 ∷ []) 2 ran.Place 0 2 (7 ∷ []) ∷ turns_on [] 100 (7 ∷ 8 ∷ []) 1 ran.Shape 0 1 (7 ∷ 8 ∷ []) ∷ turns_on (event 1 []) 100 (7 ∷ 8 ∷ []) 1 ran.Turn 0 1 (7 ∷ 8 ∷ [])
    ∷ turns_on (event 0 (entry 0 0 1 ∷ entry 3 0 0 ∷ [])) 100 (7 ∷ 8 ∷ []) 1 (ran.Entry 1) 0 1 (7 ∷ 8 ∷ [])
    ∷ turns_on (event 0 (entry 0 0 1 ∷ entry 1 0 0 ∷ [])) 100 (7 ∷ 8 ∷ []) 1 (ran.Twice 1) 0 1 (7 ∷ 8 ∷ [])
    ∷ turns_on (event 0 (entry 0 0 1 ∷ entry 2 2 0 ∷ [])) 100 (7 ∷ 8 ∷ []) 1 (ran.NotAwaited 1) 0 1 (7 ∷ 8 ∷ []) ∷ shows 0 1 ∷ looks 0 0 0 ∷ stands 2 1 0 0
    ∷ turns_on starts 100 (7 ∷ 8 ∷ 9 ∷ []) 1 ran.Quiet 1 2 (7 ∷ 4 ∷ 9 ∷ []) ∷ shows 1 1 ∷ looks 0 1 1 ∷ stands 2 2 0 0 ∷ [])

-- "NoRoom and Spent keep the event": it is not taken again, and "the separate run stays for .. Spent and NoRoom"
unfoldable pub no_room : Case
no_room = quiet
    (turns_on starts 100 (7 ∷ []) 1 ran.NoRoom 0 1 (7 ∷ []) ∷ shows 1 0 ∷ looks 0 1 1 ∷ stands 2 1 0 0 ∷ enters starts 20 0 ∷ runs_on 100 (7 ∷ []) 0 ran.Quiet 1 1 (4 ∷ []) ∷ shows 1 1
    ∷ enters starts 22 0 ∷ [])

unfoldable pub spent : Case
spent = quiet
    (turns_on returns 0 [] 0 ran.Spent 0 0 [] ∷ shows 1 0 ∷ marked 1 1 ∷ stands 1 2 0 0 ∷ enters returns 20 0 ∷ runs_on 1 [] 0 ran.Spent 1 0 [] ∷ marked 1 0 ∷ runs ran.Quiet 1 [] ∷ shows 1 1
    ∷ stands 1 6 1 0 ∷ [])

unfoldable pub spent_later : Case
spent_later = quiet (turns_on returns 1 [] 0 ran.Spent 1 0 [] ∷ shows 1 0 ∷ stands 1 5 1 0 ∷ runs ran.Quiet 1 [] ∷ [])

unfoldable pub known_turns : List Case
known_turns = order ∷ refused ∷ no_room ∷ spent ∷ spent_later ∷ []

-- opens every definition of this file
unfoldable pub opened : Unit {0}
unfolding waiting quiet starts returns order refused no_room spent spent_later known_turns
opened = tt
