-- "Events", 004's macro step: the shape of an event, its entries, refusals 20 to 25, and what an accepted event changes.
use Rattle.std.specs.Prelude.{ℕ, zero, suc, ◌+◌, ◌*◌, ◌%◌, ◌^◌, Bool, false, not, List, [], ◌∷◌, length, get_or, set, eqb, ltb, leb}
use Rattle.std.specs.Bool.{beq}
use Rattle.plexil.specs.declared.Cell.{Cell}
use Rattle.plexil.specs.declared.State.{State}
use Rattle.plexil.specs.declared.Card.{Card}
use Rattle.plexil.specs.declared.RunAnswer.{RunAnswer}
use Rattle.plexil.specs.declared.RunAnswer.TheVariants.{Busy, Shape, Turn, Entry, Twice, NotAwaited}
use Rattle.plexil.specs.Tested.{Tested}
use Rattle.plexil.specs.Tested.{Accepted, Refused}
use Rattle.plexil.specs.Lists.{when◌then◌else◌, every, any_below, Found, at, nowhere, first}
use Rattle.plexil.specs.Bytes.{byte_at, le16, le32, le64}
use Rattle.plexil.specs.Values.{cell, good_bits}
use Rattle.plexil.specs.Image.{Image, node_count, look_count, look_kind}
use Rattle.plexil.specs.Places.{state_of, status_at, mark_at, known_cell, Running, Quiet}
use Rattle.plexil.specs.Records.{is_command}
use Rattle.plexil.specs.Form.{is_awaiting}

-- "Serial 32"
unfoldable pub event_serial : List ℕ → ℕ
event_serial b = le32 b 0

-- "count 16 (0..128)"
unfoldable pub entry_count : List ℕ → ℕ
entry_count b = le16 b 4

-- "21 Shape: event length, count or spare wrong"; "Serial 32, count 16 (0..128), spare 16, then entries of 12 bytes"
unfoldable pub good_shape : List ℕ → Bool
good_shape b = every (leb (entry_count b) 128 ∷ eqb (le16 b 6) 0 ∷ eqb (length b) (8 + 12 * entry_count b) ∷ [])

-- "then entries of 12 bytes": where entry k stands
unfoldable pub entry_at : ℕ → ℕ
entry_at k = 8 + 12 * k

-- "form 8 (0 lookup value, 1 lookup Unknown, 2 command returned)"
unfoldable pub form : List ℕ → ℕ → ℕ
form b k = byte_at b (entry_at k)

-- the forms; a number past 2 is none
pub data EntryForm : Type 0 where
  lookup_value lookup_unknown returned no_form : EntryForm

-- "0 lookup value, 1 lookup Unknown, 2 command returned"
unfoldable pub form_of : ℕ → EntryForm
form_of f = get_or (lookup_value ∷ lookup_unknown ∷ returned ∷ []) f no_form

-- "spare 8"
unfoldable pub entry_spare : List ℕ → ℕ → ℕ
entry_spare b k = byte_at b (entry_at k + 1)

-- "index 16"
unfoldable pub index : List ℕ → ℕ → ℕ
index b k = le16 b (entry_at k + 2)

-- "value 64"
unfoldable pub entry_bits : List ℕ → ℕ → ℕ
entry_bits b k = le64 b (entry_at k + 4)

-- "value 64 (as a constant; 0 unless form 0)"; by form
unfoldable pub good_form : Image → List ℕ → ℕ → EntryForm → Bool
good_form p b k lookup_value = every (ltb (index b k) (look_count p) ∷ good_bits (look_kind p (index b k)) (entry_bits b k) ∷ [])
good_form p b k lookup_unknown = every (ltb (index b k) (look_count p) ∷ eqb (entry_bits b k) 0 ∷ [])
good_form p b k returned = every (ltb (index b k) (node_count p) ∷ is_command p (index b k) ∷ eqb (entry_bits b k) 0 ∷ [])
good_form p b k no_form = false

-- "23 Entry: form, spare, index, value or non-command node wrong"
unfoldable pub good_entry : Image → List ℕ → ℕ → Bool
good_entry p b k = every (eqb (entry_spare b k) 0 ∷ good_form p b k (form_of (form b k)) ∷ [])

-- entry j names the lookup or the node that entry k names
unfoldable pub names_same : List ℕ → ℕ → ℕ → Bool
names_same b k j = every (eqb (index b j) (index b k) ∷ beq (ltb (form b j) 2) (ltb (form b k) 2) ∷ [])

-- "24 Twice: one lookup or node named twice", "the later one"
unfoldable pub named_before : List ℕ → ℕ → Bool
named_before b k = any_below k (names_same b k)

-- node i awaits a return
unfoldable pub awaited : State → ℕ → Bool
awaited s i = every (is_awaiting (status_at s i) ∷ eqb (mark_at s i) 0 ∷ [])

-- "25 NotAwaited: return for a node not Executing or Failing, or marked already"
unfoldable pub not_awaited : State → List ℕ → ℕ → Bool
not_awaited s b k = every (eqb (form b k) 2 ∷ not (awaited s (index b k)) ∷ [])

-- the lowest breaking entry is named, and else the answer is `other`
unfoldable pub or_else : (ℕ → RunAnswer) → Found → Tested → Tested
or_else refusal (at k) other = Refused (refusal k)
or_else refusal nowhere other = other

-- "20 to 25 in order"; "20 Busy: event while Running", "22 Turn: serial not the next"
unfoldable pub event_answer : Image → State → Card → List ℕ → Tested
event_answer p s c b =
    when not (eqb c.phase Quiet) then Refused Busy
    else when not (good_shape b) then Refused Shape
    else when not (eqb (event_serial b) c.serial) then Refused Turn
    else or_else Entry (first (entry_count b) (λ k. not (good_entry p b k)))
    (or_else Twice (first (entry_count b) (named_before b))
    (or_else NotAwaited (first (entry_count b) (not_awaited s b)) Accepted))

-- lookup l holds c
unfoldable pub with_lookup : State → ℕ → Cell → State
with_lookup s l c =
    state_of s.status s.outcome s.failure s.mark s.vartags s.varbits
    (set s.looktags l c.tag) (set s.lookbits l c.bits)

-- node i is marked as returned
unfoldable pub with_mark : State → ℕ → State
with_mark s i =
    state_of s.status s.outcome s.failure (set s.mark i 1) s.vartags s.varbits s.looktags s.lookbits

-- "An accepted event changes lookups and marks .. no step is done"; by form. An entry of no form is refused (23), and would mark
unfoldable pub enter : Image → List ℕ → ℕ → EntryForm → State → State
enter p b k lookup_value s = with_lookup s (index b k) (known_cell (look_kind p (index b k)) (entry_bits b k))
enter p b k lookup_unknown s = with_lookup s (index b k) (cell 0 0)
enter p b k returned s = with_mark s (index b k)
enter p b k no_form s = with_mark s (index b k)

-- the first n entries, entered
unfoldable pub entered : Image → List ℕ → ℕ → State → State
entered p b zero s = s
entered p b (suc n) s = enter p b n (form_of (form b n)) (entered p b n s)

-- "After serial 4294967295 the next serial is 0"
unfoldable pub next_serial : ℕ → ℕ
next_serial n = (n + 1) % 2 ^ 32

-- "moves the serial on and sets Running"
unfoldable pub card_after : Card → Card
card_after c = record { serial = next_serial c.serial; phase = Running }

-- opens every definition of this file
unfoldable pub opened : Unit {0}
unfolding event_serial entry_count good_shape entry_at form form_of entry_spare index entry_bits good_form good_entry names_same named_before awaited not_awaited or_else event_answer with_lookup with_mark enter entered next_serial card_after
opened = tt
