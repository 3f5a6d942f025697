-- "Small plans with known ends" as texts: K1 to K9 read into images that end as document 01 says, some of them byte for byte the drawing's.
use Rattle.std.specs.Prelude.{ℕ, Bool, true, false, List, [], ◌∷◌, replicate, take, eqb}
use Prim.Native.String.{String}
use Rattle.grammar.specs.Leads.{bytes, same}
use Rattle.plexil.specs.Lists.{every}
use Rattle.plexil.specs.Play.{Case, all_pass}
use Rattle.plexil.specs.KnownEnds as Known
use Rattle.notation.specs.Reading.{Reading, read_reply}

-- a text, the small plan that it writes, and whether its image is the drawing's own bytes
pub record KnownText : Type 0 where
  pub text : String
  pub plan : Case
  pub own : Bool

-- room for each of them
abbrev pub room : List ℕ
room = replicate 200 0

unfoldable pub ends_so : Reading → Case → Bool → Bool
ends_so r k own =
    every (eqb r.number 0 ∷ all_pass (record { image = take r.made r.image; turns = k.turns } ∷ []) ∷ elim own [ true ↦ same (take r.made r.image) k.image | false ↦ true ] ∷ [])

unfoldable pub text_passes : KnownText → Bool
text_passes k = ends_so (read_reply (bytes k.text) room) k.plan k.own

unfoldable pub all_texts_pass : List KnownText → Bool
all_texts_pass [] = true
all_texts_pass (k ∷ ks) = elim (text_passes k) [ true ↦ all_texts_pass ks | false ↦ false ]

abbrev pub known : Case → Bool → String → KnownText
known k own t = record { text = t; plan = k; own = own }

unfoldable pub known_texts : List KnownText
known_texts =
    known Known.K1 false "Swap: { Integer: { x = 1; y = 2; } NodeList: { A: { Assignment: x = y; } B: { Assignment: y = x; } } }"
    ∷ known Known.K2 true "{ Integer: { x = 1; y = 2; } NodeList: { A: { Priority: 5; Assignment: x = 10; } B: { Priority: 3; Assignment: x = 20; } } }"
    ∷ known Known.K3 true "{ Integer: { x = 1; y = 2; } NodeList: { A: { Priority: 5; Assignment: x = 10; } B: { Priority: 5; Assignment: x = 20; } } }"
    ∷ known Known.K4 true "{ NodeList: { } }"
    ∷ known Known.K5 true "Command scan = 7; { Command: scan(); }"
    ∷ known Known.K6 false "{ Integer: { x = 0; } NodeList: { { RepeatCondition: x < 3; Assignment: x = x + 1; } } }"
    ∷ known Known.K7 false "{ NodeList: { { Integer: { x = 0; } RepeatUntilCondition: 3 > x; Assignment: x = x + 1; } } }"
    ∷ known Known.K8 false "{ Integer: { x = 1; } PreCondition: false; Assignment: x = 10; }"
    ∷ known Known.K9 true "Boolean Lookup power; Command scan = 7; { InvariantCondition: LookupNow(power); NodeList: { { Command: scan(); } } }"
    ∷ []

-- opens every definition of this file
unfoldable pub opened : Unit {0}
unfolding ends_so text_passes all_texts_pass known_texts Known.opened
opened = tt
