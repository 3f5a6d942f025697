-- A small assembler for the table KnownEnds: records as numbers, to the bytes of an image or an event.
use Rattle.std.specs.Prelude.{ℕ, zero, suc, ◌+◌, ◌*◌, ◌/◌, ◌%◌, List, [], ◌∷◌, ◌++◌, length, set}

-- k bytes, least first
unfoldable pub bytes : ℕ → ℕ → List ℕ
bytes zero n = []
bytes (suc k) n = (n % 256) ∷ bytes k (n / 256)

unfoldable pub words16 : List ℕ → List ℕ
words16 [] = []
words16 (n ∷ ns) = bytes 2 n ++ words16 ns

unfoldable pub join : List (List ℕ) → List ℕ
join [] = []
join (b ∷ bs) = b ++ join bs

abbrev pub no : ℕ
no = 65535

-- Skip Start Pre Inv End Post Repeat, all default
abbrev pub plain : List ℕ
plain = no ∷ no ∷ no ∷ no ∷ no ∷ no ∷ no ∷ []

-- entry e as the condition at place k of them
unfoldable pub only : ℕ → ℕ → List ℕ
only k e = set plain k e

unfoldable pub node : ℕ → ℕ → ℕ → List ℕ → ℕ → ℕ → List ℕ
node parent type priority conditions what value =
    bytes 2 parent ++ (type ∷ 0 ∷ words16 (priority ∷ (conditions ++ (what ∷ value ∷ []))))

unfoldable pub a_list : ℕ → List ℕ → List ℕ
a_list parent conditions = node parent 0 0 conditions no no

unfoldable pub a_command : ℕ → List ℕ → List ℕ
a_command parent conditions = node parent 1 0 conditions 7 no

unfoldable pub an_assignment : ℕ → ℕ → List ℕ → ℕ → ℕ → List ℕ
an_assignment parent priority conditions x e = node parent 2 priority conditions x e

unfoldable pub expr : ℕ → ℕ → ℕ → ℕ → ℕ → List ℕ
expr op kind a b w = op ∷ kind ∷ (words16 (a ∷ b ∷ 0 ∷ []) ++ bytes 8 w)

-- a known constant
unfoldable pub const : ℕ → ℕ → List ℕ
const kind w = expr 0 kind 0 1 w

unfoldable pub variable : ℕ → ℕ → ℕ → ℕ → List ℕ
variable kind known owner w = kind ∷ known ∷ (words16 (owner ∷ 0 ∷ 0 ∷ []) ++ bytes 8 w)

unfoldable pub lookup : ℕ → List ℕ
lookup kind = kind ∷ 0 ∷ []

unfoldable pub plan : List (List ℕ) → List (List ℕ) → List (List ℕ) → List (List ℕ) → List ℕ
plan ns es vs ls =
    let a = 20 + 24 * length ns in
    let b = a + 16 * length es in
    let c = b + 16 * length vs in
    words16 (1 ∷ length ns ∷ length es ∷ length vs ∷ length ls ∷ 20 ∷ a ∷ b ∷ c ∷ (c + 2 * length ls) ∷ [])
    ++ (join ns ++ (join es ++ (join vs ++ join ls)))

unfoldable pub entry : ℕ → ℕ → ℕ → List ℕ
entry form index w = form ∷ 0 ∷ (bytes 2 index ++ bytes 8 w)

unfoldable pub event : ℕ → List (List ℕ) → List ℕ
event serial es = bytes 4 serial ++ (bytes 2 (length es) ++ (0 ∷ 0 ∷ join es))

-- opens every definition of this file
unfoldable pub opened : Unit {0}
unfolding bytes words16 join only node a_list a_command an_assignment expr const variable lookup plan entry event
opened = tt
