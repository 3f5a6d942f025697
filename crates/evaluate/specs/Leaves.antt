-- What an entry without operands answers, by its operator's number and where its record stands.
use Rattle.std.specs.Prelude.{ℕ, ◌+◌, [], ◌∷◌, get_or, eqb}
use Rattle.plexil.specs.declared.Worked.{Worked}
use Rattle.plexil.specs.declared.Worked.TheVariants.{Clash, Unknown, Bool as Flag}
use Rattle.plexil.specs.Lists.{when◌then◌else◌}
use Rattle.plexil.specs.Bytes.{byte_at, le16, le64}
use Rattle.plexil.specs.Values.{known, cell}
use Rattle.plexil.specs.Image.{Image}
use Rattle.plexil.specs.Places.{Seen, value_in}

unfoldable pub leaf_answer : Image → ℕ → ℕ → Seen → Worked
leaf_answer p at op s =
    get_or
    ((when eqb (le16 p (at + 4)) 1 then known (byte_at p (at + 1)) (le64 p (at + 8)) else Unknown)
    ∷ value_in (cell (get_or s.vartags (le16 p (at + 2)) 0) (get_or s.varbits (le16 p (at + 2)) 0))
    ∷ value_in (cell (get_or s.looktags (le16 p (at + 2)) 0) (get_or s.lookbits (le16 p (at + 2)) 0))
    ∷ Flag (eqb (get_or s.status (le16 p (at + 2)) 0) (le16 p (at + 4)))
    ∷ Flag (eqb (get_or s.outcome (le16 p (at + 2)) 0) (le16 p (at + 4)))
    ∷ Flag (eqb (get_or s.failure (le16 p (at + 2)) 0) (le16 p (at + 4))) ∷ [])
    op Clash
