-- The tables are the rows of the grammar.
use mathlib.Core.Path.{◌≡◌, refl}
use mathlib.Core.List.{List}
use Prim.Native.Nat.{ℕ}
use Rattle.grammar.specs.Leads as Leads
use Rattle.notation.specs.Rows as Rows
use Rattle.notation.specs.Rows.{Close, semicolon, bracket}
use Rattle.notation.specs.Classes as Classes
use Rattle.recognise.specs.Codes as Codes
use Rattle.recognise.specs.Positions as Positions
use Rattle.recognise.specs.Tables as Tables
use Rattle.recognise.specs.Steps as Steps
use Rattle.recognise.proofs.Claims as Claims
use Rattle.recognise.proofs.Claims.{all_rowed, all_tabled}

pub tables-semicolon : (m : List ℕ) → all_tabled m semicolon ≡ all_rowed m semicolon
unfolding Leads.opened Rows.opened Classes.opened Codes.opened Positions.opened Tables.opened Steps.opened Claims.opened
tables-semicolon m = refl

pub tables-bracket : (m : List ℕ) → all_tabled m bracket ≡ all_rowed m bracket
unfolding Leads.opened Rows.opened Classes.opened Codes.opened Positions.opened Tables.opened Steps.opened Claims.opened
tables-bracket m = refl
