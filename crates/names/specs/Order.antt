-- The order of the sayings of an accepted text, as far as names need it: no list is shut that is not open, every node but the root begins
-- in a list, and a held name is settled by the very next saying.
use Rattle.std.specs.Prelude.{ℕ, zero, suc, false, List, [], ◌∷◌, ◌≡◌}
use Rattle.std.proofs.Math.Option.{Option, none, some}
use Rattle.grammar.specs.Table.{Said}
use Rattle.notation.specs.Sayings.{Saying}
use Rattle.notation.specs.Spoken.{is_silent}
use Rattle.names.specs.Roles.{Role, other, number, command, lookup, variable, named, unnamed, opens, shuts, call, assign, read, mention, descend, ask, settle, role_of}

-- where the sayings stand: before the root; in a node, with n lists open; the same with a name held; in a list, after its brace or after a list in it
pub data Standing : Type 0 where
  declaring : Standing
  within holding between : ℕ → Standing

unfoldable pub declares : Standing → Option Standing
declares declaring = some declaring
declares (within n) = none
declares (holding n) = none
declares (between n) = none

unfoldable pub stays : Standing → Option Standing
stays declaring = none
stays (within n) = some (within n)
stays (holding n) = none
stays (between n) = none

unfoldable pub node_begins : Standing → Option Standing
node_begins declaring = some (within 0)
node_begins (within zero) = none
node_begins (within (suc n)) = some (within (suc n))
node_begins (holding n) = none
node_begins (between zero) = none
node_begins (between (suc n)) = some (within (suc n))

unfoldable pub list_opens : Standing → Option Standing
list_opens declaring = none
list_opens (within n) = some (between (suc n))
list_opens (holding n) = none
list_opens (between n) = none

unfoldable pub list_shuts : Standing → Option Standing
list_shuts declaring = none
list_shuts (within zero) = none
list_shuts (within (suc n)) = some (between n)
list_shuts (holding n) = none
list_shuts (between zero) = none
list_shuts (between (suc n)) = some (between n)

unfoldable pub name_held : Standing → Option Standing
name_held declaring = none
name_held (within n) = some (holding n)
name_held (holding n) = none
name_held (between n) = none

unfoldable pub path_goes : Standing → Option Standing
path_goes declaring = none
path_goes (within n) = none
path_goes (holding n) = some (holding n)
path_goes (between n) = none

unfoldable pub path_ends : Standing → Option Standing
path_ends declaring = none
path_ends (within n) = none
path_ends (holding n) = some (within n)
path_ends (between n) = none

unfoldable pub settles : Standing → Option Standing
settles declaring = none
settles (within n) = some (within n)
settles (holding n) = some (within n)
settles (between n) = none

-- where the sayings stand after one of the role, where it may be
unfoldable pub after : Role → Standing → Option Standing
after other s = stays s
after number s = declares s
after command s = declares s
after lookup s = declares s
after variable s = stays s
after named s = node_begins s
after unnamed s = node_begins s
after opens s = list_opens s
after shuts s = list_shuts s
after call s = stays s
after assign s = stays s
after read s = stays s
after mention s = name_held s
after descend s = path_goes s
after ask s = path_ends s
after settle s = settles s

-- the sayings may follow, and none is silent
pub data Orderly : Standing → List (Said Saying) → Type 0 where
  over : {s : Standing} → Orderly s []
  onward : {s t : Standing} {w : Said Saying} {l : List (Said Saying)} → is_silent w.what ≡ false → after (role_of w.what) s ≡ some t → Orderly t l → Orderly s (w ∷ l)

-- opens every definition of this file
unfoldable pub opened : Unit {0}
unfolding declares stays node_begins list_opens list_shuts name_held path_goes path_ends settles after
opened = tt
