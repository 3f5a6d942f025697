-- What the functions of this crate answer.
use Rattle.std.specs.Prelude.{ℕ, suc, ◌≤◌, ◌≡◌, List, length, Option, Some, None}
use Rattle.std.proofs.Math.Option.{some}
use Rattle.plexil.specs.Lists.{Found, at, nowhere}
use Rattle.grammar.specs.Table.{Said}
use Rattle.notation.specs.Sayings.{Saying}
use Rattle.notation.specs.Spoken.{spoken}
use Rattle.notation.specs.Hearing.{draft_of, parent_in}
use Rattle.notation.specs.Draft.{Draft}
use Rattle.notation.specs.Names.{too_deep}
use Rattle.notation.specs.Reading.{plan_says}
use Rattle.recognise.specs.Hears.{piece}
use Rattle.names.specs.declared.answers.NodeFound.{NodeFound}
use Rattle.names.specs.Tale.{Declared, Tale, tale_of}

-- a number found, or none
unfoldable pub found_of : Found → Option ℕ
found_of (at i) = Some i
found_of nowhere = None

-- the text u says l, and no node of it is past level 16
pub record Accepted (u : List ℕ) (l : List (Said Saying)) : Type 0 where
  pub says : plan_says u ≡ some l
  pub levels : too_deep (draft_of l).nodes ≡ nowhere

-- the tale of an accepted text
abbrev pub tale_said : List (Said Saying) → Tale
tale_said l = tale_of (spoken l)

-- the answer is the node e, its name's place in the text u
pub record NodeIs (u : List ℕ) (e : Declared) (r : NodeFound) : Type 0 where
  pub name : piece u r.from r.to ≡ e.name
  pub owner : r.owner ≡ e.owner

-- the answer's name lies in the text
pub record Lies (u : List ℕ) (r : NodeFound) : Type 0 where
  pub ordered : r.from ≤ r.to
  pub within : r.to ≤ length u

-- r is the parent of node n, which is not the root
pub record ParentOf (d : Draft) (n r : ℕ) : Type 0 where
  pub parent : (k : ℕ) → n ≡ suc k → r ≡ parent_in d.nodes (suc k)

-- opens every definition of this file
unfoldable pub opened : Unit {0}
unfolding found_of
opened = tt
