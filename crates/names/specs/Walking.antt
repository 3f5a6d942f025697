-- A walk through a text: the code's counts and lists stand for the tale of what has been heard.
use Rattle.std.specs.Prelude.{ℕ, ◌+◌, ◌<◌, ◌≤◌, ◌-◌, ◌≡◌, cond, List, [], ◌∷◌, eqb, ltb, length, get_or, set, Option, MatchOption}
use Rattle.std.proofs.Math.Option.{some}
use Rattle.grammar.specs.Spelling.{Token}
use Rattle.grammar.specs.Table.{Said}
use Rattle.notation.specs.Sayings.{Saying}
use Rattle.notation.specs.Spoken.{spoken}
use Rattle.notation.specs.Reading.{plan_says}
use Rattle.recognise.specs.declared.Cursor.{Cursor}
use Rattle.recognise.specs.Codes.{say_of}
use Rattle.recognise.specs.Hears.{Hears, piece}
use Rattle.recognise.specs.Tape.{Tape}
use Rattle.names.specs.declared.walk.Walk.{Walk}
use Rattle.names.specs.Roles.{Role, role_of, role_number}
use Rattle.names.specs.Tale.{Tale, untold, tell, top, here_in}
use Rattle.names.specs.Order.{Standing, declaring, after, Orderly}
use Rattle.names.specs.Seek.{Shallow}

-- ---- what the code works out, by the role's number k, the nodes n and the open lists m
unfoldable pub owner_at : List ℕ → ℕ → ℕ
owner_at ls m = cond (eqb m 0) 0 (cond (ltb 16 m) 0 (get_or ls (m - 1) 0))

unfoldable pub owner_no : List ℕ → ℕ → ℕ → ℕ → ℕ
owner_no ls k n m = cond (eqb k 2) (n - 1) (cond (eqb k 3) (owner_at ls m) (cond (eqb k 4) (owner_at ls m) 0))

unfoldable pub lists_no : List ℕ → ℕ → ℕ → ℕ → List ℕ
lists_no ls k n m = cond (eqb k 5) (cond (ltb m 16) (set ls m n) ls) ls

unfoldable pub nodes_no : ℕ → ℕ → ℕ
nodes_no k n = cond (eqb k 3) (n + 1) (cond (eqb k 4) (n + 1) n)

unfoldable pub depth_no : ℕ → ℕ → ℕ
depth_no k m = cond (eqb k 5) (m + 1) (cond (eqb k 6) (m - 1) m)

unfoldable pub end_no : ℕ → ℕ → ℕ → ℕ
end_no k i j = cond (eqb k 4) i j

-- the sort of what a saying of the role declares, a number past 3 where it declares nothing: an unnamed node is a node
unfoldable pub sort_no : ℕ → ℕ
sort_no k = cond (eqb k 4) 3 k

unfoldable pub heard_of : List ℕ → Walk → Cursor → Walk
heard_of ls w d =
    let k = role_number (role_of (say_of d.says)) in
    record { cursor = d; role = k; «from» = d.from; to = end_no k d.from d.to; owner = owner_no ls k w.nodes w.depth; nodes = nodes_no k w.nodes; depth = depth_no k w.depth }

-- ---- what that stands for
-- the array holds the lists s, innermost first, where they are of the outermost 16
unfoldable pub Holds : List ℕ → List ℕ → Type 0
Holds ls [] = Unit {0}
Holds ls (v ∷ s) = (length s < 16 → get_or ls (length s) 0 ≡ v) × Holds ls s

-- the walk has heard the tale b and hears the sayings l
pub record Follows (u : List ℕ) (ls : List ℕ) (w : Walk) (b : Tale) (q : Standing) (l : List (Said Saying)) : Type 0 where
  pub hears : Hears u w.cursor l
  pub orderly : Orderly q l
  pub nodes : w.nodes ≡ length b.nodes
  pub depth : w.depth ≡ length b.lists
  pub room : length ls ≡ 16
  pub holds : Holds ls b.lists

-- the name that a role's token has: none for a node at its brace
unfoldable pub name_by : Role → Token → Token
name_by Role.other t = t
name_by Role.number t = t
name_by Role.command t = t
name_by Role.lookup t = t
name_by Role.variable t = t
name_by Role.named t = t
name_by Role.unnamed t = []
name_by Role.opens t = t
name_by Role.shuts t = t
name_by Role.call t = t
name_by Role.assign t = t
name_by Role.read t = t
name_by Role.mention t = t
name_by Role.descend t = t
name_by Role.ask t = t
name_by Role.settle t = t

-- the owner of what is declared
unfoldable pub owner_by : Role → Tale → ℕ
owner_by Role.other b = 0
owner_by Role.number b = 0
owner_by Role.command b = 0
owner_by Role.lookup b = 0
owner_by Role.variable b = here_in b
owner_by Role.named b = top b.lists
owner_by Role.unnamed b = top b.lists
owner_by Role.opens b = 0
owner_by Role.shuts b = 0
owner_by Role.call b = 0
owner_by Role.assign b = 0
owner_by Role.read b = 0
owner_by Role.mention b = 0
owner_by Role.descend b = 0
owner_by Role.ask b = 0
owner_by Role.settle b = 0

-- the walk has just heard w
pub record Tells (u : List ℕ) (r : Walk) (b : Tale) (w : Said Saying) : Type 0 where
  pub role : r.role ≡ role_number (role_of w.what)
  pub says : say_of r.cursor.says ≡ w.what
  pub name : piece u r.from r.to ≡ name_by (role_of w.what) w.token.bytes
  pub place : r.from ≡ w.token.place
  pub owner : r.owner ≡ owner_by (role_of w.what) b

-- counts are at most the place in the text
pub record Bounded (w : Walk) : Type 0 where
  pub place : w.cursor.at < 18446744073709551616
  pub nodes : w.nodes ≤ w.cursor.at
  pub depth : w.depth ≤ w.cursor.at

-- the walk w has gone on to r, and hears one saying more
pub record Walked (u os : List ℕ) (ls : List ℕ) (w : Walk) (ls' : List ℕ) (r : Walk) : Type 0 where
  pub more : Tape u os → (x : Said Saying) (l : List (Said Saying)) (b : Tale) (q : Standing) → Follows u ls w b q (x ∷ l) → Shallow (tell x b).levels →
      Tells u r b x × ((t : Standing) × (after (role_of x.what) q ≡ some t) × Follows u ls' r (tell x b) t l)
  pub left : (b : Tale) (q : Standing) → Follows u ls w b q [] → ⊥
  pub onward : w.cursor.at < r.cursor.at
  pub bounded : Bounded r
  pub ordered : r.from ≤ r.to
  pub within : r.to ≤ length u

-- the walk w hears no saying more
pub record Over (u os : List ℕ) (ls : List ℕ) (w : Walk) : Type 0 where
  pub none_left : Tape u os → (x : Said Saying) (l : List (Said Saying)) (b : Tale) (q : Standing) → Follows u ls w b q (x ∷ l) → ⊥

abbrev pub Stepped : List ℕ → List ℕ → List ℕ → Walk → List ℕ → Option Walk → Type 0
Stepped u os ls w ls' o = MatchOption o (Over u os ls w) (λ r. Walked u os ls w ls' r)

-- at the beginning it hears what the text says
pub record Started (os : List ℕ) (r : Walk) : Type 0 where
  pub follows : (u ls : List ℕ) (l : List (Said Saying)) → length ls ≡ 16 → plan_says u ≡ some l → Tape u os → Follows u ls r untold declaring (spoken l)
  pub bounded : Bounded r

-- opens every definition of this file
unfoldable pub opened : Unit {0}
unfolding owner_at owner_no lists_no nodes_no depth_no end_no sort_no heard_of Holds name_by owner_by
opened = tt
