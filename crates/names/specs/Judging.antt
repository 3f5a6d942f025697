-- What a saying mentions, and the path that is held.
use Rattle.std.specs.Prelude.{ℕ, suc, ◌+◌, ◌-◌, ◌≤◌, ◌<◌, ◌≡◌, ◌⊎◌, Bool, true, false, Option, Ok, Err, IfOk, cond, eqb, List, [], ◌∷◌, length}
use Rattle.std.specs.Option.{ok_or}
use Rattle.plexil.specs.Lists.{Found, at, nowhere}
use Rattle.grammar.specs.Spelling.{Token, Placed}
use Rattle.grammar.specs.Table.{Said}
use Rattle.notation.specs.Sayings.{Saying}
use Rattle.notation.specs.Draft.{Draft, Mention, Mentioned, node, use_of_command, use_of_lookup, use_of_variable}
use Rattle.notation.specs.Hearing.{◌▸◌, draft_of, all_bytes}
use Rattle.notation.specs.Names.{child_of, node_up, node_of, bad_mention}
use Rattle.recognise.specs.Hears.{piece}
use Rattle.names.specs.declared.walk.Walk.{Walk}
use Rattle.names.specs.declared.judge.Path.{Path}
use Rattle.names.specs.declared.judge.Held.{Held}
use Rattle.names.specs.declared.judge.Held.TheVariants.{Nothing, Name, Route}
use Rattle.names.specs.Roles.{Role, role_of}
use Rattle.names.specs.Tale.{Tale, list_of, here_in, parts, tell, tell_all}
use Rattle.names.specs.Walking.{Tells}
use Rattle.names.specs.Answers.{found_of, tale_said}

abbrev pub one_mention : Mention → Placed → List Mentioned
one_mention m t = record { mention = m; place = t.place } ∷ []

-- a held name was a variable's
unfoldable pub settled_by : ℕ → List Placed → List Mentioned
settled_by n [] = []
settled_by n (t ∷ ts) = one_mention (use_of_variable n t.bytes) t

-- what a saying of the role mentions
unfoldable pub new_of : Role → Placed → Tale → List Mentioned
new_of Role.other t b = []
new_of Role.number t b = []
new_of Role.command t b = one_mention (Mention.command (length b.commands)) t
new_of Role.lookup t b = one_mention (Mention.lookup (length b.lookups)) t
new_of Role.variable t b = one_mention (Mention.variable (length b.variables)) t
new_of Role.named t b = one_mention (node (length b.nodes)) t
new_of Role.unnamed t b = []
new_of Role.opens t b = []
new_of Role.shuts t b = []
new_of Role.call t b = one_mention (use_of_command t.bytes) t
new_of Role.assign t b = one_mention (use_of_variable (here_in b) t.bytes) t
new_of Role.read t b = one_mention (use_of_lookup t.bytes) t
new_of Role.mention t b = []
new_of Role.descend t b = []
new_of Role.ask t b = parts (here_in b) [] b.held
new_of Role.settle t b = settled_by (here_in b) b.held

-- the first part of a path that is not found
unfoldable pub lost_of : Path → Found
lost_of p = elim p.end [ Ok n ↦ nowhere | Err k ↦ at k ]

-- the parts ts of a path have been followed from node n
pub record Followed (d : Draft) (n : ℕ) (ts : List Placed) (p : Path) : Type 0 where
  pub lost : bad_mention d (parts n [] ts) ≡ lost_of p
  pub found : (m : ℕ) → p.end ≡ Ok m → node_of d n (all_bytes ts) ≡ at m

-- the first name of the path lies in the text, and the number of the node at its end is no largest one
pub record PathIn (u : List ℕ) (p : Path) : Type 0 where
  pub ordered : p.from ≤ p.to
  pub within : p.to ≤ length u
  pub small : IfOk p.end (λ n. n < 18446744073709551615)

-- p is the path whose first part is t and whose others are ts, followed from node n
pub record Whole (u : List ℕ) (d : Draft) (n : ℕ) (t : Placed) (ts : List Placed) (p : Path) : Type 0 where
  pub name : piece u p.from p.to ≡ t.bytes
  pub place : p.from ≡ t.place
  pub held : p.held ≡ Route
  pub followed : Followed d n (t ∷ ts) p

-- p is the held name or path, in node n: none, its first name alone, or followed to its end
unfoldable pub PathIs : List ℕ → Draft → ℕ → List Placed → Path → Type 0
PathIs u d n [] p = p.held ≡ Nothing
PathIs u d n (t ∷ ts) p = ((piece u p.from p.to ≡ t.bytes) × (p.from ≡ t.place) × (p.held ≡ Name) × (ts ≡ [])) ⊎ Whole u d n t ts p

-- a path's first part is sought upwards from node n, each later one among its children
unfoldable pub part_of : Bool → Draft → ℕ → Token → Found
part_of true d n x = node_up d (suc n) n x
part_of false d n x = child_of d n x

-- a held name or path is followed
unfoldable pub FirstPart : List ℕ → Draft → ℕ → Path → Path → Type 0
FirstPart u d n p r = (PathIs u d n [] p → PathIs u d n [] r) × ((t : Placed) (ts : List Placed) → PathIs u d n (t ∷ ts) p → Whole u d n t ts r)

-- a path is followed one part further, whose name stands from a to e
unfoldable pub NextPart : List ℕ → Draft → Path → ℕ → ℕ → Path → Type 0
NextPart u d p a e r = (n : ℕ) (t : Placed) (ts : List Placed) (s : Placed) → Whole u d n t ts p → piece u a e ≡ s.bytes → a ≡ s.place → Whole u d n t (ts ▸ s) r

-- nothing where the test passes, else the place
unfoldable pub unless_of : Bool → ℕ → Found
unless_of true n = nowhere
unless_of false n = at n

-- the path after a name has been looked for
unfoldable pub followed_of : ℕ → ℕ → Option ℕ → ℕ → Path
followed_of i j f n = record { held = Route; «from» = i; to = j; «end» = ok_or f n }

-- a name alone, or none
unfoldable pub held_from : Held → ℕ → ℕ → Path
held_from k i j = record { held = k; «from» = i; to = j; «end» = Ok 0 }

-- the name that the walk has heard lies in the text
pub record WalkIn (u : List ℕ) (w : Walk) : Type 0 where
  pub ordered : w.from ≤ w.to
  pub within : w.to ≤ length u
  pub small : w.nodes < 18446744073709551616

-- the walk w has just heard x after the tale b, of the text that says l
pub record Hearing (u : List ℕ) (l : List (Said Saying)) (w : Walk) (b : Tale) (x : Said Saying) : Type 0 where
  pub rest : List (Said Saying)
  pub tells : Tells u w b x
  pub whole : tell_all rest (tell x b) ≡ tale_said l
  pub nodes : w.nodes ≡ length (tell x b).nodes

-- the answer is the first of what is mentioned that is not in order
unfoldable pub Judged : List ℕ → List (Said Saying) → Walk → ℕ → Path → Option ℕ → Type 0
Judged u l w i p r = (b : Tale) (x : Said Saying) → Hearing u l w b x → (w.role < 4 → i ≡ length (list_of w.role b)) → PathIs u (draft_of l) (here_in b) b.held p →
    r ≡ found_of (bad_mention (draft_of l) (new_of (role_of x.what) x.token b))

-- a name is held
pub record HasPath (ts : List Placed) : Type 0 where
  pub first : Placed
  pub others : List Placed
  pub whole : ts ≡ first ∷ others

-- the path after it
unfoldable pub PathGoes : List ℕ → List (Said Saying) → Walk → Path → Path → Type 0
PathGoes u l w p r = (b : Tale) (x : Said Saying) → Hearing u l w b x → (w.role ≡ 11 → HasPath b.held) → (HasPath b.held → here_in (tell x b) ≡ here_in b) → PathIs u (draft_of l) (here_in b) b.held p →
    PathIs u (draft_of l) (here_in (tell x b)) (tell x b).held r

-- the number of what a saying of the role's number declares, and one more of the sort
unfoldable pub index_no : ℕ → ℕ → ℕ → ℕ → ℕ → ℕ
index_no k c l v n = cond (eqb k 0) c (cond (eqb k 1) l (cond (eqb k 2) v (n - 1)))

unfoldable pub count_no : ℕ → ℕ → ℕ → ℕ
count_no k s n = cond (eqb k s) (n + 1) n

-- opens every definition of this file
unfoldable pub opened : Unit {0}
unfolding settled_by new_of lost_of PathIs part_of FirstPart NextPart unless_of followed_of held_from Judged PathGoes index_no count_no
opened = tt
