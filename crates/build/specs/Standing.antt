-- What the bytes of an image stand for while an expression is read into it.
use Rattle.std.specs.Prelude.{ℕ, zero, suc, ◌+◌, ◌*◌, ◌≤◌, ◌<◌, ◌≡◌, List, [], ◌∷◌, ◌++◌, length}
use Rattle.plexil.specs.Lists.{put}
use Rattle.plexil.specs.Assemble.{join, words16}
use Rattle.notation.specs.Phrases.{Sayings}
use Rattle.notation.specs.Draft.{Entry, Mentioned, Pending, paren, Draft}
use Rattle.notation.specs.Hearing.{ending, waiting, here}
use Rattle.notation.specs.Mapping.{kind_of_entry, all_entries}

-- the most bytes that an image has: 256 nodes, 2048 entries, 128 variables, 64 lookups
abbrev pub most_bytes : ℕ
most_bytes = 41108

-- a draft within an expression: no name is held
abbrev pub within : Draft → List Entry → List Mentioned → List Pending → Draft
within d es ms ps =
    record { commands = d.commands; lookups = d.lookups; nodes = d.nodes; variables = d.variables; entries = es; mentions = ms; above = d.above; depth = d.depth; slot = d.slot; pending = ps; held = [] }

-- the bytes of the entries
unfoldable pub entries_bytes : Draft → List Entry → List ℕ
entries_bytes d es = join (all_entries d [] es)

-- the kinds of the entries, after those of earlier ones
unfoldable pub kinds_after : Draft → List ℕ → List Entry → List ℕ
kinds_after d ks [] = ks
kinds_after d ks (e ∷ es) = kinds_after d (ks ++ (kind_of_entry d ks e ∷ [])) es

-- the header of an image
unfoldable pub header : ℕ → ℕ → ℕ → ℕ → List ℕ
header n e v l =
    let a = 20 + 24 * n in
    let b = a + 16 * e in
    let c = b + 16 * v in
    words16 (1 ∷ n ∷ e ∷ v ∷ l ∷ 20 ∷ a ∷ b ∷ c ∷ (c + 2 * l) ∷ [])

-- n parentheses over what is pending
unfoldable pub parens : ℕ → List Pending → List Pending
parens zero ps = ps
parens (suc n) ps = paren ∷ parens n ps

-- no operator of strength k or more ends anything that is pending
abbrev pub Still : ℕ → List Pending → Type 0
Still k ps = (s : ℕ) → k ≤ s → ((es : List Entry) → ending s ps es ≡ es) × (waiting s ps ≡ ps)

-- what an expression is read for: the draft of the whole text, the draft as the expression began, what follows its end, the image below its entries
pub record Scene : Type 0 where
  pub whole : Draft
  pub start : Draft
  pub rest : Sayings
  pub under : List ℕ

-- the scene is that of the node `node`, whose image has its entries from `base` on, and room
pub record Fair (s : Scene) (node base : ℕ) : Type 0 where
  pub ours : here s.start ≡ node
  pub small : node < 65535
  pub room : length s.under ≡ most_bytes
  pub low : base ≤ 6164
  pub few : length s.whole.entries ≤ 2048

-- the image has the bytes of the entries es, `count` of them
pub record Stands (s : Scene) (base : ℕ) (image : List ℕ) (es : List Entry) (count : ℕ) : Type 0 where
  pub bytes : image ≡ put s.under base (entries_bytes s.whole es)
  pub counted : count ≡ length es

-- opens every definition of this file
unfoldable pub opened : Unit {0}
unfolding entries_bytes kinds_after header parens
opened = tt
