-- What a cursor hears, with what the rows of the notation ask of the tokens.
use Rattle.std.specs.Prelude.{ℕ, ◌≤◌, List, length}
use Rattle.grammar.specs.Table.{Said}
use Rattle.notation.specs.Sayings.{Saying}
use Rattle.notation.specs.Phrases.{Sayings}
use Rattle.recognise.specs.declared.Cursor.{Cursor}
use Rattle.recognise.specs.Hears as Recognised
unfoldable pub use Rattle.recognise.specs.Aptness.{Apt, AllApt}

pub record Hears (u : List ℕ) (c : Cursor) (l : Sayings) : Type 0 where
  pub ahead : Recognised.Hears u c l
  pub apt : AllApt l

pub record Heard (u : List ℕ) (c : Cursor) (w : Said Saying) : Type 0 where
  pub just : Recognised.Heard u c w
  pub apt : Apt w.what w.token.bytes
  pub ordered : c.from ≤ c.to
  pub inside : c.to ≤ length u
  pub known : c.says ≤ 94
