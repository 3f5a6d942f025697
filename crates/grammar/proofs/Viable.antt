-- `viable` is the length of the longest prefix of a token's bytes that some row could begin with.
use Prim.Native.Nat.{ℕ, ◌≤◌, ◌<◌}
use lib.ListN.{length, take}
use mathlib.Core.Path.{◌≡◌}
use mathlib.Core.Bool.{true}
use mathlib.Core.List.{List}
use Rattle.grammar.specs.Spelling.{Token}
use Rattle.grammar.specs.Table.{Row, any_could}
use Rattle.grammar.specs.Scan.{viable}
use Rattle.grammar.proofs.Longest.{longest-within, longest-passes, longest-most}
use Rattle.grammar.proofs.ViableBy.{any-front}

module _ {S W : Type 0} (rows : List (Row S W)) (t : Token) where
  pub viable-within : viable rows t ≤ length t
  unfolding viable
  viable-within = longest-within (any_could rows) t

  pub viable-could : 0 < viable rows t → any_could rows (take (viable rows t) t) ≡ true
  unfolding viable
  viable-could h = longest-passes (any_could rows) t h

  pub viable-most : (n : ℕ) → 0 < n → n ≤ length t → any_could rows (take n t) ≡ true → n ≤ viable rows t
  unfolding viable
  viable-most n h l e = longest-most (any_could rows) (any-front rows) t n h l e
