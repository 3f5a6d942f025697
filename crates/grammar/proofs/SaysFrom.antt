-- What a text says from a place on, token by token.
use Prim.Native.Nat.{ℕ}
use lib.Seq.{slice}
use mathlib.Core.Path.{◌≡◌, refl, ap}
use mathlib.Core.Bool.{Bool, true, false, cond}
use mathlib.Core.List.{List, [], ◌∷◌, ◌++◌}
use mathlib.Core.Option.{Option, none, some}
use Rattle.grammar.specs.Spelling.{Placed, placed}
use Rattle.grammar.specs.Table.{Item, Row, Table, Said, choose_of, on_said, said, text_says}
use Rattle.grammar.specs.Scan.{done, broken, token, token_at, rest, shut_from, token_in, says_from}
use Rattle.grammar.proofs.TokenAt.{token-at, done_at, broken-at}

module _ (Y : Table) (u : List ℕ) (at : ℕ) where
  -- the tokens from a place on say what the next one says and what those after it say
  pub said-token : (i : Item Y.Sort) (s : List (Item Y.Sort)) (from to : ℕ) → token_at u at ≡ token from to
      → said Y (i ∷ s) (rest u at) ≡ on_said Y (token_in u from to) (choose_of Y i (slice from to u)) (λ r. said Y (r.rest ++ s) (rest u to))
  unfolding said token_in
  said-token i s from to h = ap (said Y (i ∷ s)) (token-at u at from to h).unfolds

  -- a test before what is said after a row
  test-last : (k : Bool) (t : Placed) (o : Option (Row Y.Sort Y.Saying)) (f : Row Y.Sort Y.Saying → Option (List (Said Y.Saying)))
      → cond k (on_said Y t o f) none ≡ on_said Y t o (λ r. cond k (f r) none)
  unfolding on_said
  test-last true t o f = refl
  test-last false t none f = refl
  test-last false t (some r) f = refl

  -- a token comes next
  pub says-token : (i : Item Y.Sort) (s : List (Item Y.Sort)) (from to : ℕ) → token_at u at ≡ token from to
      → says_from Y (i ∷ s) u at ≡ on_said Y (token_in u from to) (choose_of Y i (slice from to u)) (λ r. says_from Y (r.rest ++ s) u to)
  unfolding says_from
  says-token i s from to h =
      rw (said-token i s from to h, (token-at u at from to h).shuts)
      (test-last (shut_from u to) (token_in u from to) (choose_of Y i (slice from to u)) (λ r. said Y (r.rest ++ s) (rest u to)))

  nothing : (k : Bool) → ◌≡◌ {A = Option (List (Said Y.Saying))} (cond k none none) none
  nothing true = refl
  nothing false = refl

  -- and nothing is to come
  pub says_past : (from to : ℕ) → token_at u at ≡ token from to → says_from Y [] u at ≡ none
  unfolding says_from said
  says_past from to h = rw (token-at u at from to h).unfolds (nothing (shut_from u at))

  -- no token comes
  pub says-done : token_at u at ≡ done → says_from Y [] u at ≡ some []
  unfolding says_from said
  says-done h = let d = done_at u at h in rw (d.0, d.1)

  pub says-short : (i : Item Y.Sort) (s : List (Item Y.Sort)) → token_at u at ≡ done → says_from Y (i ∷ s) u at ≡ none
  unfolding says_from said
  says-short i s h = let d = done_at u at h in rw (d.0, d.1)

  -- the text may not end so
  pub says-broken : (s : List (Item Y.Sort)) (k : ℕ) → token_at u at ≡ broken k → says_from Y s u at ≡ none
  unfolding says_from
  says-broken s k h = rw (broken-at u at k h)

-- what a text says is what it says from its beginning on
pub says-whole : (Y : Table) (s : List (Item Y.Sort)) (u : List ℕ) → says_from Y s u 0 ≡ text_says Y s u
unfolding says_from text_says shut_from rest placed
says-whole Y s u = refl
