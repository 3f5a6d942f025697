-- How far a text is viable, token by token: refusal 40's number.
use Prim.Native.Nat.{ℕ, ◌+◌, ◌≤◌}
use native.Mathlib.Omega.{arith}
use lib.ListN.{length, drop, length-drop}
use lib.Seq.{slice}
use mathlib.Core.Path.{◌≡◌, sym, ◌∙◌, ap}
use mathlib.Core.Bool.{Bool, true, false}
use mathlib.Core.Logic.{inl, inr}
use mathlib.Core.List.{List, [], ◌∷◌, ◌++◌, append-nil}
use mathlib.Core.Option.{none, some}
use Rattle.grammar.specs.Text.{start, reach}
use Rattle.grammar.specs.Table.{Item, Row, Table, rows_of, choose_of, grammar, hope_of}
use Rattle.grammar.specs.Scan.{done, broken, token, token_at, viable, reach_from}
use Rattle.grammar.proofs.Table.{complete}
use Rattle.grammar.proofs.Answers.{Met, Passed, Broken, met-part, met-rest, token-met, done-passed, broken-how}
use Rattle.grammar.proofs.Reaches.{passes-reach, lost-reach, past-reach, refused-reach, taken-reach}

module _ (Y : Table) (u : List ℕ) (at : ℕ) where
  -- bytes that pass to the text's end are viable
  passed-reach : (s : List (Item Y.Sort)) (k : Bool) → Passed u at k → reach_from Y s u at ≡ at + length (drop at u)
  unfolding reach_from start reach
  passed-reach s k d =
      let e = passes-reach (grammar Y) (hope_of Y) s d.passes [] in
      ap (λ v. at + reach (grammar Y) (hope_of Y) (start (grammar Y) s) v) (sym (append-nil (drop at u))) ∙ (omega arith)

  -- the text is viable whole where no token comes and it may end
  pub reach-done : (s : List (Item Y.Sort)) → at ≤ length u → token_at u at ≡ done → reach_from Y s u at ≡ length u
  reach-done s i h = let e = passed-reach s true (done-passed u at h) in omega (arith, length-drop at u)

  -- and as far as it is not broken
  pub reach-broken : (s : List (Item Y.Sort)) (k : ℕ) → token_at u at ≡ broken k → reach_from Y s u at ≡ k
  unfolding reach_from start
  reach-broken s k h = go (broken-how u at k h)
    where
      go : Broken u at k → reach_from Y s u at ≡ k
      go (inl d) = passed-reach s false d.0 ∙ sym d.1
      go (inr l) =
          let e = passes-reach (grammar Y) (hope_of Y) s l.passes (l.b ∷ l.y) in
          let z = lost-reach (grammar Y) (hope_of Y) s l.b l.y l.is_lost in
          rw l.is (omega (arith, l.place))

  module _ (from to : ℕ) (h : token_at u at ≡ token from to) where
    -- a token that begins a row
    pub reach-token : (i : Item Y.Sort) (s : List (Item Y.Sort)) (r : Row Y.Sort Y.Saying) → choose_of Y i (slice from to u) ≡ some r
        → reach_from Y (i ∷ s) u at ≡ reach_from Y (r.rest ++ s) u to
    unfolding reach_from start
    reach-token i s r c = go (token-met u at from to h)
      where
        go : Met u at from to → reach_from Y (i ∷ s) u at ≡ reach_from Y (r.rest ++ s) u to
        go m =
            let e = passes-reach (grammar Y) (hope_of Y) (i ∷ s) m.passes (m.t ++ m.y) in
            let k = taken-reach (grammar Y) (hope_of Y) i s (complete Y i) m.t m.y r m.is_whole m.is_apart (rw (met-part u at m) at c) in
            rw (m.is, met-rest u at m) (omega (arith, m.to))

    -- a token that begins none is viable so far as some row could begin so
    pub reach-stops : (i : Item Y.Sort) (s : List (Item Y.Sort)) → choose_of Y i (slice from to u) ≡ none
        → reach_from Y (i ∷ s) u at ≡ from + viable (rows_of Y i) (slice from to u)
    unfolding reach_from start viable hope_of
    reach-stops i s c = go (token-met u at from to h)
      where
        go : Met u at from to → reach_from Y (i ∷ s) u at ≡ from + viable (rows_of Y i) (slice from to u)
        go m =
            let e = passes-reach (grammar Y) (hope_of Y) (i ∷ s) m.passes (m.t ++ m.y) in
            let k = refused-reach (grammar Y) (hope_of Y) i s m.t m.y m.is_whole m.is_apart (rw (met-part u at m) at c) in
            rw (m.is, met-part u at m) (omega (arith, m.from))

    -- nothing is to come: no byte of the token is viable
    pub reach-past : reach_from Y [] u at ≡ from
    unfolding reach_from start
    reach-past = go (token-met u at from to h)
      where
        go : Met u at from to → reach_from Y [] u at ≡ from
        go m =
            let e = passes-reach (grammar Y) (hope_of Y) [] m.passes (m.t ++ m.y) in
            let k = past-reach (grammar Y) (hope_of Y) m.t m.y m.is_whole in
            rw m.is (omega (arith, m.from))
