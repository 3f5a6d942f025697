-- One token more: what `token_at` says of the tokens of a text from a place on.
use Prim.Native.Nat.{ℕ, ◌+◌, ◌≤◌, ◌<◌}
use native.Mathlib.Omega.{arith}
use lib.ListN.{length, drop, length-drop, length-append}
use lib.Seq.{slice}
use mathlib.Core.Path.{◌≡◌, refl, sym, ◌∙◌, ap}
use mathlib.Core.Bool.{Bool, true, false, false≢true}
use mathlib.Core.Logic.{inl, inr}
use mathlib.Core.List.{List, [], ◌∷◌, ◌++◌, append-nil}
use Rattle.grammar.specs.Spelling.{whole, apart, Part, between, slash, star, lost, remark, aside, chunk, feed, pending, after, shut, all_end_at, placed_from}
use Rattle.grammar.specs.Scan.{done, broken, token, token_at, rest, shut_from, token_in}
use Rattle.grammar.proofs.Passes.{quiet, passes-placed, passes-after}
use Rattle.grammar.proofs.Stretch.{placed-token, shut-token}
use Rattle.grammar.proofs.Cut.{cut_fits}
use Rattle.grammar.proofs.Answers.{Met, Passed, Broken, met-part, met-rest, token-met, done-passed, broken-how}

-- the next token after place `at` is that from `from` up to `to`, and the tokens after it are those after `to`
pub record TokenAt (u : List ℕ) (at from to : ℕ) : Type 0 where
  pub low : at ≤ from
  pub some : from < to
  pub high : to ≤ length u
  pub unfolds : rest u at ≡ token_in u from to ∷ rest u to
  pub shuts : shut_from u at ≡ shut_from u to
  pub is_whole : whole (slice from to u) ≡ true
  pub is_apart : apart (slice from to u) (drop to u) ≡ true

quiet-pending : (p : Part) (n : ℕ) → quiet p ≡ true → placed_from p n [] ≡ []
unfolding quiet placed_from pending all_end_at
quiet-pending between n h = refl
quiet-pending slash n h = refl
quiet-pending star n h = refl
quiet-pending remark n h = refl
quiet-pending aside n h = refl
quiet-pending lost n h = absurd (false≢true h)
quiet-pending (chunk q) n h = absurd (false≢true h)

never-shut : (v : List ℕ) → shut (after lost v) ≡ false
unfolding after feed shut
never-shut [] = refl
never-shut (b ∷ v) = never-shut v

module _ (u : List ℕ) (at : ℕ) where
  -- a token comes next
  pub token-at : (from to : ℕ) → token_at u at ≡ token from to → TokenAt u at from to
  unfolding rest shut_from token_in
  token-at from to h = go (token-met u at from to h)
    where
      go : Met u at from to → TokenAt u at from to
      go m =
          let part = met-part u at m in
          let after-it = met-rest u at m in
          record {
            low = omega (arith, m.from);
            some = omega (arith, m.from, m.to, m.is_some);
            high = rw m.to (cut_fits u at m.x m.t m.y m.is m.is_some);
            unfolds = rw (part, after-it, m.is, m.to, m.from)
                (passes-placed m.passes at (m.t ++ m.y) ∙ placed-token m.t m.y (at + length m.x) m.is_whole m.is_apart);
            shuts = rw (after-it, m.is) (ap shut (passes-after m.passes (m.t ++ m.y)) ∙ shut-token m.t m.y m.is_whole m.is_apart);
            is_whole = rw part m.is_whole;
            is_apart = rw (part, after-it) m.is_apart;
          }

  passed-shut : (k : Bool) → Passed u at k → shut_from u at ≡ k
  unfolding shut_from after
  passed-shut k d =
      ap (λ v. shut (after between v)) (sym (append-nil (drop at u))) ∙ ap shut (passes-after d.passes []) ∙ d.is_shut

  -- no token comes, and the text may end
  pub done_at : token_at u at ≡ done → (rest u at ≡ []) × (shut_from u at ≡ true)
  unfolding rest
  done_at h =
      let d = done-passed u at h in
      let none =
      ap (placed_from between at) (sym (append-nil (drop at u))) ∙ passes-placed d.passes at [] ∙ quiet-pending d.p _ d.is_quiet
      in
      (none, passed-shut true d)

  -- the text may not end so
  pub broken-at : (k : ℕ) → token_at u at ≡ broken k → shut_from u at ≡ false
  unfolding shut_from after
  broken-at k h = go (broken-how u at k h)
    where
      go : Broken u at k → shut_from u at ≡ false
      go (inl d) = passed-shut false d.0
      go (inr l) =
          ap (λ v. shut (after between v)) l.is
          ∙ ap shut (passes-after l.passes (l.b ∷ l.y))
          ∙ ap (λ p. shut (after p l.y)) l.is_lost
          ∙ never-shut l.y

  -- and it is broken within it
  pub broken-in : (k : ℕ) → at ≤ length u → token_at u at ≡ broken k → (at ≤ k) × (k ≤ length u)
  broken-in k i h = go (broken-how u at k h)
    where
      go : Broken u at k → (at ≤ k) × (k ≤ length u)
      go (inl d) = (omega (arith, d.1), omega (arith, d.1, length-drop at u))
      go (inr l) =
          let e = ap length l.is ∙ length-append l.x (l.b ∷ l.y) in
          (omega (arith, l.place), omega (arith, l.place, length-drop at u, e))
