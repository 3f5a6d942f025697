-- One byte more, as a loop over a text passes it: what comes next is what comes next after the byte. And a run of bytes more.
use Prim.Native.Nat.{ℕ, ◌+◌, ◌≤◌, ◌<◌}
use native.Mathlib.Numerals.{add-one}
use lib.Dec.{eqb}
use lib.ListN.{length, get_or, drop, drop_of_length-le}
use lib.Seq.{drop-cons}
use native.Mathlib.Omega.{arith}
use borrow.Author.Tests.{not-true, not-false}
use mathlib.Core.Path.{◌≡◌, refl, sym, ◌∙◌, ap}
use mathlib.Core.Bool.{Bool, true, false, not, ◌&&◌, cond, false≢true}
use mathlib.Core.List.{List, [], ◌∷◌}
use Rattle.grammar.specs.Spelling.{Part, between, slash, star, remark, aside, is_blank, begin, feed, shut}
use Rattle.grammar.specs.Scan.{done, broken, token, ending, stop, next_from, token_at}
use Rattle.scan.specs.Runs.{Skipped, Passed, run_end}
use Rattle.scan.proofs.RunLaws.{run_keeps, run_halts}
use Rattle.grammar.proofs.Passes.{quiet}
use Rattle.grammar.proofs.View.{stop-quiet}
use Rattle.grammar.proofs.Spelled.{in_remark, feed-remark}

-- a byte of a comment's line
abbrev pub in_line : ℕ → Bool
in_line b = not (eqb b 10)

module _ (u : List ℕ) (i : ℕ) where
  -- past the end of the text
  pub next_past : (p : Part) → length u ≤ i → next_from p i (drop i u) ≡ cond (shut p) done (broken i)
  unfolding next_from
  next_past p h = ap (next_from p i) (drop_of_length-le u h)

  pub done-past : length u ≤ i → token_at u i ≡ done
  unfolding token_at shut
  done-past h = next_past between h

  -- a text that ends in a comment is broken there
  pub remark-past : (k : Bool) → length u ≤ i → next_from (in_remark k) i (drop i u) ≡ broken i
  unfolding shut
  remark-past true h = next_past star h
  remark-past false h = next_past remark h

  module _ (h : i < length u) where
    abbrev here : ℕ
    here = get_or u i 0

    next_here : (p : Part) → next_from p i (drop i u) ≡ stop (feed p here) i (drop (i + 1) u) (next_from (feed p here) (i + 1) (drop (i + 1) u))
    unfolding next_from
    next_here p = rw (drop-cons u i 0 h, add-one i)

    -- a byte after which no token is under way
    pub next-on : (p p' : Part) → feed p here ≡ p' → quiet p' ≡ true → next_from p i (drop i u) ≡ next_from p' (i + 1) (drop (i + 1) u)
    next-on p p' e q = next_here p ∙ rw e (stop-quiet p' i (drop (i + 1) u) _ q)

    pub blank-on : is_blank here ≡ true → token_at u i ≡ token_at u (i + 1)
    unfolding token_at feed begin quiet
    blank-on e = next-on between between (rw e) refl

    pub slash-on : is_blank here ≡ false → eqb here 47 ≡ true → token_at u i ≡ next_from slash (i + 1) (drop (i + 1) u)
    unfolding token_at feed begin quiet
    slash-on e s = next-on between slash (rw (e, s)) refl

    -- a token's first byte
    pub token-here : is_blank here ≡ false → eqb here 47 ≡ false → token_at u i ≡ token i (ending (here ∷ []) (i + 1) (drop (i + 1) u))
    unfolding token_at feed begin stop
    token-here e s = next_here between ∙ rw (e, s, add-one i)

    -- after '/'
    pub remark-opens : eqb here 42 ≡ true → next_from slash i (drop i u) ≡ next_from remark (i + 1) (drop (i + 1) u)
    unfolding feed quiet
    remark-opens e = next-on slash remark (rw e) refl

    pub aside-opens : eqb here 42 ≡ false → eqb here 47 ≡ true → next_from slash i (drop i u) ≡ next_from aside (i + 1) (drop (i + 1) u)
    unfolding feed quiet
    aside-opens e s = next-on slash aside (rw (e, s)) refl

    pub slash-lost : eqb here 42 ≡ false → eqb here 47 ≡ false → next_from slash i (drop i u) ≡ broken i
    unfolding feed stop
    slash-lost e s = next_here slash ∙ rw (e, s)

    -- in a comment to the end of the line
    pub aside-on : eqb here 10 ≡ false → next_from aside i (drop i u) ≡ next_from aside (i + 1) (drop (i + 1) u)
    unfolding feed quiet
    aside-on e = next-on aside aside (rw e) refl

    pub aside-ends : eqb here 10 ≡ true → next_from aside i (drop i u) ≡ token_at u (i + 1)
    unfolding feed quiet token_at
    aside-ends e = next-on aside between (rw e) refl

    -- in a comment to "*/", after '*' or not
    quiet-remark : (k : Bool) → quiet (in_remark k) ≡ true
    unfolding quiet
    quiet-remark true = refl
    quiet-remark false = refl

    pub remark-on : (k : Bool) → k && eqb here 47 ≡ false
        → next_from (in_remark k) i (drop i u) ≡ next_from (in_remark (eqb here 42)) (i + 1) (drop (i + 1) u)
    remark-on k e = next-on (in_remark k) (in_remark (eqb here 42)) (feed-remark k here e) (quiet-remark (eqb here 42))

    pub remark-ends : (k : Bool) → k && eqb here 47 ≡ true → next_from (in_remark k) i (drop i u) ≡ token_at u (i + 1)
    unfolding feed quiet token_at
    remark-ends true e = next-on star between (rw e) refl
    remark-ends false e = absurd (false≢true e)

module _ (u : List ℕ) (at r : ℕ) where
  -- past blanks
  pub past-blanks : r ≡ run_end is_blank at (drop at u) → Skipped u at r
  past-blanks e = record {
    low = go.0;
    same = go.1;
    stops = run_halts is_blank u at r e;
  }
    where
      go : (at ≤ r) × (token_at u r ≡ token_at u at)
      go = run_keeps is_blank u (λ j. (at ≤ j) × (token_at u j ≡ token_at u at)) (λ j h b p. (omega arith, sym (blank-on u j h b) ∙ p.1)) at r e (omega arith, refl)

  -- past the bytes of a line
  pub past-line : r ≡ run_end in_line at (drop at u) → at ≤ length u → (at ≤ r) × (r ≤ length u) × (next_from aside at (drop at u) ≡ next_from aside r (drop r u))
  past-line e l = run_keeps in_line u (λ j. (at ≤ j) × (j ≤ length u) × (next_from aside at (drop at u) ≡ next_from aside j (drop j u)))
      (λ j h b p. (omega arith, omega arith, p.2 ∙ aside-on u j h (not-true _ b))) at r e (omega arith, l, refl)

  pub line-ends : r ≡ run_end in_line at (drop at u) → at ≤ length u → r < length u → Passed aside u at (token_at u (r + 1)) (r + 1)
  line-ends e l h = let p = past-line e l in
      record { low = omega arith; high = omega arith; same = p.2 ∙ aside-ends u r h (not-false _ (run_halts in_line u at r e h)) }

  pub line-past : r ≡ run_end in_line at (drop at u) → at ≤ length u → length u ≤ r → Passed aside u at (token_at u r) r
  unfolding shut
  line-past e l h = let p = past-line e l in
      record { low = p.0; high = p.1; same = p.2 ∙ next_past u r aside h ∙ sym (done-past u r h) }
