-- The longest prefix that passes a test, where the test passes what begins a list that passes it.
use Prim.Native.Nat.{ℕ, zero, suc, ◌≤◌, ◌<◌, max}
use native.Mathlib.Omega.{arith}
use lib.ListN.{length, take}
use mathlib.Core.Path.{◌≡◌, refl, sym, ◌∙◌, ap}
use mathlib.Core.Bool.{Bool, true, false, ◌||◌, cond, true≢false}
use mathlib.Core.List.{List, [], ◌∷◌, ◌++◌}
use Rattle.grammar.specs.Scan.{longest}

-- the test passes what begins a list that passes it
abbrev pub Front : (List ℕ → Bool) → Type 0
Front P = (b : ℕ) (q v : List ℕ) → P (b ∷ (q ++ v)) ≡ true → P (b ∷ q) ≡ true

front-on : (P : List ℕ → Bool) → Front P → (b : ℕ) → Front (λ q. P (b ∷ q))
front-on P h b c q v e = h b (c ∷ q) v e

pub longest-within : (P : List ℕ → Bool) (t : List ℕ) → longest P t ≤ length t
unfolding longest
longest-within P [] = omega arith
longest-within P (b ∷ t) = go (P (b ∷ [])) (longest-within (λ q. P (b ∷ q)) t)
  where
    go : (k : Bool) → longest (λ q. P (b ∷ q)) t ≤ length t → cond k (suc (longest (λ q. P (b ∷ q)) t)) zero ≤ suc (length t)
    go true h = omega arith
    go false h = omega arith

-- it passes
pub longest-passes : (P : List ℕ → Bool) (t : List ℕ) → 0 < longest P t → P (take (longest P t) t) ≡ true
unfolding longest
longest-passes P [] h = absurd (omega arith)
longest-passes P (b ∷ t) h = go (P (b ∷ [])) refl (longest (λ q. P (b ∷ q)) t) refl (longest-passes (λ q. P (b ∷ q)) t)
  where
    later : ℕ
    later = longest (λ q. P (b ∷ q)) t

    go : (k : Bool) → P (b ∷ []) ≡ k → (n : ℕ) → later ≡ n → (0 < later → P (b ∷ take later t) ≡ true)
        → P (take (cond (P (b ∷ [])) (suc later) zero) (b ∷ t)) ≡ true
    go true e zero l f = rw (e, l) e
    go true e (suc n) l f = rw e (f (omega arith))
    go false e n l f = absurd (let z : cond (P (b ∷ [])) (suc later) zero ≡ 0 = rw e in omega arith)

-- no longer one does
pub longest-most : (P : List ℕ → Bool) → Front P → (t : List ℕ) (n : ℕ) → 0 < n → n ≤ length t → P (take n t) ≡ true → n ≤ longest P t
unfolding longest
longest-most P h t zero i l e = omega arith
longest-most P h [] (suc n) i l e = absurd (omega arith)
longest-most P h (b ∷ t) (suc zero) i l e = rw e (omega arith)
longest-most P h (b ∷ t) (suc (suc n)) i l e =
    let f = longest-most (λ q. P (b ∷ q)) (front-on P h b) t (suc n) (omega arith) (omega arith) e in
    rw (h b [] (take (suc n) t) e) (omega arith)

-- no prefix passes
pub longest-none : (P : List ℕ → Bool) (t : List ℕ) → ((b : ℕ) (q : List ℕ) → P (b ∷ q) ≡ false) → longest P t ≡ 0
unfolding longest
longest-none P [] h = refl
longest-none P (b ∷ t) h = rw (h b [])

fails-on : (P : List ℕ → Bool) → Front P → (b : ℕ) → P (b ∷ []) ≡ false → (q : List ℕ) → P (b ∷ q) ≡ false
fails-on P h b e q = go (P (b ∷ q)) refl
  where
    go : (k : Bool) → P (b ∷ q) ≡ k → P (b ∷ q) ≡ false
    go true d = absurd (true≢false (sym (h b [] q d) ∙ e))
    go false d = d

or-false : (k : Bool) → k || false ≡ k
or-false true = refl
or-false false = refl

-- of two tests: the longer
pub longest-or : (P Q : List ℕ → Bool) → Front P → Front Q → (t : List ℕ) → longest (λ q. P q || Q q) t ≡ max (longest P t) (longest Q t)
unfolding longest
longest-or P Q h k [] = refl
longest-or P Q h k (b ∷ t) = go (P (b ∷ [])) refl (Q (b ∷ [])) refl (longest-or (λ q. P (b ∷ q)) (λ q. Q (b ∷ q)) (front-on P h b) (front-on Q k b) t)
  where
    p : ℕ
    p = longest (λ q. P (b ∷ q)) t

    q : ℕ
    q = longest (λ q. Q (b ∷ q)) t

    pq : ℕ
    pq = longest (λ q. P (b ∷ q) || Q (b ∷ q)) t

    go : (i : Bool) → P (b ∷ []) ≡ i → (j : Bool) → Q (b ∷ []) ≡ j → pq ≡ max p q
        → cond (P (b ∷ []) || Q (b ∷ [])) (suc pq) zero ≡ max (cond (P (b ∷ [])) (suc p) zero) (cond (Q (b ∷ [])) (suc q) zero)
    go true e true d f = rw (e, d) (omega arith)
    go true e false d f =
        let z : pq ≡ p = ap (λ R. longest R t) (λ i q. (ap (λ x. P (b ∷ q) || x) (fails-on Q k b d q) ∙ or-false (P (b ∷ q))) i) in
        rw (e, d) (omega arith)
    go false e true d f =
        let z : pq ≡ q = ap (λ R. longest R t) (λ i q. ap (λ x. x || Q (b ∷ q)) (fails-on P h b e q) i) in
        rw (e, d) (omega arith)
    go false e false d f = rw (e, d) (omega arith)
