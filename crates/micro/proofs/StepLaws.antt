-- What a step's parts make together: the words that an array tells, the settled state, and the three ends of a step.
use Prim.Native.Nat.{ℕ, zero, suc, ◌+◌, ◌≤◌, ◌<◌}
use mathlib.Core.Path.{◌≡◌, refl, sym, ap, ◌∙◌, subst}
use mathlib.Core.Bool.{Bool, true, false, not}
use mathlib.Core.List.{List, ◌++◌}
use native.Mathlib.Omega.{arith}
use lib.ListN.{length, get_or}
use borrow.Author.Tests.{le-leb, lt-leb, not-true, not-false}
use Rattle.plexil.specs.declared.State.{State}
use Rattle.plexil.specs.Lists.{all_below, renew, put}
use Rattle.plexil.specs.Atomic.{move_of}
use Rattle.plexil.specs.Image.{Image, node_count}
use Rattle.plexil.specs.Micro.{sent, word_of, words_from, words, stays, quiet, step}
use Rattle.plexil.specs.Order.{Carry, carry_nothing, walk_to, settle}
use Rattle.plexil.specs.Promises.{IsAdmitted, Sized}
use Rattle.plexil.proofs.ListLaws.{if-true, if-false, renew-at}
use Rattle.plexil.proofs.NodeOrder.{node-order}
use Rattle.micro.specs.declared.steps.Stepped.{Stepped}
use Rattle.micro.specs.declared.steps.Stepped.TheVariants.{Quiet, NoRoom, Done}
use Rattle.micro.specs.Stepped.{stepped_of, part_after}
use Rattle.micro.proofs.WordLaws.{sent_words}

-- ---- what a walk over a state that is lent does is what it does over the state
pub lent_is : (p : Image) (n : ℕ) {b s : State} → b ≡ s → {moved : Bool} {c : Carry} (c₀ : Carry) {l : List ℕ} (old : List ℕ)
    → (moved ≡ not (all_below (node_count p) (λ (i : ℕ). stays (move_of p b i)))) × (c ≡ walk_to p b c₀ n) × (l ≡ renew n (sent p b) old)
    → (moved ≡ not (all_below (node_count p) (λ (i : ℕ). stays (move_of p s i)))) × (c ≡ walk_to p s c₀ n) × (l ≡ renew n (sent p s) old)
lent_is p n e {moved} {c} c₀ {l} old = subst (λ (x : State). (moved ≡ not (all_below (node_count p) (λ (i : ℕ). stays (move_of p x i)))) × (c ≡ walk_to p x c₀ n) × (l ≡ renew n (sent p x) old)) e

-- ---- words
words_same : (f g : ℕ → ℕ) (n i : ℕ) → ((k : ℕ) → i ≤ k → k < i + n → f k ≡ g k) → words_from f i n ≡ words_from g i n
unfolding words_from
words_same f g zero i h = refl
words_same f g (suc n) i h =
    ap (λ (w : ℕ). word_of i w ++ words_from f (suc i) n) (h i (omega arith) (omega arith))
    ∙ ap (λ (l : List ℕ). word_of i (g i) ++ l) (words_same f g n (suc i) (λ k a b. h k (omega arith) (omega arith)))

pub words-told : (p : Image) (s : State) (l old : List ℕ) {n : ℕ} → n ≡ node_count p → l ≡ renew (node_count p) (sent p s) old → sent_words l n ≡ words p s
unfolding words
words-told p s l old {n} e h =
    ap (sent_words l) e
    ∙ words_same (λ (k : ℕ). get_or l k 0) (sent p s) (node_count p) 0
    (λ k a b. ap (λ (m : List ℕ). get_or m k 0) h ∙ renew-at (node_count p) (sent p s) old k 0 (omega arith))

-- ---- the settled state
pub next-state : (p : Image) (s : State) → IsAdmitted p → Sized s → (c c₀ : Carry) → c₀ ≡ carry_nothing s → c ≡ walk_to p s c₀ (node_count p)
    → {s₂ : State} → s₂ ≡ settle p s c → s₂ ≡ step p s
next-state p s a z c c₀ o w h = h ∙ (ap (settle p s) (w ∙ ap (λ (x : Carry). walk_to p s x (node_count p)) o) ∙ node-order p s a z)

-- ---- the three ends
module _ (p : Image) (s : State) (part : List ℕ) {b : Bool} (moved : b ≡ not (quiet p s)) where
  pub ends-quiet : b ≡ false → (Quiet ≡ stepped_of p s part) × (part ≡ part_after p s part)
  unfolding stepped_of part_after
  ends-quiet e = let q = not-false (quiet p s) (sym moved ∙ e) in (sym (if-true _ _ _ q), sym (if-true _ _ _ q))

  module _ (t : b ≡ true) {n : ℕ} (count : n ≡ length (words p s)) where
    goes : quiet p s ≡ false
    goes = not-true (quiet p s) (sym moved ∙ t)

    pub no-room : length part < n → (NoRoom ≡ stepped_of p s part) × (part ≡ part_after p s part)
    unfolding stepped_of part_after
    no-room h =
        let f = lt-leb (length (words p s)) (length part) (omega arith) in
        (sym (if-false _ _ _ goes ∙ if-false _ _ _ f), sym (if-false _ _ _ goes ∙ if-false _ _ _ f))

    pub ends-done : n ≤ length part → {s₂ : State} → s₂ ≡ step p s → {l ws : List ℕ} → l ≡ put part 0 ws → ws ≡ words p s
        → (Done n s₂ ≡ stepped_of p s part) × (l ≡ part_after p s part)
    unfolding stepped_of part_after
    ends-done h {s₂} e g w =
        let f = le-leb (length (words p s)) (length part) (omega arith) in
        (made ∙ sym (if-false _ _ _ goes ∙ if-true _ _ _ f), g ∙ (ap (put part 0) w ∙ sym (if-false _ _ _ goes ∙ if-true _ _ _ f)))
      where
        made : ◌≡◌ {A = Stepped} (Done n s₂) (Done (length (words p s)) (step p s))
        made = λ t. Done (count t) (e t)
