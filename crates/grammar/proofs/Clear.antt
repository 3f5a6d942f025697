-- A test of a table: no two rows of a sort begin with one token. So the order of the rows says nothing, and the row of a token is the only one.
use Prim.Native.String.{String}
use mathlib.Core.Path.{◌≡◌, refl, sym, ◌∙◌, ap}
use mathlib.Core.Logic.{◌⊎◌, inl, inr}
use mathlib.Core.Bool.{Bool, true, false, not, ◌&&◌, cond, true≢false}
use mathlib.Core.List.Memᴰ
use mathlib.Core.List.{List, [], ◌∷◌, Memᴰ}
use mathlib.Core.Option.{some}
use borrow.Author.Tests.{not-true}
use Rattle.grammar.specs.Spelling.{Token}
use Rattle.grammar.specs.Leads.{Lead, accepts}
use Rattle.grammar.specs.Table.{Row, pick}
use Rattle.grammar.proofs.Bools.{both, both_true}
use Rattle.grammar.proofs.Clash.{clash, clashes}

unfoldable pub free : List String → Lead → List Lead → Bool
free reserved l [] = true
free reserved l (k ∷ ks) = not (clash reserved l k) && free reserved l ks

unfoldable pub clear : List String → List Lead → Bool
clear reserved [] = true
clear reserved (l ∷ ls) = free reserved l ls && clear reserved ls

unfoldable pub leads : {S W : Type 0} → List (Row S W) → List Lead
leads [] = []
leads (r ∷ rs) = r.lead ∷ leads rs

-- the row of a token is the only one that it begins
module _ {S W : Type 0} (reserved : List String) where
  free-row : (l : Lead) (rs : List (Row S W)) (r : Row S W) (t : Token) → free reserved l (leads rs) ≡ true → Memᴰ r rs
      → accepts reserved r.lead t ≡ true → accepts reserved l t ≡ true → ⊥
  unfolding free leads
  free-row l [] r t e i f g = Memᴰ.not-nil i
  free-row l (k ∷ rs) r t e i f g = go (Memᴰ.cases_cons i) (λ j. free-row l rs r t h.1 j f g)
    where
      h : (not (clash reserved l k.lead) ≡ true) × (free reserved l (leads rs) ≡ true)
      h = both (not (clash reserved l k.lead)) (free reserved l (leads rs)) e

      go : (r ≡ k) ⊎ Memᴰ r rs → (Memᴰ r rs → ⊥) → ⊥
      go (inl p) rec =
          let c = clashes reserved l k.lead t g (ap (λ y. accepts reserved y.lead t) (sym p) ∙ f) in
          true≢false (sym c ∙ not-true (clash reserved l k.lead) h.0)
      go (inr j) rec = rec j

  pub only_row : (rs : List (Row S W)) (r : Row S W) (t : Token) → clear reserved (leads rs) ≡ true → Memᴰ r rs
      → accepts reserved r.lead t ≡ true → pick reserved rs t ≡ some r
  unfolding clear leads pick
  only_row [] r t e i f = absurd (Memᴰ.not-nil i)
  only_row (k ∷ rs) r t e i f = go (Memᴰ.cases_cons i) (λ j. only_row rs r t h.1 j f)
    where
      h : (free reserved k.lead (leads rs) ≡ true) × (clear reserved (leads rs) ≡ true)
      h = both (free reserved k.lead (leads rs)) (clear reserved (leads rs)) e

      no : Memᴰ r rs → (b : Bool) → accepts reserved k.lead t ≡ b → accepts reserved k.lead t ≡ false
      no j true g = absurd (free-row k.lead rs r t h.0 j f g)
      no j false g = g

      go : (r ≡ k) ⊎ Memᴰ r rs → (Memᴰ r rs → pick reserved rs t ≡ some r)
          → cond (accepts reserved k.lead t) (some k) (pick reserved rs t) ≡ some r
      go (inl p) rec = rw (ap (λ y. accepts reserved y.lead t) (sym p) ∙ f) (ap (λ y. some y) (sym p))
      go (inr j) rec = rw (no j (accepts reserved k.lead t) refl) (rec j)

-- fewer leads do not clash either
pub data Sub : List Lead → List Lead → Type 0 where
  nil : Sub [] []
  keep : {l : Lead} {a b : List Lead} → Sub a b → Sub (l ∷ a) (l ∷ b)
  skip : {l : Lead} {a b : List Lead} → Sub a b → Sub a (l ∷ b)

module _ (reserved : List String) where
  sub-free : (l : Lead) {a b : List Lead} → Sub a b → free reserved l b ≡ true → free reserved l a ≡ true
  unfolding free
  sub-free l nil e = refl
  sub-free l (keep {l = k} {b = b} s) e = let h = both (not (clash reserved l k)) (free reserved l b) e in both_true _ _ (h.0) (sub-free l s (h.1))
  sub-free l (skip {l = k} {b = b} s) e = sub-free l s (both (not (clash reserved l k)) (free reserved l b) e).1

  pub sub-clear : {a b : List Lead} → Sub a b → clear reserved b ≡ true → clear reserved a ≡ true
  unfolding clear
  sub-clear nil e = refl
  sub-clear (keep {l = l} {b = b} s) e =
      let h = both (free reserved l b) (clear reserved b) e in both_true _ _ (sub-free l s (h.0)) (sub-clear s (h.1))
  sub-clear (skip {l = l} {b = b} s) e = sub-clear s (both (free reserved l b) (clear reserved b) e).1
