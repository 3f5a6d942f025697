-- The walk up from a node: one law for variables and for nodes.
use Prim.Native.Nat.{ℕ, zero, suc, ◌<◌, ◌-◌}
use mathlib.Core.Path.{◌≡◌, refl, ap, sym, ◌∙◌}
use mathlib.Core.Logic.{◌⊎◌, inl, inr}
use mathlib.Core.Bool.{true, false}
use native.Mathlib.Omega.{arith}
use Rattle.plexil.specs.Lists.{Found, at, nowhere}
use Rattle.grammar.specs.Spelling.{Token}
use Rattle.notation.specs.Draft.{Draft}
use Rattle.notation.specs.Hearing.{parent_in}
use Rattle.notation.specs.Names.{own_variable, variable_up, node_at, node_up}
use Rattle.std.specs.Prelude.{Option, unwrap_or, is_some, Some, None, IfOk}
use Rattle.std.specs.Option.{ok_or}
use Rattle.names.specs.Answers.{found_of}
use Rattle.names.specs.Climb.{go_up}

pub variable-up : (d : Draft) (x : Token) (k n : ℕ) → variable_up d k n x ≡ go_up (λ i. own_variable d i x) (parent_in d.nodes) k n
unfolding variable_up go_up
variable-up d x zero n = refl
variable-up d x (suc k) zero = refl
variable-up d x (suc k) (suc n) = onto (own_variable d (suc n) x) (variable-up d x k (parent_in d.nodes (suc n)))
  where
    onto : (f : Found) {a b : Found} → a ≡ b → ◌≡◌ {A = Found} (elim f [ at v ↦ at v | nowhere ↦ a ]) (elim f [ at v ↦ at v | nowhere ↦ b ])
    onto (at v) e = refl
    onto nowhere e = e

pub node-up : (d : Draft) (x : Token) (k n : ℕ) → node_up d k n x ≡ go_up (λ i. node_at d i x) (parent_in d.nodes) k n
unfolding node_up go_up
node-up d x zero n = refl
node-up d x (suc k) zero = refl
node-up d x (suc k) (suc n) = onto (node_at d (suc n) x) (node-up d x k (parent_in d.nodes (suc n)))
  where
    onto : (f : Found) {a b : Found} → a ≡ b → ◌≡◌ {A = Found} (elim f [ at v ↦ at v | nowhere ↦ a ]) (elim f [ at v ↦ at v | nowhere ↦ b ])
    onto (at v) e = refl
    onto nowhere e = e

-- the code's answers
pub none-is : ◌≡◌ {A = Option ℕ} None (found_of nowhere)
unfolding found_of
none-is = refl

pub some-is : (i : ℕ) → ◌≡◌ {A = Option ℕ} (Some i) (found_of (at i))
unfolding found_of
some-is i = refl

-- an answer that was found, and one that was not
pub found-is : (f : Found) → is_some (found_of f) ≡ false → f ≡ nowhere
unfolding found_of
found-is (at i) e = absurd (let z : ◌≡◌ {A = ℕ} 0 1 = cc in omega arith)
found-is nowhere e = refl

else-on : (g a : Found) → g ≡ nowhere → ◌≡◌ {A = Found} (elim g [ at v ↦ at v | nowhere ↦ a ]) a
else-on (at v) a e = absurd (let z : ◌≡◌ {A = ℕ} 0 1 = cc in omega arith)
else-on nowhere a e = refl

module _ (f : ℕ → Found) (p : ℕ → ℕ) where
  pub up-found : (k n : ℕ) → is_some (found_of (f n)) ≡ true → go_up f p (suc k) n ≡ f n
  unfolding found_of go_up
  up-found k zero e = refl
  up-found k (suc n) e = onto (f (suc n)) e
    where
      onto : (g : Found) → is_some (found_of g) ≡ true → ◌≡◌ {A = Found} (elim g [ at v ↦ at v | nowhere ↦ go_up f p k (p (suc n)) ]) g
      onto (at v) e = refl
      onto nowhere e = absurd (let z : ◌≡◌ {A = ℕ} 0 1 = cc in omega arith)

  pub up-over : (k n : ℕ) → is_some (found_of (f n)) ≡ false → (n ≡ 0) ⊎ (k ≡ 0) → go_up f p (suc k) n ≡ nowhere
  unfolding go_up
  up-over k zero e h = found-is (f 0) e
  up-over k (suc n) e (inl h) = absurd (omega arith)
  up-over zero (suc n) e (inr h) = else-on (f (suc n)) nowhere (found-is (f (suc n)) e)
  up-over (suc k) (suc n) e (inr h) = absurd (omega arith)

  pub up-root : (k n : ℕ) → n ≡ 0 → go_up f p (suc k) n ≡ f n
  unfolding go_up
  up-root k zero e = refl
  up-root k (suc n) e = absurd (omega arith)

  pub up-last : (k n : ℕ) → k ≡ 0 → go_up f p (suc k) n ≡ f n
  unfolding go_up
  up-last zero zero e = refl
  up-last zero (suc n) e = alone (f (suc n))
    where
      alone : (g : Found) → ◌≡◌ {A = Found} (elim g [ at v ↦ at v | nowhere ↦ nowhere ]) g
      alone (at v) = refl
      alone nowhere = refl
  up-last (suc k) n e = absurd (omega arith)

  pub up-on : (k n r : ℕ) → is_some (found_of (f n)) ≡ false → (n ≡ 0 → ⊥) → (k ≡ 0 → ⊥) → ((i : ℕ) → n ≡ suc i → r ≡ p (suc i)) → go_up f p (suc k) n ≡ go_up f p (suc (k - 1)) r
  unfolding go_up
  up-on k zero r e h i g = absurd (h refl)
  up-on zero (suc n) r e h i g = absurd (i refl)
  up-on (suc k) (suc n) r e h i g =
      let z : suc k ≡ suc (suc k - 1) = omega arith in
      else-on (f (suc n)) (go_up f p (suc k) (p (suc n))) (found-is (f (suc n)) e) ∙ ap (λ i. go_up f p i (p (suc n))) z ∙ ap (go_up f p (suc (suc k - 1))) (sym (g n refl))

pub small-nowhere : {r : Option ℕ} → r ≡ found_of nowhere → unwrap_or r 0 < 18446744073709551615
unfolding found_of
small-nowhere e = rw e (omega arith)

pub small_at : {r : Option ℕ} (i : ℕ) → r ≡ found_of (at i) → i < 18446744073709551615 → unwrap_or r 0 < 18446744073709551615
unfolding found_of
small_at i e h = rw e h

-- so is the number at the end of a path
pub small-end : (r : Option ℕ) (k : ℕ) → unwrap_or r 0 < 18446744073709551615 → IfOk (ok_or r k) (λ n. n < 18446744073709551615)
small-end (Some i) k h = h
small-end None k h = tt
