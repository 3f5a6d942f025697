-- Names in order are found: a variable that a node mentions, and its owner.
use Prim.Native.Nat.{ℕ, suc, ◌+◌, ◌-◌, ◌≤◌, ◌<◌}
use mathlib.Core.Path.{◌≡◌, refl, ◌∙◌, ap, subst}
use mathlib.Core.Logic.{◌⊎◌, inl, inr}
use mathlib.Core.Bool.{Bool, true, false, ◌&&◌, false≢true}
use mathlib.Core.List.Memᴰ
use mathlib.Core.List.{List, [], ◌∷◌, Memᴰ}
use native.Mathlib.Omega.{arith}
use borrow.Author.Tests.{eqb-true}
use lib.ListN.{length, get_or}
use lib.Dec.{eqb}
use Rattle.plexil.specs.Lists.{Found, at, nowhere}
use Rattle.grammar.specs.Spelling.{Token}
use Rattle.grammar.specs.Leads.{same}
use Rattle.grammar.proofs.Bools.{both}
use Rattle.notation.specs.Draft.{Mention, Mentioned, Draft}
use Rattle.notation.specs.Names.{find_from, find, is_found, own_variable, variable_of, in_order, bad_mention, bad_name}
use Rattle.notation.proofs.Covered.{Covers}
use Rattle.notation.proofs.Fields.{no_variable}

-- a name that is found
pub found_at : {A : Type 0} (z : A) (i : ℕ) (f : A → Bool) (l : List A) (v : ℕ) → find_from i f l ≡ at v → (i ≤ v) × (v < i + length l) × (f (get_or l (v - i) z) ≡ true)
unfolding find_from
found_at z i f [] v e = absurd (no-at e)
  where
    no-at : nowhere ≡ at v → ⊥
    no-at e = subst (λ o. elim o as (λ _. Type 0) [ at k ↦ ⊥ | nowhere ↦ Unit {0} ]) e tt
found_at z i f (a ∷ l) v e = go (f a) refl e (found_at z (suc i) f l v)
  where
    there : at i ≡ at v → i ≡ v
    there e = ap (λ o. elim o as (λ _. ℕ) [ at k ↦ k | nowhere ↦ 0 ]) e

    go : (b : Bool) → f a ≡ b → elim b as (λ _. Found) [ true ↦ at i | false ↦ find_from (suc i) f l ] ≡ at v
        → (find_from (suc i) f l ≡ at v → (suc i ≤ v) × (v < suc i + length l) × (f (get_or l (v - suc i) z) ≡ true)) → (i ≤ v) × (v < i + suc (length l)) × (f (get_or (a ∷ l) (v - i) z) ≡ true)
    go true q e r = let h = there e in let n : v - i ≡ 0 = omega arith in (omega arith, omega arith, rw n q)
    go false q e r = let h = r e in let n : v - i ≡ suc (v - suc i) = omega (arith, h.0) in (omega (arith, h.0), omega (arith, h.1), rw n h.2)

pub own-found : (d : Draft) (n : ℕ) (x : Token) (v : ℕ) → own_variable d n x ≡ at v → (v < length d.variables) × ((get_or d.variables v no_variable).owner ≡ n)
unfolding own_variable find
own-found d n x v e =
    let h = found_at no_variable 0 (λ y. eqb y.owner n && same y.name x) d.variables v e in
    let z : v - 0 ≡ v = omega arith in
    let y = get_or d.variables v no_variable in
    (omega (arith, h.1), eqb-true y.owner n (both (eqb y.owner n) (same y.name x) (rw z at h.2)).0)

-- the names are in order
pub names-ok : (d : Draft) (ms : List Mentioned) (m : Mentioned) → bad_mention d ms ≡ nowhere → Memᴰ m ms → in_order d m.mention ≡ true
unfolding bad_mention
names-ok d [] m e i = absurd (Memᴰ.not-nil i)
names-ok d (a ∷ ms) m e i = go (in_order d a.mention) refl e (names-ok d ms m)
  where
    go : (b : Bool) → in_order d a.mention ≡ b → elim b as (λ _. Found) [ true ↦ bad_mention d ms | false ↦ at a.place ] ≡ nowhere
        → (bad_mention d ms ≡ nowhere → Memᴰ m ms → in_order d m.mention ≡ true) → in_order d m.mention ≡ true
    go true q e r = here (Memᴰ.cases_cons i)
      where
        here : (m ≡ a) ⊎ Memᴰ m ms → in_order d m.mention ≡ true
        here (inl z) = ap (λ y. in_order d y.mention) z ∙ q
        here (inr j) = r e j
    go false q e r = absurd (subst (λ o. elim o as (λ _. Type 0) [ at k ↦ Unit {0} | nowhere ↦ ⊥ ]) e tt)

pub covered-found : (d : Draft) (n : ℕ) (x : Token) → bad_name d ≡ nowhere → Covers d.mentions n x → (v : ℕ) × (variable_of d n x ≡ at v)
unfolding bad_name in_order is_found
covered-found d n x e c = go (variable_of d n x) refl (names-ok d d.mentions (record { mention = Mention.use_of_variable n x; place = c.0 }) e c.1)
  where
    go : (f : Found) → variable_of d n x ≡ f → is_found f ≡ true → (v : ℕ) × (variable_of d n x ≡ at v)
    go (at v) q h = (v, q)
    go nowhere q h = absurd (false≢true h)
