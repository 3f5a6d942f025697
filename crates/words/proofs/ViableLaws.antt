-- How much of a token is viable for a class, by the class's lead.
use Rattle.std.proofs.Common.{◌≡◌, ℕ, zero, suc, ◌+◌, ◌-◌, get_or, ◌≤◌, List, [], ◌∷◌, length, sym, refl, inr, arith, ne_eqb}
use Prim.Native.String.{String}
use mathlib.Core.Option.{none, some}
use Rattle.grammar.specs.Spelling.{Token}
use Rattle.grammar.specs.Leads.{Lead, up_to}
use Rattle.grammar.specs.Scan.{viable_by, digits_up_to}
use Rattle.notation.specs.Rows as Rows
use Rattle.notation.specs.Classes as Classes
use Rattle.notation.specs.Classes.{literals, a_name, a_real, bounds, bound_from}
use Rattle.notation.proofs.Classes.{bound-outside}
use Rattle.words.specs.Viable as Viable
use Rattle.words.specs.Viable.{word_at, other_lead, lead_of, viable_of, viable_class}

pub lead-told : (k : ℕ) (l : Lead) (t : Token) {c r : ℕ} → c ≡ k → r ≡ viable_by l t → lead_of k ≡ some l → r ≡ viable_class c t
unfolding viable_class viable_of
lead-told k l t p e h = rw (p, h) e

pub bound-told : (k n : ℕ) (t : Token) {c r : ℕ} → c ≡ k → r ≡ digits_up_to n 0 t → lead_of k ≡ some (up_to n) → r ≡ viable_class c t
unfolding viable_by
bound-told k n t p e h = lead-told k (up_to n) t p e h

word-past : (ws : List String) (c : ℕ) → length ws ≤ c → word_at c ws ≡ none
unfolding word_at
word-past [] c h = refl
word-past (w ∷ ws) zero h = absurd (omega arith)
word-past (w ∷ ws) (suc c) h = word-past ws c (omega arith)

pub no_lead : (c : ℕ) (t : Token) → 75 ≤ c → 0 ≡ viable_class c t
unfolding viable_class viable_of
no_lead c t high = sym (rw lead refl)
  where
    unbounded : bound_from 68 bounds c ≡ none
    unbounded = bound-outside bounds 68 c (inr (unfold bounds in (omega (arith, high))))

    other : other_lead c ≡ none
    other = unfold other_lead in (rw (unbounded, ne_eqb c a_name (λ p. omega (arith, high)), ne_eqb c a_real (λ p. omega (arith, high)), other_lead) refl)

    lead : lead_of c ≡ none
    lead = unfold lead_of in (rw (word-past literals c (unfold Rows.opened Classes.opened in (omega arith)), lead_of) other)

-- opens what the lead of a class computes with
unfoldable pub leads : Unit {0}
unfolding Viable.opened Rows.opened Classes.opened
leads = tt

-- a number up to the bound of its class
pub bounded-told : (c : ℕ) (t : Token) {r : ℕ} → 68 ≤ c → c ≤ 73 → r ≡ digits_up_to (get_or bounds (c - 68) 0) 0 t → r ≡ viable_class c t
unfolding leads
bounded-told c t {r} h g e = go (c - 68) (omega arith) (omega arith) e
  where
    go : (i : ℕ) → c ≡ 68 + i → i ≤ 5 → r ≡ digits_up_to (get_or bounds i 0) 0 t → r ≡ viable_class c t
    go zero p q e = bound-told 68 65534 t p e refl
    go (suc zero) p q e = bound-told 69 65535 t p e refl
    go (suc (suc zero)) p q e = bound-told 70 999999999999999 t p e refl
    go (suc (suc (suc zero))) p q e = bound-told 71 9218868437227405311 t p e refl
    go (suc (suc (suc (suc zero)))) p q e = bound-told 72 9223372036854775807 t p e refl
    go (suc (suc (suc (suc (suc zero))))) p q e = bound-told 73 9223372036854775808 t p e refl
    go (suc (suc (suc (suc (suc (suc i)))))) p q e = absurd (omega arith)
