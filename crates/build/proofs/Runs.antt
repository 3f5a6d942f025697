-- Where a reader stands, with more left than there may be.
use Prim.Native.Nat.{ℕ, ◌≤◌}
use mathlib.Core.Path.{◌≡◌, subst}
use mathlib.Core.List.{List, ◌∷◌}
use native.Mathlib.Omega.{arith}
use Rattle.notation.specs.Draft.{Pending}
use Rattle.notation.specs.Hearing.{hear_all}
use Rattle.recognise.specs.declared.Cursor.{Cursor}
use Rattle.build.specs.Flow.{Before, After}
use Rattle.build.specs.Standing.{Scene, within}
use Rattle.build.specs.Steps.{Met, Past}

module _ (u : List ℕ) (s : Scene) (base : ℕ) (c : Cursor) (count : ℕ) (image : List ℕ) where
  pub met_at : (n m : ℕ) (ps qs : List Pending) (size sizes : ℕ) → n ≡ m → ps ≡ qs → size ≤ sizes → Met u s base n ps size c count image → Met u s base m qs sizes c count image
  met_at n m ps qs size sizes e f h t =
      record {
        next = t.next;
        later = t.later;
        entries = t.entries;
        mentioned = t.mentioned;
        heard = t.heard;
        code = t.code;
        hears = t.hears;
        before = subst (λ x. Before x (t.next ∷ t.later) s.rest) e t.before;
        leads = subst (λ x. hear_all (t.next ∷ t.later) (within s.start t.entries t.mentioned x) ≡ s.whole) f t.leads;
        stands = t.stands;
        short = omega (arith, t.short);
      }

  pub past-at : (n m : ℕ) (ps qs : List Pending) (size sizes : ℕ) → n ≡ m → ps ≡ qs → size ≤ sizes → Past u s base n ps size c count image → Past u s base m qs sizes c count image
  past-at n m ps qs size sizes e f h t =
      record {
        next = t.next;
        later = t.later;
        entries = t.entries;
        mentioned = t.mentioned;
        heard = t.heard;
        code = t.code;
        hears = t.hears;
        after = subst (λ x. After x (t.next ∷ t.later) s.rest) e t.after;
        leads = subst (λ x. hear_all (t.next ∷ t.later) (within s.start t.entries t.mentioned x) ≡ s.whole) f t.leads;
        stands = t.stands;
        short = omega (arith, t.short);
      }
