-- What holds at each turn of the evaluation: what is pending makes the expression's value of what goes on.
use Prim.Native.Nat.{ℕ, suc, ◌+◌, ◌-◌, ◌≤◌, ◌<◌}
use mathlib.Core.Path.{◌≡◌, sym, ap, ◌∙◌}
use mathlib.Core.List.{List}
use native.Mathlib.Omega.{arith}
use native.Mathlib.Numerals.{add-one}
use lib.ListN.{length, get_or, set, length-set}
use Rattle.plexil.specs.declared.Worked.{Worked}
use Rattle.plexil.specs.Image.{Image}
use Rattle.plexil.specs.Places.{Seen}
use Rattle.plexil.specs.Expressions.{eval_of, value_of}
use Rattle.evaluate.specs.Pending.{entered_of, ended_of, resumed, turns_of, turns_to_end, pending_turns}
use Rattle.evaluate.specs.declared.entries.Pending.{Pending}
use Rattle.evaluate.specs.declared.entries.Pending.TheVariants.{Not, First, Second}
use Rattle.evaluate.specs.declared.entries.Entry.{Entry}
use Rattle.evaluate.specs.declared.entries.Entry.TheVariants.{Value, Operand}
use Rattle.evaluate.proofs.PendingLaws.{Answers, entered-answers, pushed, push-turns, end-turns}

-- e₀ is the entry that is asked for; n operators are pending; x is what the entry that is gone into answers, or the value that goes up
pub record Standing (p : Image) (s : Seen) (e₀ : ℕ) (pending : List Pending) (n : ℕ) (x : Worked) : Type 0 where
  pub places : length pending ≡ 12
  pub levels : n ≤ 12
  pub answers : resumed p s n pending (12 - n) x ≡ value_of p s e₀

module _ (p : Image) (s : Seen) (e₀ : ℕ) {pending : List Pending} {n : ℕ} where
  -- ---- an entry that is gone into
  module _ (e : ℕ) (h : Standing p s e₀ pending n (eval_of p s (12 - n) e)) {r : Entry} (is : r ≡ entered_of p s (12 - n) e) where
    comes : Answers p s (12 - n) (eval_of p s (12 - n) e) r
    comes = rw is (entered-answers p s (12 - n) e)

    pub at-value : {v : Worked} → r ≡ Value v → Standing p s e₀ pending n v
    at-value {v} g = record {
      places = h.places;
      levels = h.levels;
      answers = ap (λ (x : Worked). resumed p s n pending (12 - n) x) (rw g at comes) ∙ h.answers;
    }

    module _ {w : Pending} {a : ℕ} (g : r ≡ Operand w a) where
      waits : (0 < 12 - n) × (ended_of p s (12 - n - 1) w (eval_of p s (12 - n - 1) a) ≡ eval_of p s (12 - n) e)
      waits = rw g at comes

      pub below : n < 12
      below = omega (arith, waits.0)

      above : suc (12 - (n + 1)) ≡ 12 - n
      above = omega (arith, below)

      same : 12 - n - 1 ≡ 12 - (n + 1)
      same = omega (arith, below)

      pub at-operand : Standing p s e₀ (set pending n w) (n + 1) (eval_of p s (12 - (n + 1)) a)
      at-operand = record {
        places = length-set pending n w ∙ h.places;
        levels = omega (arith, below);
        answers =
            ap (λ (k : ℕ). resumed p s k (set pending n w) (12 - (n + 1)) (eval_of p s (12 - (n + 1)) a)) (add-one n)
            ∙ pushed p s pending n (12 - (n + 1)) w (eval_of p s (12 - (n + 1)) a) (omega (arith, h.places, below))
            ∙ ap (λ (k : ℕ). resumed p s n pending k (ended_of p s (12 - (n + 1)) w (eval_of p s (12 - (n + 1)) a))) above
            ∙ ap (λ (x : Worked). resumed p s n pending (12 - n) x) (rw same at waits.1)
            ∙ h.answers;
      }

      pub operand-less : turns_of (12 - (n + 1)) + pending_turns (n + 1) (set pending n w) (12 - (n + 1)) < turns_of (12 - n) + pending_turns n pending (12 - n)
      unfolding turns_of
      operand-less =
          rw (← above)
          (rw (ap (λ (k : ℕ). pending_turns k (set pending n w) (12 - (n + 1))) (add-one n), push-turns pending n (12 - (n + 1)) w (omega (arith, h.places, below)))
          (omega (arith, end-turns (12 - (n + 1)) w)))

  -- ---- a value that goes up
  module _ {v : Worked} (h : Standing p s e₀ pending n v) where
    -- nothing is pending
    pub at-end : n ≡ 0 → v ≡ value_of p s e₀
    unfolding resumed
    at-end z = rw z at h.answers

    module _ (some : n ≡ 0 → ⊥) where
      top-is : (n : ℕ) → (n ≡ 0 → ⊥) → suc (n - 1) ≡ n
      top-is n g = omega (arith, g)

      above-top : suc (12 - n) ≡ 12 - (n - 1)
      above-top = omega (arith, some, h.levels)

      pub ended-less : pending_turns (n - 1) pending (12 - (n - 1)) < pending_turns n pending (12 - n)
      unfolding pending_turns
      ended-less =
          rw (← above-top, sym (ap (λ (k : ℕ). pending_turns k pending (12 - n)) (top-is n some)))
          (omega (arith, end-turns (12 - n) (get_or pending (n - 1) Not)))

      module _ {w : Pending} (top : get_or pending (n - 1) Not ≡ w) where
        on-top : resumed p s (n - 1) pending (suc (12 - n)) (ended_of p s (12 - n) w v) ≡ value_of p s e₀
        unfolding resumed
        on-top = rw (← top) (ap (λ (k : ℕ). resumed p s k pending (12 - n) v) (top-is n some) ∙ h.answers)

        -- the last operator ends: no more turns are left than there were
        pub at-ended : {r : Worked} {m : ℕ} → r ≡ ended_of p s (12 - n) w v → pending_turns n pending (12 - n) ≤ m → Standing p s e₀ pending (n - 1) r × (pending_turns (n - 1) pending (12 - (n - 1)) ≤ m)
        at-ended {r} g l = (
          record {
            places = h.places;
            levels = omega (arith, h.levels);
            answers = rw (g, ← above-top) on-top;
          },
          omega (arith, l, ended-less),
        )

        -- or waits for its second operand
        pub at-first : {op b : ℕ} → w ≡ First op b → Standing p s e₀ (set pending (n - 1) (Second op v)) n (eval_of p s (12 - n) b)
        unfolding ended_of
        at-first {op} {b} g = record {
          places = length-set pending (n - 1) (Second op v) ∙ h.places;
          levels = h.levels;
          answers =
              sym (ap (λ (k : ℕ). resumed p s k (set pending (n - 1) (Second op v)) (12 - n) (eval_of p s (12 - n) b)) (top-is n some))
              ∙ pushed p s pending (n - 1) (12 - n) (Second op v) (eval_of p s (12 - n) b) (omega (arith, h.places, h.levels, some))
              ∙ (rw g at on-top);
        }

      pub first-less : {op b : ℕ} → get_or pending (n - 1) Not ≡ First op b
          → turns_of (12 - n) + pending_turns n (set pending (n - 1) (Second op v)) (12 - n) < pending_turns n pending (12 - n)
      unfolding pending_turns turns_to_end
      first-less {op} {b} g =
          rw (sym (ap (λ (k : ℕ). pending_turns k pending (12 - n)) (top-is n some)), sym (ap (λ (k : ℕ). pending_turns k (set pending (n - 1) (Second op v)) (12 - n)) (top-is n some)))
          (rw (push-turns pending (n - 1) (12 - n) (Second op v) (omega (arith, h.places, h.levels, some)), g) (omega arith))
