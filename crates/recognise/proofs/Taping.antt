-- A cursor on the tape, or in the text where the tape has it not.
use Prim.Native.Nat.{ℕ, ◌+◌, ◌-◌, ◌<◌, ◌≤◌}
use mathlib.Core.Path.{◌≡◌, refl, ◌∙◌, sym, ap}
use mathlib.Core.Logic.{inl, inr}
use mathlib.Core.List.{List, ◌∷◌}
use native.Mathlib.Omega.{arith}
use lib.ListN.{length, drop, get_or, length-drop}
use lib.Seq.{drop-drop}
use Rattle.grammar.specs.Table.{Said}
use Rattle.notation.specs.Sayings.{Saying}
use Rattle.notation.specs.Spoken.{spoken}
use Rattle.recognise.specs.declared.Cursor.{Cursor}
use Rattle.recognise.specs.Steps.{start_ahead}
use Rattle.recognise.specs.Hears.{Hears, Scanned}
use Rattle.recognise.specs.Tape.{says_in, from_in, to_in, held_in, Tells, Tape, Advanced, Begun}
use Rattle.recognise.proofs.Advances.{begun}
use Rattle.recognise.proofs.Tapes.{left-within}

abbrev pub nowhere : Cursor → Cursor
nowhere c = record { at = c.at; from = 0; to = 0; says = 94; ahead = c.ahead; sayings = c.sayings }

module _ (u os : List ℕ) (c : Cursor) where
  -- in the text itself
  pub scanned-on : c.sayings ≡ 0 → (r : Cursor) → Scanned u c r → Advanced u os c r
  unfolding Hears
  scanned-on z r s = record {
    more = λ t w l h. (let m = s.more w l (h.0 z) in (m.0, (λ e. m.1, λ n. absurd (n s.plain)), m.2));
    done = λ h. s.done (h.0 z);
    onward = s.onward;
    known = s.known;
    ordered = s.ordered;
    within = s.within;
  }

  module _ (some : c.sayings ≡ 0 → ⊥) where
    -- what the tape tells of the saying that is heard next
    pub record Next (w : Said Saying) : Type 0 where
      pub tells : Tells u (held_in os c.at) w
      pub inside : c.at < c.sayings
      pub few : c.at < 19640

    pub next-told : Tape u os → (w : Said Saying) (l : List (Said Saying)) → Hears u c (w ∷ l) → Next w
    unfolding Hears Tape
    next-told t w l h =
        let p = h.1 some in
        let i = left-within (spoken p.whole) c.at w l p.left in
        record { tells = (t p.whole p.says).has p.brief c.at w l p.left; inside = omega (arith, p.count); few = omega (arith, p.brief.few) }

    pub over-so : ((w : Said Saying) → Next w → ⊥) → (r : Cursor) → r ≡ nowhere c → Advanced u os c r
    over-so f r e = rw e (record {
      more = λ t w l h. absurd (f w (next-told t w l h));
      done = λ h. refl;
      onward = omega arith;
      known = omega arith;
      ordered = omega arith;
      within = omega arith;
    })

    module _ (v : ℕ) (is : v ≡ held_in os c.at) (inside : c.at < c.sayings) (known : says_in v < 94) (within : to_in v ≤ length u) where
      pub told-on : Advanced u os c (record { at = c.at + 1; from = from_in v; to = to_in v; says = says_in v; ahead = c.ahead; sayings = c.sayings })
      unfolding Hears
      told-on = record {
        more = λ t w l h. (
            let n : Tells u v w = rw is (next-told t w l h).tells in
            let p = h.1 some in (
              record { what = n.what; bytes = n.bytes; place = n.place },
              (λ z. absurd (some z), λ z. record { whole = p.whole; says = p.says; brief = p.brief; count = p.count; left = sym (drop-drop 1 c.at (spoken p.whole)) ∙ ap (drop 1) p.left }),
              omega arith,
            ));
        done = λ h. absurd (let p = h.1 some in let k : length (spoken p.whole) - c.at ≡ 0 = sym (length-drop c.at (spoken p.whole)) ∙ ap length p.left in omega (arith, p.count));
        onward = omega arith;
        known = omega arith;
        ordered = omega arith;
        within = within;
      }

-- at the beginning
pub begun-told : (os : List ℕ) → Begun os (record { at = 0; from = 0; to = 0; says = 94; ahead = start_ahead; sayings = get_or os 704 0 })
unfolding Begun Tape Hears
begun-told os u l e t = (λ z. begun u l e, λ n. elim (t l e).count [ inl z ↦ absurd (n z) | inr z ↦ record { whole = l; says = e; brief = z.1; count = z.0; left = refl } ])
