-- Names by the tables of their declarations.
use Prim.Native.Nat.{ℕ, zero, suc, ◌≤◌, ◌<◌}
use mathlib.Core.Path.{◌≡◌, refl, ◌∙◌, ap}
use mathlib.Core.List.{List, [], ◌∷◌}
use native.Mathlib.Omega.{arith}
use lib.ListN.{length, get_or}
use Rattle.plexil.specs.Lists.{Found, at, nowhere}
use Rattle.grammar.specs.Spelling.{Token}
use Rattle.grammar.specs.Table.{Said}
use Rattle.notation.specs.Sayings.{Saying}
use Rattle.notation.specs.Draft.{Lookup, Variable, Draft}
use Rattle.notation.specs.Hearing.{draft_of}
use Rattle.notation.specs.Names.{variable_of, lookup_of, command_of}
use Rattle.notation.specs.Mapping.{number_of, kind_of_variable, kind_of_lookup, number_of_command}
use Rattle.std.specs.Prelude.{Option, unwrap_or}
use Rattle.names.specs.Answers.{Accepted, tale_said, found_of}
use Rattle.names.specs.Tables.{Ready}
use Rattle.recognise.specs.Tape.{Tape}
use Rattle.build.specs.Known.{Tables, Known, StandsAt}

pub place_is : (r : Option ℕ) (f : Found) → r ≡ found_of f → (unwrap_or r 0) ≡ number_of f
unfolding found_of number_of
place_is r (at i) e = ap (λ x. unwrap_or x 0) e
place_is r nowhere e = ap (λ x. unwrap_or x 0) e

variables-end : (vs : List Variable) (j : ℕ) → length vs ≤ j → kind_of_variable vs j ≡ 0
unfolding kind_of_variable
variables-end [] j h = refl
variables-end (v ∷ vs) zero h = absurd (omega arith)
variables-end (v ∷ vs) (suc j) h = variables-end vs j (omega arith)

lookups-end : (vs : List Lookup) (j : ℕ) → length vs ≤ j → kind_of_lookup vs j ≡ 0
unfolding kind_of_lookup
lookups-end [] j h = refl
lookups-end (v ∷ vs) zero h = absurd (omega arith)
lookups-end (v ∷ vs) (suc j) h = lookups-end vs j (omega arith)

module _ (u : List ℕ) (d : Draft) (t : Tables) (k : Known u d t) (r : Option ℕ) (w : ℕ) where
  -- what the resolution of a name answers, told of the draft
  told_of : (f : Draft → Found) → ((l : List (Said Saying)) → Accepted u l → Ready u (tale_said l) t.from t.to t.owner t.told → r ≡ found_of (f (draft_of l))) → (unwrap_or r 0) ≡ number_of (f d)
  told_of f h = place_is r (f d) (h k.said k.accepted k.ready ∙ ap (λ x. found_of (f x)) k.draft)

  pub means-variable : (n : ℕ) (x : Token) → ((l : List (Said Saying)) → Accepted u l → Ready u (tale_said l) t.from t.to t.owner t.told → r ≡ found_of (variable_of (draft_of l) n x))
      → StandsAt t.kind 320 t.told.variables (unwrap_or r 0) w
      → ((unwrap_or r 0) ≡ number_of (variable_of d n x)) × (w ≡ kind_of_variable d.variables (number_of (variable_of d n x)))
  means-variable n x h st =
      let e = told_of (λ y. variable_of y n x) h in (
        e,
        st (kind_of_variable d.variables) (omega (arith, k.variables, k.few_variables)) (λ j m. k.variable_kinds j (omega (arith, k.variables))) (λ j m. variables-end d.variables j (omega (arith, k.variables)))
            ∙ ap (kind_of_variable d.variables) e,
      )

  pub means-lookup : (x : Token) → ((l : List (Said Saying)) → Accepted u l → Ready u (tale_said l) t.from t.to t.owner t.told → r ≡ found_of (lookup_of (draft_of l) x))
      → StandsAt t.kind 256 t.told.lookups (unwrap_or r 0) w
      → ((unwrap_or r 0) ≡ number_of (lookup_of d x)) × (w ≡ kind_of_lookup d.lookups (number_of (lookup_of d x)))
  means-lookup x h st =
      let e = told_of (λ y. lookup_of y x) h in (
        e,
        st (kind_of_lookup d.lookups) (omega (arith, k.lookups, k.few_lookups)) (λ j m. k.lookup_kinds j (omega (arith, k.lookups))) (λ j m. lookups-end d.lookups j (omega (arith, k.lookups)))
            ∙ ap (kind_of_lookup d.lookups) e,
      )

  module _ (x : Token) (h : (l : List (Said Saying)) → Accepted u l → Ready u (tale_said l) t.from t.to t.owner t.told → r ≡ found_of (command_of (draft_of l) x)) where
    pub means-command : (unwrap_or r 0) < 256 → w ≡ get_or t.kind (unwrap_or r 0) 0 → w ≡ number_of_command d.commands (number_of (command_of d x))
    means-command few e = e ∙ k.command_numbers (unwrap_or r 0) few ∙ ap (number_of_command d.commands) (told_of (λ y. command_of y x) h)

    pub means-later : ((l : List (Said Saying)) → Accepted u l → Tape u t.owner → w ≡ number_of_command (draft_of l).commands (unwrap_or r 0)) → w ≡ number_of_command d.commands (number_of (command_of d x))
    means-later f =
        f k.said k.accepted k.ready.tape ∙ ap (λ (y : Draft). number_of_command y.commands (unwrap_or r 0)) k.draft
        ∙ ap (number_of_command d.commands) (told_of (λ y. command_of y x) h)
