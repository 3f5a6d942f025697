-- A text of a table says something exactly when it is of the grammar, and then it says something of each token.
use Prim.Native.Nat.{ℕ}
use mathlib.Core.Path.{◌≡◌, refl, sym, ◌∙◌, ap, subst}
use mathlib.Core.Logic.{◌↔◌}
use mathlib.Core.Bool.{Bool, true, false, cond}
use mathlib.Core.List.{List, [], ◌∷◌, ◌++◌, map}
use mathlib.Core.Option.{Option, none, some, IsSome}
use Rattle.grammar.specs.Grammar.{onward, step, run}
use Rattle.grammar.specs.Spelling.{Token, Lexes, between, after, emitted, pending, shut, Placed, placed}
use Rattle.grammar.specs.Text.{OfText}
use Rattle.grammar.specs.Table.{Item, Row, Table, Said, choose_of, grammar, on_said, said, text_says}
use Rattle.grammar.proofs.Grammar.{IsEmpty, run-none-empty, leads, accepts}
use Rattle.grammar.proofs.Spelled.{lexes}
use Rattle.grammar.proofs.Found.{lexes-exactly}
use Rattle.grammar.proofs.Places.{placed-bytes}

module _ (Y : Table) where
  -- after a row there is something said if there is of the rest
  pub on-said : (t : Placed) (r : Row Y.Sort Y.Saying) (f : Row Y.Sort Y.Saying → Option (List (Said Y.Saying)))
      → IsSome (on_said Y t (some r) f) ↔ IsSome (f r)
  unfolding on_said
  on-said t r f = go (f r) refl
    where
      go : (x : Option (List (Said Y.Saying))) → f r ≡ x → IsSome (on_said Y t (some r) f) ↔ IsSome (f r)
      go none e = rw (e, on_said) ((λ h. h), (λ h. h))
      go (some l) e = rw (e, on_said) ((λ h. h), (λ h. h))

  -- the tokens say something exactly when the machine over tokens accepts them
  pub said-exactly : (s : List (Item Y.Sort)) (w : List Placed)
      → IsSome (said Y s w) ↔ IsEmpty (grammar Y) (run (grammar Y) (some s) (map (λ t. t.bytes) w))
  unfolding said run step IsEmpty on_said onward
  said-exactly [] [] = ((λ h. tt), (λ h. tt))
  said-exactly (i ∷ s) [] = ((λ h. h), (λ h. h))
  said-exactly [] (t ∷ w) = ((λ h. absurd h), (λ h. run-none-empty (grammar Y) (map (λ x. x.bytes) w) h))
  said-exactly (i ∷ s) (t ∷ w) = go (choose_of Y i t.bytes) (λ r. said-exactly (r.rest ++ s) w)
    where
      v : List Token
      v = map (λ x. x.bytes) w

      f : Row Y.Sort Y.Saying → Option (List (Said Y.Saying))
      f r = said Y (r.rest ++ s) w

      go : (o : Option (Row Y.Sort Y.Saying))
          → ((r : Row Y.Sort Y.Saying) → IsSome (f r) ↔ IsEmpty (grammar Y) (run (grammar Y) (some (r.rest ++ s)) v))
          → IsSome (on_said Y t o f) ↔ IsEmpty (grammar Y) (run (grammar Y) (onward (grammar Y) {a = i} o s) v)
      go none k = ((λ h. absurd h), (λ h. run-none-empty (grammar Y) v h))
      go (some r) k = ((λ h. (k r).0 ((on-said t r f).0 h)), (λ h. (on-said t r f).1 ((k r).1 h)))

  -- a text says something exactly when it is of the grammar
  pub says-exactly : (s : List (Item Y.Sort)) (u : List ℕ) → IsSome (text_says Y s u) ↔ OfText (grammar Y) s u
  unfolding text_says OfText Lexes IsEmpty
  says-exactly s u = (there (shut (after between u)) refl, back)
    where
      w : List Token
      w = emitted between u ++ pending (after between u)

      there : (k : Bool) → shut (after between u) ≡ k → IsSome (cond k (said Y s (placed u)) none) → OfText (grammar Y) s u
      there true e h =
          (w, (lexes-exactly u w).1 (e, refl), leads (grammar Y) s w (rw (placed-bytes u) at ((said-exactly s (placed u)).0 h)))
      there false e h = absurd h

      back : OfText (grammar Y) s u → IsSome (cond (shut (after between u)) (said Y s (placed u)) none)
      back (v, l, o) =
          let x = lexes l in
          let e : map (λ t. t.bytes) (placed u) ≡ v = placed-bytes u ∙ x.1 in
          rw x.0 ((said-exactly s (placed u)).1 (rw e (subst (IsEmpty (grammar Y)) (sym (accepts (grammar Y) s v o)) tt)))

  -- what is said is said of each token, in their order
  pub said-tokens : (s : List (Item Y.Sort)) (w : List Placed) (l : List (Said Y.Saying)) → said Y s w ≡ some l → map (λ x. x.token) l ≡ w
  unfolding said on_said
  said-tokens [] [] l e = go l e
    where
      go : (l : List (Said Y.Saying)) → some [] ≡ some l → map (λ x. x.token) l ≡ []
      go [] e = refl
      go (x ∷ l) e = cc
  said-tokens (i ∷ s) [] l e = cc
  said-tokens [] (t ∷ w) l e = cc
  said-tokens (i ∷ s) (t ∷ w) l e = go (choose_of Y i t.bytes) refl (λ r. said-tokens (r.rest ++ s) w)
    where
      f : Row Y.Sort Y.Saying → Option (List (Said Y.Saying))
      f r = said Y (r.rest ++ s) w

      more : (r : Row Y.Sort Y.Saying) (x : Option (List (Said Y.Saying))) → f r ≡ x → on_said Y t (some r) f ≡ some l
          → ((l' : List (Said Y.Saying)) → f r ≡ some l' → map (λ x. x.token) l' ≡ w) → map (λ x. x.token) l ≡ t ∷ w
      more r none d e k = let n : none ≡ some l = rw (d, on_said) at e in cc
      more r (some l') d e k =
          let m : some (record { what = r.says; token = t } ∷ l') ≡ some l = rw (d, on_said) at e in
          let z : record { what = r.says; token = t } ∷ l' ≡ l = cc in
          rw (← z) (ap (λ v. t ∷ v) (k l' d))

      go : (o : Option (Row Y.Sort Y.Saying)) → choose_of Y i t.bytes ≡ o
          → ((r : Row Y.Sort Y.Saying) (l : List (Said Y.Saying)) → f r ≡ some l → map (λ x. x.token) l ≡ w)
          → map (λ x. x.token) l ≡ t ∷ w
      go none d k = let n : none ≡ some l = rw d at e in cc
      go (some r) d k = more r (f r) refl (rw d at e) (k r)

  -- and a text's words are of its tokens with their places
  pub says-placed : (s : List (Item Y.Sort)) (u : List ℕ) (l : List (Said Y.Saying)) → text_says Y s u ≡ some l
      → map (λ x. x.token) l ≡ placed u
  unfolding text_says
  says-placed s u l e = go (shut (after between u)) refl
    where
      go : (k : Bool) → shut (after between u) ≡ k → map (λ x. x.token) l ≡ placed u
      go true d = said-tokens s (placed u) l (rw d at e)
      go false d = let n : none ≡ some l = rw d at e in cc
