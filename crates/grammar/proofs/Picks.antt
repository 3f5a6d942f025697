-- The row that a token begins: some row takes bytes made longer exactly when `any_could` says so.
use Prim.Native.Nat.{ℕ}
use Prim.Native.String.{String}
use mathlib.Core.Path.{◌≡◌, refl}
use mathlib.Core.Bool.{Bool, true, false, ◌||◌, false≢true}
use mathlib.Core.List.{List, [], ◌∷◌, ◌++◌}
use mathlib.Core.Option.{IsSome}
use Rattle.grammar.specs.Spelling.{Token, goes_on, whole}
use Rattle.grammar.specs.Leads.{accepts, could}
use Rattle.grammar.specs.Table.{Row, pick, any_could}
use Rattle.grammar.proofs.Bools.{or_right}
use Rattle.grammar.proofs.Names.{none_low}
use Rattle.grammar.proofs.Leads.{accepted-whole, could-sound, could-complete}

module _ {S W : Type 0} (reserved : List String) where
  pick-here : (r : Row S W) (rs : List (Row S W)) (t : Token) → accepts reserved r.lead t ≡ true → IsSome (pick reserved (r ∷ rs) t)
  unfolding pick
  pick-here r rs t e = rw e tt

  pick-there : (r : Row S W) (rs : List (Row S W)) (t : Token) → IsSome (pick reserved rs t) → IsSome (pick reserved (r ∷ rs) t)
  unfolding pick
  pick-there r rs t h = go (accepts reserved r.lead t) refl
    where
      go : (k : Bool) → accepts reserved r.lead t ≡ k → IsSome (pick reserved (r ∷ rs) t)
      go true e = rw e tt
      go false e = rw e h

  pub pick-sound : none_low reserved ≡ true → (rs : List (Row S W)) (q : Token) → whole q ≡ true → any_could rs q ≡ true
      → (v : List ℕ) × (goes_on q v ≡ true) × IsSome (pick reserved rs (q ++ v))
  unfolding any_could
  pick-sound n [] q w e = absurd (false≢true e)
  pick-sound n (r ∷ rs) q w e = go (could r.lead q) refl (pick-sound n rs q w)
    where
      go : (k : Bool) → could r.lead q ≡ k → (any_could rs q ≡ true → (v : List ℕ) × (goes_on q v ≡ true) × IsSome (pick reserved rs (q ++ v)))
          → (v : List ℕ) × (goes_on q v ≡ true) × IsSome (pick reserved (r ∷ rs) (q ++ v))
      go true c f = let s = could-sound reserved n r.lead q w c in (s.0, s.1, pick-here r rs (q ++ s.0) (s.2))
      go false c f = let s = f (rw c at e) in (s.0, s.1, pick-there r rs (q ++ s.0) (s.2))

  pub pick-complete : (rs : List (Row S W)) (q v : Token) → goes_on q v ≡ true → IsSome (pick reserved rs (q ++ v)) → any_could rs q ≡ true
  unfolding any_could pick
  pick-complete [] q v g h = absurd h
  pick-complete (r ∷ rs) q v g h = go (accepts reserved r.lead (q ++ v)) refl (pick-complete rs q v g)
    where
      go : (k : Bool) → accepts reserved r.lead (q ++ v) ≡ k → (IsSome (pick reserved rs (q ++ v)) → any_could rs q ≡ true)
          → could r.lead q || any_could rs q ≡ true
      go true e f = rw (could-complete reserved r.lead q v g e)
      go false e f = or_right (could r.lead q) (any_could rs q) (f (rw e at h))

  pub pick-whole : (rs : List (Row S W)) (t : Token) → IsSome (pick reserved rs t) → whole t ≡ true
  unfolding pick
  pick-whole [] t h = absurd h
  pick-whole (r ∷ rs) t h = go (accepts reserved r.lead t) refl (pick-whole rs t)
    where
      go : (k : Bool) → accepts reserved r.lead t ≡ k → (IsSome (pick reserved rs t) → whole t ≡ true) → whole t ≡ true
      go true e f = accepted-whole reserved r.lead t e
      go false e f = f (rw e at h)
