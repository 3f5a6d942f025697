-- What the loop over a text's tokens tells where it ends.
use Prim.Native.Nat.{ℕ, zero, suc, ◌+◌, ◌-◌, ◌<◌, ◌≤◌}
use mathlib.Core.Path.{◌≡◌, refl, ◌∙◌, sym, ap, subst⁻¹}
use mathlib.Core.Bool.{Bool, true, false, ◌&&◌}
use mathlib.Core.List.{List, [], ◌∷◌, ◌++◌, append-nil}
use mathlib.Core.Option.{Option, none, some}
use native.Mathlib.Omega.{arith}
use lib.ListN.{length}
use lib.Seq.{slice, length-slice}
use lib.Dec.{eqb}
use borrow.Author.Tests.{eqb-true, eq-eqb}
use Rattle.grammar.specs.Table.{Item, Row, Said, rows_of, choose_of, on_said}
use Rattle.grammar.specs.Scan.{Next, done, broken, token, token_at, token_in, viable, says_from, reach_from}
use Rattle.grammar.proofs.TokenAt.{token-at}
use Rattle.grammar.proofs.SaysFrom.{says-token, says_past, says-done, says-short, says-broken}
use Rattle.grammar.proofs.ReachFrom.{reach-done, reach-broken, reach-stops, reach-past}
use Rattle.grammar.proofs.Viable.{viable-within}
use Rattle.grammar.proofs.ViableBy.{viable-by-rows}
use Rattle.notation.specs.Sayings.{Saying}
use Rattle.notation.specs.Rows.{Close, semicolon, bracket, Sort, notation}
use Rattle.notation.specs.Classes.{class_of, pick_class}
use Rattle.notation.specs.Draft.{Draft}
use Rattle.notation.specs.Hearing.{draft_of}
use Rattle.notation.specs.Names.{is_found, too_deep}
use Rattle.notation.specs.Reading.{plan_says, text_reach}
use Rattle.notation.proofs.Classes.{choose-class}
use Rattle.std.specs.Prelude.{Err}
use Rattle.recognise.specs.declared.Ahead.{Ahead}
use Rattle.recognise.specs.declared.taking.Halt.{Halt}
use Rattle.recognise.specs.declared.taking.Halt.TheVariants as halt
use Rattle.recognise.specs.declared.Counts.{Counts}
use Rattle.recognise.specs.Positions as Positions
use Rattle.recognise.specs.Positions.{Bottom, lists, body, expression, position_at, tower, closer, parentheses}
use Rattle.recognise.specs.Steps.{Stepped, most, step_of}
use Rattle.recognise.specs.Taking.{taken_by, taken_of}
use Rattle.recognise.specs.Hears as Hears
use Rattle.recognise.specs.Hears.{Stands, piece, rear_item, below, items_of}
use Rattle.recognise.specs.Recognised.{place_of, refused_at, accepted_as, recognised_by, recognised_of}
use Rattle.recognise.specs.Reaching.{whole_at, empty_at, tallied, viable_from, reached_by, Lies}
use Rattle.recognise.proofs.Claims.{listing}
use Rattle.recognise.proofs.Claimed.{listed}
use Rattle.recognise.proofs.ClassSmall.{class-below}
use Rattle.recognise.proofs.ItemsKnown.{first-known}
use Rattle.recognise.proofs.Stepping.{Right, step_right}
use Rattle.recognise.proofs.Pieces.{slice-part}
use Rattle.recognise.proofs.CountLaws.{counts_of, pending_weight}
use Rattle.recognise.proofs.NothingPending.{nothing-pending}
use mathlib.Core.Bool.{false≢true}
use Rattle.recognise.proofs.Takings.{taken-err}
use Rattle.recognise.proofs.ViableHere.{viable-here, viable-nowhere}
use Rattle.recognise.proofs.Following.{Following, after_heard}

pub both_first : (a b : Bool) → a && b ≡ true → a ≡ true
both_first true b h = refl
both_first false b h = h

pub both-second : (a b : Bool) → a && b ≡ true → b ≡ true
both-second true b h = h
both-second false b h = cc

-- nothing is to come exactly where no list is open after the end of a node
empty-items : (m : List ℕ) (a : Ahead) → empty_at a ≡ true → items_of m a ≡ []
unfolding Hears.opened Positions.opened
empty-items m a e =
    let p = eqb-true a.at 1 (both_first (eqb a.at 1) (eqb a.lists 0) e) in
    let q = eqb-true a.lists 0 (both-second (eqb a.at 1) (eqb a.lists 0) e) in
    ap (λ (x : ℕ). (position_at (closer a.parens) x).front ++ below m a (position_at (closer a.parens) x).bottom) p ∙ ap tower q

is_empty_position : List (Item Sort) → Bottom → Bool
is_empty_position [] lists = true
is_empty_position [] body = false
is_empty_position [] expression = false
is_empty_position (i ∷ f) b = false

one-empty : (c : Close) → listing (λ p. is_empty_position (position_at c p).front (position_at c p).bottom) 0 78 ≡ listing (λ p. eqb p 1) 0 78
unfolding Positions.opened is_empty_position listing
one-empty semicolon = refl
one-empty bracket = refl

never-empty : (k : List (Item Sort)) (x : Item Sort) (l : List (Item Sort)) → k ++ (x ∷ l) ≡ [] → ⊥
never-empty [] x l e = let z : ◌≡◌ {A = ℕ} 0 1 = cc in omega arith
never-empty (y ∷ k) x l e = let z : ◌≡◌ {A = ℕ} 0 1 = cc in omega arith

no-tower : (d : ℕ) → tower d ≡ [] → d ≡ 0
unfolding tower
no-tower zero e = refl
no-tower (suc d) e = absurd (let z : ◌≡◌ {A = ℕ} 0 1 = cc in omega arith)

empty-by : (m : List ℕ) (a : Ahead) (f : List (Item Sort)) (b : Bottom) → is_empty_position f b ≡ eqb a.at 1 → f ++ below m a b ≡ [] → empty_at a ≡ true
unfolding is_empty_position below
empty-by m a (i ∷ f) b h e = absurd (let z : ◌≡◌ {A = ℕ} 0 1 = cc in omega arith)
empty-by m a [] lists h e = rw (← h) (eq-eqb a.lists 0 (no-tower a.lists e))
empty-by m a [] body h e = absurd (let z : ◌≡◌ {A = ℕ} 0 1 = cc in omega arith)
empty-by m a [] expression h e = absurd (never-empty (parentheses a.parens) (rear_item m a.rear) (tower a.lists) e)

items-empty : (a : Ahead) → Stands a [] → empty_at a ≡ true
unfolding items_of
items-empty a w =
    let c = closer a.parens in
    empty-by w.had a _ _ (listed (λ p. is_empty_position (position_at c p).front (position_at c p).bottom) (λ p. eqb p 1) 78 false (one-empty c) a.at w.known) w.items

-- the counts of a draft of which nothing is pending
tallied-as : (d : Draft) → d.pending ≡ [] → tallied (counts_of d) ≡ accepted_as d
unfolding counts_of accepted_as pending_weight
tallied-as d e =
    let p : length d.entries + pending_weight d.pending ≡ length d.entries = (let z = ap pending_weight e in omega arith) in
    λ i. record { accepted = true; reach = 0; deep = is_found (too_deep d.nodes); place = place_of (too_deep d.nodes); nodes = length d.nodes; entries = p i; variables = length d.variables; lookups = length d.lookups; commands = length d.commands }

-- what a text tells that has no token more
done-by : (u : List ℕ) (a : Ahead) (x : Next) → Err halt.Done ≡ taken_by u a x → x ≡ done
unfolding taken_by
done-by u a done e = refl
done-by u a (broken k) e = cc
done-by u a (token from to) e = let p = (taken-err from to (step_of a (class_of (slice from to u))) halt.Done e).1 in cc

none-picked : (o : Option (Row Sort Saying)) (s : List (Item Sort)) (r : Stepped) → Right o s r → r.ok ≡ false → o ≡ none
none-picked none s r f h = refl
none-picked (some x) s r f h = absurd (let z : true ≡ false = sym f.0 ∙ h in let y : ◌≡◌ {A = ℕ} 0 1 = cc in omega arith)

-- what the end of a text tells
pub whole-told : (h : Halt) (a : Ahead) → whole_at h a ≡ true → (h ≡ halt.Done) × (empty_at a ≡ true)
unfolding whole_at
whole-told halt.Done a e = (refl, e)
whole-told (halt.Broken b) a e = absurd (false≢true e)
whole-told (halt.Refused t) a e = absurd (false≢true e)

pub not-whole : (h : Halt) (a : Ahead) → whole_at h a ≡ false → h ≡ halt.Done → empty_at a ≡ true → ⊥
unfolding whole_at
not-whole h a w e f = false≢true (sym w ∙ ap (λ (x : Halt). whole_at x a) e ∙ f)

module _ (u : List ℕ) (small : length u < 18446744073709551616) (n : ℕ) (a : Ahead) (c : Counts) (g : Following u n a c) where
  -- the text says what has been heard
  pub follow-says : Err halt.Done ≡ taken_of u n a → empty_at a ≡ true → plan_says u ≡ some g.heard
  unfolding taken_of after_heard
  follow-says t e =
      let d = done-by u a (token_at u n) t in
      let i : g.items ≡ [] = sym g.stands.items ∙ empty-items g.stands.had a e in
      g.says ∙ ap (λ (s : List (Item Sort)). after_heard g.heard (says_from notation s u n)) i ∙ ap (after_heard g.heard) (says-done notation u n d) ∙ ap some (append-nil g.heard)

  pub follow-accepted : Err halt.Done ≡ taken_of u n a → empty_at a ≡ true → tallied c ≡ recognised_of u
  unfolding recognised_of recognised_by draft_of
  follow-accepted t e =
      let p = follow-says t e in
      ap tallied g.counts ∙ tallied-as (draft_of g.heard) (nothing-pending u g.heard p) ∙ ap (λ (o : Option (List (Said Saying))). recognised_by o u) (sym p)

  -- how much of a token is viable here
  module _ (from to : ℕ) (h : token_at u n ≡ token from to) where
    abbrev parens_few : a.parens < most
    parens_few = (let t = token-at u n from to h in omega (arith, t.low, t.some, t.high, g.few_parens))

    abbrev lists_few : a.lists < most
    lists_few = (let t = token-at u n from to h in omega (arith, t.low, t.some, t.high, g.few_lists))

    viable-rows : (i : Item Sort) (s : List (Item Sort)) → Stands a (i ∷ s) → viable_from (piece u from to) a 0 76 ≡ viable (rows_of notation i) (slice from to u)
    unfolding piece
    viable-rows i s w =
        ap (λ (t : List ℕ). viable_from t a 0 76) (sym (slice-part from to u)) ∙ viable-here (slice from to u) a parens_few lists_few i s w
        ∙ sym (viable-by-rows (rows_of notation i) (slice from to u) (token-at u n from to h).is_whole)

    viable-few : (s : List (Item Sort)) → Stands a s → viable_from (piece u from to) a 0 76 ≤ to - from
    unfolding piece
    viable-few [] w = let z = viable-nowhere (piece u from to) a parens_few lists_few w in omega arith
    viable-few (i ∷ s) w =
        let z = viable-rows i s w in
        let y = viable-within (rows_of notation i) (slice from to u) in
        let x = length-slice from to u (token-at u n from to h).high in
        omega arith

    stops : (s : List (Item Sort)) → Stands a s → (step_of a (class_of (slice from to u))).ok ≡ false
        → (reach_from notation s u n ≡ from + viable_from (piece u from to) a 0 76) × (says_from notation s u n ≡ none)
    unfolding on_said
    stops [] w o =
        (reach-past notation u n from to h ∙ (let z = viable-nowhere (piece u from to) a parens_few lists_few w in omega arith), says_past notation u n from to h)
    stops (i ∷ s) w o =
        let k = class_of (slice from to u) in
        let t = token-at u n from to h in
        let p : choose_of notation i (slice from to u) ≡ none =
        choose-class i (slice from to u) (first-known a i s w) t.is_whole
        ∙ none-picked (pick_class (rows_of notation i) k) s (step_of a k) (step_right a k (class-below (slice from to u)) parens_few lists_few i s w) o
        in (
          reach-stops notation u n from to h i s p ∙ ap (λ (x : ℕ). from + x) (sym (viable-rows i s w)),
          says-token notation u n i s from to h
              ∙ ap (λ (q : Option (Row Sort Saying)). on_said notation (token_in u from to) q (λ z. says_from notation (z.rest ++ s) u to)) p,
        )

  lies-by : (x : Next) → token_at u n ≡ x → (h : Halt) → Err h ≡ taken_by u a x → Lies u h a
  unfolding taken_by Lies
  lies-by done w halt.Done e = tt
  lies-by done w (halt.Broken b) e = tt
  lies-by done w (halt.Refused t) e = cc
  lies-by (broken k) w halt.Done e = tt
  lies-by (broken k) w (halt.Broken b) e = tt
  lies-by (broken k) w (halt.Refused t) e = cc
  lies-by (token from to) w h e =
      let t = token-at u n from to w in
      subst⁻¹ (λ (x : Halt). Lies u x a) (taken-err from to (step_of a (class_of (slice from to u))) h e).1
      (record { ordered = omega (arith, t.some); high = t.high; counted = omega (arith, t.some, t.high, viable-few from to w g.items g.stands) })

  pub follow-lies : (h : Halt) → Err h ≡ taken_of u n a → Lies u h a
  unfolding taken_of
  follow-lies h e = lies-by (token_at u n) refl h e

  finish : (k : ℕ) → plan_says u ≡ none → text_reach u ≡ k → refused_at k ≡ recognised_of u
  unfolding recognised_of recognised_by
  finish k e f = ap refused_at (sym f) ∙ ap (λ (o : Option (List (Said Saying))). recognised_by o u) (sym e)

  silent : says_from notation g.items u n ≡ none → plan_says u ≡ none
  unfolding after_heard
  silent e = g.says ∙ ap (after_heard g.heard) e

  short : token_at u n ≡ done → (s : List (Item Sort)) → Stands a s → (empty_at a ≡ true → ⊥) → says_from notation s u n ≡ none
  short h [] w e = absurd (e (items-empty a w))
  short h (i ∷ s) w e = says-short notation u n i s h

  refused-by : (x : Next) → token_at u n ≡ x → (h : Halt) → Err h ≡ taken_by u a x → (h ≡ halt.Done → empty_at a ≡ true → ⊥) → refused_at (reached_by u h a) ≡ recognised_of u
  unfolding taken_by reached_by
  refused-by done w h e q =
      let k : h ≡ halt.Done = cc in
      rw k (finish (length u) (silent (short w g.items g.stands (q k))) (g.reaches ∙ reach-done notation u n g.items g.inside w))
  refused-by (broken b) w h e q =
      let k : h ≡ halt.Broken (record { to = b }) = cc in
      rw k (finish b (silent (says-broken notation u n g.items b w)) (g.reaches ∙ reach-broken notation u n g.items b w))
  refused-by (token from to) w h e q =
      let o = taken-err from to (step_of a (class_of (slice from to u))) h e in
      let x = stops from to w g.items g.stands o.0 in
      rw o.1 (finish (from + viable_from (piece u from to) a 0 76) (silent x.1) (g.reaches ∙ x.0))

  pub follow-refused : (h : Halt) → Err h ≡ taken_of u n a → (h ≡ halt.Done → empty_at a ≡ true → ⊥) → refused_at (reached_by u h a) ≡ recognised_of u
  unfolding taken_of
  follow-refused h e q = refused-by (token_at u n) refl h e q
