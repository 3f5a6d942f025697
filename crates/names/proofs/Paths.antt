-- A held path, followed part by part: its mentions, and the first that is not found.
use Prim.Native.Nat.{ℕ, suc}
use mathlib.Core.Path.{◌≡◌, refl, ap, sym, ◌∙◌}
use mathlib.Core.Logic.{inl, inr}
use mathlib.Core.Bool.{Bool, true, false, true≢false}
use mathlib.Core.List.{List, [], ◌∷◌, ◌++◌, append_assoc, append-nil}
use native.Mathlib.Omega.{arith}
use lib.Dec.{eqb}
use Rattle.plexil.specs.Lists.{Found, at, nowhere}
use Rattle.grammar.specs.Spelling.{Token, Placed}
use Rattle.notation.specs.Draft.{Draft, Mention, Mentioned, use_of_node, use_of_variable}
use Rattle.notation.specs.Hearing.{◌▸◌, all_bytes}
use Rattle.notation.specs.Names.{is_found, is_at, variable_of, child_of, node_up, node_down, node_of, in_order, bad_mention}
use Rattle.recognise.specs.Hears.{piece}
use Rattle.std.specs.Prelude.{Option, unwrap_or, is_some, Some, None, Result, Ok, Err, is_ok}
use Rattle.std.specs.Result.{result_unwrap_or, result_err}
use Rattle.names.specs.declared.judge.Path.{Path}
use Rattle.names.specs.declared.judge.Held.{Held}
use Rattle.names.specs.declared.judge.Held.TheVariants.{Nothing, Name, Route}
use Rattle.names.specs.Tale.{parts}
use Rattle.names.specs.Answers.{found_of}
use Rattle.names.specs.Judging.{HasPath, settled_by, lost_of, Followed, Whole, PathIs, FirstPart, NextPart, unless_of, followed_of}
use Rattle.names.proofs.Grown.{bad-stays, bad-later}

pub bad-one : (d : Draft) (m : Mention) (n : ℕ) → bad_mention d (record { mention = m; place = n } ∷ []) ≡ unless_of (in_order d m) n
unfolding bad_mention unless_of
bad-one d m n = onto (in_order d m)
  where
    onto : (t : Bool) → ◌≡◌ {A = Found} (elim t [ true ↦ nowhere | false ↦ at n ]) (unless_of t n)
    onto true = refl
    onto false = refl

pub found-same : (f : Found) → is_some (found_of f) ≡ is_found f
unfolding found_of is_found
found-same (at i) = refl
found-same nowhere = refl

-- what is held is one of the three
unfoldable rank : Held → ℕ
rank Nothing = 0
rank Name = 1
rank Route = 2

never : {A : Type 0} {i j : Held} (k : Held) → k ≡ i → k ≡ j → (rank i ≡ rank j → ⊥) → A
never k e f h = absurd (h (ap rank (sym e ∙ f)))

-- a part looked for and found, or lost there
module _ (i j : ℕ) (f : Found) (n : ℕ) where
  looked-lost : unless_of (is_found f) n ≡ lost_of (followed_of i j (found_of f) n)
  unfolding unless_of lost_of followed_of found_of is_found
  looked-lost = onto f
    where
      onto : (g : Found) → unless_of (is_found g) n ≡ lost_of (followed_of i j (found_of g) n)
      onto (at m) = refl
      onto nowhere = refl

  looked-found : (m : ℕ) → (followed_of i j (found_of f) n).end ≡ Ok m → f ≡ at m
  unfolding followed_of found_of
  looked-found m = onto f
    where
      onto : (g : Found) → (followed_of i j (found_of g) n).end ≡ Ok m → g ≡ at m
      onto (at k) e = ap at (ap (λ r. result_unwrap_or r 0) e)
      onto nowhere e = absurd (true≢false (sym (ap is_ok e)))

parts-snoc : (n : ℕ) (s : Placed) (ts : List Placed) (q : List Token) → parts n q (ts ▸ s) ≡ parts n q ts ++ (record { mention = use_of_node n ((q ++ all_bytes ts) ▸ s.bytes); place = s.place } ∷ [])
unfolding parts all_bytes ◌▸◌
parts-snoc n s [] q = rw append-nil
parts-snoc n s (t ∷ ts) q = ap (λ (k : List Mentioned). record { mention = use_of_node n (q ▸ t.bytes); place = t.place } ∷ k)
    (parts-snoc n s ts (q ▸ t.bytes) ∙ ap (λ (z : List Token). parts n (q ▸ t.bytes) ts ++ (record { mention = use_of_node n (z ▸ s.bytes); place = s.place } ∷ [])) (append_assoc q (t.bytes ∷ []) (all_bytes ts)))

bytes-snoc : (s : Placed) (ts : List Placed) → all_bytes (ts ▸ s) ≡ all_bytes ts ▸ s.bytes
unfolding all_bytes ◌▸◌
bytes-snoc s [] = refl
bytes-snoc s (t ∷ ts) = ap (λ k. t.bytes ∷ k) (bytes-snoc s ts)

down-snoc : (d : Draft) (y : Token) (xs : List Token) (f : Found) → node_down d f (xs ▸ y) ≡ node_down d (node_down d f xs) (y ∷ [])
unfolding node_down ◌▸◌
down-snoc d y [] f = refl
down-snoc d y (x ∷ xs) nowhere = refl
down-snoc d y (x ∷ xs) (at m) = down-snoc d y xs (child_of d m x)

first-followed : (d : Draft) (n : ℕ) (t : Placed) (i j : ℕ) (f : Option ℕ) → i ≡ t.place → f ≡ found_of (node_up d (suc n) n t.bytes) → Followed d n (t ∷ []) (followed_of i j f i)
unfolding parts all_bytes node_of node_down in_order ◌▸◌
first-followed d n t i j f e g =
    rw (g, e) (record { lost = bad-one d (use_of_node n (t.bytes ∷ [])) t.place ∙ looked-lost t.place j (node_up d (suc n) n t.bytes) t.place; found = looked-found t.place j (node_up d (suc n) n t.bytes) t.place })

-- one part more
abbrev next_mention : ℕ → Placed → List Placed → Placed → Mentioned
next_mention n t ts s = record { mention = use_of_node n (all_bytes (t ∷ ts) ▸ s.bytes); place = s.place }

next-parts : (n : ℕ) (t : Placed) (ts : List Placed) (s : Placed) → parts n [] (t ∷ (ts ▸ s)) ≡ parts n [] (t ∷ ts) ++ (next_mention n t ts s ∷ [])
unfolding ◌▸◌
next-parts n t ts s = parts-snoc n s (t ∷ ts) []

next-bytes : (t : Placed) (ts : List Placed) (s : Placed) → all_bytes (t ∷ (ts ▸ s)) ≡ all_bytes (t ∷ ts) ▸ s.bytes
unfolding ◌▸◌
next-bytes t ts s = bytes-snoc s (t ∷ ts)

next-node : (d : Draft) (n m : ℕ) (t : Placed) (ts : List Placed) (s : Placed) → node_of d n (all_bytes (t ∷ ts)) ≡ at m → node_of d n (all_bytes (t ∷ ts) ▸ s.bytes) ≡ child_of d m s.bytes
unfolding node_of node_down all_bytes ◌▸◌
next-node d n m t ts s e = down-snoc d s.bytes (all_bytes ts) (node_up d (suc n) n t.bytes) ∙ ap (λ f. node_down d f (s.bytes ∷ [])) e

pub none : (p : Path) (m : ℕ) → p.end ≡ Ok m → lost_of p ≡ nowhere
unfolding lost_of
none p m h = rw (h, lost_of)

next-followed : (d : Draft) (n : ℕ) (t : Placed) (ts : List Placed) (s : Placed) (i j m a : ℕ) (f : Option ℕ) → bad_mention d (parts n [] (t ∷ ts)) ≡ nowhere → node_of d n (all_bytes (t ∷ ts)) ≡ at m → f ≡ found_of (child_of d m s.bytes) → a ≡ s.place → Followed d n (t ∷ (ts ▸ s)) (followed_of i j f a)
unfolding in_order
next-followed d n t ts s i j m a f o e k pl =
    rw (k, pl)
    (record {
      lost =
          ap (bad_mention d) (next-parts n t ts s) ∙ bad-later d (parts n [] (t ∷ ts)) (next_mention n t ts s ∷ []) o
          ∙ bad-one d (use_of_node n (all_bytes (t ∷ ts) ▸ s.bytes)) s.place
          ∙ ap (λ z. unless_of (is_found z) s.place) (next-node d n m t ts s e) ∙ looked-lost i j (child_of d m s.bytes) s.place;
      found = λ v z. ap (node_of d n) (next-bytes t ts s) ∙ next-node d n m t ts s e ∙ looked-found i j (child_of d m s.bytes) s.place v z;
    })

module _ (u : List ℕ) (d : Draft) where
  pub first_one : (n : ℕ) (p : Path) (f : Option ℕ) → p.held ≡ Name → f ≡ found_of (node_up d (suc n) n (piece u p.from p.to)) → FirstPart u d n p (followed_of p.from p.to f p.from)
  unfolding FirstPart PathIs parts followed_of rank
  first_one n p f h e = (λ z. never p.held z h (λ y. omega arith), onto)
    where
      onto : (t : Placed) (ts : List Placed) → PathIs u d n (t ∷ ts) p → Whole u d n t ts (followed_of p.from p.to f p.from)
      onto t ts (inl (nm, pl, k, v)) =
          let g : f ≡ found_of (node_up d (suc n) n t.bytes) = e ∙ ap (λ x. found_of (node_up d (suc n) n x)) nm in
          rw v (record { name = nm; place = pl; held = refl; followed = first-followed d n t p.from p.to f pl g })
      onto t ts (inr w) = never p.held w.held h (λ y. omega arith)

  pub first-keep : (n : ℕ) (p : Path) → (p.held ≡ Name → ⊥) → FirstPart u d n p p
  unfolding FirstPart PathIs
  first-keep n p h = (λ z. z, onto)
    where
      onto : (t : Placed) (ts : List Placed) → PathIs u d n (t ∷ ts) p → Whole u d n t ts p
      onto t ts (inl (nm, pl, k, v)) = absurd (h k)
      onto t ts (inr w) = w

  pub next-lost : (p : Path) (a e k : ℕ) → p.end ≡ Err k → NextPart u d p a e p
  unfolding NextPart lost_of
  next-lost p a e k h n t ts s w nm pl =
      record {
        name = w.name;
        place = w.place;
        held = w.held;
        followed = record {
          lost = ap (bad_mention d) (next-parts n t ts s) ∙ (bad-stays d (parts n [] (t ∷ ts)) (next_mention n t ts s ∷ []) k (w.followed.lost ∙ rw (h, lost_of)) ∙ rw (h, lost_of));
          found = λ v z. absurd (true≢false (ap is_ok (sym z ∙ h)));
        };
      }

  pub next-on : (p : Path) (a e v : ℕ) (f : Option ℕ) → p.end ≡ Ok v → f ≡ found_of (child_of d v (piece u a e)) → NextPart u d p a e (followed_of p.from p.to f a)
  unfolding NextPart lost_of followed_of
  next-on p a e v f h g n t ts s w nm pl =
      let m : node_of d n (all_bytes (t ∷ ts)) ≡ at v = w.followed.found v h in
      let k : f ≡ found_of (child_of d v s.bytes) = g ∙ ap (λ x. found_of (child_of d v x)) nm in
      record { name = w.name; place = w.place; held = refl; followed = next-followed d n t ts s p.from p.to v a f (w.followed.lost ∙ none p v h) m k pl }

  -- a question, by the path once it is followed
  pub ask-none : (n : ℕ) (p q : Path) → FirstPart u d n p q → (q.held ≡ Route → ⊥) → (ts : List Placed) → PathIs u d n ts p → bad_mention d (parts n [] ts) ≡ nowhere
  unfolding FirstPart parts bad_mention
  ask-none n p q f h [] c = refl
  ask-none n p q f h (t ∷ ts) c = absurd (h (f.1 t ts c).held)

  pub ask-path : (n : ℕ) (p q : Path) → FirstPart u d n p q → q.held ≡ Route → (ts : List Placed) → PathIs u d n ts p → bad_mention d (parts n [] ts) ≡ lost_of q
  unfolding rank FirstPart PathIs
  ask-path n p q f h [] c = never q.held (f.0 c) h (λ y. omega arith)
  ask-path n p q f h (t ∷ ts) c = (f.1 t ts c).followed.lost

  pub settle-none : (n : ℕ) (p : Path) → p.held ≡ Nothing → (ts : List Placed) → PathIs u d n ts p → bad_mention d (settled_by n ts) ≡ nowhere
  unfolding rank PathIs settled_by bad_mention
  settle-none n p h [] c = refl
  settle-none n p h (t ∷ ts) (inl (nm, pl, k, v)) = never p.held k h (λ y. omega arith)
  settle-none n p h (t ∷ ts) (inr w) = never p.held w.held h (λ y. omega arith)

  settle-name : (n : ℕ) (p : Path) (t : Placed) → piece u p.from p.to ≡ t.bytes → p.from ≡ t.place → bad_mention d (record { mention = use_of_variable n t.bytes; place = t.place } ∷ []) ≡ unless_of (is_found (variable_of d n (piece u p.from p.to))) p.from
  unfolding in_order
  settle-name n p t nm pl = bad-one d (use_of_variable n t.bytes) t.place ∙ rw (nm, pl)

  pub settle-one : (n : ℕ) (p : Path) → (p.held ≡ Nothing → ⊥) → (ts : List Placed) → PathIs u d n ts p → bad_mention d (settled_by n ts) ≡ unless_of (is_found (variable_of d n (piece u p.from p.to))) p.from
  unfolding PathIs settled_by
  settle-one n p h [] c = absurd (h c)
  settle-one n p h (t ∷ ts) (inl (nm, pl, k, v)) = settle-name n p t nm pl
  settle-one n p h (t ∷ ts) (inr w) = settle-name n p t w.name w.place

-- the place where a path is lost
pub lost-at : (p : Path) → result_err p.end ≡ found_of (lost_of p)
unfolding lost_of found_of
lost-at p = onto p.end
  where
    onto : (r : Result ℕ ℕ) → result_err r ≡ found_of (elim r [ Ok n ↦ nowhere | Err k ↦ at k ])
    onto (Ok n) = refl
    onto (Err k) = refl

pub unless-true : {t : Bool} (n : ℕ) → t ≡ true → nowhere ≡ unless_of t n
unfolding unless_of
unless-true n e = rw e

pub unless-false : {t : Bool} (n : ℕ) → t ≡ false → at n ≡ unless_of t n
unfolding unless_of
unless-false n e = rw e

-- the answer's number is compared where there is one
pub first-is : (i j : ℕ) (g : Found) → Some j ≡ found_of g → eqb i j ≡ is_at i g
unfolding found_of is_at
first-is i j (at k) e = ap (λ (z : Option ℕ). eqb i (unwrap_or z 0)) e
first-is i j nowhere e = absurd (let z : ◌≡◌ {A = Bool} true false = ap is_some e in let y : ◌≡◌ {A = ℕ} 0 1 = cc in omega arith)

pub first-none : (i : ℕ) (g : Found) → None ≡ found_of g → false ≡ is_at i g
unfolding found_of is_at
first-none i nowhere e = refl
first-none i (at j) e = absurd (let z : ◌≡◌ {A = Bool} false true = ap is_some e in let y : ◌≡◌ {A = ℕ} 0 1 = cc in omega arith)

-- a path stays what it is where the node stays, and none is one anywhere
pub path-here : (u : List ℕ) (d : Draft) (n m : ℕ) (ts : List Placed) (p : Path) → (HasPath ts → m ≡ n) → PathIs u d n ts p → PathIs u d m ts p
unfolding PathIs
path-here u d n m [] p e h = h
path-here u d n m (t ∷ ts) p e h = rw (e (record { first = t; others = ts; whole = refl })) h
