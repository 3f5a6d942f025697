-- A step of the walk: where the cursor hears a saying, the walk tells it.
use Prim.Native.Nat.{ℕ, ◌<◌, ◌≤◌}
use mathlib.Core.Path.{◌≡◌, refl, ap, sym, ◌∙◌}
use mathlib.Core.Logic.{◌⊎◌, inl, inr}
use mathlib.Core.Bool.{Bool, true, false, cond}
use mathlib.Core.List.{List, ◌∷◌}
use native.Mathlib.Omega.{arith}
use lib.ListN.{length, set, length-set}
use lib.Dec.{eqb, ltb}
use Rattle.grammar.specs.Table.{Said}
use Rattle.notation.specs.Sayings.{Saying, silence}
use Rattle.recognise.specs.declared.Cursor.{Cursor}
use Rattle.recognise.specs.Codes as Codes
use Rattle.recognise.specs.Codes.{say_of}
use Rattle.recognise.specs.Hears.{Heard}
use Rattle.recognise.specs.Tape.{Tape, Advanced, Begun}
use Rattle.names.specs.declared.walk.Walk.{Walk}
use Rattle.names.specs.Roles.{role_of, role_number, detail_of}
use Rattle.names.specs.Tale.{Tale, tell}
use Rattle.names.specs.Order.{Standing, Orderly, onward}
use Rattle.names.specs.Seek.{Shallow}
use Rattle.names.specs.Walking.{lists_no, nodes_no, depth_no, end_no, heard_of, Holds, Follows, Tells, Bounded, Walked, Over, Started}
use Rattle.names.proofs.Ordered.{plans-orderly}
use Rattle.names.proofs.ToldLaws.{not-silent}
use Rattle.names.proofs.WalkLaws.{name-by, owner-by, nodes-by, depth-by, holds_by}

silence-heard : say_of 94 ≡ silence
unfolding Codes.opened
silence-heard = refl

cond-le : {a b n : ℕ} (t : Bool) → a ≤ n → b ≤ n → cond t a b ≤ n
cond-le true h k = h
cond-le false h k = k

le-cond : {a b n : ℕ} (t : Bool) → n ≤ a → n ≤ b → n ≤ cond t a b
le-cond true h k = h
le-cond false h k = k

length-lists : (ls : List ℕ) (k n m : ℕ) → length ls ≡ 16 → length (lists_no ls k n m) ≡ 16
unfolding lists_no
length-lists ls k n m e = onto (eqb k 5) (ltb m 16)
  where
    onto : (s t : Bool) → length (cond s (cond t (set ls m n) ls) ls) ≡ 16
    onto true true = length-set ls m n ∙ e
    onto true false = e
    onto false t = e

module _ (u os ls : List ℕ) (w : Walk) (d : Cursor) (g : Advanced u os w.cursor d) where
  -- no saying was heard
  pub stopped : (d.at ≤ w.cursor.at) ⊎ (d.says ≡ 94) → Over u os ls w
  stopped s = record { none_left = λ k x l b q f. never k x l b q f s }
    where
      never : Tape u os → (x : Said Saying) (l : List (Said Saying)) (b : Tale) (q : Standing) → Follows u ls w b q (x ∷ l) → (d.at ≤ w.cursor.at) ⊎ (d.says ≡ 94) → ⊥
      never k x l b q f (inl e) = let z : w.cursor.at < d.at = (g.more k x l f.hears).2 in omega arith
      never k x l b q f (inr e) = elim f.orderly [ onward h i o ↦ not-silent x.what h (sym (g.more k x l f.hears).0.what ∙ ap say_of e ∙ silence-heard) ]

  -- a saying was heard
  abbrev role_heard : ℕ
  role_heard = role_number (role_of (say_of d.says))

  tells : Tape u os → (x : Said Saying) (l : List (Said Saying)) (b : Tale) (q : Standing) → Follows u ls w b q (x ∷ l) → Shallow (tell x b).levels → Tells u (heard_of ls w d) b x
  unfolding heard_of tell
  tells k x l b q f h =
      let p : Heard u d x = (g.more k x l f.hears).0 in
      record {
        role = rw p.what;
        says = p.what;
        name = rw p.what (name-by (role_of x.what) u d.from d.to x.token.bytes p.bytes);
        place = p.place;
        owner = rw (p.what, f.nodes, f.depth) (owner-by ls b (detail_of x.what x.token.bytes) x.token f.holds (role_of x.what) h);
      }

  follows : Tape u os → (x : Said Saying) (l : List (Said Saying)) (b : Tale) (q : Standing) → Follows u ls w b q (x ∷ l) → (t : Standing) → Orderly t l → Follows u (lists_no ls role_heard w.nodes w.depth) (heard_of ls w d) (tell x b) t l
  unfolding heard_of tell
  follows k x l b q f t o =
      let p : Heard u d x = (g.more k x l f.hears).0 in
      let n : ℕ = detail_of x.what x.token.bytes in
      record {
        hears = (g.more k x l f.hears).1;
        orderly = o;
        nodes = rw (p.what, f.nodes) (nodes-by b n x.token (role_of x.what));
        depth = rw (p.what, f.depth) (depth-by b n x.token (role_of x.what));
        room = length-lists ls role_heard w.nodes w.depth f.room;
        holds = rw (p.what, f.nodes, f.depth) (holds_by ls b n x.token f.room f.holds (role_of x.what));
      }

  pub walked : w.cursor.at < d.at → (d.says ≡ 94 → ⊥) → Bounded w → d.at < 18446744073709551616 → Walked u os ls w (lists_no ls role_heard w.nodes w.depth) (heard_of ls w d)
  unfolding heard_of nodes_no depth_no end_no
  walked s v n y =
      record {
        more = λ k x l b q f h. (tells k x l b q f h, elim f.orderly [ onward {t = t} z i o ↦ (t, i, follows k x l b q f t o) ]);
        left = λ b q f. v (g.done f.hears);
        onward = s;
        bounded = record { place = y; nodes = cond-le (eqb role_heard 3) (omega arith) (cond-le (eqb role_heard 4) (omega arith) (omega arith)); depth = cond-le (eqb role_heard 5) (omega arith) (cond-le (eqb role_heard 6) (omega arith) (omega arith)) };
        ordered = le-cond (eqb role_heard 4) (omega arith) g.ordered;
        within = cond-le (eqb role_heard 4) (omega (arith, g.ordered, g.within)) g.within;
      }

pub begun : (os : List ℕ) (c : Cursor) → Begun os c → c.at < 18446744073709551616 → Started os (record { cursor = c; role = 15; «from» = 0; to = 0; owner = 0; nodes = 0; depth = 0 })
unfolding Begun Holds
begun os c h y = record { follows = λ u ls l r e k. record { hears = h u l e k; orderly = plans-orderly u l e; nodes = refl; depth = refl; room = r; holds = tt }; bounded = record { place = y; nodes = omega arith; depth = omega arith } }
