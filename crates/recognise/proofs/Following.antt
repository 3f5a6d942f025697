-- What the loop over a text's tokens keeps: what is to come, what has been heard, the counts, and how far the text is viable from here.
use Prim.Native.Nat.{ℕ, ◌<◌, ◌≤◌}
use mathlib.Core.Path.{◌≡◌, refl, ◌∙◌, sym, ap, subst, subst⁻¹}
use mathlib.Core.Bool.{true, false}
use mathlib.Core.List.{List, [], ◌∷◌, ◌++◌, append_assoc}
use mathlib.Core.Option.{Option, none, some}
use native.Mathlib.Omega.{arith}
use native.Mathlib.Nat.{zero-add}
use lib.ListN.{length}
use lib.Seq.{slice}
use Rattle.grammar.specs.Spelling.{Placed}
use Rattle.grammar.specs.Table.{Item, sort, Row, Said, rows_of, choose_of, on_said}
use Rattle.grammar.specs.Scan.{token_in, says_from, reach_from}
use Rattle.grammar.proofs.TokenAt.{token-at}
use Rattle.grammar.proofs.SaysFrom.{says-token, says-whole}
use Rattle.grammar.proofs.ReachFrom.{reach-token}
use Rattle.notation.specs.Sayings.{Saying}
use Rattle.notation.specs.Rows.{Sort, plan, notation}
use Rattle.notation.specs.Classes.{class_of, pick_class}
use Rattle.notation.specs.Draft.{blank}
use Rattle.notation.specs.Hearing.{hear_all}
use Rattle.notation.specs.Names.{is_found, too_deep}
use Rattle.notation.specs.Reading.{plan_says, text_reach}
use Rattle.recognise.specs.Recognised.{place_of}
use Rattle.notation.proofs.Classes.{choose-class}
use Rattle.notation.proofs.Spoken.{hear-append}
use Rattle.recognise.specs.declared.Ahead.{Ahead}
use Rattle.recognise.specs.declared.taking.Taken.{Taken}
use Rattle.recognise.specs.declared.Counts.{Counts}
use Rattle.recognise.specs.Codes.{say_of}
use Rattle.recognise.specs.Positions as Positions
use Rattle.recognise.specs.Steps.{step_of, start_ahead}
use Rattle.recognise.specs.Hears as Hears
use Rattle.recognise.specs.Hears.{Stands}
use Rattle.recognise.specs.Counting.{flagged, count_of}
use Rattle.recognise.proofs.ClassSmall.{class-below}
use Rattle.recognise.proofs.ItemsKnown.{first-known}
use Rattle.recognise.proofs.Standing.{unmarked-marks}
use Rattle.recognise.proofs.Stepping.{Right, step_right, step-ends}
use Rattle.recognise.proofs.Takings.{One}
use Rattle.recognise.proofs.Hearings.{Near, step-near}
use Rattle.recognise.proofs.Advances.{token_said}
use Rattle.recognise.proofs.CountLaws.{counts_of, pending_weight, holding}
use Rattle.recognise.proofs.CountHear.{count-hear}
use Rattle.recognise.proofs.CountFew.{Few, few-more}

-- after what has been heard
unfoldable pub after_heard : List (Said Saying) → Option (List (Said Saying)) → Option (List (Said Saying))
after_heard k none = none
after_heard k (some l) = some (k ++ l)

heard-nothing : (o : Option (List (Said Saying))) → o ≡ after_heard [] o
unfolding after_heard
heard-nothing none = refl
heard-nothing (some l) = refl

heard-more : (k : List (Said Saying)) (w : Said Saying) (o : Option (List (Said Saying))) → after_heard k (after_heard (w ∷ []) o) ≡ after_heard (k ++ (w ∷ [])) o
unfolding after_heard
heard-more k w none = refl
heard-more k w (some l) = ap some (sym (append_assoc k (w ∷ []) l))

said-heard : (t : Placed) (r : Row Sort Saying) (o : Option (List (Said Saying))) → on_said notation t (some r) (λ q. o) ≡ after_heard (record { what = r.says; token = t } ∷ []) o
unfolding on_said after_heard
said-heard t r none = refl
said-heard t r (some l) = refl

pub record Following (u : List ℕ) (n : ℕ) (a : Ahead) (c : Counts) : Type 0 where
  pub inside : n ≤ length u
  pub items : List (Item Sort)
  pub stands : Stands a items
  pub few_parens : a.parens ≤ n
  pub few_lists : a.lists ≤ n
  pub heard : List (Said Saying)
  pub reaches : text_reach u ≡ reach_from notation items u n
  pub says : plan_says u ≡ after_heard heard (says_from notation items u n)
  pub counts : c ≡ counts_of (hear_all heard blank)
  pub few : Few n c

abbrev pub no_counts : Counts
no_counts = record { nodes = 0; entries = 0; variables = 0; lookups = 0; commands = 0; depth = 0; held = false; deep = false; place = 0 }

pub follow-begin : (u : List ℕ) → Following u 0 start_ahead no_counts
unfolding Hears.opened Positions.opened flagged text_reach plan_says reach_from counts_of hear_all pending_weight holding too_deep is_found place_of
follow-begin u = record {
  inside = omega arith;
  items = sort plan ∷ [];
  stands = record { known = omega arith; had = []; marked = unmarked-marks; items = refl };
  few_parens = omega arith;
  few_lists = omega arith;
  heard = [];
  reaches = sym (zero-add _);
  says = sym (says-whole notation (sort plan ∷ []) u) ∙ heard-nothing (says_from notation (sort plan ∷ []) u 0);
  counts = refl;
  few = record { nodes = omega arith; entries = omega arith; variables = omega arith; lookups = omega arith; commands = omega arith; depth = omega arith };
}

pub begin-heard : (u : List ℕ) → (follow-begin u).heard ≡ []
unfolding follow-begin
begin-heard u = refl

module _ (u : List ℕ) (small : length u < 18446744073709551616) (n : ℕ) (a : Ahead) (c : Counts) (g : Following u n a c) (r : Taken) (one : One u n a r) where
  abbrev k : ℕ
  k = class_of (slice r.from r.to u)

  -- the token has been followed: it is heard after what has been heard
  pub record Followed (d : Counts) : Type 0 where
    pub on : Following u r.to r.next d
    pub more : on.heard ≡ g.heard ++ (token_said u r ∷ [])

  count-more : (l : List (Said Saying)) (x : Saying) → x ≡ say_of r.says → c ≡ counts_of (hear_all l blank)
      → count_of (say_of r.says) r.from c ≡ counts_of (hear_all (l ++ (record { what = x; token = token_in u r.from r.to } ∷ [])) blank)
  unfolding hear_all token_in
  count-more l x e h =
      let t = token_in u r.from r.to in
      ap (λ (y : Saying). count_of y r.from c) (sym e) ∙ ap (count_of x r.from) h ∙ sym (count-hear x t (hear_all l blank)) ∙ ap counts_of (sym (hear-append l (record { what = x; token = t } ∷ []) blank))

  follow-row : (i : Item Sort) (s : List (Item Sort)) (o : Option (Row Sort Saying)) → choose_of notation i (slice r.from r.to u) ≡ o → Right o s (step_of a k)
      → text_reach u ≡ reach_from notation (i ∷ s) u n → plan_says u ≡ after_heard g.heard (says_from notation (i ∷ s) u n)
      → Followed (count_of (say_of r.says) r.from c)
  unfolding on_said
  follow-row i s none e f x y = absurd (let z : true ≡ false = sym one.step_ok ∙ f in let q : ◌≡◌ {A = ℕ} 0 1 = cc in omega arith)
  follow-row i s (some o) e f x y =
      let h = one.next-token in
      let t = token-at u n r.from r.to h in
      let w : Said Saying = record { what = o.says; token = token_in u r.from r.to } in
      let near : Near a r.next = subst (Near a) one.step-next (step-near a k) in
      let same : o.says ≡ say_of r.says = sym f.1 ∙ ap say_of one.step-says in
      record {
        on = record {
          inside = t.high;
          items = o.rest ++ s;
          stands = subst (λ (b : Ahead). Stands b (o.rest ++ s)) one.step-next f.2;
          few_parens = omega (arith, t.low, t.some, near.parens, g.few_parens);
          few_lists = omega (arith, t.low, t.some, near.lists, g.few_lists);
          heard = g.heard ++ (w ∷ []);
          reaches = x ∙ reach-token notation u n r.from r.to h i s o e;
          says =
              y
              ∙ ap (after_heard g.heard)
              (says-token notation u n i s r.from r.to h
              ∙ ap (λ (q : Option (Row Sort Saying)). on_said notation (token_in u r.from r.to) q (λ z. says_from notation (z.rest ++ s) u r.to)) e
              ∙ said-heard (token_in u r.from r.to) o (says_from notation (o.rest ++ s) u r.to))
              ∙ heard-more g.heard w (says_from notation (o.rest ++ s) u r.to);
          counts = count-more g.heard o.says same g.counts;
          few = few-more n r.to (say_of r.says) r.from c (omega (arith, t.low, t.some)) g.few;
        };
        more = ap (λ (x : Saying). g.heard ++ (record { what = x; token = token_in u r.from r.to } ∷ [])) same;
      }

  follow-by : (s : List (Item Sort)) → Stands a s → text_reach u ≡ reach_from notation s u n → plan_says u ≡ after_heard g.heard (says_from notation s u n)
      → Followed (count_of (say_of r.says) r.from c)
  follow-by [] w x y =
      let t = token-at u n r.from r.to one.next-token in
      absurd (let z : true ≡ false = sym one.step_ok ∙ step-ends a k (class-below (slice r.from r.to u)) (omega (arith, t.low, t.some, t.high, g.few_parens)) (omega (arith, t.low, t.some, t.high, g.few_lists)) w in
      let q : ◌≡◌ {A = ℕ} 0 1 = cc in omega arith)
  follow-by (i ∷ s) w x y =
      let t = token-at u n r.from r.to one.next-token in
      follow-row i s (pick_class (rows_of notation i) k) (choose-class i (slice r.from r.to u) (first-known a i s w) t.is_whole)
      (step_right a k (class-below (slice r.from r.to u)) (omega (arith, t.low, t.some, t.high, g.few_parens)) (omega (arith, t.low, t.some, t.high, g.few_lists)) i s w)
      x y

  pub follow-on : Followed (count_of (say_of r.says) r.from c)
  follow-on = follow-by g.items g.stands g.reaches g.says

  pub follow-counted : {d : Counts} → d ≡ count_of (say_of r.says) r.from c → Followed d
  follow-counted e = subst⁻¹ Followed e follow-on
