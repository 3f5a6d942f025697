-- Promise 6: a walk over any list that names each node once, settled, is the definition's next state.
use Prim.Native.Nat.{ℕ, ◌≤◌, ◌<◌}
use mathlib.Core.Path.{◌≡◌, refl, sym, ap, ◌∙◌}
use mathlib.Core.Logic.{⊎_elim}
use mathlib.Core.Bool.{Bool, true, not, not-not}
use mathlib.Core.List.{[], ◌∷◌}
use native.Mathlib.Omega.{arith}
use lib.ListN.{get_or}
use lib.Dec.{eqb, ltb}
use borrow.Author.Tests.{ltb-true}
use Rattle.plexil.specs.declared.Cell.{Cell}
use Rattle.plexil.specs.declared.State.{State}
use Rattle.plexil.specs.declared.Place.{Place}
use Rattle.plexil.specs.Lists.{when◌then◌else◌, every}
use Rattle.plexil.specs.Image.{Image, node_count, var_count, owner}
use Rattle.plexil.specs.Places.{initial, var_cell, Failure, WriteLost}
use Rattle.plexil.specs.Records.{is_writer, target, good_what, good_node}
use Rattle.plexil.specs.Atomic.{move_of}
use Rattle.plexil.specs.Micro.{writes, loses, place, outcome_after, failure_after, enters_waiting, unwritten, var_after, step}
use Rattle.plexil.specs.Order.{Carry, carry_nothing, walk, leads, lost, entered_waiting, settled_var, settle}
use Rattle.plexil.specs.Promises.{IsAdmitted, Sized, AnyOrder}
use Rattle.plexil.proofs.ListLaws.{tested, every-at, every-cons, every-stop, every_one, some-cons, some_one}
use Rattle.plexil.proofs.RenewLaws.{is-renew, renew-same}
use Rattle.plexil.proofs.Admitted.{few-nodes, few-vars, owner-below, good-node}
use Rattle.plexil.proofs.Landing.{not-list, not-command, entered_by, entered-is}
use Rattle.plexil.proofs.Visit.{place_at, wrote_at, best_at}
use Rattle.plexil.proofs.Settling.{met-leads, met-settles}
use Rattle.plexil.proofs.Walk.{count-nil, Walked, walked}

-- what the walk asks of a plan: nodes, variables and their owners within the arrays
pub record Fits (p : Image) : Type 0 where
  pub nodes : node_count p ≤ 256
  pub variables : var_count p ≤ 128
  pub targets : (i : ℕ) → i < node_count p → is_writer p i ≡ true → target p i < 128
  pub owners : (v : ℕ) → v < var_count p → owner p v < node_count p

module _ (p : Image) (s : State) (ok : Fits p) (z : Sized s) (c : Carry) (k : Walked p s [] c) where
  place_is : (i : ℕ) → i < node_count p → place_at c i ≡ place p s i
  place_is i b = k.done i b (count-nil i)

  -- ---- the losers
  wrote-writes : (i : ℕ) → i < node_count p → wrote_at c i ≡ writes p s i
  wrote-writes i b = k.told i b (count-nil i)

  leads_keeps : (i : ℕ) → i < node_count p → writes p s i ≡ true → leads p c i ≡ not (loses p s i)
  unfolding leads writes
  leads_keeps i b w =
      met-leads p s (target p i) _ count-nil (best_at c (target p i)) i (record { within = b; target = refl; writing = w })
      (k.met (target p i) (ok.targets i b (every-at _ 0 w)))

  lost-loses : (i : ℕ) → i < node_count p → lost p c i ≡ loses p s i
  unfolding lost loses
  lost-loses i b =
      ⊎_elim
      (λ w. every-cons _ _ (wrote-writes i b ∙ w) ∙ every_one _ ∙ ap not (leads_keeps i b w) ∙ not-not _)
      (λ w. every-stop _ _ (wrote-writes i b ∙ w) ∙ sym (every-stop _ _ w))
      (tested (writes p s i))

  -- ---- the variables
  waiting-enters : (i : ℕ) → i < node_count p → entered_waiting s c i ≡ enters_waiting (move_of p s i)
  unfolding entered_waiting
  waiting-enters i b = ap (entered_by s i) (place_is i b) ∙ entered-is p s i

  settled-after : (v : ℕ) → v < var_count p → settled_var p s c v ≡ var_after p s v
  unfolding settled_var unwritten
  settled-after v b =
      ap (λ (t : Bool). when every (ltb 0 (best_at c v).top ∷ eqb (best_at c v).tied 0 ∷ []) then (best_at c v).value else when t then initial p v else var_cell s v)
      (waiting-enters (owner p v) (ok.owners v b))
      ∙ met-settles p s v _ count-nil (best_at c v) (k.met v (omega (arith, ok.variables)))

  -- ---- the whole state
  outcome-after : (i : ℕ) → i < node_count p → (when lost p c i then Failure else get_or c.outcome i 0) ≡ outcome_after p s i
  unfolding outcome_after
  outcome-after i b = λ j. when lost-loses i b j then Failure else (place_is i b j).outcome

  failure-after : (i : ℕ) → i < node_count p → (when lost p c i then WriteLost else get_or c.failure i 0) ≡ failure_after p s i
  unfolding failure_after
  failure-after i b = λ j. when lost-loses i b j then WriteLost else (place_is i b j).failure

  settle_step : settle p s c ≡ step p s
  unfolding settle step carry_nothing
  settle_step = λ j. record {
    status = is-renew (node_count p) (λ i. (place p s i).status) c.status s.status 0 (k.lengths.status ∙ sym z.status) (rw z.status ok.nodes)
        (λ i b. ap (λ (r : Place). r.status) (place_is i b)) (λ i b. ap (λ (r : Place). r.status) (k.past i b)) j;
    outcome = renew-same (node_count p) _ (outcome_after p s) c.outcome s.outcome 0 (k.lengths.outcome ∙ sym z.outcome) (rw z.outcome ok.nodes)
        outcome-after (λ i b. ap (λ (r : Place). r.outcome) (k.past i b)) j;
    failure = renew-same (node_count p) _ (failure_after p s) c.failure s.failure 0 (k.lengths.failure ∙ sym z.failure) (rw z.failure ok.nodes)
        failure-after (λ i b. ap (λ (r : Place). r.failure) (k.past i b)) j;
    mark = is-renew (node_count p) (λ i. (place p s i).mark) c.mark s.mark 0 (k.lengths.mark ∙ sym z.mark) (rw z.mark ok.nodes)
        (λ i b. ap (λ (r : Place). r.mark) (place_is i b)) (λ i b. ap (λ (r : Place). r.mark) (k.past i b)) j;
    vartags = renew-same (var_count p) _ (λ v. (var_after p s v).tag) s.vartags s.vartags 0 refl (rw z.vartags ok.variables)
        (λ v b. ap (λ (x : Cell). x.tag) (settled-after v b)) (λ v b. refl) j;
    varbits = renew-same (var_count p) _ (λ v. (var_after p s v).bits) s.varbits s.varbits 0 refl (rw z.varbits ok.variables)
        (λ v b. ap (λ (x : Cell). x.bits) (settled-after v b)) (λ v b. refl) j;
    looktags = s.looktags;
    lookbits = s.lookbits;
  }

-- the stronger form: the plan need not be admitted
pub any-order-of : (p : Image) (s : State) → Fits p → Sized s → AnyOrder p s
any-order-of p s ok z order h = settle_step p s ok z (walk p s order (carry_nothing s)) (walked p s ok.nodes order h z)

-- ---- an admitted plan
target_below : (p : Image) → IsAdmitted p → (i : ℕ) → i < node_count p → is_writer p i ≡ true → target p i < var_count p
unfolding good_node good_what is_writer target
target_below p a i b t =
    let good = every-at _ 1 (good-node p a i b) in
    let only = some-cons _ _ (every-stop _ _ (not-list p i t)) ∙ some-cons _ _ (every-stop _ _ (not-command p i t)) ∙ some_one _ in
    ltb-true _ _ (every-at _ 1 (sym only ∙ good))

pub fits : (p : Image) → IsAdmitted p → Fits p
fits p a = record {
  nodes = few-nodes p a;
  variables = few-vars p a;
  targets = λ i b t. omega (arith, target_below p a i b t, few-vars p a);
  owners = owner-below p a;
}

pub any-order : (p : Image) (s : State) → IsAdmitted p → Sized s → AnyOrder p s
any-order p s a = any-order-of p s (fits p a)
