-- 004's micro relation is deterministic, and it is 01's step: there is a micro step exactly where a rule applies, to the step's state.
use Prim.Native.Nat.{ℕ, zero, suc, ◌<◌, ◌≤◌}
use mathlib.Core.Path.{◌≡◌, refl, sym, ap, ◌∙◌, subst}
use mathlib.Core.Logic.{⊎_elim}
use mathlib.Core.Bool.{Bool, true, false, true≢false}
use mathlib.Core.List.{List}
use native.Mathlib.Omega.{arith}
use lib.ListN.{length, get_or}
use lib.Seq.{ext_get_or}
use lib.Dec.{ltb}
use borrow.Author.Tests.{ltb-true, ltb-false}
use Rattle.plexil.specs.declared.Cell.{Cell}
use Rattle.plexil.specs.declared.State.{State}
use Rattle.plexil.specs.declared.Place.{Place}
use Rattle.plexil.specs.declared.Move.{Move}
use Rattle.plexil.specs.declared.Move.TheVariants.{Stay, Go}
use Rattle.plexil.specs.Lists.{all_below, renew}
use Rattle.plexil.specs.Image.{Image, node_count, var_count}
use Rattle.plexil.specs.Atomic.{move_of}
use Rattle.plexil.specs.Micro.{place, outcome_after, failure_after, var_after, step, stays, quiet}
use Rattle.plexil.specs.Promises.{IsAdmitted, Sized}
use Rattle.plexil.specs.Framework.{Environment, Program, joined, program_of, place_at, cell_at, Atomic, NodeAfter, MemoryAfter, Unaffected, Micro}
use Rattle.plexil.specs.FrameworkPromises.{MicroOne, StepIsMicro}
use Rattle.plexil.proofs.ListLaws.{tested, all_below-not, renew-at}
use Rattle.plexil.proofs.RenewLaws.{length-renew, renew-past}
use Rattle.plexil.proofs.Admitted.{few-nodes, few-vars}
use Rattle.plexil.proofs.Synchrony.{stepped, node-is, node-after, memory-is, memory-after}

-- ---- the lists after a micro step: made from the step's places below the count, as before beyond it
record Made (n : ℕ) (f : ℕ → ℕ) (old l : List ℕ) : Type 0 where
  long : length l ≡ length old
  new : (k : ℕ) → k < n → get_or l k 0 ≡ f k
  past : (k : ℕ) → n ≤ k → get_or l k 0 ≡ get_or old k 0

made_one : (n : ℕ) (f : ℕ → ℕ) (old l m : List ℕ) → Made n f old l → Made n f old m → l ≡ m
made_one n f old l m a b =
    ext_get_or 0 l m (a.long ∙ sym b.long)
    (λ k within. ⊎_elim (λ t. a.new k (ltb-true k n t) ∙ sym (b.new k (ltb-true k n t)))
    (λ t. a.past k (ltb-false k n t) ∙ sym (b.past k (ltb-false k n t))) (tested (ltb k n)))

record Lists (p : Image) (s : State) (π : Program) : Type 0 where
  status : Made (node_count p) (λ i. (place p s i).status) s.status π.status
  outcome : Made (node_count p) (outcome_after p s) s.outcome π.outcome
  failure : Made (node_count p) (failure_after p s) s.failure π.failure
  mark : Made (node_count p) (λ i. (place p s i).mark) s.mark π.mark
  vartags : Made (var_count p) (λ v. (var_after p s v).tag) s.vartags π.vartags
  varbits : Made (var_count p) (λ v. (var_after p s v).bits) s.varbits π.varbits

lists_of : (p : Image) (Γ : Environment) (π π' : Program) → Micro p Γ π π' → Lists p (joined Γ π) π'
lists_of p Γ π π' m = record {
  status = record { long = m.others.status; new = λ i b. ap (λ (q : Place). q.status) (node i b); past = λ i b. ap (λ (q : Place). q.status) (m.others.places i b) };
  outcome = record { long = m.others.outcome; new = λ i b. ap (λ (q : Place). q.outcome) (node i b); past = λ i b. ap (λ (q : Place). q.outcome) (m.others.places i b) };
  failure = record { long = m.others.failure; new = λ i b. ap (λ (q : Place). q.failure) (node i b); past = λ i b. ap (λ (q : Place). q.failure) (m.others.places i b) };
  mark = record { long = m.others.mark; new = λ i b. ap (λ (q : Place). q.mark) (node i b); past = λ i b. ap (λ (q : Place). q.mark) (m.others.places i b) };
  vartags = record { long = m.others.vartags; new = λ v b. ap (λ (c : Cell). c.tag) (memory v b); past = λ v b. ap (λ (c : Cell). c.tag) (m.others.cells v b) };
  varbits = record { long = m.others.varbits; new = λ v b. ap (λ (c : Cell). c.bits) (memory v b); past = λ v b. ap (λ (c : Cell). c.bits) (m.others.cells v b) };
}
  where
    node : (i : ℕ) → i < node_count p → place_at π' i ≡ stepped p (joined Γ π) i
    node i b = node-is p Γ π i b (place_at π' i) (m.nodes i b)

    memory : (v : ℕ) → v < var_count p → cell_at π' v ≡ var_after p (joined Γ π) v
    memory v b = memory-is p Γ π v (cell_at π' v) (m.memory v b)

lists-one : (p : Image) (s : State) (a b : Program) → Lists p s a → Lists p s b → a ≡ b
lists-one p s a b x y = λ j. record {
  status = made_one _ _ _ _ _ x.status y.status j;
  outcome = made_one _ _ _ _ _ x.outcome y.outcome j;
  failure = made_one _ _ _ _ _ x.failure y.failure j;
  mark = made_one _ _ _ _ _ x.mark y.mark j;
  vartags = made_one _ _ _ _ _ x.vartags y.vartags j;
  varbits = made_one _ _ _ _ _ x.varbits y.varbits j;
}

pub micro-one : MicroOne
micro-one p Γ π a b m n = lists-one p (joined Γ π) a b (lists_of p Γ π a m) (lists_of p Γ π b n)

-- ---- the step's lists
module _ (p : Image) (s : State) (a : IsAdmitted p) (z : Sized s) where
  made_of : (n : ℕ) (f : ℕ → ℕ) (old : List ℕ) → n ≤ length old → Made n f old (renew n f old)
  made_of n f old b = record { long = length-renew n f old b; new = λ k m. renew-at n f old k 0 m; past = λ k m. renew-past n f old k 0 m }

  lists-step : Lists p s (program_of (step p s))
  unfolding step
  lists-step = record {
    status = made_of _ _ _ (rw z.status (few-nodes p a));
    outcome = made_of _ _ _ (rw z.outcome (few-nodes p a));
    failure = made_of _ _ _ (rw z.failure (few-nodes p a));
    mark = made_of _ _ _ (rw z.mark (few-nodes p a));
    vartags = made_of _ _ _ (rw z.vartags (few-vars p a));
    varbits = made_of _ _ _ (rw z.varbits (few-vars p a));
  }

-- ---- a rule applies to some node exactly where the state is not quiet
unmet : (n : ℕ) (f : ℕ → Bool) → all_below n f ≡ false → (i : ℕ) × (i < n) × (f i ≡ false)
unfolding all_below
unmet zero f h = absurd (true≢false h)
unmet (suc n) f h =
    ⊎_elim (λ (e : f n ≡ true). let x = unmet n f (rw (e, all_below) at h) in (x.0, omega (arith, x.1), x.2)) (λ e. (n, omega arith, e)) (tested (f n))

module _ (p : Image) (Γ : Environment) (π : Program) where
  moved : (i : ℕ) (m : Move) → move_of p (joined Γ π) i ≡ m → stays m ≡ false → (q : Place) × Atomic p Γ π i q
  unfolding stays
  moved i Stay e h = absurd (true≢false h)
  moved i (Go a f) e h = (_, record { status = a; effect = f; rule = e; becomes = refl })

  applies : quiet p (joined Γ π) ≡ false → (i : ℕ) × (i < node_count p) × (q : Place) × Atomic p Γ π i q
  unfolding quiet
  applies h = let x = unmet _ _ h in let y = moved x.0 _ refl x.2 in (x.0, x.1, y.0, y.1)

  pub not-quiet : (π' : Program) → Micro p Γ π π' → quiet p (joined Γ π) ≡ false
  unfolding quiet stays
  not-quiet π' m = let x = m.affected in all_below-not _ _ x.0 x.1 (ap stays x.3.rule)

  -- ---- the step is a micro step
  module _ (π' : Program) (x : Lists p (joined Γ π) π') where
    place-new : (i : ℕ) → i < node_count p → place_at π' i ≡ stepped p (joined Γ π) i
    place-new i b = λ j. record { status = x.status.new i b j; outcome = x.outcome.new i b j; failure = x.failure.new i b j; mark = x.mark.new i b j }

    cell-new : (v : ℕ) → v < var_count p → cell_at π' v ≡ var_after p (joined Γ π) v
    cell-new v b = λ j. record { tag = x.vartags.new v b j; bits = x.varbits.new v b j }

    unaffected : Unaffected p π π'
    unaffected = record {
      places = λ i b j. record { status = x.status.past i b j; outcome = x.outcome.past i b j; failure = x.failure.past i b j; mark = x.mark.past i b j };
      cells = λ v b j. record { tag = x.vartags.past v b j; bits = x.varbits.past v b j };
      status = x.status.long;
      outcome = x.outcome.long;
      failure = x.failure.long;
      mark = x.mark.long;
      vartags = x.vartags.long;
      varbits = x.varbits.long;
    }

    micro-of : quiet p (joined Γ π) ≡ false → Micro p Γ π π'
    micro-of h = record {
      affected = applies h;
      nodes = λ i b. subst (NodeAfter p Γ π i) (sym (place-new i b)) (node-after p Γ π i b);
      memory = λ v b. subst (MemoryAfter p Γ π v) (sym (cell-new v b)) (memory-after p Γ π v);
      others = unaffected;
    }

pub step-is-micro : StepIsMicro
unfolding step
step-is-micro p Γ π π' a z =
    let after = program_of (step p (joined Γ π)) in
    let made = lists-step p (joined Γ π) a z in (
      λ m. (not-quiet p Γ π π' m, ap (joined Γ) (lists-one p (joined Γ π) π' after (lists_of p Γ π π' m) made)),
      λ h. subst (Micro p Γ π) (sym (ap program_of h.1)) (micro-of p Γ π after made h.0),
    )
