-- The arrays of a state have their lengths: in the fresh state, after a step, after an event.
use Prim.Native.Nat.{ℕ, zero, suc}
use mathlib.Core.Path.{refl, ◌∙◌}
use mathlib.Core.List.{List}
use lib.ListN.{replicate, length-set}
use Rattle.plexil.specs.declared.Cell.{Cell}
use Rattle.plexil.specs.declared.State.{State}
use Rattle.plexil.specs.Image.{Image, node_count, var_count}
use Rattle.plexil.specs.Places.{fresh_state}
use Rattle.plexil.specs.Micro.{step}
use Rattle.plexil.specs.Macro.{form, with_lookup, with_mark, enter, entered, EntryForm, lookup_value, lookup_unknown, returned, no_form, form_of}
use Rattle.plexil.specs.Promises.{IsAdmitted, Sized}
use Rattle.plexil.specs.ReplyPromises.{iterate}
use Rattle.plexil.proofs.RenewLaws.{length-renew}
use Rattle.plexil.proofs.Admitted.{few-nodes, few-vars}

pub fresh-sized : (p : Image) → IsAdmitted p → Sized (fresh_state p)
unfolding fresh_state
fresh-sized p a = record {
  status = refl;
  outcome = refl;
  failure = refl;
  mark = refl;
  vartags = length-renew (var_count p) _ (replicate 128 0) (few-vars p a);
  varbits = length-renew (var_count p) _ (replicate 128 0) (few-vars p a);
  looktags = refl;
  lookbits = refl;
}

pub step-sized : (p : Image) (s : State) → IsAdmitted p → Sized s → Sized (step p s)
unfolding step
step-sized p s a z = record {
  status = length-renew (node_count p) _ s.status (rw z.status (few-nodes p a)) ∙ z.status;
  outcome = length-renew (node_count p) _ s.outcome (rw z.outcome (few-nodes p a)) ∙ z.outcome;
  failure = length-renew (node_count p) _ s.failure (rw z.failure (few-nodes p a)) ∙ z.failure;
  mark = length-renew (node_count p) _ s.mark (rw z.mark (few-nodes p a)) ∙ z.mark;
  vartags = length-renew (var_count p) _ s.vartags (rw z.vartags (few-vars p a)) ∙ z.vartags;
  varbits = length-renew (var_count p) _ s.varbits (rw z.varbits (few-vars p a)) ∙ z.varbits;
  looktags = z.looktags;
  lookbits = z.lookbits;
}

pub iterate-sized : (p : Image) (k : ℕ) (s : State) → IsAdmitted p → Sized s → Sized (iterate p k s)
unfolding iterate
iterate-sized p zero s a z = z
iterate-sized p (suc k) s a z = iterate-sized p k (step p s) a (step-sized p s a z)

-- ---- an event sets places of the lookups and the marks
lookup-sized : (s : State) (l : ℕ) (c : Cell) → Sized s → Sized (with_lookup s l c)
unfolding with_lookup
lookup-sized s l c z = record {
  status = z.status;
  outcome = z.outcome;
  failure = z.failure;
  mark = z.mark;
  vartags = z.vartags;
  varbits = z.varbits;
  looktags = length-set s.looktags l c.tag ∙ z.looktags;
  lookbits = length-set s.lookbits l c.bits ∙ z.lookbits;
}

mark-sized : (s : State) (i : ℕ) → Sized s → Sized (with_mark s i)
unfolding with_mark
mark-sized s i z = record {
  status = z.status;
  outcome = z.outcome;
  failure = z.failure;
  mark = length-set s.mark i 1 ∙ z.mark;
  vartags = z.vartags;
  varbits = z.varbits;
  looktags = z.looktags;
  lookbits = z.lookbits;
}

enter-sized : (p : Image) (b : List ℕ) (k : ℕ) (f : EntryForm) (s : State) → Sized s → Sized (enter p b k f s)
unfolding enter
enter-sized p b k lookup_value s z = lookup-sized s _ _ z
enter-sized p b k lookup_unknown s z = lookup-sized s _ _ z
enter-sized p b k returned s z = mark-sized s _ z
enter-sized p b k no_form s z = mark-sized s _ z

pub entered-sized : (p : Image) (b : List ℕ) (n : ℕ) (s : State) → Sized s → Sized (entered p b n s)
unfolding entered
entered-sized p b zero s z = z
entered-sized p b (suc n) s z = enter-sized p b n (form_of (form b n)) (entered p b n s) (entered-sized p b n s z)
