-- Of a text of the notation, each condition and value of a node is the last entry of an expression of that node.
use Prim.Native.Nat.{ℕ}
use mathlib.Core.Path.{◌≡◌, refl, sym, ◌∙◌, ap, subst}
use mathlib.Core.Logic.{inl}
use mathlib.Core.List.{List, [], ◌∷◌, ◌++◌, append-nil}
use native.Mathlib.Omega.{arith}
use lib.ListN.{length}
use Rattle.grammar.specs.Spelling.{Token, Placed}
use Rattle.grammar.specs.Leads.{value_from}
use Rattle.grammar.specs.Table.{Said}
use Rattle.notation.specs.Sayings.{Saying, declares_command, numbers_command, declares_lookup, opens_list, closes_list, calls, assigns, conditions, ranks, declares_variable, ends}
use Rattle.notation.specs.Draft.{Entry, Draft, Body, Slot, blank, with_slot, with_body, with_priority}
use Rattle.notation.specs.Hearing.{at_last, last, here, no_conditions, end_operators, settled, into_slot, on_node, mentioning, next_node, on_variable, hear, hear_all}
use Rattle.notation.specs.Phrases as Phrases
use Rattle.notation.specs.Phrases.{Sayings, Expression, Initial, Opening, Attributes, Nodes, Plan}
use Rattle.notation.proofs.Parts.{PendingFine, Over, all, none, waiting_none}
use Rattle.notation.proofs.Scoped.{Mid, Full, ended_mid, said-as, chain-full}
use Rattle.notation.proofs.NodesGood.{Scoped, GivenGood, ValueGood, NodesGood, nodes-on, nodes-add, nodes-last, last-twice, length_last, set-good}

-- ---- an expression, and where its entry goes
pub record Ended (o d : Draft) : Type 0 where
  pub entry : ℕ
  pub more : List Entry
  pub grows : d.entries ≡ o.entries ++ more
  pub scoped : Scoped d.entries (here o) entry
  pub nodes : d.nodes ≡ at_last (into_slot o.slot entry) o.nodes
  pub pending : d.pending ≡ []
  pub held : d.held ≡ []

start : (d : Draft) → d.pending ≡ [] → d.held ≡ [] → Mid (length d.entries) [] d d
start d p h = record {
  part = λ j l m. absurd (omega arith);
  low = omega arith;
  pend = subst (PendingFine (length d.entries) (length d.entries)) (sym p) tt;
  over = subst (Over []) (sym p) none;
  nodes = refl;
  slot = refl;
  held = h;
  more = [];
  grows = sym (append-nil d.entries);
}

end-told : (o : Draft) (t : Placed) (d : Draft) → Full (length o.entries) [] o d → Ended o (hear ends t d)
unfolding hear on_node last
end-told o t d f =
    let x = ended_mid (length o.entries) o 0 [] d all f in
    let m = x.0 in
    let es = (end_operators 0 (settled d)).entries in
    record {
      entry = last es;
      more = m.more;
      grows = m.grows;
      scoped = record { begin = length o.entries; low = omega (arith, x.1); high = omega (arith, x.1); fine = λ j l h. m.part j l (omega (arith, x.1)) };
      nodes = ap (λ s. at_last (into_slot s (last es)) (end_operators 0 (settled d)).nodes) m.slot ∙ ap (at_last (into_slot o.slot (last es))) m.nodes;
      pending = unfold end_operators in waiting_none [] all f.mid.over;
      held = m.held;
    }

expression-told : {l k : Sayings} → Expression l k → (d : Draft) → d.pending ≡ [] → d.held ≡ [] → (e : Draft) × (hear_all l d ≡ hear_all k e) × Ended d e
expression-told (Expression.ended {w = w} {k = k} c s) d p h =
    let x = chain-full (length d.entries) d c [] all d (start d p h) in
    (hear ends w.token x.0, x.1 ∙ said-as (length d.entries) d w ends k x.0 s, end-told d w.token x.0 x.2)

-- ---- nodes
-- all nodes are good, and no expression is under way
pub record Out (d : Draft) : Type 0 where
  pub good : NodesGood d.entries 0 d.nodes
  pub pending : d.pending ≡ []
  pub held : d.held ≡ []

condition-out : (i : ℕ) (d e : Draft) → Out d → Ended (with_slot (Slot.condition i) d) e → Out e
unfolding into_slot
condition-out i d e s x = record {
  good = subst (NodesGood e.entries 0) (sym x.nodes)
      (nodes-last e.entries (into_slot (Slot.condition i) x.entry) 0 d.nodes
      (λ j n q g v. (set-good e.entries j n.given i x.entry (subst (λ h. Scoped e.entries h x.entry) (omega (arith, q)) x.scoped) g, v))
      (subst (λ es. NodesGood es 0 d.nodes) (sym x.grows) (nodes-on d.entries x.more 0 d.nodes s.good)));
  pending = x.pending;
  held = x.held;
}

value_out : (y : Token) (t : Placed) (d e : Draft) → Out d → Ended (hear assigns t d) e → Out e
unfolding hear mentioning on_node into_slot last
value_out y t d e s x = record {
  good = subst (NodesGood e.entries 0) (sym (x.nodes ∙ last-twice (into_slot Slot.value x.entry) (with_body (Body.assignment t.bytes 0)) d.nodes))
      (nodes-last e.entries (λ n. into_slot Slot.value x.entry (with_body (Body.assignment t.bytes 0) n)) 0 d.nodes
      (λ j n q g v. (g, subst (λ h. Scoped e.entries h x.entry) (omega (arith, q, length_last (with_body (Body.assignment t.bytes 0)) d.nodes)) x.scoped))
      (subst (λ es. NodesGood es 0 d.nodes) (sym x.grows) (nodes-on d.entries x.more 0 d.nodes s.good)));
  pending = x.pending;
  held = x.held;
}

initial-out : (x : Saying) → Initial x → (t : Placed) (d : Draft) → Out d → Out (hear x t d)
unfolding hear on_variable
initial-out x (Initial.is-truth b) t d s = record { good = s.good; pending = s.pending; held = s.held }
initial-out x (Initial.is_whole b) t d s = record { good = s.good; pending = s.pending; held = s.held }
initial-out x (Initial.is-decimal b) t d s = record { good = s.good; pending = s.pending; held = s.held }
initial-out x (Initial.is-bits b) t d s = record { good = s.good; pending = s.pending; held = s.held }

fresh-good : (es : List Entry) (j : ℕ) → GivenGood es j no_conditions × ValueGood es j Body.list
fresh-good es j = ((inl refl, (inl refl, (inl refl, (inl refl, (inl refl, (inl refl, (inl refl, tt))))))), tt)

opening-out : (x : Saying) → Opening x → (t : Placed) (d : Draft) → Out d → Out (hear x t d)
unfolding hear mentioning next_node
opening-out x Opening.named t d s = record { good = nodes-add d.entries 0 d.nodes _ (fresh-good d.entries) s.good; pending = s.pending; held = s.held }
opening-out x Opening.unnamed t d s = record { good = nodes-add d.entries 0 d.nodes _ (fresh-good d.entries) s.good; pending = s.pending; held = s.held }

-- one token, by what it says
said : (w : Said Saying) (x : Saying) (k : Sayings) (d : Draft) → w.what ≡ x → hear_all (w ∷ k) d ≡ hear_all k (hear x w.token d)
unfolding hear_all
said w x k d e = ap (λ y. hear_all k (hear y w.token d)) e

abbrev Told : Sayings → Sayings → Draft → Type 0
Told l k d = (e : Draft) × (hear_all l d ≡ hear_all k e) × Out e

mutual
  unfolding hear_all hear mentioning on_node

  node-told : {l k : Sayings} → Phrases.Node l k → (d : Draft) → Out d → Told l k d
  node-told (Phrases.Node.node {w = w} o a) d s = attributes-told a (hear w.what w.token d) (opening-out w.what o w.token d s)

  attributes-told : {l k : Sayings} → Attributes l k → (d : Draft) → Out d → Told l k d
  attributes-told (Attributes.condition {w = w} {l = l} i e p a) d s =
      let x = expression-told p (with_slot (Slot.condition i) d) s.pending s.held in
      let r = attributes-told a x.0 (condition-out i d x.0 s x.2) in
      (r.0, said w (conditions i) l d e ∙ x.1 ∙ r.1, r.2)
  attributes-told (Attributes.rank {w = w} {l = l} e a) d s =
      let r = attributes-told a (hear ranks w.token d) (record { good = nodes-last d.entries (with_priority (value_from 0 w.token.bytes)) 0 d.nodes (λ j n q g v. (g, v)) s.good; pending = s.pending; held = s.held }) in
      (r.0, said w ranks l d e ∙ r.1, r.2)
  attributes-told (Attributes.variable {w = w} {l = l} k e a) d s =
      let r = attributes-told a (hear (declares_variable k) w.token d) (record { good = s.good; pending = s.pending; held = s.held }) in
      (r.0, said w (declares_variable k) l d e ∙ r.1, r.2)
  attributes-told (Attributes.initial {w = w} i a) d s = attributes-told a (hear w.what w.token d) (initial-out w.what i w.token d s)
  attributes-told (Attributes.list {w = w} {l = l} e n) d s =
      let r = nodes-told n (hear opens_list w.token d) (record { good = s.good; pending = s.pending; held = s.held }) in
      (r.0, said w opens_list l d e ∙ r.1, r.2)
  attributes-told (Attributes.command {w = w} {k = k} e) d s =
      (hear calls w.token d, said w calls k d e, record { good = nodes-last d.entries (with_body (Body.command w.token.bytes)) 0 d.nodes (λ j n q g v. (g, tt)) s.good; pending = s.pending; held = s.held })
  attributes-told (Attributes.assignment {w = w} {l = l} e p) d s =
      let x = expression-told p (hear assigns w.token d) s.pending s.held in
      (x.0, said w assigns l d e ∙ x.1, value_out w.token.bytes w.token d x.0 s x.2)

  nodes-told : {l k : Sayings} → Nodes l k → (d : Draft) → Out d → Told l k d
  nodes-told (Nodes.closed {w = w} {k = k} e) d s = (hear closes_list w.token d, said w closes_list k d e, record { good = s.good; pending = s.pending; held = s.held })
  nodes-told (Nodes.also n ns) d s =
      let x = node-told n d s in
      let r = nodes-told ns x.0 x.2 in
      (r.0, x.1 ∙ r.1, r.2)

plan-told : {l : Sayings} → Plan l → (d : Draft) → Out d → Out (hear_all l d)
unfolding hear_all hear mentioning
plan-told (Plan.root n) d s = let x = node-told n d s in subst Out (sym x.1) x.2
plan-told (Plan.lookup {w = w} {l = l} k e p) d s =
    subst Out (sym (said w (declares_lookup k) l d e)) (plan-told p (hear (declares_lookup k) w.token d) (record { good = s.good; pending = s.pending; held = s.held }))
plan-told (Plan.command {w = w} {v = v} {l = l} e f p) d s =
    subst Out (sym (said w declares_command (v ∷ l) d e ∙ said v numbers_command l (hear declares_command w.token d) f))
    (plan-told p (hear numbers_command v.token (hear declares_command w.token d)) (record { good = s.good; pending = s.pending; held = s.held }))

pub plan-good : (l : Sayings) → Plan l → NodesGood (hear_all l blank).entries 0 (hear_all l blank).nodes
plan-good l p = (plan-told p blank (record { good = tt; pending = refl; held = refl })).good
