-- Hearing an expression: its entries are an expression of the node that is told of, and at its end nothing is pending.
use Prim.Native.Nat.{ℕ, ◌≤◌, ◌<◌}
use mathlib.Core.Path.{◌≡◌, refl, sym, ◌∙◌, ap, subst}
use mathlib.Core.Bool.{Bool, true, false}
use mathlib.Core.List.{List, [], ◌∷◌, ◌++◌, append_assoc}
use native.Mathlib.Omega.{arith}
use lib.ListN.{length}
use Rattle.grammar.specs.Spelling.{Placed}
use Rattle.grammar.specs.Table.{Said}
use Rattle.notation.specs.Sayings.{What, Saying, Operator, mentions, descends, asks, negates, operates, parenthesis, closes}
use Rattle.notation.specs.Draft.{Entry, Mentioned, Pending, Draft, with_entries, with_pending, with_held, with_mentions}
use Rattle.notation.specs.Hearing.{◌▸◌, last, here, strength, end_operators, settle_name, settled, adding, mentioning, mention_path, all_bytes, negated, hear, hear_all}
use Rattle.notation.specs.Phrases.{Sayings, Leaf, Path, Operand, Chain}
use Rattle.notation.proofs.FormulasHeard.{path-mentions}
use Rattle.notation.proofs.Parts.{Fine, Part, PendingFine, pending-on, Grown, grown-add, grown-low, ending-grown, waiting-fine, Ground, opened, Over, none, prefixed, infixed, waiting-over, waiting_none}

-- d is a draft within an expression that began in the draft o, at entry b, with the pending operators g outside of the open parenthesis
pub record Mid (b : ℕ) (g : List Pending) (o d : Draft) : Type 0 where
  pub part : Part b (here o) d.entries
  pub low : b ≤ length d.entries
  pub pend : PendingFine b (length d.entries) d.pending
  pub over : Over g d.pending
  pub nodes : d.nodes ≡ o.nodes
  pub slot : d.slot ≡ o.slot
  pub held : d.held ≡ []
  pub more : List Entry
  pub grows : d.entries ≡ o.entries ++ more

-- an operand has been told, its name perhaps still held
pub record Full (b : ℕ) (g : List Pending) (o d : Draft) : Type 0 where
  pub mid : Mid b g o (settled d)
  pub some : b < length (settled d).entries

settled-calm : (d : Draft) → d.held ≡ [] → settled d ≡ d
unfolding settled settle_name
settled-calm d e = ap (settle_name d) e

module _ (b : ℕ) (o : Draft) where
  -- entries more
  mid-grown : (g : List Pending) (d : Draft) (es : List Entry) (ms : List Mentioned) → Grown b (here o) d.entries es → Mid b g o d → Mid b g o (with_mentions ms (with_entries es d))
  mid-grown g d es ms n m = record {
    part = n.part;
    low = omega (arith, n.some);
    pend = pending-on b (length d.entries) _ d.pending (grown-low b (here o) d.entries _ n) m.pend;
    over = m.over;
    nodes = m.nodes;
    slot = m.slot;
    held = m.held;
    more = m.more ++ n.more;
    grows = n.grows ∙ ap (λ x. x ++ n.more) m.grows ∙ append_assoc o.entries m.more n.more;
  }

  full-of : (g : List Pending) (d : Draft) → Mid b g o d → b < length d.entries → Full b g o d
  full-of g d m l = let e = settled-calm d m.held in record { mid = rw e m; some = rw e l }

  -- an entry more
  full-add : (g : List Pending) (d : Draft) (e : Entry) (ms : List Mentioned) → Fine b (here o) (length d.entries) e → Mid b g o d → Full b g o (with_mentions ms (with_entries (d.entries ▸ e) d))
  full-add g d e ms f m =
      let n = grown-add b (here o) d.entries e m.part m.low f in
      full-of g (with_mentions ms (with_entries (d.entries ▸ e) d)) (mid-grown g d (d.entries ▸ e) ms n m) n.some

  leaf-full : (x : Saying) → Leaf x → (t : Placed) (g : List Pending) (d : Draft) → Mid b g o d → Full b g o (hear x t d)
  unfolding hear adding mentioning
  leaf-full x (Leaf.is-truth v) t g d m = full-add g d _ d.mentions tt m
  leaf-full x (Leaf.is_whole v) t g d m = full-add g d _ d.mentions tt m
  leaf-full x (Leaf.is-decimal v) t g d m = full-add g d _ d.mentions tt m
  leaf-full x (Leaf.is-bits v) t g d m = full-add g d _ d.mentions tt m
  leaf-full x (Leaf.is-unknown k) t g d m = full-add g d _ d.mentions tt m
  leaf-full x Leaf.is-lookup t g d m = full-add g d _ _ tt m

  unheld : (g : List Pending) (d : Draft) → Mid b g o d → Mid b g o (with_held [] d)
  unheld g d m = record { part = m.part; low = m.low; pend = m.pend; over = m.over; nodes = m.nodes; slot = m.slot; held = refl; more = m.more; grows = m.grows }

  -- a name by itself is a variable's
  name-full : (t : Placed) (g : List Pending) (d : Draft) → Mid b g o d → Full b g o (hear mentions t d)
  unfolding hear settled settle_name adding mentioning
  name-full t g d m =
      let n = grown-add b (here o) d.entries (Entry.variable (here d) t.bytes) m.part m.low (ap last m.nodes) in
      record { mid = mid-grown g (with_held [] d) _ _ n (unheld g d m); some = n.some }

  asked-full : (a : What) (n : Bool) (c : ℕ) (t : Placed) (g : List Pending) (d : Draft) → Mid b g o (with_held [] d) → Full b g o (hear (asks a n c) t d)
  unfolding hear adding negated last
  asked-full a n c t g d m =
      subst (λ z. Full b g o (negated n (adding e z))) (sym (path-mentions [] d.held (with_held [] d))) (go n (mention_path [] d.held (with_held [] d)).mentions)
    where
      e : Entry
      e = Entry.about a (here d) (all_bytes d.held) c

      es : List Entry
      es = d.entries ▸ e

      first : Grown b (here o) d.entries es
      first = grown-add b (here o) d.entries e m.part m.low tt

      go : (n : Bool) (ms : List Mentioned) → Full b g o (negated n (with_entries es (with_mentions ms (with_held [] d))))
      go false ms = full-add g (with_held [] d) e ms tt m
      go true ms =
          full-add g (with_mentions ms (with_entries es (with_held [] d))) (Entry.negation (last es)) ms (omega (arith, first.some), omega (arith, first.some))
          (mid-grown g (with_held [] d) es ms first m)

  -- ---- phrases
  abbrev pub Heard : (Draft → Type 0) → Sayings → Sayings → Draft → Type 0
  Heard P l k d = (e : Draft) × (hear_all l d ≡ hear_all k e) × P e

  -- one token, by what it says
  pub said-as : (w : Said Saying) (x : Saying) (k : Sayings) (d : Draft) → w.what ≡ x → hear_all (w ∷ k) d ≡ hear_all k (hear x w.token d)
  unfolding hear_all
  said-as w x k d e = ap (λ y. hear_all k (hear y w.token d)) e

  path-full : {l k : Sayings} → Path l k → (g : List Pending) (d : Draft) → Mid b g o (with_held [] d) → Heard (Full b g o) l k d
  unfolding hear_all hear
  path-full (Path.asked {w = w} {k = k} a n c e) g d m = (hear (asks a n c) w.token d, said-as w (asks a n c) k d e, asked-full a n c w.token g d m)
  path-full (Path.part {w = w} {l = l} e p) g d m =
      let r = path-full p g (with_held (d.held ▸ w.token) d) m in
      (r.0, said-as w descends l d e ∙ r.1, r.2)

  -- operators that bind as strongly as k end
  pub ended_mid : (k : ℕ) (g : List Pending) (d : Draft) → Ground g → Full b g o d → Mid b g o (end_operators k (settled d)) × (b < length (end_operators k (settled d)).entries)
  unfolding end_operators
  ended_mid k g d r f =
      let e = settled d in
      let m = f.mid in
      let n = ending-grown b (here o) k e.pending e.entries m.part f.some m.pend in (
        record {
          part = n.part;
          low = omega (arith, n.some);
          pend = waiting-fine b _ k e.pending (pending-on b (length e.entries) _ e.pending (grown-low b (here o) e.entries _ n) m.pend);
          over = waiting-over g r k m.over;
          nodes = m.nodes;
          slot = m.slot;
          held = m.held;
          more = m.more ++ n.more;
          grows = n.grows ∙ ap (λ x. x ++ n.more) m.grows ∙ append_assoc o.entries m.more n.more;
        },
        n.some,
      )

  operated-mid : (x : Operator) (t : Placed) (g : List Pending) (d : Draft) → Ground g → Full b g o d → Mid b g o (hear (operates x) t d)
  unfolding hear last
  operated-mid x t g d r f =
      let h = ended_mid (strength x) g d r f in
      let m = h.0 in
      record { part = m.part; low = m.low; pend = (omega (arith, h.1), omega (arith, h.1), m.pend); over = infixed m.over; nodes = m.nodes; slot = m.slot; held = m.held; more = m.more; grows = m.grows }

  -- a parenthesis that closes leaves what was pending before it
  closed-full : (t : Placed) (g : List Pending) (c d : Draft) → Mid b g o c → Full b (Pending.paren ∷ c.pending) o d → Full b g o (hear closes t d)
  unfolding hear end_operators
  closed-full t g c d n f =
      let h = ended_mid 0 (Pending.paren ∷ c.pending) d (opened c.pending) f in
      let m = h.0 in
      let e : (end_operators 0 (settled d)).pending ≡ Pending.paren ∷ c.pending = waiting_none (Pending.paren ∷ c.pending) (opened c.pending) f.mid.over in
      let q : hear closes t d ≡ with_pending c.pending (end_operators 0 (settled d)) = ap (λ ps. with_pending (elim ps [ [] ↦ [] | p ∷ ps ↦ ps ]) (end_operators 0 (settled d))) e in
      rw q (full-of g (with_pending c.pending (end_operators 0 (settled d))) (record {
        part = m.part;
        low = m.low;
        pend = e-fine (subst (PendingFine b (length (end_operators 0 (settled d)).entries)) e m.pend);
        over = n.over;
        nodes = m.nodes;
        slot = m.slot;
        held = m.held;
        more = m.more;
        grows = m.grows;
      }) h.1)
    where
      e-fine : PendingFine b (length (end_operators 0 (settled d)).entries) (Pending.paren ∷ c.pending) → PendingFine b (length (end_operators 0 (settled d)).entries) c.pending
      e-fine x = x

  mutual
    unfolding hear_all hear

    operand-full : {l k : Sayings} → Operand l k → (g : List Pending) → Ground g → (d : Draft) → Mid b g o d → Heard (Full b g o) l k d
    operand-full (Operand.leaf {w = w} {k = k} p) g r d m = (hear w.what w.token d, refl, leaf-full w.what p w.token g d m)
    operand-full (Operand.variable {w = w} {k = k} e) g r d m = (hear mentions w.token d, said-as w mentions k d e, name-full w.token g d m)
    operand-full (Operand.path {w = w} {l = l} e p) g r d m =
        let x = path-full p g (with_held (w.token ∷ []) d) (unheld g d m) in
        (x.0, said-as w mentions l d e ∙ x.1, x.2)
    operand-full (Operand.not {w = w} {l = l} e p) g r d m =
        let x = operand-full p g r (with_pending (Pending.prefix ∷ d.pending) d)
        (record { part = m.part; low = m.low; pend = m.pend; over = prefixed m.over; nodes = m.nodes; slot = m.slot; held = m.held; more = m.more; grows = m.grows }) in
        (x.0, said-as w negates l d e ∙ x.1, x.2)
    operand-full (Operand.group {w = w} {c = c} {l = l} {k = k} e p f) g r d m =
        let x = chain-full p (Pending.paren ∷ d.pending) (opened d.pending) (with_pending (Pending.paren ∷ d.pending) d)
        (record { part = m.part; low = m.low; pend = m.pend; over = none; nodes = m.nodes; slot = m.slot; held = m.held; more = m.more; grows = m.grows }) in
        (hear closes c.token x.0, said-as w parenthesis l d e ∙ x.1 ∙ said-as c closes k x.0 f, closed-full c.token g d x.0 m x.2)

    pub chain-full : {l k : Sayings} → Chain l k → (g : List Pending) → Ground g → (d : Draft) → Mid b g o d → Heard (Full b g o) l k d
    chain-full (Chain.one p) g r d m = operand-full p g r d m
    chain-full (Chain.more {w = w} {m = l} x p e c) g r d m =
        let y = operand-full p g r d m in
        let z = chain-full c g r (hear (operates x) w.token y.0) (operated-mid x w.token g y.0 r y.2) in
        (z.0, y.1 ∙ said-as w (operates x) l y.0 e ∙ z.1, z.2)
