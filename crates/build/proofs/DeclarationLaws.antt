-- From declaration to declaration, until the plan's node begins.
use Prim.Native.Nat.{ℕ, ◌+◌, ◌-◌, ◌≤◌, ◌<◌}
use mathlib.Core.Path.{◌≡◌, refl, sym, ◌∙◌, ap, subst}
use mathlib.Core.Bool.{true}
use mathlib.Core.List.{List, [], ◌∷◌}
use native.Mathlib.Omega.{arith}
use lib.ListN.{length, get_or, length-append}
use Rattle.grammar.specs.Spelling.{Token}
use Rattle.grammar.specs.Leads.{is_number, value_from}
use Rattle.grammar.specs.Table.{Said}
use Rattle.notation.specs.Sayings.{Kind, boolean, integer, float, Saying, declares_command, numbers_command, declares_lookup}
use Rattle.notation.specs.Spoken.{spoken}
use Rattle.notation.specs.Phrases.{Sayings, Says, Node, node, Plan, root, lookup, command}
use Rattle.notation.specs.Draft.{Command, Lookup, Mention, Mentioned, Draft, with_number}
use Rattle.notation.specs.Hearing as Hearing
use Rattle.notation.specs.Hearing.{◌▸◌, at_last, hear, hear_all}
use Rattle.notation.specs.Mapping.{kind_code}
use Rattle.notation.proofs.OwnedHeard.{at-last}
use Rattle.recognise.specs.declared.Cursor.{Cursor}
use Rattle.recognise.specs.Hears.{piece}
use Rattle.recognise.specs.Tape.{Tape, Begun}
use Rattle.build.specs.Flow.{code_of, of_kind}
use Rattle.build.specs.Hearsay.{Apt, Hears, Heard}
use Rattle.build.specs.Steps.{Stepped}
use Rattle.build.specs.Declarations.{declared, Planned, Recorded, Rooted, Numbers, Records}
use Rattle.build.proofs.Untouched.{Keeps, node-keeps, opening-late}
use Rattle.build.proofs.RecordLaws.{none-recorded, recorded-moved}

-- ---- a command's number
apt-number : (x : Saying) (t : Token) → x ≡ numbers_command → Apt x t → (is_number t ≡ true) × (value_from 0 t ≤ 65534)
unfolding Apt
apt-number x t e a = rw e at a

pub number-heard : (u : List ℕ) (c : Cursor) (w : Said Saying) → Heard u c w → Says w numbers_command → (m : ℕ)
    → (is_number (piece u c.from c.to) ≡ true → value_from 0 (piece u c.from c.to) ≤ 9223372036854775808 → m ≡ value_from 0 (piece u c.from c.to)) → m ≡ value_from 0 w.token.bytes
number-heard u c w h e m f =
    let a = apt-number w.what w.token.bytes e h.apt in
    let q = h.just.bytes in
    f (ap is_number q ∙ a.0) (omega (arith, ap (value_from 0) q, a.1)) ∙ ap (value_from 0) q

-- ---- what can be said, by its number
kind-number : (k : Kind) → of_kind k ≡ kind_code k
unfolding of_kind kind_code
kind-number boolean = refl
kind-number integer = refl
kind-number float = refl

kind-most : (k : Kind) → of_kind k ≤ 2
unfolding of_kind
kind-most boolean = omega arith
kind-most integer = omega arith
kind-most float = omega arith

plan-some : {l : Sayings} → Plan l → 0 < length l
plan-some (root (node o a)) = omega arith
plan-some (lookup a e p) = omega arith
plan-some (command e f p) = omega arith

plan-code : {w : Said Saying} {l : Sayings} → Plan (w ∷ l) → 0 < code_of w.what
unfolding code_of
plan-code (root (node o a)) = omega (arith, opening-late _ o)
plan-code (lookup a e p) = omega (arith, ap code_of e)
plan-code (command e f p) = omega (arith, ap code_of e)

plan-root : {w : Said Saying} {l : Sayings} → Plan (w ∷ l) → 5 < code_of w.what → Node (w ∷ l) []
unfolding code_of
plan-root (root n) h = n
plan-root (lookup a e p) h = absurd (omega (arith, ap code_of e, kind-most a))
plan-root (command e f p) h = absurd (omega (arith, ap code_of e))

plan-lookup : {w : Said Saying} {l : Sayings} → Plan (w ∷ l) → 2 < code_of w.what → code_of w.what ≤ 5 → (a : Kind) × Says w (declares_lookup a) × Plan l
unfolding code_of
plan-lookup (root (node o a)) h k = absurd (omega (arith, opening-late _ o))
plan-lookup (lookup a e p) h k = (a, e, p)
plan-lookup (command e f p) h k = absurd (omega (arith, ap code_of e))

plan-command : {w : Said Saying} {l : Sayings} → Plan (w ∷ l) → code_of w.what ≤ 2 → (v : Said Saying) × (k : Sayings) × (l ≡ v ∷ k) × Says w declares_command × Says v numbers_command × Plan k
unfolding code_of
plan-command (root (node o a)) h = absurd (omega (arith, opening-late _ o))
plan-command (lookup a e p) h = absurd (omega (arith, ap code_of e))
plan-command (command e f p) h = (_, _, refl, e, f, p)

-- ---- what they add to the draft
none_kept : Keeps []
unfolding hear_all
none_kept = record { each = λ d. (refl, refl) }

hears-lookup : (a : Kind) (w : Said Saying) → Says w (declares_lookup a) → (cs : List Command) (ls : List Lookup) (ms : List Mentioned)
    → hear w.what w.token (declared cs ls ms) ≡ declared cs (ls ▸ record { name = w.token.bytes; kind = a }) (ms ▸ record { mention = Mention.lookup (length ls); place = w.token.place })
unfolding hear Hearing.mentioning
hears-lookup a w e cs ls ms = ap (λ x. hear x w.token (declared cs ls ms)) e

hears-command : (w v : Said Saying) → Says w declares_command → Says v numbers_command → (cs : List Command) (ls : List Lookup) (ms : List Mentioned)
    → hear v.what v.token (hear w.what w.token (declared cs ls ms))
    ≡ declared (cs ▸ record { name = w.token.bytes; number = value_from 0 v.token.bytes }) ls (ms ▸ record { mention = Mention.command (length cs); place = w.token.place })
unfolding hear Hearing.mentioning
hears-command w v e f cs ls ms =
    ap (λ x. hear x v.token (hear w.what w.token (declared cs ls ms))) f ∙ ap (λ x. hear numbers_command v.token (hear x w.token (declared cs ls ms))) e
    ∙ ap (λ x. declared x ls (ms ▸ record { mention = Mention.command (length cs); place = w.token.place })) (at-last (with_number (value_from 0 v.token.bytes)) cs (record { name = w.token.bytes; number = 0 }))

-- lookups only grow
plan-grows : {l : Sayings} → Plan l → (cs : List Command) (ls : List Lookup) (ms : List Mentioned) → length ls ≤ length (hear_all l (declared cs ls ms)).lookups
unfolding hear_all ◌▸◌
plan-grows (root n) cs ls ms = omega (arith, ap length ((node-keeps n none_kept).each (declared cs ls ms)).1)
plan-grows (lookup {w = w} {l = l} a e p) cs ls ms =
    let x : Lookup = record { name = w.token.bytes; kind = a } in
    omega (arith, length-append ls (x ∷ []), plan-grows p cs (ls ▸ x) (ms ▸ record { mention = Mention.lookup (length ls); place = w.token.place }), ap (λ d. length (hear_all l d).lookups) (hears-lookup a w e cs ls ms))
plan-grows (command {w = w} {v = v} {l = l} e f p) cs ls ms =
    omega (
      arith,
      plan-grows p (cs ▸ record { name = w.token.bytes; number = value_from 0 v.token.bytes }) ls (ms ▸ record { mention = Mention.command (length cs); place = w.token.place }),
      ap (λ d. length (hear_all l d).lookups) (hears-command w v e f cs ls ms),
    )

-- ---- a declaration, or the opening of the node, has been heard, after `turns` declarations
pub record Declaring (u : List ℕ) (whole : Draft) (base : ℕ) (under old : List ℕ) (turns : ℕ) (at : Cursor) (commands lookups : ℕ) (image kind : List ℕ) : Type 0 where
  pub next : Said Saying
  pub later : Sayings
  pub given : List Command
  pub asked : List Lookup
  pub mentioned : List Mentioned
  pub heard : Heard u at next
  pub code : at.says ≡ code_of next.what
  pub hears : Hears u at later
  pub plan : Plan (next ∷ later)
  pub leads : hear_all (next ∷ later) (declared given asked mentioned) ≡ whole
  pub short : length later + turns < length u
  pub commands-told : commands ≡ length given
  pub lookups-told : lookups ≡ length asked
  pub recorded : Recorded base under old image kind given asked

module _ (u : List ℕ) (whole : Draft) (base : ℕ) (under old : List ℕ) where
  -- on to the next declaration
  next-heard : (turns commands lookups : ℕ) (c r : Cursor) (image kind : List ℕ) (l : Sayings) (cs : List Command) (ls : List Lookup) (ms : List Mentioned)
      → Plan l → Hears u c l → Stepped u c r → hear_all l (declared cs ls ms) ≡ whole → length l + turns ≤ length u → commands ≡ length cs → lookups ≡ length ls
      → Recorded base under old image kind cs ls → Declaring u whole base under old turns r commands lookups image kind
  next-heard turns commands lookups c r image kind [] cs ls ms p h st e m q t f = absurd (omega (arith, plan-some p))
  next-heard turns commands lookups c r image kind (w ∷ l) cs ls ms p h st e m q t f =
      let s = st.more w l h (plan-code p) in
      record {
        next = w;
        later = l;
        given = cs;
        asked = ls;
        mentioned = ms;
        heard = s.0;
        code = s.2;
        hears = s.1;
        plan = p;
        leads = e;
        short = omega arith;
        commands-told = q;
        lookups-told = t;
        recorded = f;
      }

  pub begins : (os : List ℕ) (c r : Cursor) → Planned u whole → length old ≡ 704 → ((i : ℕ) → i < 320 → get_or old i 0 ≡ 0) → Begun os c → Tape u os → Stepped u c r → Declaring u whole base under old 0 r 0 0 under old
  unfolding Begun
  begins os c r p size zeros b k st =
      next-heard 0 0 0 c r under old (spoken p.said) [] [] [] p.plan (record { ahead = b u p.said p.says k; apt = p.apt }) st p.leads (omega (arith, p.short)) refl refl (none-recorded base under old size zeros)

  module _ (turns commands lookups : ℕ) (c : Cursor) (image kind : List ℕ) (t : Declaring u whole base under old turns c commands lookups image kind) where
    pub lookup-declared : (k now told : ℕ) (q r : Cursor) (image' kind' image'' kind'' : List ℕ) → length whole.lookups ≤ 64 → base ≤ 40980 → length under ≡ 41108 → 2 < c.says → c.says ≤ 5 → k ≡ c.says - 3
        → Records base lookups k image kind image' kind' → image'' ≡ image' → kind'' ≡ kind' → q ≡ c → now ≡ commands → told ≡ lookups + 1 → Stepped u q r
        → Declaring u whole base under old (turns + 1) r now told image'' kind''
    unfolding hear_all code_of ◌▸◌
    lookup-declared k now told q r image' kind' image'' kind'' few low room h m e f i j same n o st =
        let p = plan-lookup t.plan (omega (arith, t.code)) (omega (arith, t.code)) in
        let w = t.next in
        let x : Lookup = record { name = w.token.bytes; kind = p.0 } in
        let ms = t.mentioned ▸ record { mention = Mention.lookup (length t.asked); place = w.token.place } in
        let leads : hear_all t.later (declared t.given (t.asked ▸ x) ms) ≡ whole = ap (hear_all t.later) (sym (hears-lookup p.0 w p.1 t.given t.asked t.mentioned)) ∙ t.leads in
        let more : length (t.asked ▸ x) ≡ length t.asked + 1 = length-append t.asked (x ∷ []) in
        let g : length t.asked < 64 = omega (arith, plan-grows p.2 t.given (t.asked ▸ x) ms, ap (λ d. length d.lookups) leads) in
        next-heard (turns + 1) now told q r image'' kind'' t.later t.given (t.asked ▸ x) ms p.2 (subst (λ d. Hears u d t.later) (sym same) t.hears) st leads (omega (arith, t.short)) (n ∙ t.commands-told) (omega (arith, t.lookups-told))
        (recorded-moved base under old image' kind' image'' kind'' t.given (t.asked ▸ x) i j
        (f under old t.given t.asked x t.recorded t.lookups-told g low room (omega (arith, t.code, ap code_of p.1, kind-number p.0))))

    pub command-declared : (now told : ℕ) (q v r : Cursor) (kind' image'' kind'' : List ℕ) → c.says ≤ 2 → Stepped u c q → Numbers u commands q kind kind'
        → image'' ≡ image → kind'' ≡ kind' → v ≡ q → now ≡ commands + 1 → told ≡ lookups → Stepped u v r
        → Declaring u whole base under old (turns + 1) r now told image'' kind''
    unfolding hear_all code_of ◌▸◌
    command-declared now told q v r kind' image'' kind'' h st f i j same n o sr =
        let p = plan-command t.plan (omega (arith, t.code)) in
        let w = t.next in
        let m = p.0 in
        let x : Command = record { name = w.token.bytes; number = value_from 0 m.token.bytes } in
        let ms = t.mentioned ▸ record { mention = Mention.command (length t.given); place = w.token.place } in
        let s = st.more m p.1 (subst (Hears u c) p.2 t.hears) (omega (arith, ap code_of p.4)) in
        let leads : hear_all p.1 (declared (t.given ▸ x) t.asked ms) ≡ whole =
        ap (hear_all p.1) (sym (hears-command w m p.3 p.4 t.given t.asked t.mentioned)) ∙ ap (λ l. hear_all l (hear w.what w.token (declared t.given t.asked t.mentioned))) (sym p.2) ∙ t.leads in
        let more : length (t.given ▸ x) ≡ length t.given + 1 = length-append t.given (x ∷ []) in
        next-heard (turns + 1) now told v r image'' kind'' p.1 (t.given ▸ x) t.asked ms p.5 (subst (λ d. Hears u d p.1) (sym same) s.1) sr leads (omega (arith, t.short, ap length p.2)) (omega (arith, t.commands-told)) (o ∙ t.lookups-told)
        (recorded-moved base under old image kind' image'' kind'' (t.given ▸ x) t.asked i j (f base under old image t.given t.asked x m t.recorded t.commands-told s.0 p.4 refl))

    -- no more is declared
    pub root-heard : 5 < c.says → Rooted u whole c × Recorded base under old image kind whole.commands whole.lookups
    root-heard h =
        let n = plan-root t.plan (omega (arith, t.code)) in
        let k = (node-keeps n none_kept).each (declared t.given t.asked t.mentioned) in
        let a : t.given ≡ whole.commands = sym k.0 ∙ ap (λ d. d.commands) t.leads in
        let b : t.asked ≡ whole.lookups = sym k.1 ∙ ap (λ d. d.lookups) t.leads in (
          record {
            next = t.next;
            later = t.later;
            mentioned = t.mentioned;
            heard = t.heard;
            code = t.code;
            hears = t.hears;
            node = n;
            leads = subst (λ x. hear_all (t.next ∷ t.later) (declared x whole.lookups t.mentioned) ≡ whole) a (subst (λ x. hear_all (t.next ∷ t.later) (declared t.given x t.mentioned) ≡ whole) b t.leads);
            short = omega (arith, t.short);
          },
          subst (λ x. Recorded base under old image kind x whole.lookups) a (subst (λ x. Recorded base under old image kind t.given x) b t.recorded),
        )
