-- The image of a whole text, from its sections.
use Prim.Native.Nat.{ℕ, ◌+◌, ◌*◌, ◌≤◌, ◌<◌}
use mathlib.Core.Path.{◌≡◌, refl, sym, ◌∙◌, ap, ap₂, subst}
use mathlib.Core.Bool.{true}
use mathlib.Core.List.{List, [], ◌∷◌, ◌++◌}
use native.Mathlib.Omega.{arith}
use lib.ListN.{length, get_or, take, length-map}
use lib.Dec.{leb}
use borrow.Author.Tests.{leb-true}
use Rattle.plexil.specs.Lists.{put}
use Rattle.plexil.specs.Assemble as Assemble
use Rattle.plexil.specs.Assemble.{join}
use Rattle.plexil.proofs.ListLaws.{every-at}
use Rattle.plexil.proofs.PutLaws.{length-put}
use Rattle.grammar.specs.Table.{Said}
use Rattle.notation.specs.Sayings.{Saying}
use Rattle.notation.specs.Phrases as Phrases
use Rattle.notation.specs.Phrases.{Sayings}
use Rattle.notation.specs.Draft.{Draft, blank}
use Rattle.notation.specs.Hearing.{draft_of, hear_all}
use Rattle.notation.specs.Mapping.{all_nodes, all_entries, all_variables, all_lookups, image_of, within_counts, image_length}
use Rattle.notation.proofs.Spoken.{hear-spoken}
use Rattle.notation.proofs.Phrased.{plans-phrased}
use Rattle.notation.proofs.ImageLength.{length-join, nodes-many, entries-many, variables-many, lookups-many, lookups-sized, image-length}
use Rattle.recognise.specs.declared.Cursor.{Cursor}
use Rattle.recognise.specs.declared.Recognised.{Recognised}
use Rattle.recognise.specs.Recognised.{accepted_as}
use Rattle.recognise.proofs.NothingPending.{nothing-pending}
use Rattle.recognise.proofs.Aptness.{all-apt}
use Rattle.recognise.proofs.FewSaid.{few-said}
use Rattle.names.specs.declared.table.Told.{Told}
use Rattle.names.specs.Answers.{Accepted, tale_said}
use Rattle.names.specs.Kinds.{Kinded}
use Rattle.names.specs.Tables.{base_of, count_of, TabledSort, Ready}
use Rattle.names.specs.Tale.{list_of}
use Rattle.names.specs.View.{of_lookup, of_variable}
use Rattle.names.proofs.ToldLaws.{told}
use Rattle.names.proofs.RowLaws.{rows-length}
use Rattle.recognise.specs.Tape.{Tape}
use Rattle.build.specs.declared.nodes.Course.{Course}
use Rattle.build.specs.Standing.{most_bytes, entries_bytes, header}
use Rattle.build.specs.Known.{Known, tables}
use Rattle.build.specs.Declarations.{declared, Planned, Recorded, Rooted, Declares}
use Rattle.build.specs.Laying.{Holds, head_of, Limited, Laid, entries_at, variables_at, lookups_at, Site}
use Rattle.build.specs.Telling.{ReadsNodeBy, Opened}
use Rattle.build.specs.Building.{counted_told, Makes, Builds}
use Rattle.build.proofs.EntryLaws.{entries-length}
use Rattle.build.proofs.HoldLaws.{stands, stays-before, holds-none, holds_more, holds-all}
use Rattle.build.proofs.LayLaws.{variables-length, head-length}
use Rattle.build.proofs.NodeLaws.{opens-so}

-- ---- before the nodes
pub planned : (u : List ℕ) (l : List (Said Saying)) → Accepted u l → Planned u (draft_of l)
unfolding draft_of
planned u l a =
    record { said = l; says = a.says; apt = all-apt u l a.says; plan = plans-phrased u l a.says; leads = hear-spoken l blank; short = few-said u l a.says }

known-all : (u fs ts os zero' kind old after : List ℕ) (told : Told) (l : List (Said Saying)) (base : ℕ) (image : List ℕ) → Accepted u l → Limited (draft_of l) → Ready u (tale_said l) fs ts os told
    → told.lookups ≡ length (draft_of l).lookups → told.variables ≡ length (draft_of l).variables → Kinded (draft_of l) zero' kind → Recorded base old kind image after (draft_of l).commands (draft_of l).lookups
    → Known u (draft_of l) (tables fs ts os after told)
known-all u fs ts os zero' kind old after told l base image a f r e g k q =
    record {
      said = l;
      accepted = a;
      draft = refl;
      ready = r;
      variables = g;
      lookups = e;
      few_variables = f.variables;
      few_lookups = f.lookups;
      variable_kinds = λ i h. q.kept (320 + i) (omega arith) ∙ k.kinds f.variables i h;
      lookup_kinds = λ i h. q.kinds i (omega (arith, f.lookups));
      command_numbers = q.numbers;
    }

-- tables that are whole have the text's counts already
module _ (u fs ts os : List ℕ) (t : Told) (l : List (Said Saying)) (a : Accepted u l) (r : Ready u (tale_said l) fs ts os t) (w : t.whole ≡ true) where
  lookups-told : t.lookups ≡ length (draft_of l).lookups
  unfolding count_of list_of
  lookups-told =
      let s = r.tabled w 1 (omega arith) in
      sym (rows-length u fs ts os (base_of 1) (count_of t 1)) ∙ ap length s.same ∙ sym (ap (λ b. length b.lookups) (told u l a.says).view) ∙ length-map (draft_of l).lookups of_lookup

  variables-told : t.variables ≡ length (draft_of l).variables
  unfolding count_of list_of
  variables-told =
      let s = r.tabled w 2 (omega arith) in
      sym (rows-length u fs ts os (base_of 2) (count_of t 2)) ∙ ap length s.same ∙ sym (ap (λ b. length b.variables) (told u l a.says).view) ∙ length-map (draft_of l).variables of_variable

counted_ready : (u fs ts os : List ℕ) (t : Told) (seen : Recognised) (l : List (Said Saying)) → Accepted u l → seen ≡ accepted_as (draft_of l) → Ready u (tale_said l) fs ts os t → Ready u (tale_said l) fs ts os (counted_told t seen)
unfolding counted_told accepted_as
counted_ready u fs ts os t seen l a e r = record {
  tabled = λ w.
      subst (λ x. (k : ℕ) → k < 4 → TabledSort u (tale_said l) fs ts os x k)
      (ap₂ (λ x y. record { whole = t.whole; commands = t.commands; lookups = x; variables = y; nodes = t.nodes }) (lookups-told u fs ts os t l a r w ∙ sym (ap (λ x. x.lookups) e)) (variables-told u fs ts os t l a r w ∙ sym (ap (λ x. x.variables) e))) (r.tabled w);
  tape = r.tape;
}

-- the header and the lookups
laid-first : (whole : Draft) (image after : List ℕ) → Limited whole → length image ≡ most_bytes → Holds image 0 (head_of whole) → after ≡ put image (lookups_at whole) (join (all_lookups whole.lookups)) → Laid whole [] [] [] after
unfolding all_nodes all_variables entries_bytes all_entries join
laid-first whole image after f e h q =
    let r : List ℕ = join (all_lookups whole.lookups) in
    let z : length r ≡ 2 * length whole.lookups = length-join 2 (all_lookups whole.lookups) (lookups-sized whole.lookups) ∙ ap (λ n. 2 * n) (lookups-many whole.lookups) in
    let low : lookups_at whole ≤ length image = omega (arith, f.nodes, f.entries, f.variables) in
    record {
      size = ap length q ∙ length-put image (lookups_at whole) r (omega (arith, f.nodes, f.entries, f.variables, f.lookups)) ∙ e;
      sized = refl;
      few_nodes = omega arith;
      few_entries = omega arith;
      few_variables = omega arith;
      head = stays-before image after (lookups_at whole) r q low 0 (head_of whole) (omega (arith, head-length whole)) h;
      nodes = holds-none after 20;
      entries = holds-none after (entries_at whole);
      variables = holds-none after (variables_at whole);
      lookups = stands image after (lookups_at whole) r q low;
    }

-- the plan's node begins
root_is : {w : Said Saying} {l k : Sayings} → Phrases.Node (w ∷ l) k → Phrases.Opening w.what × Phrases.Attributes l k
root_is (Phrases.node o a) = (o, a)

root-opens : (u : List ℕ) (whole : Draft) (c : Cursor) (image : List ℕ) → Rooted u whole c → Laid whole [] [] [] image
    → Opened u whole [] 65535 (length u) [] (record { at = c; nodes = 0; entries = 0; variables = 0 }) image
root-opens u whole c image x a =
    let n = root_is x.node in
    opens-so u whole (declared whole.commands whole.lookups x.mentioned) 65535 (length u) (record { at = c; nodes = 0; entries = 0; variables = 0 }) image x.next x.later [] n.0 n.1 x.hears x.short refl refl
    (record { leads = x.leads; none = refl; free = refl; laid = a; entries = refl; variables = refl })

-- ---- all sections
pub made_all : {A B : Type 0} (u fs ts os zero' kind kind' : List ℕ) (told : Told) (base vbase lbase : ℕ) (c : Cursor) (r : Course) (image image' after : List ℕ) (l : List (Said Saying))
    → ((l : List (Said Saying)) → length zero' ≡ 704 → Accepted u l → Tape u os → Kinded (draft_of l) zero' kind) → Declares u os lbase image kind c image' kind'
    → ReadsNodeBy A B u (tables fs ts os kind' told) base vbase 65535 (length u) (record { at = c; nodes = 0; entries = 0; variables = 0 }) image' r after → A
    → length zero' ≡ 704 → ((i : ℕ) → i < 320 → get_or zero' i 0 ≡ 0)
    → Accepted u l → Limited (draft_of l) → Ready u (tale_said l) fs ts os told → told.lookups ≡ length (draft_of l).lookups → told.variables ≡ length (draft_of l).variables
    → base ≡ entries_at (draft_of l) → vbase ≡ variables_at (draft_of l) → lbase ≡ lookups_at (draft_of l) → length image ≡ most_bytes → Holds image 0 (head_of (draft_of l))
    → Laid (draft_of l) (draft_of l).nodes (draft_of l).entries (draft_of l).variables after
unfolding hear_all
made_all u fs ts os zero' kind kind' told base vbase lbase c r image image' after l kinds declares reads many size zeros a f ready e g b v p room head =
    let k = kinds l size a ready.tape in
    let d = declares (draft_of l) (planned u l a) ready.tape f.lookups (omega (arith, f.nodes, f.entries, f.variables)) room k.size (λ i h. k.kept i h ∙ zeros i h) in
    let first = laid-first (draft_of l) image image' f room head (d.1.bytes ∙ ap (λ n. put image n (join (all_lookups (draft_of l).lookups))) p) in
    let site : Site u (draft_of l) (tables fs ts os kind' told) base vbase = record { known = known-all u fs ts os zero' kind image kind' told l lbase image' a f ready e g k d.1; limited = f; rested = nothing-pending u l a.says; entries = b; variables = v } in
    let done = reads (draft_of l) [] (length u) [] many site (omega arith) (omega arith) (root-opens u (draft_of l) c image' d.0 first) in
    subst (λ q. Laid (draft_of l) q.nodes q.entries q.variables after) done.0.between.leads done.0.between.laid

-- ---- the image
joined : (d : Draft) (image : List ℕ) → Laid d d.nodes d.entries d.variables image → Holds image 0 (image_of d)
unfolding image_of Assemble.plan header entries_bytes
joined d image a =
    let ns : List ℕ = join (all_nodes d 0 d.nodes) in
    let es : List ℕ = entries_bytes d d.entries in
    let vs : List ℕ = join (all_variables d.variables) in
    let ls : List ℕ = join (all_lookups d.lookups) in
    let p1 : lookups_at d ≡ variables_at d + length vs = omega (arith, variables-length d.variables) in
    let p2 : variables_at d ≡ entries_at d + length es = omega (arith, entries-length d d.entries) in
    let p3 : entries_at d ≡ 20 + length ns = omega (arith, a.sized) in
    let p4 : 20 ≡ 0 + length (head_of d) = omega (arith, head-length d) in
    let h1 : Holds image (variables_at d) (vs ++ ls) = holds_more image (variables_at d) vs ls a.variables (subst (λ n. Holds image n ls) p1 a.lookups) in
    let h2 : Holds image (entries_at d) (es ++ (vs ++ ls)) = holds_more image (entries_at d) es (vs ++ ls) a.entries (subst (λ n. Holds image n (vs ++ ls)) p2 h1) in
    let h3 : Holds image 20 (ns ++ (es ++ (vs ++ ls))) = holds_more image 20 ns (es ++ (vs ++ ls)) a.nodes (subst (λ n. Holds image n (es ++ (vs ++ ls))) p3 h2) in
    let h4 : Holds image 0 (head_of d ++ (ns ++ (es ++ (vs ++ ls)))) = holds_more image 0 (head_of d) (ns ++ (es ++ (vs ++ ls))) a.head (subst (λ n. Holds image n (ns ++ (es ++ (vs ++ ls)))) p4 h3) in
    subst (λ x. Holds image 0 (x ++ (ns ++ (es ++ (vs ++ ls))))) (same d) h4
  where
    same : (d : Draft) → head_of d ≡ Assemble.words16 (1 ∷ length (all_nodes d 0 d.nodes) ∷ length (all_entries d [] d.entries) ∷ length (all_variables d.variables) ∷ length (all_lookups d.lookups) ∷ 20
        ∷ (20 + 24 * length (all_nodes d 0 d.nodes)) ∷ (20 + 24 * length (all_nodes d 0 d.nodes) + 16 * length (all_entries d [] d.entries))
        ∷ (20 + 24 * length (all_nodes d 0 d.nodes) + 16 * length (all_entries d [] d.entries) + 16 * length (all_variables d.variables))
        ∷ (20 + 24 * length (all_nodes d 0 d.nodes) + 16 * length (all_entries d [] d.entries) + 16 * length (all_variables d.variables) + 2 * length (all_lookups d.lookups)) ∷ [])
    same d = rw (nodes-many d 0 d.nodes, entries-many d [] d.entries, variables-many d.variables, lookups-many d.lookups) refl

pub limited : (d : Draft) → within_counts d ≡ true → Limited d
unfolding within_counts
limited d h =
    let tests = leb (length d.nodes) 256 ∷ leb (length d.entries) 2048 ∷ leb (length d.variables) 128 ∷ leb (length d.lookups) 64 ∷ [] in
    record { nodes = leb-true _ _ (every-at tests 0 h); entries = leb-true _ _ (every-at tests 1 h); variables = leb-true _ _ (every-at tests 2 h); lookups = leb-true _ _ (every-at tests 3 h) }

built : (l : List (Said Saying)) (after : List ℕ) → Limited (draft_of l) → Laid (draft_of l) (draft_of l).nodes (draft_of l).entries (draft_of l).variables after
    → (take (image_length (draft_of l)) after ≡ image_of (draft_of l)) × (length after ≡ most_bytes)
unfolding image_length
built l after f a =
    let d = draft_of l in
    let z : length (image_of d) ≡ image_length d = image-length l in
    (ap (λ n. take n after) (sym z) ∙ holds-all after (image_of d) (omega (arith, f.nodes, f.entries, f.variables, f.lookups, a.size)) (joined d after a), a.size)

-- ---- the header
headed : (d : Draft) (seen : Recognised) (image after : List ℕ) → seen ≡ accepted_as d → Limited d → length image ≡ most_bytes → (length image ≡ most_bytes → after ≡ put image 0 (header seen.nodes seen.entries seen.variables seen.lookups))
    → Holds after 0 (head_of d) × (length after ≡ most_bytes)
unfolding accepted_as
headed d seen image after e f z h =
    let q : after ≡ put image 0 (head_of d) = h z ∙ ap (λ r. put image 0 (header r.nodes r.entries r.variables r.lookups)) e in
    (stands image after 0 (head_of d) q (omega arith), ap length q ∙ length-put image 0 (head_of d) (omega (arith, head-length d)) ∙ z)

pub built-all : (u fs ts os : List ℕ) (t t' : Told) (seen : Recognised) (base vbase lbase : ℕ) (image image' after : List ℕ) → t' ≡ counted_told t seen → base ≡ 20 + 24 * seen.nodes → vbase ≡ base + 16 * seen.entries → lbase ≡ vbase + 16 * seen.variables
    → (length image ≡ most_bytes → image' ≡ put image 0 (header seen.nodes seen.entries seen.variables seen.lookups)) → Makes u fs ts os t' base vbase lbase image' after → Builds u seen fs ts os t image after
unfolding counted_told accepted_as
built-all u fs ts os t t' seen base vbase lbase image image' after q b v p head makes l a e filled w room =
    let f = limited (draft_of l) w in
    let h = headed (draft_of l) seen image image' e f room head in
    let nodes = ap (λ r. r.nodes) e in
    let entries = ap (λ r. r.entries) e in
    let variables = ap (λ r. r.variables) e in
    built l after f
    (makes l a f (subst (Ready u (tale_said l) fs ts os) (sym q) (counted_ready u fs ts os t seen l a e filled.ready)) (ap (λ r. r.lookups) q ∙ ap (λ r. r.lookups) e) (ap (λ r. r.variables) q ∙ variables)
    (omega (arith, nodes)) (omega (arith, nodes, entries)) (omega (arith, nodes, entries, variables)) h.1 h.0)
