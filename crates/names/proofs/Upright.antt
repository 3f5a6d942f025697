-- A walk halfway through a text whose names have all been in order so far.
use Prim.Native.Nat.{ℕ, zero, suc, ◌+◌, ◌<◌, ◌≤◌, ◌-◌}
use mathlib.Core.Path.{◌≡◌, refl, ap, sym, ◌∙◌, subst}
use mathlib.Core.Bool.{Bool, true, false, cond}
use mathlib.Core.List.{List, [], ◌∷◌, ◌++◌}
use mathlib.Core.Option.{some, some-injective}
use native.Mathlib.Omega.{arith}
use borrow.Author.Tests.{ne_eqb, eqb-true}
use lib.Dec.{eqb}
use lib.ListN.{length, length-append}
use Rattle.plexil.specs.Lists.{Found, at, nowhere}
use Rattle.grammar.specs.Spelling.{Placed}
use Rattle.grammar.specs.Table.{Said}
use Rattle.notation.specs.Sayings.{Saying}
use Rattle.notation.specs.Draft.{Draft}
use Rattle.notation.specs.Hearing.{◌▸◌, draft_of}
use Rattle.notation.specs.Names.{bad_mention, bad_name}
use Rattle.names.specs.declared.walk.Walk.{Walk}
use Rattle.std.specs.Prelude.{Option, is_some, Ok}
use Rattle.names.specs.declared.judge.Path.{Path}
use Rattle.names.specs.declared.judge.Held.TheVariants.{Nothing}
use Rattle.names.specs.Roles.{Role, role_of, role_number, detail_of, other, number, command, lookup, variable, named, unnamed, opens, shuts, call, assign, read, mention, descend, ask, settle}
use Rattle.names.specs.Tale as Tale
use Rattle.names.specs.Tale.{Tale, untold, list_of, here_in, tell, tell_of, settling}
use Rattle.names.specs.Order as Order
use Rattle.names.specs.Order.{Standing, declaring, within, holding, between, after}
use Rattle.names.specs.Walking.{sort_no, nodes_no}
use Rattle.names.specs.Answers.{Accepted, tale_said, found_of}
use Rattle.names.specs.Judging.{new_of, HasPath, PathIs, Hearing, index_no, count_no}
use Rattle.names.proofs.Viewed.{no}
use Rattle.names.proofs.ToldLaws.{told}
use Rattle.names.proofs.Grown.{fourfold, declared_by, added_to, grows, mentions-grow-all, bad-stays, bad-later}
use Rattle.names.proofs.Halfway.{Newly}
use Rattle.names.proofs.GoingUp.{found-is}
use Rattle.names.proofs.Mentions.{mentions-told, is-descend}
use Rattle.names.proofs.WalkLaws.{settling-nodes, nodes-by}

-- a name is held where the standing says so, and nowhere else
unfoldable pub HeldAt : Standing → List Placed → Type 0
HeldAt declaring h = h ≡ []
HeldAt (within n) h = h ≡ []
HeldAt (holding n) h = HasPath h
HeldAt (between n) h = h ≡ []

pub record Upright (u : List ℕ) (d : Draft) (c l v : ℕ) (p : Path) (b : Tale) (q : Standing) : Type 0 where
  pub commands : c ≡ length b.commands
  pub lookups : l ≡ length b.lookups
  pub variables : v ≡ length b.variables
  pub fine : bad_mention d b.mentions ≡ nowhere
  pub path : PathIs u d (here_in b) b.held p
  pub held : HeldAt q b.held

no-path : {h : List Placed} → HasPath h → h ≡ [] → ⊥
no-path h e = let z : ◌≡◌ {A = ℕ} 0 (suc (length h.others)) = ap length (sym e ∙ h.whole) in omega arith

module _ (h : List Placed) (r : Standing) where
  into : (t : Standing) → some t ≡ some r → HeldAt t h → HeldAt r h
  into t e c = subst (λ x. HeldAt x h) (some-injective _ _ e) c

  held-declares : (q : Standing) → Order.declares q ≡ some r → HeldAt q h → HeldAt r h
  unfolding Order.opened
  held-declares declaring e c = into declaring e c
  held-declares (within n) e c = absurd (no e)
  held-declares (holding n) e c = absurd (no e)
  held-declares (between n) e c = absurd (no e)

  held_stays : (q : Standing) → Order.stays q ≡ some r → HeldAt q h → HeldAt r h
  unfolding Order.opened
  held_stays declaring e c = absurd (no e)
  held_stays (within n) e c = into (within n) e c
  held_stays (holding n) e c = absurd (no e)
  held_stays (between n) e c = absurd (no e)

  held-begins : (q : Standing) → Order.node_begins q ≡ some r → HeldAt q h → HeldAt r h × (h ≡ [])
  unfolding Order.opened HeldAt
  held-begins declaring e c = (into (within 0) e c, c)
  held-begins (within zero) e c = absurd (no e)
  held-begins (within (suc n)) e c = (into (within (suc n)) e c, c)
  held-begins (holding n) e c = absurd (no e)
  held-begins (between zero) e c = absurd (no e)
  held-begins (between (suc n)) e c = (into (within (suc n)) e c, c)

  held-opens : (q : Standing) → Order.list_opens q ≡ some r → HeldAt q h → HeldAt r h
  unfolding Order.opened HeldAt
  held-opens declaring e c = absurd (no e)
  held-opens (within n) e c = into (between (suc n)) e c
  held-opens (holding n) e c = absurd (no e)
  held-opens (between n) e c = absurd (no e)

  held-shuts : (q : Standing) → Order.list_shuts q ≡ some r → HeldAt q h → HeldAt r h
  unfolding Order.opened HeldAt
  held-shuts declaring e c = absurd (no e)
  held-shuts (within zero) e c = absurd (no e)
  held-shuts (within (suc n)) e c = into (between n) e c
  held-shuts (holding n) e c = absurd (no e)
  held-shuts (between zero) e c = absurd (no e)
  held-shuts (between (suc n)) e c = into (between n) e c

  held-begun : (q : Standing) → Order.name_held q ≡ some r → HasPath h → HeldAt r h
  unfolding Order.opened HeldAt
  held-begun declaring e c = absurd (no e)
  held-begun (within n) e c = into (holding n) e c
  held-begun (holding n) e c = absurd (no e)
  held-begun (between n) e c = absurd (no e)

  held-goes : (q : Standing) → Order.path_goes q ≡ some r → HasPath h → HeldAt r h
  unfolding Order.opened HeldAt
  held-goes declaring e c = absurd (no e)
  held-goes (within n) e c = absurd (no e)
  held-goes (holding n) e c = into (holding n) e c
  held-goes (between n) e c = absurd (no e)

held-there : (h : List Placed) (q r : Standing) → Order.path_goes q ≡ some r → HeldAt q h → HasPath h
unfolding Order.opened HeldAt
held-there h declaring r e c = absurd (no e)
held-there h (within n) r e c = absurd (no e)
held-there h (holding n) r e c = c
held-there h (between n) r e c = absurd (no e)

held-asked : (q r : Standing) → Order.path_ends q ≡ some r → HeldAt r []
unfolding Order.opened HeldAt
held-asked declaring r e = absurd (no e)
held-asked (within n) r e = absurd (no e)
held-asked (holding n) r e = into [] r (within n) e refl
held-asked (between n) r e = absurd (no e)

held-settled : (q r : Standing) → Order.settles q ≡ some r → HeldAt r []
unfolding Order.opened HeldAt
held-settled declaring r e = absurd (no e)
held-settled (within n) r e = into [] r (within n) e refl
held-settled (holding n) r e = into [] r (within n) e refl
held-settled (between n) r e = absurd (no e)

more-path : (h : List Placed) (t : Placed) → HasPath (h ▸ t)
unfolding ◌▸◌
more-path [] t = record { first = t; others = []; whole = refl }
more-path (x ∷ h) t = record { first = x; others = h ++ (t ∷ []); whole = refl }

settled-none : (h : List Placed) (b : Tale) → b.held ≡ h → (settling h b).held ≡ []
unfolding settling
settled-none [] b e = e
settled-none (t ∷ ts) b e = refl

module _ (k : ℕ) (t : Placed) (b : Tale) (q r : Standing) where
  held_after : (x : Role) → after x q ≡ some r → HeldAt q b.held → HeldAt r (tell_of x k t b).held
  unfolding after tell_of
  held_after other e c = held_stays b.held r q e c
  held_after number e c = held-declares b.held r q e c
  held_after command e c = held-declares b.held r q e c
  held_after lookup e c = held-declares b.held r q e c
  held_after variable e c = held_stays b.held r q e c
  held_after named e c = (held-begins b.held r q e c).0
  held_after unnamed e c = (held-begins b.held r q e c).0
  held_after opens e c = held-opens b.held r q e c
  held_after shuts e c = held-shuts b.held r q e c
  held_after call e c = held_stays b.held r q e c
  held_after assign e c = held_stays b.held r q e c
  held_after read e c = held_stays b.held r q e c
  held_after mention e c = held-begun (t ∷ []) r q e (record { first = t; others = []; whole = refl })
  held_after descend e c = held-goes (b.held ▸ t) r q e (more-path b.held t)
  held_after ask e c = held-asked q r e
  held_after settle e c = rw (settled-none b.held b refl) (held-settled q r e)

  here-after : (x : Role) → after x q ≡ some r → HeldAt q b.held → HasPath b.held → here_in (tell_of x k t b) ≡ here_in b
  unfolding after tell_of
  here-after other e c h = refl
  here-after number e c h = refl
  here-after command e c h = refl
  here-after lookup e c h = refl
  here-after variable e c h = refl
  here-after named e c h = absurd (no-path h (held-begins b.held r q e c).1)
  here-after unnamed e c h = absurd (no-path h (held-begins b.held r q e c).1)
  here-after opens e c h = refl
  here-after shuts e c h = refl
  here-after call e c h = refl
  here-after assign e c h = refl
  here-after read e c h = refl
  here-after mention e c h = refl
  here-after descend e c h = refl
  here-after ask e c h = refl
  here-after settle e c h = ap (λ (l : List Tale.Declared). length l - 1) (settling-nodes b.held b)

-- the counts after a saying
one_more : (n : ℕ) (e : Tale.Declared) (t : Bool) → cond t (n + 1) n ≡ n + length (cond t (e ∷ []) [])
one_more n e true = refl
one_more n e false = omega arith

sort-same : (r s : ℕ) → s < 3 → eqb (sort_no r) s ≡ eqb r s
unfolding sort_no
sort-same r s h = onto (eqb r 4) refl
  where
    onto : (t : Bool) → eqb r 4 ≡ t → eqb (cond (eqb r 4) 3 r) s ≡ eqb r s
    onto true z = let y : r ≡ 4 = eqb-true r 4 z in rw z (ne_eqb 3 s (λ e. omega arith) ∙ sym (ne_eqb r s (λ e. omega arith)))
    onto false z = rw z

count-on : (k r n s : ℕ) (t : Placed) (b : Tale) (x : Role) → r ≡ role_number x → s < 3 → n ≡ length (list_of s b) → count_no r s n ≡ length (list_of s (tell_of x k t b))
unfolding count_no
count-on k r n s t b x e h f =
    let g : list_of s (tell_of x k t b) ≡ list_of s b ++ added_to s x t b = grows k t b x s (omega arith) in
    rw (g, length-append, ← f, e) (one_more n (declared_by x t b) (eqb (role_number x) s) ∙ rw (sort-same (role_number x) s h))

module _ (u : List ℕ) (l : List (Said Saying)) (a : Accepted u l) (c o v : ℕ) (p : Path) {ls : List ℕ} {w : Walk} (n : Newly u ls w l (Upright u (draft_of l) c o v p)) where
  pub newly-hearing : Hearing u l w n.tale n.said
  newly-hearing = record { rest = n.rest; tells = n.tells; whole = n.whole; nodes = n.follows.nodes }

  newly-node : w.role ≡ 3 → w.nodes - 1 ≡ length n.tale.nodes
  unfolding tell nodes_no
  newly-node e =
      let x : Role = role_of n.said.what in
      let z = nodes-by n.tale (detail_of n.said.what n.said.token.bytes) n.said.token x in
      let y : length n.tale.nodes + 1 ≡ w.nodes = ap (λ k. nodes_no k (length n.tale.nodes)) (sym e ∙ n.tells.role) ∙ z ∙ sym n.follows.nodes in
      omega arith

  pub newly-index : w.role < 4 → index_no w.role c o v w.nodes ≡ length (list_of w.role n.tale)
  unfolding index_no list_of
  newly-index h = fourfold (λ k. w.role ≡ k → index_no k c o v w.nodes ≡ length (list_of k n.tale)) (λ e. n.known.commands) (λ e. n.known.lookups) (λ e. n.known.variables) newly-node w.role h refl

  pub newly-path : w.role ≡ 11 → HasPath n.tale.held
  unfolding after
  newly-path e = held-there n.tale.held n.standing n.next (rw (is-descend (role_of n.said.what) (sym n.tells.role ∙ e)) at n.goes) n.known.held

  pub newly-here : HasPath n.tale.held → here_in (tell n.said n.tale) ≡ here_in n.tale
  unfolding tell
  newly-here h = here-after (detail_of n.said.what n.said.token.bytes) n.said.token n.tale n.standing n.next (role_of n.said.what) n.goes n.known.held h

  told-mentions : (tell n.said n.tale).mentions ≡ n.tale.mentions ++ new_of (role_of n.said.what) n.said.token n.tale
  unfolding tell
  told-mentions = mentions-told (detail_of n.said.what n.said.token.bytes) n.said.token n.tale (role_of n.said.what)

  bad-so-far : bad_mention (draft_of l) (tell n.said n.tale).mentions ≡ bad_mention (draft_of l) (new_of (role_of n.said.what) n.said.token n.tale)
  bad-so-far = ap (bad_mention (draft_of l)) told-mentions ∙ bad-later (draft_of l) n.tale.mentions (new_of (role_of n.said.what) n.said.token n.tale) n.known.fine

  -- what is bad so far is bad in the whole
  bad-at : (k : ℕ) → bad_mention (draft_of l) (new_of (role_of n.said.what) n.said.token n.tale) ≡ at k → bad_name (draft_of l) ≡ at k
  unfolding bad_name
  bad-at k e =
      let t = told u l a.says in
      let g = mentions-grow-all n.rest (tell n.said n.tale) in
      ap (λ (b : Tale). bad_mention (draft_of l) b.mentions) (t.view ∙ sym n.whole) ∙ ap (bad_mention (draft_of l)) g.grown
      ∙ bad-stays (draft_of l) (tell n.said n.tale).mentions g.rest k (bad-so-far ∙ e)

  -- a bad one was found
  pub found-bad : (f : Option ℕ) → f ≡ found_of (bad_mention (draft_of l) (new_of (role_of n.said.what) n.said.token n.tale)) → is_some f ≡ true → f ≡ found_of (bad_name (draft_of l))
  unfolding found_of
  found-bad f e z = onto (bad_mention (draft_of l) (new_of (role_of n.said.what) n.said.token n.tale)) refl e z
    where
      onto : (g : Found) → bad_mention (draft_of l) (new_of (role_of n.said.what) n.said.token n.tale) ≡ g → f ≡ found_of g → is_some f ≡ true → f ≡ found_of (bad_name (draft_of l))
      onto (at k) x y z = y ∙ ap found_of (sym (bad-at k x))
      onto nowhere x y z = absurd (let v : ◌≡◌ {A = Bool} false true = ap is_some (sym y) ∙ z in let w : ◌≡◌ {A = ℕ} 0 1 = cc in omega arith)

  pub upright-on : (f : Option ℕ) (p' : Path) → f ≡ found_of (bad_mention (draft_of l) (new_of (role_of n.said.what) n.said.token n.tale)) → is_some f ≡ false → PathIs u (draft_of l) (here_in (tell n.said n.tale)) (tell n.said n.tale).held p' →
      Upright u (draft_of l) (count_no w.role 0 c) (count_no w.role 1 o) (count_no w.role 2 v) p' (tell n.said n.tale) n.next
  unfolding tell list_of
  upright-on f p' e z h =
      let k : ℕ = detail_of n.said.what n.said.token.bytes in
      let x : Role = role_of n.said.what in
      record {
        commands = count-on k w.role c 0 n.said.token n.tale x n.tells.role (omega arith) n.known.commands;
        lookups = count-on k w.role o 1 n.said.token n.tale x n.tells.role (omega arith) n.known.lookups;
        variables = count-on k w.role v 2 n.said.token n.tale x n.tells.role (omega arith) n.known.variables;
        fine = bad-so-far ∙ found-is _ (ap is_some (sym e) ∙ z);
        path = h;
        held = held_after k n.said.token n.tale n.standing n.next x n.goes n.known.held;
      }

-- where all has been told and was in order, no name is bad
pub all-fine : (u : List ℕ) (l : List (Said Saying)) (a : Accepted u l) (c o v : ℕ) (p : Path) (q : Standing) → Upright u (draft_of l) c o v p (tale_said l) q → bad_name (draft_of l) ≡ nowhere
unfolding bad_name
all-fine u l a c o v p q h = let t = told u l a.says in ap (λ (b : Tale). bad_mention (draft_of l) b.mentions) t.view ∙ h.fine

pub nothing-bad : (u : List ℕ) (d : Draft) → Upright u d 0 0 0 (record { held = Nothing; «from» = 0; to = 0; «end» = Ok 0 }) untold declaring
unfolding bad_mention PathIs HeldAt
nothing-bad u d = record { commands = refl; lookups = refl; variables = refl; fine = refl; path = refl; held = refl }

pub count-le : (r s n j : ℕ) {i : ℕ} → n ≤ i → i < j → count_no r s n ≤ j
unfolding count_no
count-le r s n j h k = onto (eqb r s)
  where
    onto : (t : Bool) → cond t (n + 1) n ≤ j
    onto true = omega arith
    onto false = omega arith
