-- What the code asks of a mention is whether it is in order.
use Prim.Native.Nat.{ℕ, ◌<◌, ◌≤◌, ◌-◌}
use mathlib.Core.Path.{◌≡◌, refl, ap, sym, ◌∙◌, subst}
use mathlib.Core.Bool.{Bool, true, false}
use mathlib.Core.List.{List, [], ◌∷◌, ◌++◌, append_assoc}
use native.Mathlib.Omega.{arith}
use borrow.Author.Tests.{ne_eqb, ltb-true, ltb-false}
use lib.Dec.{eqb, ltb}
use lib.ListN.{length, get_or, length-append}
use lib.Seq.{get_or-append_seam}
use Rattle.plexil.specs.Lists.{Found, nowhere}
use Rattle.grammar.specs.Spelling.{Token, Placed}
use Rattle.grammar.specs.Table.{Said}
use Rattle.notation.specs.Sayings.{Saying}
use Rattle.notation.specs.Draft.{Mention, use_of_command, use_of_lookup, use_of_variable}
use Rattle.notation.specs.Hearing.{◌▸◌, draft_of}
use Rattle.notation.specs.Names.{command_of, lookup_of, variable_of, is_at, is_found, in_order, bad_mention}
use Rattle.recognise.specs.Hears.{piece}
use Rattle.names.specs.declared.walk.Walk.{Walk}
use Rattle.std.specs.Prelude.{Option, is_some}
use Rattle.names.specs.Roles.{Role, role_of, role_number, detail_of}
use Rattle.names.specs.Tale.{Declared, Tale, list_of, here_in, parts, settling, tell, tell_of}
use Rattle.names.specs.Seek.{seek, nobody}
use Rattle.names.specs.Walking.{nodes_no, sort_no, name_by}
use Rattle.names.specs.Answers.{Accepted, tale_said, found_of}
use Rattle.names.specs.Judging.{settled_by, new_of, unless_of, Hearing}
use Rattle.names.proofs.ToldLaws.{told}
use Rattle.names.proofs.Grown.{fourfold, declared_by, grows, lists-grow-all}
use Rattle.names.proofs.Paths.{bad-one, found-same}
use Rattle.names.proofs.Mentions.{mention_by, own_first, declared-mention, is_call, is-assign, is_read, is-mention, is-descend, is_ask, is-settle, mentions-none}
use Rattle.names.proofs.WalkLaws.{nodes-by}

-- the element past a list's end, once it and more have been added
past : (l m : List Declared) (e : Declared) → get_or ((l ++ (e ∷ [])) ++ m) (length l) nobody ≡ e
past l m e = rw (append_assoc l (e ∷ []) m) (get_or-append_seam l e m nobody)

past-length : (l m : List Declared) (e : Declared) → length l < length ((l ++ (e ∷ [])) ++ m)
past-length l m e = omega (arith, length-append (l ++ (e ∷ [])) m, length-append l (e ∷ []))

sort-is : (k : ℕ) → k < 4 → eqb (sort_no k) k ≡ true
unfolding sort_no
sort-is k h = fourfold (λ k. eqb (sort_no k) k ≡ true) refl refl refl refl k h

settled-held : (h : List Placed) (b : Tale) → b.held ≡ h → (settling h b).held ≡ []
unfolding settling
settled-held [] b e = e
settled-held (t ∷ ts) b e = refl

held_kept : (k : ℕ) (t : Placed) (b : Tale) (r : Role) → (role_number r ≡ 10 → ⊥) → (role_number r ≡ 11 → ⊥) → (role_number r ≡ 12 → ⊥) → (role_number r ≡ 13 → ⊥) → (tell_of r k t b).held ≡ b.held
unfolding role_number tell_of
held_kept k t b Role.other e f g h = refl
held_kept k t b Role.number e f g h = refl
held_kept k t b Role.command e f g h = refl
held_kept k t b Role.lookup e f g h = refl
held_kept k t b Role.variable e f g h = refl
held_kept k t b Role.named e f g h = refl
held_kept k t b Role.unnamed e f g h = refl
held_kept k t b Role.opens e f g h = refl
held_kept k t b Role.shuts e f g h = refl
held_kept k t b Role.call e f g h = refl
held_kept k t b Role.assign e f g h = refl
held_kept k t b Role.read e f g h = refl
held_kept k t b Role.mention e f g h = absurd (e refl)
held_kept k t b Role.descend e f g h = absurd (f refl)
held_kept k t b Role.ask e f g h = absurd (g refl)
held_kept k t b Role.settle e f g h = absurd (h refl)

pub answer-found : (f : Option ℕ) (g : Found) → f ≡ found_of g → is_some f ≡ is_found g
answer-found f g e = ap is_some e ∙ found-same g

module _ (u : List ℕ) (l : List (Said Saying)) (a : Accepted u l) (w : Walk) (b : Tale) (x : Said Saying) (h : Hearing u l w b x) where
  abbrev heard : Role
  heard = role_of x.what

  told-list : (k : ℕ) → k < 4 → role_number heard ≡ k → list_of k (tell x b) ≡ list_of k b ++ (declared_by heard x.token b ∷ [])
  unfolding tell
  told-list k z e =
      let y : eqb (sort_no (role_number heard)) k ≡ true = ap (λ i. eqb (sort_no i) k) e ∙ sort-is k z in
      grows (detail_of x.what x.token.bytes) x.token b heard k z ∙ rw y

  said-list : (k : ℕ) (z : k < 4) → role_number heard ≡ k → list_of k (tale_said l) ≡ (list_of k b ++ (declared_by heard x.token b ∷ [])) ++ (lists-grow-all h.rest (tell x b) k z).rest
  said-list k z e = ap (list_of k) (sym h.whole) ∙ (lists-grow-all h.rest (tell x b) k z).grown ∙ ap (λ (y : List Declared). y ++ (lists-grow-all h.rest (tell x b) k z).rest) (told-list k z e)

  in-order : (i k : ℕ) → k < 4 → i < length (list_of k (tale_said l)) → in_order (draft_of l) (mention_by k i) ≡ is_at i (seek k (get_or (list_of k (tale_said l)) i nobody).owner (get_or (list_of k (tale_said l)) i nobody).name (tale_said l))
  in-order i k z = let t = told u l a.says in subst (λ (b : Tale). i < length (list_of k b) → in_order (draft_of l) (mention_by k i) ≡ is_at i (seek k (get_or (list_of k b) i nobody).owner (get_or (list_of k b) i nobody).name b)) t.view (own_first (draft_of l) t.lists i k z)

  -- a declaration
  pub judged-first : (i : ℕ) → w.role < 4 → i ≡ length (list_of w.role b) → bad_mention (draft_of l) (new_of heard x.token b) ≡ unless_of (is_at i (seek w.role w.owner (piece u w.from w.to) (tale_said l))) w.from
  judged-first i z e =
      let k : ℕ = role_number heard in
      let r : w.role ≡ k = h.tells.role in
      let y : k < 4 = rw r at z in
      let n : ℕ = length (list_of k b) in
      let s = said-list k y refl in
      let g : get_or (list_of k (tale_said l)) n nobody ≡ declared_by heard x.token b = ap (λ (v : List Declared). get_or v n nobody) s ∙ past (list_of k b) _ _ in
      let v : n < length (list_of k (tale_said l)) = rw s (past-length (list_of k b) _ _) in
      ap (bad_mention (draft_of l)) (declared-mention x.token b heard y) ∙ bad-one (draft_of l) (mention_by k n) x.token.place
      ∙ ap (λ t. unless_of t x.token.place) (in-order n k y v ∙ ap (λ (d : Declared). is_at n (seek k d.owner d.name (tale_said l))) g)
      ∙ rw (e, r, h.tells.owner, h.tells.name, h.tells.place)

  -- a use
  pub judged-use : (m : Token → Mention) (f : Token → Found) → new_of heard x.token b ≡ record { mention = m x.token.bytes; place = x.token.place } ∷ [] → in_order (draft_of l) (m x.token.bytes) ≡ is_found (f x.token.bytes) → name_by heard x.token.bytes ≡ x.token.bytes →
      bad_mention (draft_of l) (new_of heard x.token b) ≡ unless_of (is_found (f (piece u w.from w.to))) w.from
  judged-use m f e i n = ap (bad_mention (draft_of l)) e ∙ bad-one (draft_of l) (m x.token.bytes) x.token.place ∙ rw (i, h.tells.name, n, h.tells.place)

  role-is : (k : ℕ) → w.role ≡ k → role_number heard ≡ k
  role-is k e = sym h.tells.role ∙ e

  pub here-is : 5 ≤ w.role → w.nodes - 1 ≡ here_in b
  unfolding tell nodes_no
  here-is z =
      let n = nodes-by b (detail_of x.what x.token.bytes) x.token heard in
      let k : 5 ≤ role_number heard = rw h.tells.role at z in
      ap (λ i. i - 1) (h.nodes ∙ sym n ∙ rw (ne_eqb (role_number heard) 3 (λ e. omega arith), ne_eqb (role_number heard) 4 (λ e. omega arith)))

  pub judged-call : w.role ≡ 7 → bad_mention (draft_of l) (new_of heard x.token b) ≡ unless_of (is_found (command_of (draft_of l) (piece u w.from w.to))) w.from
  unfolding new_of name_by in_order
  judged-call e = let r : heard ≡ Role.call = is_call heard (role-is 7 e) in judged-use use_of_command (command_of (draft_of l)) (rw r) refl (rw r)

  pub judged-read : w.role ≡ 9 → bad_mention (draft_of l) (new_of heard x.token b) ≡ unless_of (is_found (lookup_of (draft_of l) (piece u w.from w.to))) w.from
  unfolding new_of name_by in_order
  judged-read e = let r : heard ≡ Role.read = is_read heard (role-is 9 e) in judged-use use_of_lookup (lookup_of (draft_of l)) (rw r) refl (rw r)

  pub judged-assign : w.role ≡ 8 → bad_mention (draft_of l) (new_of heard x.token b) ≡ unless_of (is_found (variable_of (draft_of l) (w.nodes - 1) (piece u w.from w.to))) w.from
  unfolding new_of name_by in_order
  judged-assign e =
      let r : heard ≡ Role.assign = is-assign heard (role-is 8 e) in
      let n : w.nodes - 1 ≡ here_in b = here-is (omega arith) in
      rw n (judged-use (use_of_variable (here_in b)) (variable_of (draft_of l) (here_in b)) (rw r) refl (rw r))

  pub judged-ask : w.role ≡ 12 → new_of heard x.token b ≡ parts (w.nodes - 1) [] b.held
  unfolding new_of
  judged-ask e = let n : w.nodes - 1 ≡ here_in b = here-is (omega arith) in rw (is_ask heard (role-is 12 e), n)

  pub judged-settle : w.role ≡ 13 → new_of heard x.token b ≡ settled_by (w.nodes - 1) b.held
  unfolding new_of
  judged-settle e = let n : w.nodes - 1 ≡ here_in b = here-is (omega arith) in rw (is-settle heard (role-is 13 e), n)

  pub judged-none : 4 ≤ w.role → (w.role ≡ 7 → ⊥) → (w.role ≡ 8 → ⊥) → (w.role ≡ 9 → ⊥) → (w.role ≡ 12 → ⊥) → (w.role ≡ 13 → ⊥) → bad_mention (draft_of l) (new_of heard x.token b) ≡ nowhere
  unfolding bad_mention
  judged-none z c d e f g =
      let r = h.tells.role in
      ap (bad_mention (draft_of l)) (mentions-none heard x.token b (rw r at z) (λ y. c (r ∙ y)) (λ y. d (r ∙ y)) (λ y. e (r ∙ y)) (λ y. f (r ∙ y)) (λ y. g (r ∙ y)))

  -- what is held after it
  pub held-mention : w.role ≡ 10 → (tell x b).held ≡ x.token ∷ []
  unfolding tell tell_of
  held-mention e = rw (is-mention heard (role-is 10 e))

  pub held-descend : w.role ≡ 11 → (tell x b).held ≡ b.held ▸ x.token
  unfolding tell tell_of
  held-descend e = rw (is-descend heard (role-is 11 e))

  pub held-ask : w.role ≡ 12 → (tell x b).held ≡ []
  unfolding tell tell_of
  held-ask e = rw (is_ask heard (role-is 12 e))

  pub held-settle : w.role ≡ 13 → (tell x b).held ≡ []
  unfolding tell tell_of
  held-settle e = rw (is-settle heard (role-is 13 e)) (settled-held b.held b refl)

  pub held-ended : 12 ≤ w.role → w.role ≤ 13 → (tell x b).held ≡ []
  held-ended m n = go (ltb w.role 13) refl
    where
      go : (t : Bool) → ltb w.role 13 ≡ t → (tell x b).held ≡ []
      go true e = held-ask (omega (arith, ltb-true w.role 13 e))
      go false e = held-settle (omega (arith, ltb-false w.role 13 e))

  pub held_same : (w.role ≡ 10 → ⊥) → (w.role ≡ 11 → ⊥) → (w.role ≡ 12 → ⊥) → (w.role ≡ 13 → ⊥) → (tell x b).held ≡ b.held
  unfolding tell
  held_same c d e f = let r = h.tells.role in held_kept (detail_of x.what x.token.bytes) x.token b heard (λ y. c (r ∙ y)) (λ y. d (r ∙ y)) (λ y. e (r ∙ y)) (λ y. f (r ∙ y))

  -- the name that a use or a part has
  pub name-mention : w.role ≡ 10 → piece u w.from w.to ≡ x.token.bytes
  unfolding name_by
  name-mention e = h.tells.name ∙ rw (is-mention heard (role-is 10 e))

  pub name-descend : w.role ≡ 11 → piece u w.from w.to ≡ x.token.bytes
  unfolding name_by
  name-descend e = h.tells.name ∙ rw (is-descend heard (role-is 11 e))
