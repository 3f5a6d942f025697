-- The mentions of a text's draft stand in text order.
use Prim.Native.Nat.{ℕ, suc, ◌≤◌}
use mathlib.Core.Path.{◌≡◌, refl, sym, ◌∙◌, ap, subst}
use mathlib.Core.Bool.{Bool, true, false, true≢false}
use mathlib.Core.List.{List, [], ◌∷◌, ◌++◌, append_assoc, append-nil}
use native.Mathlib.Omega.{arith}
use Rattle.grammar.specs.Spelling.{Token, Placed}
use Rattle.notation.specs.Sayings.{Saying, silence, declares_command, numbers_command, declares_lookup, names, begins, opens_list, closes_list, calls, assigns, conditions, ranks, declares_variable, initial_truth, initial_whole, initial_decimal, initial_bits, truth, whole, decimal, bits, unknown, reads, mentions, descends, asks, negates, operates, parenthesis, closes, ends}
use Rattle.notation.specs.Draft.{Entry, Mentioned, Draft, blank, with_held}
use Rattle.notation.specs.Hearing.{◌▸◌, end_operators, settle_name, settled, mention_path, negated, on_node, on_variable, mentioning, adding, next_node, hear, hear_all, draft_of}
use Rattle.notation.specs.Spoken.{spoken}
use Rattle.notation.specs.Phrases.{Sayings}
use Rattle.notation.specs.Promises.{InTextOrder, MentionsOrdered}
use Rattle.notation.proofs.Spoken.{hear-spoken}
use Rattle.notation.proofs.Phrased.{plans-phrased}
use Rattle.notation.proofs.Turns.{Turn, holds, goes, settles, other, turn, After, Polite, plan-polite}
use Rattle.notation.proofs.Rising.{SaidRising, says-rising}

-- numbers that rise from m and stay below n
abbrev Up : ℕ → List ℕ → ℕ → Type 0
Up m [] n = m ≤ n
Up m (x ∷ xs) n = (m ≤ x) × Up (suc x) xs n

up-on : (m : ℕ) (xs : List ℕ) (n k : ℕ) → n ≤ k → Up m xs n → Up m xs k
up-on m [] n k l h = omega arith
up-on m (x ∷ xs) n k l h = (h.0, up-on (suc x) xs n k l h.1)

up-add : (m : ℕ) (xs : List ℕ) (n y : ℕ) → n ≤ y → Up m xs n → Up m (xs ++ (y ∷ [])) (suc y)
up-add m [] n y l h = (omega arith, omega arith)
up-add m (x ∷ xs) n y l h = (h.0, up-add (suc x) xs n y l h.1)

up_ends : (m : ℕ) (xs : List ℕ) (n : ℕ) → Up m xs n → m ≤ n
up_ends m [] n h = h
up_ends m (x ∷ xs) n h = omega (arith, h.0, up_ends (suc x) xs n h.1)

up-front : (m : ℕ) (xs ys : List ℕ) (n : ℕ) → Up m (xs ++ ys) n → Up m xs n
up-front m [] ys n h = up_ends m ys n h
up-front m (x ∷ xs) ys n h = (h.0, up-front (suc x) xs ys n h.1)

abbrev at : List Mentioned → List ℕ
at [] = []
at (m ∷ ms) = m.place ∷ at ms

abbrev held_at : List Placed → List ℕ
held_at [] = []
held_at (t ∷ ts) = t.place ∷ held_at ts

at-add : (ms : List Mentioned) (m : Mentioned) → at (ms ▸ m) ≡ at ms ++ (m.place ∷ [])
unfolding ◌▸◌
at-add [] m = refl
at-add (x ∷ ms) m = ap (λ l. x.place ∷ l) (at-add ms m)

held-add : (ts : List Placed) (t : Placed) → held_at (ts ▸ t) ≡ held_at ts ++ (t.place ∷ [])
unfolding ◌▸◌
held-add [] t = refl
held-add (x ∷ ts) t = ap (λ l. x.place ∷ l) (held-add ts t)

-- the places of what is mentioned and of what is held
abbrev Line : ℕ → Draft → Type 0
Line n d = Up 0 (at d.mentions ++ held_at d.held) n

-- ---- what is held becomes mentioned
path-at : (q : List Token) (ts : List Placed) (d : Draft) → at (mention_path q ts d).mentions ≡ at d.mentions ++ held_at ts
unfolding mention_path mentioning
path-at q [] d = sym (append-nil (at d.mentions))
path-at q (t ∷ ts) d = path-at (q ▸ t.bytes) ts _ ∙ ap (λ l. l ++ held_at ts) (at-add d.mentions _) ∙ append_assoc (at d.mentions) (t.place ∷ []) (held_at ts)

path-held : (q : List Token) (ts : List Placed) (d : Draft) → (mention_path q ts d).held ≡ d.held
unfolding mention_path mentioning
path-held q [] d = refl
path-held q (t ∷ ts) d = path-held (q ▸ t.bytes) ts _

settled-held : (d : Draft) → (settled d).held ≡ []
unfolding settled settle_name mentioning adding
settled-held d = go d.held refl
  where
    go : (hs : List Placed) → d.held ≡ hs → (settle_name d hs).held ≡ []
    go [] e = e
    go (t ∷ ts) e = refl

settled_up : (n : ℕ) (d : Draft) → Line n d → Up 0 (at (settled d).mentions) n
unfolding settled settle_name mentioning adding
settled_up n d h = go d.held h
  where
    go : (hs : List Placed) → Up 0 (at d.mentions ++ held_at hs) n → Up 0 (at (settle_name d hs).mentions) n
    go [] h = up-front 0 (at d.mentions) [] n h
    go (t ∷ ts) h =
        subst (λ l. Up 0 l n) (sym (at-add d.mentions _))
        (up-front 0 (at d.mentions ++ (t.place ∷ [])) (held_at ts) n (subst (λ l. Up 0 l n) (sym (append_assoc (at d.mentions) (t.place ∷ []) (held_at ts))) h))

negated-same : (b : Bool) (d : Draft) → ((negated b d).mentions ≡ d.mentions) × ((negated b d).held ≡ d.held)
unfolding negated adding
negated-same true d = (refl, refl)
negated-same false d = (refl, refl)

-- ---- each turn
-- nothing is held, and what is mentioned stands below n
abbrev Calm : ℕ → Draft → Type 0
Calm n d = (d.held ≡ []) × Up 0 (at d.mentions) n

calm-line : (n : ℕ) (d : Draft) → Calm n d → Line n d
calm-line n d c = rw (c.0, append-nil (at d.mentions)) c.1

mentioned : (n : ℕ) (m : Mentioned) (d : Draft) → n ≤ m.place → Calm n d → (d.held ≡ []) × Up 0 (at (d.mentions ▸ m)) (suc m.place)
mentioned n m d l c = (c.0, subst (λ x. Up 0 x (suc m.place)) (sym (at-add d.mentions m)) (up-add 0 (at d.mentions) n m.place l c.1))

passed : (n : ℕ) (t : Placed) (d : Draft) → n ≤ t.place → Calm n d → Calm (suc t.place) d
passed n t d l c = (c.0, up-on 0 (at d.mentions) n (suc t.place) (omega arith) c.1)

-- what each turn makes of them
abbrev Post : Turn → ℕ → ℕ → Draft → Draft → Type 0
Post holds n k d e = Calm n d → Line k e
Post goes n k d e = Line n d → Line k e
Post settles n k d e = Line n d → Calm k e
Post other n k d e = Calm n d → Calm k e

settled-calm : (n : ℕ) (t : Placed) (d : Draft) → n ≤ t.place → Line n d → Calm (suc t.place) (settled d)
settled-calm n t d l h = (settled-held d, up-on 0 (at (settled d).mentions) n (suc t.place) (omega arith) (settled_up n d h))

asked-calm : (n : ℕ) (t : Placed) (b : Bool) (e : Entry) (d : Draft) → n ≤ t.place → Line n d → Calm (suc t.place) (negated b (adding e (mention_path [] d.held (with_held [] d))))
unfolding adding
asked-calm n t b e d l h =
    let z = mention_path [] d.held (with_held [] d) in
    let s = negated-same b (adding e z) in
    (s.1 ∙ path-held [] d.held (with_held [] d), subst (λ x. Up 0 x (suc t.place)) (sym (ap at s.0 ∙ path-at [] d.held (with_held [] d))) (up-on 0 (at d.mentions ++ held_at d.held) n (suc t.place) (omega arith) h))

heard : (x : Saying) (t : Placed) (n : ℕ) (d : Draft) → n ≤ t.place → Post (turn x) n (suc t.place) d (hear x t d)
unfolding turn hear mentioning adding next_node on_node on_variable end_operators
heard silence t n d l = λ c. passed n t d l c
heard declares_command t n d l = λ c. mentioned n _ d l c
heard numbers_command t n d l = λ c. passed n t d l c
heard (declares_lookup k) t n d l = λ c. mentioned n _ d l c
heard names t n d l = λ c. mentioned n _ d l c
heard begins t n d l = λ c. passed n t d l c
heard opens_list t n d l = λ c. passed n t d l c
heard closes_list t n d l = λ c. passed n t d l c
heard calls t n d l = λ c. mentioned n _ d l c
heard assigns t n d l = λ c. mentioned n _ d l c
heard (conditions k) t n d l = λ c. passed n t d l c
heard ranks t n d l = λ c. passed n t d l c
heard (declares_variable k) t n d l = λ c. mentioned n _ d l c
heard (initial_truth b) t n d l = λ c. passed n t d l c
heard (initial_whole b) t n d l = λ c. passed n t d l c
heard (initial_decimal b) t n d l = λ c. passed n t d l c
heard (initial_bits b) t n d l = λ c. passed n t d l c
heard (truth b) t n d l = λ c. passed n t d l c
heard (whole b) t n d l = λ c. passed n t d l c
heard (decimal b) t n d l = λ c. passed n t d l c
heard (bits b) t n d l = λ c. passed n t d l c
heard (unknown k) t n d l = λ c. passed n t d l c
heard reads t n d l = λ c. mentioned n _ d l c
heard mentions t n d l = λ c. up-add 0 (at d.mentions) n t.place l c.1
heard descends t n d l = λ h. subst (λ z. Up 0 (at d.mentions ++ z) (suc t.place)) (sym (held-add d.held t)) (subst (λ z. Up 0 z (suc t.place)) (append_assoc (at d.mentions) (held_at d.held) (t.place ∷ [])) (up-add 0 (at d.mentions ++ held_at d.held) n t.place l h))
heard (asks w b k) t n d l = λ h. asked-calm n t b _ d l h
heard negates t n d l = λ c. passed n t d l c
heard (operates o) t n d l = λ h. settled-calm n t d l h
heard parenthesis t n d l = λ c. passed n t d l c
heard closes t n d l = λ h. settled-calm n t d l h
heard ends t n d l = λ h. settled-calm n t d l h

-- ---- all of them
abbrev State : Bool → ℕ → Draft → Type 0
State false n d = Calm n d
State true n d = Line n d

all-heard : (l : Sayings) (h : Bool) (n : ℕ) (d : Draft) → Polite l h → SaidRising n l → State h n d → (k : ℕ) × Calm k (hear_all l d)
unfolding hear_all
all-heard [] false n d p r s = (n, s)
all-heard [] true n d p r s = absurd (true≢false p)
all-heard (w ∷ l) h n d p r s =
    go h (turn w.what) p s (heard w.what w.token n d r.0) (λ k q. all-heard l k (suc w.token.place) (hear w.what w.token d) q r.1)
  where
    e : Draft
    e = hear w.what w.token d

    go : (h : Bool) (t : Turn) → After h t (Polite l) → State h n d → Post t n (suc w.token.place) d e
        → ((k : Bool) → Polite l k → State k (suc w.token.place) e → (k : ℕ) × Calm k (hear_all l e)) → (k : ℕ) × Calm k (hear_all l e)
    go false holds p s f r = r true p (f s)
    go false goes p s f r = absurd p
    go false settles p s f r = r false p (f (calm-line n d s))
    go false other p s f r = r false p (f s)
    go true holds p s f r = absurd p
    go true goes p s f r = r true p (f s)
    go true settles p s f r = r false p (f s)
    go true other p s f r = absurd p

in-order : (m n : ℕ) (ms : List Mentioned) → Up m (at ms) n → InTextOrder m ms
in-order m n [] h = tt
in-order m n (x ∷ ms) h = (h.0, in-order (suc x.place) n ms h.1)

pub mentions-ordered : MentionsOrdered
unfolding draft_of
mentions-ordered u l e =
    let h = all-heard (spoken l) false 0 blank (plan-polite (plans-phrased u l e)) (says-rising u l e) (refl, omega arith) in
    subst (λ d. InTextOrder 0 d.mentions) (hear-spoken l blank) (in-order 0 h.0 (hear_all (spoken l) blank).mentions h.1.1)
