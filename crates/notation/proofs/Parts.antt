-- The entries of an expression refer to entries of the same expression only, and its variables to the node that it is of: an invariant of hearing an expression.
use Prim.Native.Nat.{ℕ, suc, ◌-◌, ◌≤◌, ◌<◌}
use mathlib.Core.Path.{◌≡◌, refl, sym, ◌∙◌, ap}
use mathlib.Core.Logic.{◌⊎◌, inl, inr}
use mathlib.Core.Bool.{Bool, true, false, cond}
use mathlib.Core.List.{List, [], ◌∷◌, ◌++◌, append_assoc, append-nil}
use native.Mathlib.Omega.{arith}
use native.Mathlib.Nat.{eq-or-lt_of_le}
use lib.ListN.{length, get_or, length-append, get_or-append}
use lib.Dec.{leb}
use Rattle.notation.specs.Sayings.{boolean, Operator, disjunction, conjunction, equal, unequal, less, at_most, greater, at_least, plus, minus, times}
use Rattle.notation.specs.Draft.{or, and, eq, lt, le, add, sub, mul, Entry, Pending}
use Rattle.notation.specs.Hearing.{◌▸◌, last, strength, strength_of_not, made, ending, waiting}

-- where there is no entry
abbrev pub no_entry : Entry
no_entry = Entry.constant boolean 0

-- entry j of an expression of node h whose first entry is b
abbrev pub Fine : ℕ → ℕ → ℕ → Entry → Type 0
Fine b h j (Entry.constant k c) = Unit {0}
Fine b h j (Entry.unknown_of k) = Unit {0}
Fine b h j (Entry.variable n x) = n ≡ h
Fine b h j (Entry.lookup x) = Unit {0}
Fine b h j (Entry.about w n xs k) = Unit {0}
Fine b h j (Entry.negation a) = (b ≤ a) × (a < j)
Fine b h j (Entry.two o a c) = (b ≤ a) × (a < j) × (b ≤ c) × (c < j)

-- the entries from b on are of an expression of node h
abbrev pub Part : ℕ → ℕ → List Entry → Type 0
Part b h es = (j : ℕ) → b ≤ j → j < length es → Fine b h j (get_or es j no_entry)

length-add : (es : List Entry) (e : Entry) → length (es ▸ e) ≡ suc (length es)
unfolding ◌▸◌
length-add es e = length-append es (e ∷ []) ∙ omega arith

get-add : (es : List Entry) (e : Entry) → get_or (es ▸ e) (length es) no_entry ≡ e
unfolding ◌▸◌
get-add [] e = refl
get-add (x ∷ es) e = get-add es e

get-before : (es : List Entry) (e : Entry) (j : ℕ) → j < length es → get_or (es ▸ e) j no_entry ≡ get_or es j no_entry
unfolding ◌▸◌
get-before es e j l = get_or-append es (e ∷ []) no_entry j l

pub part-add : (b h : ℕ) (es : List Entry) (e : Entry) → Part b h es → Fine b h (length es) e → Part b h (es ▸ e)
part-add b h es e p f j l m = go (eq-or-lt_of_le {n = j} {m = length es} (omega (arith, length-add es e)))
  where
    go : (j ≡ length es) ⊎ (j < length es) → Fine b h j (get_or (es ▸ e) j no_entry)
    go (inl q) = rw (q, get-add es e) f
    go (inr q) = rw (get-before es e j q) (p j l q)

-- the pending operators' left operands are entries of the expression
abbrev pub PendingFine : ℕ → ℕ → List Pending → Type 0
PendingFine b n [] = Unit {0}
PendingFine b n (Pending.prefix ∷ ps) = PendingFine b n ps
PendingFine b n (Pending.paren ∷ ps) = PendingFine b n ps
PendingFine b n (Pending.infix' o a ∷ ps) = (b ≤ a) × (a < n) × PendingFine b n ps

pub pending-on : (b n m : ℕ) (ps : List Pending) → n ≤ m → PendingFine b n ps → PendingFine b m ps
pending-on b n m [] l h = tt
pending-on b n m (Pending.prefix ∷ ps) l h = pending-on b n m ps l h
pending-on b n m (Pending.paren ∷ ps) l h = pending-on b n m ps l h
pending-on b n m (Pending.infix' o a ∷ ps) l h = (h.0, omega (arith, h.1), pending-on b n m ps l h.2)

-- ---- the entries of an operator
module _ (b h : ℕ) where
  -- entries from b on, at least one, after which come others
  pub record Grown (es fs : List Entry) : Type 0 where
    pub part : Part b h fs
    pub some : b < length fs
    pub more : List Entry
    pub grows : fs ≡ es ++ more

  grown-one : (es : List Entry) (e : Entry) → Part b h es → b ≤ length es → Fine b h (length es) e → Grown es (es ▸ e)
  unfolding ◌▸◌
  grown-one es e p l f = record { part = part-add b h es e p f; some = omega (arith, length-add es e); more = e ∷ []; grows = refl }

  pub grown-add : (es : List Entry) (e : Entry) → Part b h es → b ≤ length es → Fine b h (length es) e → Grown es (es ▸ e)
  grown-add es e p l f = grown-one es e p l f

  pub grown-on : (es fs gs : List Entry) → Grown es fs → Grown fs gs → Grown es gs
  grown-on es fs gs x y = record { part = y.part; some = y.some; more = x.more ++ y.more; grows = y.grows ∙ ap (λ l. l ++ y.more) x.grows ∙ append_assoc es x.more y.more }

  pub grown-low : (es fs : List Entry) → Grown es fs → length es ≤ length fs
  grown-low es fs g = omega (arith, ap length g.grows, length-append es g.more)

  added : (es : List Entry) (x y : Entry) → (es ▸ x) ▸ y ≡ es ++ (x ∷ (y ∷ []))
  unfolding ◌▸◌
  added es x y = append_assoc es (x ∷ []) (y ∷ [])

  made-fine : (o : Operator) (a : ℕ) (es : List Entry) → Part b h es → b < length es → b ≤ a → a < length es → Grown es (es ++ made o a (last es) (length es))
  unfolding made last ◌▸◌
  made-fine disjunction a es p s l m = grown-one es (Entry.two or a (length es - 1)) p (omega arith) (l, m, omega arith, omega arith)
  made-fine conjunction a es p s l m = grown-one es (Entry.two and a (length es - 1)) p (omega arith) (l, m, omega arith, omega arith)
  made-fine equal a es p s l m = grown-one es (Entry.two eq a (length es - 1)) p (omega arith) (l, m, omega arith, omega arith)
  made-fine less a es p s l m = grown-one es (Entry.two lt a (length es - 1)) p (omega arith) (l, m, omega arith, omega arith)
  made-fine at_most a es p s l m = grown-one es (Entry.two le a (length es - 1)) p (omega arith) (l, m, omega arith, omega arith)
  made-fine plus a es p s l m = grown-one es (Entry.two add a (length es - 1)) p (omega arith) (l, m, omega arith, omega arith)
  made-fine minus a es p s l m = grown-one es (Entry.two sub a (length es - 1)) p (omega arith) (l, m, omega arith, omega arith)
  made-fine times a es p s l m = grown-one es (Entry.two mul a (length es - 1)) p (omega arith) (l, m, omega arith, omega arith)
  made-fine greater a es p s l m = grown-one es (Entry.two lt (length es - 1) a) p (omega arith) (omega arith, omega arith, l, m)
  made-fine at_least a es p s l m = grown-one es (Entry.two le (length es - 1) a) p (omega arith) (omega arith, omega arith, l, m)
  made-fine unequal a es p s l m =
      let g = grown-one es (Entry.two eq a (length es - 1)) p (omega arith) (l, m, omega arith, omega arith) in
      let k = length-add es (Entry.two eq a (length es - 1)) in
      rw (sym (added es (Entry.two eq a (length es - 1)) (Entry.negation (length es))))
      (grown-on es (es ▸ Entry.two eq a (length es - 1)) _ g
      (grown-one (es ▸ Entry.two eq a (length es - 1)) (Entry.negation (length es)) g.part (omega arith) (omega arith, omega arith)))

  -- ---- operators that end
  pub ending-grown : (k : ℕ) (ps : List Pending) (es : List Entry) → Part b h es → b < length es → PendingFine b (length es) ps → Grown es (ending k ps es)
  unfolding ending
  ending-grown k [] es p s f = record { part = p; some = s; more = []; grows = sym (append-nil es) }
  ending-grown k (Pending.paren ∷ ps) es p s f = record { part = p; some = s; more = []; grows = sym (append-nil es) }
  ending-grown k (Pending.prefix ∷ ps) es p s f = go (leb k strength_of_not) (ending-grown k ps (es ▸ Entry.negation (last es)))
    where
      go : (t : Bool) → (Part b h (es ▸ Entry.negation (last es)) → b < length (es ▸ Entry.negation (last es)) → PendingFine b (length (es ▸ Entry.negation (last es))) ps → Grown (es ▸ Entry.negation (last es)) (ending k ps (es ▸ Entry.negation (last es))))
          → Grown es (cond t (ending k ps (es ▸ Entry.negation (last es))) es)
      go true r =
          let g = grown-one es (Entry.negation (last es)) p (omega arith) (unfold last in (omega arith, omega arith)) in
          grown-on es (es ▸ Entry.negation (last es)) _ g (r g.part g.some (pending-on b (length es) _ ps (grown-low es _ g) f))
      go false r = record { part = p; some = s; more = []; grows = sym (append-nil es) }
  ending-grown k (Pending.infix' o a ∷ ps) es p s f = go (leb k (strength o)) (ending-grown k ps (es ++ made o a (last es) (length es)))
    where
      go : (t : Bool) → (Part b h (es ++ made o a (last es) (length es)) → b < length (es ++ made o a (last es) (length es)) → PendingFine b (length (es ++ made o a (last es) (length es))) ps → Grown (es ++ made o a (last es) (length es)) (ending k ps (es ++ made o a (last es) (length es))))
          → Grown es (cond t (ending k ps (es ++ made o a (last es) (length es))) es)
      go true r =
          let g = made-fine o a es p s f.0 f.1 in
          grown-on es (es ++ made o a (last es) (length es)) _ g (r g.part g.some (pending-on b (length es) _ ps (grown-low es _ g) f.2))
      go false r = record { part = p; some = s; more = []; grows = sym (append-nil es) }

pub waiting-fine : (b n k : ℕ) (ps : List Pending) → PendingFine b n ps → PendingFine b n (waiting k ps)
unfolding waiting
waiting-fine b n k [] f = tt
waiting-fine b n k (Pending.paren ∷ ps) f = f
waiting-fine b n k (Pending.prefix ∷ ps) f = go (leb k strength_of_not) (waiting-fine b n k ps f)
  where
    go : (t : Bool) → PendingFine b n (waiting k ps) → PendingFine b n (cond t (waiting k ps) (Pending.prefix ∷ ps))
    go true r = r
    go false r = f
waiting-fine b n k (Pending.infix' o a ∷ ps) f = go (leb k (strength o)) (waiting-fine b n k ps f.2)
  where
    go : (t : Bool) → PendingFine b n (waiting k ps) → PendingFine b n (cond t (waiting k ps) (Pending.infix' o a ∷ ps))
    go true r = r
    go false r = f

-- ---- the pending operators of the parenthesis that is open
pub data Ground : List Pending → Type 0 where
  all : Ground []
  opened : (ps : List Pending) → Ground (Pending.paren ∷ ps)

pub data Over (g : List Pending) : List Pending → Type 0 where
  none : Over g g
  prefixed : {ps : List Pending} → Over g ps → Over g (Pending.prefix ∷ ps)
  infixed : {o : Operator} {a : ℕ} {ps : List Pending} → Over g ps → Over g (Pending.infix' o a ∷ ps)

pub waiting-over : (g : List Pending) → Ground g → (k : ℕ) {ps : List Pending} → Over g ps → Over g (waiting k ps)
unfolding waiting
waiting-over g all k none = none
waiting-over g (opened ps) k none = none
waiting-over g r k (prefixed {ps = ps} v) = go (leb k strength_of_not) (waiting-over g r k v)
  where
    go : (t : Bool) → Over g (waiting k ps) → Over g (cond t (waiting k ps) (Pending.prefix ∷ ps))
    go true w = w
    go false w = prefixed v
waiting-over g r k (infixed {o = o} {a = a} {ps = ps} v) = go (leb k (strength o)) (waiting-over g r k v)
  where
    go : (t : Bool) → Over g (waiting k ps) → Over g (cond t (waiting k ps) (Pending.infix' o a ∷ ps))
    go true w = w
    go false w = infixed v

pub waiting_none : (g : List Pending) → Ground g → {ps : List Pending} → Over g ps → waiting 0 ps ≡ g
unfolding waiting strength
waiting_none g all none = refl
waiting_none g (opened ps) none = refl
waiting_none g r (prefixed v) = waiting_none g r v
waiting_none g r (infixed {o = disjunction} v) = waiting_none g r v
waiting_none g r (infixed {o = conjunction} v) = waiting_none g r v
waiting_none g r (infixed {o = equal} v) = waiting_none g r v
waiting_none g r (infixed {o = unequal} v) = waiting_none g r v
waiting_none g r (infixed {o = less} v) = waiting_none g r v
waiting_none g r (infixed {o = at_most} v) = waiting_none g r v
waiting_none g r (infixed {o = greater} v) = waiting_none g r v
waiting_none g r (infixed {o = at_least} v) = waiting_none g r v
waiting_none g r (infixed {o = plus} v) = waiting_none g r v
waiting_none g r (infixed {o = minus} v) = waiting_none g r v
waiting_none g r (infixed {o = times} v) = waiting_none g r v
