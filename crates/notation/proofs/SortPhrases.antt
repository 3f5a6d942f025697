-- The phrase of specs/Phrases that each sort of the grammar speaks.
use mathlib.Core.Path.{◌≡◌}
use mathlib.Core.List.{List, [], ◌∷◌, ◌++◌}
use Rattle.grammar.specs.Spelling.{Placed}
use Rattle.grammar.specs.Table.{Item, lit, sort, Row, Said}
use Rattle.notation.specs.Sayings.{Kind, Saying, declares_command, numbers_command, declares_lookup, calls, assigns, ranks, mentions, negates, closes, ends}
use Rattle.notation.specs.Rows.{Close, semicolon, bracket, Sort, plan, nodes, command_name, command_number, called_name, target_name, lookup_used, priority, negated_integer, negated_real, lookup_name, attributes, variables, initial, value, initial_pattern, pattern, operand, operator, after_name, after_path, negative, property, compared, code, Rows}
use Rattle.notation.specs.Spoken.{spoken}
use Rattle.notation.specs.Phrases.{Sayings, Says, Leaf, Path, Operand, Chain, Expression, Initial, Attributes, Nodes, Plan}

-- one token, of which P holds
pub data One (P : Saying → Type 0) : Sayings → Sayings → Type 0 where
  single : {w : Said Saying} {k : Sayings} → P w.what → One P (w ∷ k) k

-- what the end of an expression says
abbrev pub end_of : Close → Saying
end_of semicolon = ends
end_of bracket = closes

-- operands and operators, up to the end
abbrev pub Closed : Close → Sayings → Sayings → Type 0
Closed c l k = (w : Said Saying) × Chain l (w ∷ k) × Says w (end_of c)

-- what comes after an operand
abbrev pub Onward : Close → Sayings → Sayings → Type 0
Onward c l k = (a : Sayings) → Operand a l → Closed c a k

-- what comes after a name and '.'
abbrev pub Asked : Close → Sayings → Sayings → Type 0
Asked c l k = (m : Sayings) × Path l m × Onward c m k

-- what may come before attributes
abbrev pub Before : Sayings → Sayings → Type 0
Before l m = (k : Sayings) → Attributes m k → Attributes l k

-- the phrase of a sort
abbrev pub Phrase : Sort → Sayings → Sayings → Type 0
Phrase plan l k = k ≡ [] → Plan l
Phrase nodes l k = Nodes l k
Phrase command_name l k = One (λ x. x ≡ declares_command) l k
Phrase command_number l k = One (λ x. x ≡ numbers_command) l k
Phrase called_name l k = One (λ x. x ≡ calls) l k
Phrase target_name l k = One (λ x. x ≡ assigns) l k
Phrase lookup_used l k = One Leaf l k
Phrase priority l k = One (λ x. x ≡ ranks) l k
Phrase negated_integer l k = Before l k
Phrase negated_real l k = Before l k
Phrase (lookup_name a) l k = One (λ x. x ≡ declares_lookup a) l k
Phrase (attributes m) l k = Attributes l k
Phrase (variables a) l k = Before l k
Phrase (initial a) l k = Before l k
Phrase (value a) l k = Before l k
Phrase (initial_pattern s) l k = One Initial l k
Phrase (pattern s) l k = One Leaf l k
Phrase (operand c) l k = Closed c l k
Phrase (operator c) l k = Onward c l k
Phrase (after_name c) l k = (w : Said Saying) → Says w mentions → Closed c (w ∷ l) k
Phrase (after_path c) l k = Asked c l k
Phrase (negative c) l k = Closed c l k
Phrase (property c) l k = Asked c l k
Phrase (compared w c) l k = Asked c l k
Phrase (code w n c) l k = Asked c l k

-- phrases of the items, one after another, and after them what R holds of
abbrev pub Then : List (Item Sort) → (Sayings → Type 0) → Sayings → Type 0
Then [] R l = R l
Then (lit w ∷ s) R l = Then s R l
Then (sort x ∷ s) R l = (m : Sayings) × Phrase x l m × Then s R m

pub then-apart : (s s' : List (Item Sort)) (R : Sayings → Type 0) (l : Sayings) → Then (s ++ s') R l → Then s (Then s' R) l
then-apart [] s' R l h = h
then-apart (lit w ∷ s) s' R l h = then-apart s s' R l h
then-apart (sort x ∷ s) s' R l h = (h.0, h.1, then-apart s s' R h.0 h.2)

pub then-join : (i : Item Sort) (s : List (Item Sort)) (R : Sayings → Type 0) (l : Sayings) → Then (i ∷ []) (Then s R) l → Then (i ∷ s) R l
then-join (lit w) s R l h = h
then-join (sort x) s R l h = h

-- the row's first token, and phrases of what follows it, are a phrase of the item
abbrev pub Makes : Item Sort → Row Sort Saying → Type 1
Makes i r = (R : Sayings → Type 0) (t : Placed) (l : List (Said Saying)) → Then r.rest R (spoken l) → Then (i ∷ []) R (spoken (record { what = r.says; token = t } ∷ l))

abbrev pub Each : Item Sort → Rows → Type 1
Each i [] = Unit {1}
Each i (r ∷ rs) = Makes i r × Each i rs

pub each_append : (i : Item Sort) (r r' : Rows) → Each i r → Each i r' → Each i (r ++ r')
each_append i [] r' e e' = e'
each_append i (x ∷ r) r' e e' = (e.0, each_append i r r' e.1 e')

-- ---- phrases put together
pub after-command : {a b c : Sayings} → One (λ x. x ≡ declares_command) a b → One (λ x. x ≡ numbers_command) b c → Plan c → Plan a
after-command (single p) (single q) h = Plan.command p q h

pub after-lookup : (k : Kind) {a b : Sayings} → One (λ x. x ≡ declares_lookup k) a b → Plan b → Plan a
after-lookup k (single p) h = Plan.lookup k p h

pub ended : {a b : Sayings} → Closed semicolon a b → Expression a b
ended e = Expression.ended e.1 e.2

pub called : {a b : Sayings} → One (λ x. x ≡ calls) a b → Attributes a b
called (single p) = Attributes.command p

pub assigned : {a b c : Sayings} → One (λ x. x ≡ assigns) a b → Closed semicolon b c → Attributes a c
assigned (single p) e = Attributes.assignment p (ended e)

pub ranked : {a b c : Sayings} → One (λ x. x ≡ ranks) a b → Attributes b c → Attributes a c
ranked (single p) h = Attributes.rank p h

pub patterned : {a b c : Sayings} → One Initial a b → Before b c → Before a c
patterned (single p) f = λ k h. Attributes.initial p (f k h)

pub leafed : (c : Close) {a b k : Sayings} → One Leaf a b → Onward c b k → Closed c a k
leafed c (single {w = w} {k = b} p) f = f (w ∷ b) (Operand.leaf p)

pub negated : {w : Said Saying} {a b : Sayings} → Says w negates → Chain a b → Chain (w ∷ a) b
negated e (Chain.one o) = Chain.one (Operand.not e o)
negated e (Chain.more o x e' h) = Chain.more o (Operand.not e x) e' h
