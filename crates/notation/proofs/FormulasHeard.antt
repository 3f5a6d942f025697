-- What the words of an expression add to a draft: its entries, each operand before its operator.
use Prim.Native.Nat.{ℕ, zero, suc, ◌-◌, ◌<◌}
use mathlib.Core.Path.{◌≡◌, refl, sym, ◌∙◌, ap}
use mathlib.Core.Bool.{Bool, true, false}
use mathlib.Core.List.{List, [], ◌∷◌, ◌++◌, append_assoc, append-nil}
use native.Mathlib.Omega.{arith}
use borrow.Author.Tests.{leb-true, ltb-true, ltb-false}
use lib.Dec.{ltb}
use Rattle.grammar.specs.Spelling.{Token, Placed}
use Rattle.grammar.specs.Leads.{value_from}
use Rattle.notation.specs.Sayings.{Kind, boolean, integer, float, What, truth, whole, bits, Operator}
use Rattle.notation.specs.Sayings as Sayings
use Rattle.notation.specs.Numbers.{flag, signed, signed_bits}
use Rattle.notation.specs.Draft.{Binary, or, and, eq, lt, le, add, sub, mul, Entry, Pending, Draft, with_entries, with_mentions, with_pending, with_held}
use Rattle.notation.specs.Hearing as Hearing
use Rattle.notation.specs.Hearing.{◌▸◌, last, here, strength, end_operators, settled, mention_path, all_bytes, hear}
use Rattle.notation.specs.Abstract.{Expr, FineExpr, is_constant, grown}
use Rattle.notation.specs.Writing as Writing
use Rattle.notation.specs.Writing.{Word, named, numeral, constant_words, operator_of, part_words, question_words, expr_words}
use Rattle.notation.proofs.OperandsGo.{finite-low, finite-high}
use Rattle.notation.proofs.Numerals.{numeral-value}

-- ---- words without their places, in a draft without its mentions
unfoldable pub hear_word : Word → Draft → Draft
hear_word w d = with_mentions [] (hear w.says (record { bytes = w.token; place = 0 }) d)

unfoldable pub hear_words : List Word → Draft → Draft
hear_words [] d = d
hear_words (w ∷ ws) d = hear_words ws (hear_word w d)

pub words_append : (ws vs : List Word) (d : Draft) → hear_words (ws ++ vs) d ≡ hear_words vs (hear_words ws d)
unfolding hear_words
words_append [] vs d = refl
words_append (w ∷ ws) vs d = words_append ws vs (hear_word w d)

-- a draft in which no name is held; and one whose held name is settled
abbrev pub calm : Draft → Draft
calm d = with_mentions [] (with_held [] d)

abbrev pub still : Draft → Draft
still d = with_mentions [] (settled d)

-- ---- constants
signed_low : (m : ℕ) → 0 < m → signed true m ≡ 18446744073709551616 - m
unfolding signed
signed_low zero l = absurd (omega arith)
signed_low (suc m) l = refl

pub whole-low : (n : ℕ) → ltb n 9223372036854775808 ≡ true → signed false (value_from 0 (numeral n)) ≡ n
unfolding signed
whole-low n l = let h = ltb-true n 9223372036854775808 l in numeral-value n (omega arith)

pub whole_word : (n : ℕ) → is_constant integer n ≡ true → ltb n 9223372036854775808 ≡ false → signed true (value_from 0 (numeral (18446744073709551616 - n))) ≡ n
unfolding is_constant
whole_word n e l =
    let h = ltb-false n 9223372036854775808 l in
    let k = leb-true n 18446744073709551615 e in
    ap (signed true) (numeral-value (18446744073709551616 - n) (omega arith)) ∙ signed_low (18446744073709551616 - n) (omega arith) ∙ omega arith

pub bits-low : (n : ℕ) → is_constant float n ≡ true → ltb n 9223372036854775808 ≡ true → signed_bits false (value_from 0 (numeral n)) ≡ n
unfolding signed_bits
bits-low n e l = let h = finite-low n e l in numeral-value n (omega arith)

pub bits-high : (n : ℕ) → is_constant float n ≡ true → ltb n 9223372036854775808 ≡ false → signed_bits true (value_from 0 (numeral (n - 9223372036854775808))) ≡ n
unfolding signed_bits
bits-high n e l =
    let h = finite-high n e l in
    let k = ltb-false n 9223372036854775808 l in
    let v = numeral-value (n - 9223372036854775808) (omega arith) in
    omega arith

constant-heard : (k : Kind) (w : ℕ) (d : Draft) → is_constant k w ≡ true
    → still (hear_words (constant_words truth whole bits k w) (calm d)) ≡ with_entries (d.entries ▸ Entry.constant k w) (calm d)
unfolding constant_words hear_words hear_word Hearing.opened flag is_constant
constant-heard boolean zero d e = refl
constant-heard boolean (suc zero) d e = refl
constant-heard boolean (suc (suc n)) d e = absurd (omega (arith, leb-true (suc (suc n)) 1 e))
constant-heard integer n d e = go (ltb n 9223372036854775808) refl
  where
    go : (b : Bool) → ltb n 9223372036854775808 ≡ b
        → still (hear_words (elim b as (λ _. List Word) [ true ↦ named (whole false) (numeral n) ∷ [] | false ↦ Writing.silent "-" ∷ named (whole true) (numeral (18446744073709551616 - n)) ∷ [] ]) (calm d))
        ≡ with_entries (d.entries ▸ Entry.constant integer n) (calm d)
    go true l = ap (λ (m : ℕ). with_entries (d.entries ▸ Entry.constant integer m) (calm d)) (whole-low n l)
    go false l = ap (λ (m : ℕ). with_entries (d.entries ▸ Entry.constant integer m) (calm d)) (whole_word n e l)
constant-heard float n d e = go (ltb n 9223372036854775808) refl
  where
    go : (b : Bool) → ltb n 9223372036854775808 ≡ b
        → still (hear_words (elim b as (λ _. List Word) [
          | true ↦ Writing.silent "RealBits" ∷ Writing.silent "(" ∷ named (bits false) (numeral n) ∷ Writing.silent ")" ∷ []
          | false ↦ Writing.silent "-" ∷ Writing.silent "RealBits" ∷ Writing.silent "(" ∷ named (bits true) (numeral (n - 9223372036854775808)) ∷ Writing.silent ")" ∷ []
        ]) (calm d))
        ≡ with_entries (d.entries ▸ Entry.constant float n) (calm d)
    go true l = ap (λ (m : ℕ). with_entries (d.entries ▸ Entry.constant float m) (calm d)) (bits-low n e l)
    go false l = ap (λ (m : ℕ). with_entries (d.entries ▸ Entry.constant float m) (calm d)) (bits-high n e l)

-- ---- paths
abbrev marks : List Token → List Placed
marks [] = []
marks (x ∷ xs) = record { bytes = x; place = 0 } ∷ marks xs

marked : (xs : List Token) → all_bytes (marks xs) ≡ xs
unfolding all_bytes
marked [] = refl
marked (x ∷ xs) = ap (λ l. x ∷ l) (marked xs)

parts-heard : (xs : List Token) (hs : List Placed) (d : Draft) → hear_words (part_words xs) (with_held hs (calm d)) ≡ with_held (hs ++ marks xs) (calm d)
unfolding part_words hear_words hear_word hear ◌▸◌
parts-heard [] hs d = ap (λ l. with_held l (calm d)) (sym (append-nil hs))
parts-heard (x ∷ xs) hs d = parts-heard xs (hs ▸ record { bytes = x; place = 0 }) d ∙ ap (λ l. with_held l (calm d)) (append_assoc hs (record { bytes = x; place = 0 } ∷ []) (marks xs))

-- the mentions of a path change nothing else
pub path-mentions : (q : List Token) (ts : List Placed) (d : Draft) → mention_path q ts d ≡ with_mentions (mention_path q ts d).mentions d
unfolding mention_path Hearing.mentioning
path-mentions q [] d = refl
path-mentions q (t ∷ ts) d = path-mentions (q ▸ t.bytes) ts (Hearing.mentioning _ t.place d)

asked-heard : (w : What) (k : ℕ) (hs : List Placed) (d : Draft)
    → still (hear_words (question_words w k) (with_held hs (calm d))) ≡ with_entries (d.entries ▸ Entry.about w (here d) (all_bytes hs) k) (calm d)
unfolding question_words hear_words hear_word Hearing.opened
asked-heard w k hs d = ap (λ z. still (with_mentions [] (Hearing.adding (Entry.about w (here d) (all_bytes hs) k) z))) (path-mentions [] hs (calm d))

-- ---- expressions
-- an operator, and a closing parenthesis, after an operand that is settled
operated : Operator → Draft → Draft
operated o d = let e = end_operators (strength o) d in with_pending (Pending.infix' o (last e.entries) ∷ e.pending) e

closed : Draft → Draft
closed d = let e = end_operators 0 d in with_pending (elim e.pending [ [] ↦ [] | p ∷ ps ↦ ps ]) e

both-closed : (o : Binary) (i : ℕ) (es : List Entry) (d : Draft)
    → still (closed (with_entries es (calm (with_pending (Pending.infix' (operator_of o) i ∷ (Pending.paren ∷ d.pending)) d)))) ≡ with_entries (es ▸ Entry.two o i (last es)) (calm d)
unfolding closed operator_of Hearing.opened
both-closed or i es d = refl
both-closed and i es d = refl
both-closed eq i es d = refl
both-closed lt i es d = refl
both-closed le i es d = refl
both-closed add i es d = refl
both-closed sub i es d = refl
both-closed mul i es d = refl

pub expr-heard : (e : Expr) (d : Draft) → FineExpr e → still (hear_words (expr_words e) (calm d)) ≡ with_entries (grown (here d) e d.entries) (calm d)
unfolding expr_words hear_words hear_word Hearing.opened grown operated closed
expr-heard (Expr.constant k w) d h = constant-heard k w d h
expr-heard (Expr.unknown k) d h = refl
expr-heard (Expr.variable x) d h = refl
expr-heard (Expr.lookup x) d h = refl
expr-heard (Expr.asks w x xs k) d h =
    let m : Placed = record { bytes = x; place = 0 } in
    ap still (words_append (part_words xs) (question_words w k) (with_held (m ∷ []) (calm d)))
    ∙ ap (λ z. still (hear_words (question_words w k) z)) (parts-heard xs (m ∷ []) d)
    ∙ asked-heard w k (m ∷ marks xs) d
    ∙ ap (λ l. with_entries (d.entries ▸ Entry.about w (here d) (x ∷ l) k) (calm d)) (marked xs)
expr-heard (Expr.not e) d h =
    let b : Draft = with_pending (Pending.prefix ∷ (Pending.paren ∷ d.pending)) (calm d) in
    ap still (words_append (expr_words e) (Writing.saying Sayings.closes ")" ∷ []) b) ∙ ap (λ z. still (closed z)) (expr-heard e b h)
expr-heard (Expr.both o l r) d h =
    let b : Draft = with_pending (Pending.paren ∷ d.pending) (calm d) in
    let es : List Entry = grown (here d) l d.entries in
    let c : Draft = with_pending (Pending.infix' (operator_of o) (last es) ∷ (Pending.paren ∷ d.pending)) (with_entries es (calm d)) in
    let tail : List Word = expr_words r ++ (Writing.saying Sayings.closes ")" ∷ []) in
    ap still (words_append (expr_words l) (Writing.saying (Sayings.operates (operator_of o)) (Writing.operator_sign o) ∷ tail) b)
    ∙ ap (λ z. still (hear_words tail (operated (operator_of o) z))) (expr-heard l b h.0)
    ∙ ap still (words_append (expr_words r) (Writing.saying Sayings.closes ")" ∷ []) c)
    ∙ ap (λ z. still (closed z)) (expr-heard r c h.1)
    ∙ both-closed o (last es) (grown (here d) r es) (with_entries es d)
