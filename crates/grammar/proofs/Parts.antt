-- Where the machine over bytes can stand: a token under way is a token, and becomes the first of those that follow.
use Prim.Native.Nat.{ℕ}
use lib.Dec.{eqb}
use mathlib.Core.Path.{◌≡◌, refl, sym, ◌∙◌, ap, subst}
use mathlib.Core.Bool.{Bool, true, false, not, ◌&&◌, ◌||◌, cond}
use mathlib.Core.List.{List, [], ◌∷◌, ◌++◌, append_assoc, append-nil}
use mathlib.Core.Option.{Option, none, some}
use Rattle.grammar.specs.Spelling.{Token, is_blank, is_letter, is_digit, is_word_byte, is_pair, is_nil, joins, goes_on, whole, Part, between, slash, star, lost, remark, aside, chunk, begin, feed, given, after, emitted, pending}
use Rattle.grammar.proofs.Bools.{both_true}
use Rattle.grammar.proofs.Tokens.{whole_append}

-- a blank ends any token
pub ends-at-blank : (q : Token) → joins q 32 ≡ false
unfolding joins is_word_byte is_letter is_digit is_pair
ends-at-blank [] = refl
ends-at-blank (c ∷ q) = go (is_letter c) (is_digit c) (is_nil q) (eqb c 38) (eqb c 124)
  where
    go : (k l m n o : Bool) → cond k false (cond l false (m && (false || (n && false) || (o && false)))) ≡ false
    go true l m n o = refl
    go false true m n o = refl
    go false false false n o = refl
    go false false true true true = refl
    go false false true true false = refl
    go false false true false true = refl
    go false false true false false = refl

abbrev IsNone' {ℓ} : {A : Type ℓ} → Option A → Type 0
IsNone' none = Unit {0}
IsNone' (some a) = ⊥

pub none≢some {ℓ} : {A : Type ℓ} {a : A} → none ≡ some a → ⊥
none≢some e = subst IsNone' e tt

-- what is found in u after p
abbrev Finds : Part → List ℕ → List Token
Finds p u = emitted p u ++ pending (after p u)

-- a chunk becomes the first token of what follows it
abbrev pub First : Token → List ℕ → Type 0
First q v = (x : List ℕ) × (goes_on q x ≡ true) × (w : List Token) × (emitted (chunk q) v ++ pending (after (chunk q) v) ≡ (q ++ x) ∷ w)

pub first-token : (v : List ℕ) (q : Token) → First q v
unfolding emitted after pending feed given goes_on
first-token [] q = ([], refl, [], ap (λ x. x ∷ []) (sym (append-nil q)))
first-token (b ∷ v) q = go (joins q b) refl (first-token v (q ++ (b ∷ [])))
  where
    go : (k : Bool) → joins q b ≡ k → First (q ++ (b ∷ [])) v → First q (b ∷ v)
    go true e f = (b ∷ f.0, rw e (f.1), f.2, rw e (f.3 ∙ ap (λ x. x ∷ f.2) (append_assoc q (b ∷ []) (f.0))))
    go false e f =
        let w = Finds (begin b) v in
        ([], refl, w, rw e (ap (λ x. x ∷ w) (sym (append-nil q))))

-- only tokens are under way
abbrev pub Good : Part → Type 0
Good between = Unit {0}
Good slash = Unit {0}
Good remark = Unit {0}
Good star = Unit {0}
Good lost = Unit {0}
Good aside = Unit {0}
Good (chunk q) = whole q ≡ true

pub good-begin : (b : ℕ) → Good (begin b)
unfolding begin whole goes_on
good-begin b = go (is_blank b) refl (eqb b 47) refl
  where
    go : (k : Bool) → is_blank b ≡ k → (j : Bool) → eqb b 47 ≡ j → Good (begin b)
    go true e j ej = rw e tt
    go false e true ej = rw (e, ej) tt
    go false e false ej = rw (e, ej) (both_true _ _ (both_true _ _ (ap not e) (ap not ej)) refl)

good-cond : (k : Bool) (p p' : Part) → Good p → Good p' → Good (cond k p p')
good-cond true p p' g g' = g
good-cond false p p' g g' = g'

pub good-feed : (p : Part) (b : ℕ) → Good p → Good (feed p b)
unfolding feed goes_on
good-feed between b g = good-begin b
good-feed slash b g = good-cond (eqb b 42) remark (cond (eqb b 47) aside lost) tt (good-cond (eqb b 47) aside lost tt tt)
good-feed remark b g = good-cond (eqb b 42) star remark tt tt
good-feed star b g = good-cond (eqb b 47) between (cond (eqb b 42) star remark) tt (good-cond (eqb b 42) star remark tt tt)
good-feed lost b g = tt
good-feed aside b g = good-cond (eqb b 10) between aside tt tt
good-feed (chunk q) b g = go (joins q b) refl
  where
    go : (k : Bool) → joins q b ≡ k → Good (feed (chunk q) b)
    go true e = rw e (whole_append q (b ∷ []) g (both_true _ _ e refl))
    go false e = rw e (good-begin b)
