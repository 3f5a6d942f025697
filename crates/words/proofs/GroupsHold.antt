-- The groups hold every literal of their length with its class, and nothing else: two tests that antt computes for a group.
use Rattle.std.proofs.Common.{◌≡◌, ℕ, zero, suc, Bool, true, false, cond, not, ◌&&◌, eqb, ltb, ◌⊎◌, List, [], ◌∷◌, length, get_or, take, drop, sym, refl, ap, ◌∙◌, inl, inr, true≢false, eq-eqb, ne_eqb, eqb-true}
use Rattle.plexil.specs.Lists.{Found, at, nowhere}
use Rattle.grammar.specs.Spelling.{Token}
use Rattle.grammar.specs.Leads.{same}
use Rattle.grammar.proofs.Bools.{both}
use Rattle.grammar.proofs.Same.{same-eq}
use Rattle.grammar.specs.Leads as Leads
use Rattle.notation.specs.Rows as Rows
use Rattle.notation.specs.Rows.{met}
use Rattle.notation.specs.Classes as Classes
use Rattle.notation.specs.Classes.{a_name, literals, literal_from}
use Rattle.notation.proofs.Classes.{fails_at, fails-among, found_among}
use Rattle.words.specs.Groups as Groups
use Rattle.words.specs.Groups.{found_within, found_in, number_or, literal_class}

-- each word of n bytes in the group has its class after it
unfoldable pub good_within : ℕ → ℕ → List ℕ → Bool
good_within zero n group = true
good_within (suc k) n group =
    let later = good_within k n (drop (suc n) group) in cond (ltb n (length group)) (eqb (get_or group n 0) (literal_class (take n group)) && later) true

-- a literal of n bytes is not in the group
unfoldable pub lacks : ℕ → List ℕ → Token → Bool
lacks n group t = eqb (length t) n && eqb (found_in group t) a_name

good-found : (k : ℕ) (group : List ℕ) (t : Token) → good_within k (length t) group ≡ true → (found_within k group t ≡ a_name) ⊎ (found_within k group t ≡ literal_class t)
unfolding good_within found_within
good-found zero group t e = inl refl
good-found (suc k) group t e = go (ltb (length t) (length group)) (same (take (length t) group) t) refl refl (good-found k (drop (suc (length t)) group) t)
  where
    go : (a b : Bool) → ltb (length t) (length group) ≡ a → same (take (length t) group) t ≡ b
        → (good_within k (length t) (drop (suc (length t)) group) ≡ true
        → (found_within k (drop (suc (length t)) group) t ≡ a_name) ⊎ (found_within k (drop (suc (length t)) group) t ≡ literal_class t))
        → (cond (ltb (length t) (length group)) (cond (same (take (length t) group) t) (get_or group (length t) 0) (found_within k (drop (suc (length t)) group) t)) a_name ≡ a_name)
        ⊎ (cond (ltb (length t) (length group)) (cond (same (take (length t) group) t) (get_or group (length t) 0) (found_within k (drop (suc (length t)) group) t)) a_name ≡ literal_class t)
    go false b p q r = inl (rw p)
    go true true p q r =
        let h = both (eqb (get_or group (length t) 0) (literal_class (take (length t) group))) _ (rw p at e) in
        inr (rw (p, q) (eqb-true (get_or group (length t) 0) (literal_class (take (length t) group)) h.0 ∙ ap literal_class (same-eq (take (length t) group) t q)))
    go true false p q r =
        let h = both (eqb (get_or group (length t) 0) (literal_class (take (length t) group))) _ (rw p at e) in
        rw (p, q) (r h.1)

-- the group holds the literals of n bytes
unfoldable pub holds : ℕ → List ℕ → Bool
holds n group = good_within (length group) n group && fails_at (lacks n group) literals

group-right : (group : List ℕ) (n : ℕ) (t : Token) → length t ≡ n → good_within (length group) n group ≡ true → fails_at (lacks n group) literals ≡ true
    → found_in group t ≡ literal_class t
unfolding found_in literal_class number_or
group-right group n t l g f = go (literal_from 0 literals t) refl (good-found (length group) group t (rw l g))
  where
    there : (j : ℕ) → literal_from 0 literals t ≡ at j → found_within (length group) group t ≡ a_name → ⊥
    there j e a = true≢false (sym present ∙ fails-among (lacks n group) literals t f (found_among j t e))
      where
        present : lacks n group t ≡ true
        present = unfold lacks found_in in (rw (eq-eqb (length t) n l, a))

    go : (o : Found) → literal_from 0 literals t ≡ o → (found_within (length group) group t ≡ a_name) ⊎ (found_within (length group) group t ≡ literal_class t)
        → found_within (length group) group t ≡ number_or (literal_from 0 literals t)
    go o e (inr r) = r
    go nowhere e (inl r) = rw e r
    go (at j) e (inl r) = absurd (there j e r)

-- the class that a group tells
pub group-tells : {r : ℕ} (group : List ℕ) (t : Token) → r ≡ found_in group t → (n : ℕ) → length t ≡ n → holds n group ≡ true → r ≡ literal_class t
unfolding holds
group-tells group t e n l h = let k = both (good_within (length group) n group) _ h in e ∙ group-right group n t l k.0 k.1

-- n is none of the numbers, the last arm of a match first
unfoldable pub NoneIn : List ℕ → ℕ → Type 0
NoneIn [] n = Unit
NoneIn (k ∷ ks) n = NoneIn ks n × (n ≡ k → ⊥)

none-met : (ks : List ℕ) (n : ℕ) → NoneIn ks n → met n ks ≡ false
unfolding NoneIn met
none-met [] n h = refl
none-met (k ∷ ks) n h = rw (ne_eqb n k h.1) (none-met ks n h.0)

-- the lengths of the literals
unfoldable pub lengths : List ℕ
lengths = 20 ∷ 18 ∷ 15 ∷ 14 ∷ 13 ∷ 12 ∷ 11 ∷ 10 ∷ 9 ∷ 8 ∷ 7 ∷ 6 ∷ 5 ∷ 4 ∷ 3 ∷ 2 ∷ 1 ∷ []

unlisted : Token → Bool
unlisted t = not (met (length t) lengths)

all_listed : fails_at unlisted literals ≡ true
unfolding fails_at unlisted lengths Classes.opened Rows.opened Leads.opened
all_listed = refl

pub no-group : (t : Token) → NoneIn lengths (length t) → a_name ≡ literal_class t
unfolding literal_class number_or
no-group t h = go (literal_from 0 literals t) refl
  where
    go : (o : Found) → literal_from 0 literals t ≡ o → a_name ≡ number_or (literal_from 0 literals t)
    go nowhere e = rw e
    go (at j) e = absurd (true≢false (sym missing ∙ fails-among unlisted literals t all_listed (found_among j t e)))
      where
        missing : unlisted t ≡ true
        missing = unfold unlisted in (rw (none-met lengths (length t) h))

-- opens what a group's test computes with
unfoldable pub tests : Unit {0}
unfolding holds good_within lacks fails_at Groups.opened Classes.opened Rows.opened Leads.opened
tests = tt
