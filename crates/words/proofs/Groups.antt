-- A word sought in a group of words of its length, one after another.
use Rattle.std.proofs.Common.{◌≡◌, ℕ, zero, suc, ◌+◌, ◌-◌, ◌<◌, ◌≤◌, Bool, true, false, cond, List, length, get_or, take, drop, sym, refl, ap, ◌∙◌, arith, length-drop, get_or-drop, drop-drop, take_all, le-ltb, lt-ltb}
use Rattle.grammar.specs.Leads.{same}
use Rattle.notation.specs.Classes.{a_name}
use Rattle.words.specs.Groups.{found_within, found_in}

-- what stands behind a word of the group: its class, and the words after it
pub class-after : (rest later : List ℕ) (n : ℕ) → later ≡ drop n rest → get_or later 0 0 ≡ get_or rest n 0
class-after rest later n e = let z : n + 0 ≡ n = omega arith in rw e (get_or-drop n rest 0 0 ∙ ap (λ j. get_or rest j 0) z)

pub later-words : (rest later : List ℕ) (n : ℕ) → later ≡ drop n rest → take (length later - 1) (drop 1 later) ≡ drop (suc n) rest
later-words rest later n e = let z : n + 1 ≡ suc n = omega arith in rw e (take_all (length (drop n rest) - 1) (drop 1 (drop n rest)) (rw (length-drop 1 (drop n rest)) (omega arith)) ∙ drop-drop 1 n rest ∙ ap (λ j. drop j rest) z)

-- t is not before the rest of the group
pub record Sought (group t rest : List ℕ) : Type 0 where
  pub words : ℕ
  pub enough : length rest ≤ words
  pub same : found_in group t ≡ found_within words rest t

pub sought-start : (group t : List ℕ) → Sought group t group
unfolding found_in
sought-start group t = record { words = length group; enough = omega arith; same = refl }

module _ (group t rest : List ℕ) (s : Sought group t rest) where
  module _ (h : length t < length rest) where
    -- one more word of the group
    more : found_within s.words rest t ≡ cond (same (take (length t) rest) t) (get_or rest (length t) 0) (found_within (s.words - 1) (drop (suc (length t)) rest) t)
    more = ap (λ k. found_within k rest t) left ∙ step (s.words - 1)
      where
        left : s.words ≡ suc (s.words - 1)
        left = omega (arith, s.enough)

        step : (k : ℕ) → found_within (suc k) rest t ≡ cond (same (take (length t) rest) t) (get_or rest (length t) 0) (found_within k (drop (suc (length t)) rest) t)
        step k = unfold found_within in (rw (lt-ltb (length t) (length rest) h) refl)

    pub found_here : {r : Bool} → r ≡ same (take (length t) rest) t → r ≡ true → get_or rest (length t) 0 ≡ found_in group t
    found_here e y = sym (s.same ∙ more ∙ rw (sym e ∙ y) refl)

    pub found-next : {r : Bool} → r ≡ same (take (length t) rest) t → r ≡ false → (later : List ℕ) → later ≡ drop (suc (length t)) rest → Sought group t later
    found-next e y later l = rw l (record { words = s.words - 1; enough = rw (length-drop (suc (length t)) rest) (omega (arith, s.enough)); same = s.same ∙ more ∙ rw (sym e ∙ y) refl })

  pub found_none : length rest ≤ length t → a_name ≡ found_in group t
  unfolding found_within
  found_none h = sym (s.same ∙ go s.words)
    where
      go : (k : ℕ) → found_within k rest t ≡ a_name
      go zero = refl
      go (suc k) = rw (le-ltb (length t) (length rest) h) refl
