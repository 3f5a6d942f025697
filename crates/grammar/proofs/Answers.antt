-- What each answer of `token_at` is made of: the bytes that pass before it, and the token or the broken end.
use Prim.Native.Nat.{ℕ, ◌+◌, ◌<◌}
use native.Mathlib.Omega.{arith}
use lib.ListN.{length, drop}
use lib.Seq.{slice}
use mathlib.Core.Path.{◌≡◌, refl, sym, ◌∙◌}
use mathlib.Core.Bool.{Bool, true, false, cond, false≢true}
use mathlib.Core.Logic.{◌⊎◌, inl, inr}
use mathlib.Core.List.{List, [], ◌∷◌, ◌++◌}
use Rattle.grammar.specs.Spelling.{Token, whole, apart, Part, between, slash, lost, feed, shut}
use Rattle.grammar.specs.Scan.{done, broken, token, token_at}
use Rattle.grammar.proofs.Passes.{quiet, Passes}
use Rattle.grammar.proofs.View.{View, quietly, gone, met, view}
use Rattle.grammar.proofs.Cut.{cut-rest, cut-part}

-- from place n on: bytes x that pass, a token t, and the bytes y; t stands from place f up to place g
pub record Met (u : List ℕ) (n f g : ℕ) : Type 0 where
  pub x : List ℕ
  pub t : Token
  pub y : List ℕ
  pub is : drop n u ≡ x ++ (t ++ y)
  pub passes : Passes between x between
  pub is_whole : whole t ≡ true
  pub is_apart : apart t y ≡ true
  pub is_some : 0 < length t
  pub from : f ≡ n + length x
  pub to : g ≡ n + length x + length t

-- the text's bytes from place n on pass and leave the machine at a part p
pub record Passed (u : List ℕ) (n : ℕ) (k : Bool) : Type 0 where
  pub p : Part
  pub is_quiet : quiet p ≡ true
  pub passes : Passes between (drop n u) p
  pub is_shut : shut p ≡ k

-- a '/' that opens no comment stands before place k
pub record Lost (u : List ℕ) (n k : ℕ) : Type 0 where
  pub x : List ℕ
  pub b : ℕ
  pub y : List ℕ
  pub is : drop n u ≡ x ++ (b ∷ y)
  pub passes : Passes between x slash
  pub is_lost : feed slash b ≡ lost
  pub place : k ≡ n + length x

token-some : (t : Token) → whole t ≡ true → 0 < length t
unfolding whole
token-some [] w = absurd (false≢true w)
token-some (b ∷ t) w = omega arith

module _ (u : List ℕ) (n : ℕ) where
  module _ {f g : ℕ} (m : Met u n f g) where
    pub met-part : slice f g u ≡ m.t
    met-part = rw (m.from, m.to) (cut-part u n m.x m.t m.y m.is m.is_some)

    pub met-rest : drop g u ≡ m.y
    met-rest = rw m.to (cut-rest u n m.x m.t m.y m.is)

  pub token-met : (f g : ℕ) → token_at u n ≡ token f g → Met u n f g
  unfolding quiet token_at
  token-met f g h = go (view between n (drop n u) refl)
    where
      no : (k : Bool) (m : ℕ) → token f g ≡ cond k done (broken m) → Met u n f g
      no true m e = let z : ◌≡◌ {A = ℕ} 0 1 = cc in absurd (omega arith)
      no false m e = let z : ◌≡◌ {A = ℕ} 0 1 = cc in absurd (omega arith)

      go : View between n (drop n u) → Met u n f g
      go (quietly p q m r) = no (shut p) _ (sym h ∙ r)
      go (gone x b y e m l r) = no false (n + length x) (sym h ∙ r)
      go (met x t y e m w a r) =
          record { x = x; t = t; y = y; is = e; passes = m; is_whole = w; is_apart = a; is_some = token-some t w; from = cc; to = cc }

  pub done-passed : token_at u n ≡ done → Passed u n true
  unfolding quiet token_at
  done-passed h = go (view between n (drop n u) refl)
    where
      ends : (p : Part) (k : Bool) (m : ℕ) → shut p ≡ k → done ≡ cond k done (broken m) → quiet p ≡ true → Passes between (drop n u) p
          → Passed u n true
      ends p true m s e q d = record { p = p; is_quiet = q; passes = d; is_shut = s }
      ends p false m s e q d = let z : ◌≡◌ {A = ℕ} 0 1 = cc in absurd (omega arith)

      go : View between n (drop n u) → Passed u n true
      go (quietly p q m r) = ends p (shut p) _ refl (sym h ∙ r) q m
      go (gone x b y e m l r) = let z : ◌≡◌ {A = ℕ} 0 1 = cc in absurd (omega arith)
      go (met x t y e m w a r) = let z : ◌≡◌ {A = ℕ} 0 1 = cc in absurd (omega arith)

  -- the text ends in a comment or after a '/', or a '/' opens no comment
  abbrev pub Broken : ℕ → Type 0
  Broken k = (Passed u n false × (k ≡ n + length (drop n u))) ⊎ Lost u n k

  pub broken-how : (k : ℕ) → token_at u n ≡ broken k → Broken k
  unfolding quiet token_at
  broken-how k h = go (view between n (drop n u) refl)
    where
      ends : (p : Part) (j : Bool) → shut p ≡ j → broken k ≡ cond j done (broken (n + length (drop n u))) → quiet p ≡ true
          → Passes between (drop n u) p → Broken k
      ends p true s e q d = let z : ◌≡◌ {A = ℕ} 0 1 = cc in absurd (omega arith)
      ends p false s e q d = inl (record { p = p; is_quiet = q; passes = d; is_shut = s }, cc)

      go : View between n (drop n u) → Broken k
      go (quietly p q m r) = ends p (shut p) refl (sym h ∙ r) q m
      go (gone x b y e m l r) = inr (record { x = x; b = b; y = y; is = e; passes = m; is_lost = l; place = cc })
      go (met x t y e m w a r) = let z : ◌≡◌ {A = ℕ} 0 1 = cc in absurd (omega arith)
