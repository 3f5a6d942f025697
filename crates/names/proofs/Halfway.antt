-- A walk halfway through an accepted text: what has been told, and what is left of it.
use Prim.Native.Nat.{ℕ, ◌<◌}
use mathlib.Core.Path.{◌≡◌, refl, subst}
use mathlib.Core.List.{List, [], ◌∷◌}
use mathlib.Core.Option.{some}
use native.Mathlib.Omega.{arith}
use lib.ListN.{length}
use Rattle.grammar.specs.Table.{Said}
use Rattle.notation.specs.Sayings.{Saying}
use Rattle.notation.specs.Spoken.{spoken}
use Rattle.notation.specs.Hearing.{draft_of}
use Rattle.recognise.specs.Tape.{Tape}
use Rattle.recognise.specs.Aptness.{Apt, AllApt}
use Rattle.recognise.proofs.Aptness.{all-apt}
use Rattle.names.specs.declared.walk.Walk.{Walk}
use Rattle.names.specs.Roles.{Role, role_of, role_number}
use Rattle.names.specs.Tale.{Tale, untold, tell, tell_all, tale_of}
use Rattle.names.specs.Order.{Standing, declaring, after}
use Rattle.names.specs.Seek.{Shallow}
use Rattle.names.specs.Walking.{Follows, Tells, Walked, Over, Started}
use Rattle.names.specs.Answers.{Accepted, tale_said}
use Rattle.names.proofs.ToldLaws.{told, shallow}
use Rattle.names.proofs.Grown.{shallow-told}

-- told so far is a tale and where it stands, with P
pub record Halfway (u ls : List ℕ) (w : Walk) (l : List (Said Saying)) (P : Tale → Standing → Type 0) : Type 0 where
  pub tale : Tale
  pub standing : Standing
  pub rest : List (Said Saying)
  pub follows : Follows u ls w tale standing rest
  pub apt : AllApt rest
  pub whole : tell_all rest tale ≡ tale_said l
  pub known : P tale standing

-- the walk has heard x since the tale b
pub record Newly (u ls : List ℕ) (r : Walk) (l : List (Said Saying)) (P : Tale → Standing → Type 0) : Type 0 where
  pub tale : Tale
  pub standing : Standing
  pub known : P tale standing
  pub said : Said Saying
  pub asked : Apt said.what said.token.bytes
  pub tells : Tells u r tale said
  pub next : Standing
  pub goes : after (role_of said.what) standing ≡ some next
  pub rest : List (Said Saying)
  pub follows : Follows u ls r (tell said tale) next rest
  pub apt : AllApt rest
  pub whole : tell_all rest (tell said tale) ≡ tale_said l

pub role-below : (r : Role) → role_number r < 16
unfolding role_number
role-below Role.other = omega arith
role-below Role.number = omega arith
role-below Role.command = omega arith
role-below Role.lookup = omega arith
role-below Role.variable = omega arith
role-below Role.named = omega arith
role-below Role.unnamed = omega arith
role-below Role.opens = omega arith
role-below Role.shuts = omega arith
role-below Role.call = omega arith
role-below Role.assign = omega arith
role-below Role.read = omega arith
role-below Role.mention = omega arith
role-below Role.descend = omega arith
role-below Role.ask = omega arith
role-below Role.settle = omega arith

pub shallow-said : (u : List ℕ) (l : List (Said Saying)) → Accepted u l → Shallow (tale_said l).levels
shallow-said u l a =
    let t = told u l a.says in
    subst (λ (b : Tale). Shallow b.levels) t.view (shallow (draft_of l).nodes a.levels)

module _ {P : Tale → Standing → Type 0} (u os ls : List ℕ) (w : Walk) (l : List (Said Saying)) (a : Accepted u l) (tape : Tape u os) where
  -- where the walk is over, all has been told
  pub all_told : Over u os ls w → Halfway u ls w l P → (q : Standing) × P (tale_said l) q
  unfolding tell_all
  all_told g h = onto h.tale h.standing h.rest h.follows h.whole h.known
    where
      onto : (b : Tale) (q : Standing) (k : List (Said Saying)) → Follows u ls w b q k → tell_all k b ≡ tale_said l → P b q → (q : Standing) × P (tale_said l) q
      onto b q [] f v p = (q, subst (λ (b : Tale). P b q) v p)
      onto b q (x ∷ k) f v p = absurd (g.none_left tape x k b q f)

  pub newly : {ls' : List ℕ} {r : Walk} → Walked u os ls w ls' r → Halfway u ls w l P → Newly u ls' r l P
  unfolding tell_all AllApt
  newly {ls'} {r} g h = onto h.tale h.standing h.rest h.follows h.apt h.whole h.known
    where
      onto : (b : Tale) (q : Standing) (k : List (Said Saying)) → Follows u ls w b q k → AllApt k → tell_all k b ≡ tale_said l → P b q → Newly u ls' r l P
      onto b q [] f y v p = absurd (g.left b q f)
      onto b q (x ∷ k) f y v p =
          let s : Shallow (tell x b).levels = shallow-told k (tell x b) (rw v (shallow-said u l a)) in
          let m = g.more tape x k b q f s in
          record { tale = b; standing = q; known = p; said = x; asked = y.0; tells = m.0; next = m.1.0; goes = m.1.1; rest = k; follows = m.1.2; apt = y.1; whole = v }

-- at the beginning nothing has been told
pub halfway-start : {P : Tale → Standing → Type 0} (u os ls : List ℕ) (w : Walk) → Started os w → length ls ≡ 16 → (l : List (Said Saying)) → Accepted u l → Tape u os → P untold declaring → Halfway u ls w l P
unfolding tale_of
halfway-start u os ls w s n l a k p = record { tale = untold; standing = declaring; rest = spoken l; follows = s.follows u ls l n a.says k; apt = all-apt u l a.says; whole = refl; known = p }

-- on to the next turn
pub onwards : {P Q : Tale → Standing → Type 0} {u ls : List ℕ} {r : Walk} {l : List (Said Saying)} (n : Newly u ls r l P) → Q (tell n.said n.tale) n.next → Halfway u ls r l Q
onwards n q = record { tale = tell n.said n.tale; standing = n.next; rest = n.rest; follows = n.follows; apt = n.apt; whole = n.whole; known = q }
