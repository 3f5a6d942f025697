-- What the code takes next is what the definition says, and what a token that is taken tells.
use Prim.Native.Nat.{ℕ, ◌≤◌}
use mathlib.Core.Path.{◌≡◌, refl, sym, ap, subst⁻¹}
use mathlib.Core.Bool.{Bool, true, false, cond}
use mathlib.Core.List.{List}
use native.Mathlib.Omega.{arith}
use lib.ListN.{length}
use lib.Seq.{slice}
use Rattle.std.specs.Prelude.{Option, Result, Ok, Err, Some, None}
use Rattle.grammar.specs.Scan.{Next, done, broken, token, token_at}
use Rattle.grammar.proofs.TokenAt.{token-at}
use Rattle.notation.specs.Classes.{class_of}
use Rattle.scan.specs.declared.comments.Broken.{Broken}
use Rattle.scan.specs.declared.tokens.Token.{Token}
use Rattle.scan.specs.Reply.{token_of}
use Rattle.scan.proofs.Replies.{reply-done, reply-token, reply-broken}
use Rattle.recognise.specs.declared.Ahead.{Ahead}
use Rattle.recognise.specs.declared.steps.Went.{Went}
use Rattle.recognise.specs.declared.taking.Taken.{Taken}
use Rattle.recognise.specs.declared.taking.Halt.{Halt}
use Rattle.recognise.specs.declared.taking.Halt.TheVariants as halt
use Rattle.recognise.specs.Steps.{Stepped, step_of}
use Rattle.recognise.specs.Replies.{came}
use Rattle.recognise.specs.Taking.{taken_as, taken_by, taken_of}

-- what the reply to a step tells
pub came-some : (s : Stepped) (x : Went) → Some x ≡ came s → (s.ok ≡ true) × (x.says ≡ s.says) × (x.next ≡ s.next)
unfolding came
came-some s x h = go s.ok refl h
  where
    go : (b : Bool) → s.ok ≡ b → Some x ≡ cond b (Some (record { says = s.says; next = s.next })) None → (s.ok ≡ true) × (x.says ≡ s.says) × (x.next ≡ s.next)
    go true e h = (e, cc, cc)
    go false e h = cc

pub came-none : (s : Stepped) → None ≡ came s → s.ok ≡ false
unfolding came
came-none s h = go s.ok refl h
  where
    go : (b : Bool) → s.ok ≡ b → ◌≡◌ {A = Option Went} None (cond b (Some (record { says = s.says; next = s.next })) None) → s.ok ≡ false
    go true e h = cc
    go false e h = e

-- what the reply to a token tells
pub taken-ok : (from to : ℕ) (s : Stepped) (r : Taken) → Ok r ≡ taken_as from to s → (s.ok ≡ true) × (r ≡ record { from = from; to = to; says = s.says; next = s.next })
unfolding taken_as
taken-ok from to s r h = go s.ok refl h
  where
    go : (b : Bool) → s.ok ≡ b → Ok r ≡ cond b (Ok (record { from = from; to = to; says = s.says; next = s.next })) (Err (halt.Refused (record { from = from; to = to })))
        → (s.ok ≡ true) × (r ≡ record { from = from; to = to; says = s.says; next = s.next })
    go true e h = (e, cc)
    go false e h = cc

pub taken-err : (from to : ℕ) (s : Stepped) (h : Halt) → Err h ≡ taken_as from to s → (s.ok ≡ false) × (h ≡ halt.Refused (record { from = from; to = to }))
unfolding taken_as
taken-err from to s h e = go s.ok refl e
  where
    go : (b : Bool) → s.ok ≡ b → ◌≡◌ {A = Result Taken Halt} (Err h) (cond b (Ok (record { from = from; to = to; says = s.says; next = s.next })) (Err (halt.Refused (record { from = from; to = to }))))
        → (s.ok ≡ false) × (h ≡ halt.Refused (record { from = from; to = to }))
    go true g e = cc
    go false g e = (g, cc)

pub as-came : (from to : ℕ) (s : Stepped) (x : Went) → Some x ≡ came s → Ok (record { from = from; to = to; says = x.says; next = x.next }) ≡ taken_as from to s
unfolding taken_as
as-came from to s x h = let p = came-some s x h in rw (p.0, p.1, p.2) refl

pub as-refused : (from to : ℕ) (s : Stepped) → None ≡ came s → Err (halt.Refused (record { from = from; to = to })) ≡ taken_as from to s
unfolding taken_as
as-refused from to s h = rw (came-none s h) refl

-- the arms of `take`
module _ (u : List ℕ) (a : Ahead) (at : ℕ) where
  pub taken-done : token_of (token_at u at) ≡ Ok None → Err halt.Done ≡ taken_of u at a
  unfolding taken_of taken_by
  taken-done e = ap (taken_by u a) (sym (reply-done (token_at u at) e))

  pub taken-broken : (b : Broken) → token_of (token_at u at) ≡ Err b → Err (halt.Broken b) ≡ taken_of u at a
  unfolding taken_of taken_by
  taken-broken b e = ap (taken_by u a) (sym (reply-broken (token_at u at) b e))

  pub taken-token : (t : Token) → token_of (token_at u at) ≡ Ok (Some t) → taken_as t.from t.to (step_of a (class_of (slice t.from t.to u))) ≡ taken_of u at a
  unfolding taken_of taken_by
  taken-token t e = ap (taken_by u a) (sym (reply-token (token_at u at) t e))

-- the reply of a token lies within the text
pub token-within : (u : List ℕ) (at : ℕ) (t : Token) → token_of (token_at u at) ≡ Ok (Some t) → (t.from ≤ t.to) × (t.to ≤ length u)
token-within u at t e =
    let w = token-at u at t.from t.to (reply-token (token_at u at) t e) in
    (omega (arith, w.some), w.high)

-- the token can come
pub record One (u : List ℕ) (at : ℕ) (a : Ahead) (r : Taken) : Type 0 where
  pub next-token : token_at u at ≡ token r.from r.to
  pub step_ok : (step_of a (class_of (slice r.from r.to u))).ok ≡ true
  pub step-says : (step_of a (class_of (slice r.from r.to u))).says ≡ r.says
  pub step-next : (step_of a (class_of (slice r.from r.to u))).next ≡ r.next

one-by : (u : List ℕ) (at : ℕ) (a : Ahead) (n : Next) (r : Taken) → token_at u at ≡ n → Ok r ≡ taken_by u a n → One u at a r
unfolding taken_by
one-by u at a done r e f = cc
one-by u at a (broken k) r e f = cc
one-by u at a (token from to) r e f =
    let p = taken-ok from to (step_of a (class_of (slice from to u))) r f in
    subst⁻¹ (λ (x : Taken). One u at a x) p.1 (record { next-token = e; step_ok = p.0; step-says = refl; step-next = refl })

pub taken-one : (u : List ℕ) (at : ℕ) (a : Ahead) (r : Taken) → Ok r ≡ taken_of u at a → One u at a r
unfolding taken_of
taken-one u at a r e = one-by u at a (token_at u at) r refl e
