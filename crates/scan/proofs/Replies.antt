-- What a caller of `token_at` learns from its reply.
use mathlib.Core.Path.{◌≡◌, refl}
use Rattle.std.specs.Prelude.{Some, None, Ok, Err}
use Rattle.grammar.specs.Scan.{Next, done, broken, token}
use Rattle.scan.specs.declared.comments.Broken.{Broken}
use Rattle.scan.specs.declared.tokens.Token.{Token}
use Rattle.scan.specs.Reply.{token_of}

pub reply-done : (n : Next) → token_of n ≡ Ok None → n ≡ done
unfolding token_of
reply-done done e = refl
reply-done (broken i) e = cc
reply-done (token f t) e = cc

pub reply-token : (n : Next) (t : Token) → token_of n ≡ Ok (Some t) → n ≡ token t.from t.to
unfolding token_of
reply-token done t e = cc
reply-token (broken i) t e = cc
reply-token (token f g) t e = cc

pub reply-broken : (n : Next) (b : Broken) → token_of n ≡ Err b → n ≡ broken b.to
unfolding token_of
reply-broken done b e = cc
reply-broken (broken i) b e = cc
reply-broken (token f g) b e = cc
