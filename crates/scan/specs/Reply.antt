-- The code's replies for what stands next in a text.
use Rattle.std.specs.Prelude.{ℕ, List, Option, Some, None, Result, Ok, Err}
use Rattle.grammar.specs.Scan.{Next, done, broken, token, token_at}
use Rattle.scan.specs.declared.tokens.Token.{Token}
use Rattle.scan.specs.declared.comments.Broken.{Broken}

unfoldable pub token_of : Next → Result (Option Token) Broken
token_of done = Ok None
token_of (token from to) = Ok (Some (record { from = from; to = to }))
token_of (broken reach) = Err (record { to = reach })

-- the text goes on at a place, or is broken there
unfoldable pub passed_to : List ℕ → Result ℕ Broken → Next
passed_to u (Ok to) = token_at u to
passed_to u (Err e) = broken e.to

unfoldable pub place_of : Result ℕ Broken → ℕ
place_of (Ok to) = to
place_of (Err e) = e.to
