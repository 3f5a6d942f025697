-- The next token of a text, taken where it can come.
use Rattle.std.specs.Prelude.{ℕ, cond, List, Result, Ok, Err}
use Rattle.std.proofs.Math.Seq.{slice}
use Rattle.grammar.specs.Scan.{Next, done, broken, token, token_at}
use Rattle.notation.specs.Classes.{class_of}
use Rattle.recognise.specs.declared.Ahead.{Ahead}
use Rattle.recognise.specs.declared.taking.Taken.{Taken}
use Rattle.recognise.specs.declared.taking.Halt.{Halt}
use Rattle.recognise.specs.declared.taking.Halt.TheVariants as halt
use Rattle.recognise.specs.Steps.{Stepped, step_of}

unfoldable pub taken_as : ℕ → ℕ → Stepped → Result Taken Halt
taken_as from to s = cond s.ok (Ok (record { from = from; to = to; says = s.says; next = s.next })) (Err (halt.Refused (record { from = from; to = to })))

-- the token can come, or the text has no token more, is broken at its reach, or the token cannot come
unfoldable pub taken_by : List ℕ → Ahead → Next → Result Taken Halt
taken_by u a done = Err halt.Done
taken_by u a (broken k) = Err (halt.Broken (record { to = k }))
taken_by u a (token from to) = taken_as from to (step_of a (class_of (slice from to u)))

unfoldable pub taken_of : List ℕ → ℕ → Ahead → Result Taken Halt
taken_of u at a = taken_by u a (token_at u at)

-- opens every definition of this file
unfoldable pub opened : Unit {0}
unfolding taken_as taken_by taken_of
opened = tt
