-- A word's, a number's and a sign's end, by the token's first byte.
use native.Mathlib.Omega.{arith}
use Prim.Native.Nat.{◌+◌}
use mathlib.Core.Path.{sym, ◌∙◌}
use lib.ListN.{get_or}
use Rattle.std.proofs.Common.{rules}
use Rattle.grammar.specs.Spelling.{is_word_byte}
use Rattle.scan.specs.Runs.{is_number_byte}
use Rattle.scan.proofs.RunLaws.{ending-word, ending-number, ending-past, ending-single, ending-pair}
use Rattle.scan.proofs.tokens.token_end.Goals as goal
use Rattle.scan.proofs.tokens.token_end.Goals.{else-at-text-via-then-at-text+else-is_pair, else-at-text-via-else-at-text}

pub returns-then-is_letter : goal.returns-then-is_letter
returns-then-is_letter c = let e = sym c.is_letter.ensures ∙ c.if-is_letter.true in
    c.run_end.ensures is_word_byte (record { told = λ b r h p. search rules }) ∙ sym (ending-word _ _ _ e)

pub returns-then-is_digit : goal.returns-then-is_digit
returns-then-is_digit c = let e = sym c.is_letter.ensures ∙ c.if-is_letter.false in
    let n = sym c.is_digit.ensures ∙ c.if-is_digit.true in
    c.run_end-then-is_digit.ensures is_number_byte (record { told = λ b r h p. search rules }) ∙ sym (ending-number _ _ _ e n)

pub returns-then-is_pair : goal.returns-then-is_pair
returns-then-is_pair c = let a = c.args in
    let e = sym c.is_letter.ensures ∙ c.if-is_letter.false in
    let n = sym c.is_digit.ensures ∙ c.if-is_digit.false in
    let p = sym c.is_pair.ensures ∙ c.if-is_pair.true in
    sym (ending-pair (get_or a.text.now a.from 0) a.text.now (a.from + 1) e n (omega arith) p)

pub returns : goal.returns
returns c = let a = c.args in
    let f = get_or a.text.now a.from 0 in
    let e = sym c.is_letter.ensures ∙ c.if-is_letter.false in
    let n = sym c.is_digit.ensures ∙ c.if-is_digit.false in
    elim c.else-at-text.branch [
      | else-at-text-via-then-at-text+else-is_pair w ↦ sym (ending-single f a.text.now (a.from + 1) e n (omega arith) (sym w.is_pair.ensures ∙ w.if-is_pair.false))
      | else-at-text-via-else-at-text w ↦ sym (ending-past f a.text.now (a.from + 1) e n (omega arith))
    ]
