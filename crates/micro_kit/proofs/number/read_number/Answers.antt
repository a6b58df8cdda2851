use Rattle.std.proofs.Common.{◌+◌, arith, sym, ◌∙◌, refl, add-one, get_or, inl, inr}
use Rattle.std.proofs.lemmas.Int.Digits.{digits_value_more}
use Rattle.std.proofs.lemmas.Str.Parse.{digits_value-take-le}
use Rattle.std.proofs.lemmas.Str.{digit_value_digit}
use Rattle.micro_kit.proofs.Digits.{not_all_digits, all_digits-take, no_number}
use Rattle.micro_kit.proofs.number.read_number.Goals as goal

pub returns-then-not-is_ascii_digit : goal.returns-then-not-is_ascii_digit
returns-then-not-is_ascii_digit c = no_number c.args.text.now (inl (not_all_digits c.args.text.now c.loop-c.c-index c.loop-c-test.true (sym c.is_ascii_digit.ensures.value ∙ c.if-not-is_ascii_digit.true)))

pub returns-then-n : goal.returns-then-n
returns-then-n c =
    let d = digits_value_more 10 c.args.text.now c.loop-c.c-index c.loop-c-test.true in
    let m = digits_value-take-le 10 c.args.text.now (c.loop-c.c-index + 1) (omega arith) in
    let v = digit_value_digit (get_or c.args.text.now c.loop-c.c-index 0) c.if-not-is_ascii_digit.ensures.cases in
    no_number c.args.text.now (inr (omega (arith, d, m, v, c.loop-c.invariant.0, c.if-n.true)))

pub loop-c-preserved : goal.loop-c-preserved
loop-c-preserved c =
    let d = digits_value_more 10 c.args.text.now c.loop-c.c-index c.loop-c-test.true in
    let a = all_digits-take c.args.text.now c.loop-c.c-index c.loop-c-test.true in
    let v = digit_value_digit (get_or c.args.text.now c.loop-c.c-index 0) c.if-not-is_ascii_digit.ensures.cases in (
      omega (arith, d, v, c.loop-c.invariant.0),
      rw (add-one c.loop-c.c-index, a, c.loop-c.invariant.1, ← c.is_ascii_digit.ensures.value, c.if-not-is_ascii_digit.false) refl,
      omega (arith, c.if-n.false),
    )
