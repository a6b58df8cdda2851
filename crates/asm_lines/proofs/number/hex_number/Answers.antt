use Rattle.std.proofs.Common.{◌+◌, arith, refl, inl, inr}
use Rattle.std.specs.Char.{is_ascii_hexdigit}
use Rattle.std.proofs.lemmas.Int.Digits.{digits_value_more}
use Rattle.std.proofs.lemmas.Str.Parse.{digits_value-take-le}
use Rattle.std.proofs.lemmas.List.Folds.{list_all_at, list_all_more}
use Rattle.asm_lines.proofs.Digits.{no_hex}
use Rattle.asm_lines.proofs.number.hex_number.Goals as goal

pub returns-in_default : goal.returns-in_default
returns-in_default c =
    let e = c.in_default.ensures.digit in
    no_hex c.args.digits.now (inr (inl (list_all_at is_ascii_hexdigit c.args.digits.now c.loop-c.c-index 0 c.loop-c-test.true e)))

pub returns-then-n : goal.returns-then-n
returns-then-n c =
    let d = digits_value_more 16 c.args.digits.now c.loop-c.c-index c.loop-c-test.true in
    let m = digits_value-take-le 16 c.args.digits.now (c.loop-c.c-index + 1) (omega arith) in
    let b = c.in-Some.ensures.bound in
    no_hex c.args.digits.now (inr (inr (omega (arith, d, m, b.0, c.loop-c.invariant.0, c.if-n.true))))

pub loop-c-preserved : goal.loop-c-preserved
loop-c-preserved c =
    let d = digits_value_more 16 c.args.digits.now c.loop-c.c-index c.loop-c-test.true in
    let a = list_all_more is_ascii_hexdigit c.args.digits.now c.loop-c.c-index 0 c.loop-c-test.true in
    let b = c.in-Some.ensures.bound in (
      omega (arith, d, b.0, c.loop-c.invariant.0),
      rw (a, c.loop-c.invariant.1, b.2) refl,
      omega (arith, c.if-n.false),
    )
