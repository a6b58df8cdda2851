use Rattle.std.proofs.Common.{◌≡◌, ◌<◌, ◌+◌, ◌*◌, ◌∙◌, sym, ap, subst, arith, length, drop}
use Rattle.std.specs.Prelude.{get_or}
use Rattle.image_load.specs.Faults.{or_else}
use Rattle.image_load.specs.Loading.{codes_fault}
use Rattle.image_load.proofs.ContextParts.{first_left, room_left}
use Rattle.image_load.proofs.second_pass.codes_fault.Goals as goal

pub words_fault-requires : goal.words_fault-requires
words_fault-requires c =
    let codes = c.args.image.now.contexts in
    let code = c.code-item.result in
    let k = c.loop-code.code-index in
    let lt : k < length codes = subst (λ l. k < length l) c.as_slice-code-items.ensures c.loop-code-test.true in
    let is : code ≡ get_or codes k code = subst (λ l. code ≡ get_or l k code) c.as_slice-code-items.ensures c.code-item.is in
    let room = room_left codes k code lt is in
    let fits = c.loop-code.invariant.0 in
    omega (arith, room, fits)

pub overflow_mul-place : goal.overflow_mul-place
overflow_mul-place c =
    let codes = c.args.image.now.contexts in
    let code = c.code-item.result in
    let k = c.loop-code.code-index in
    let lt : k < length codes = subst (λ l. k < length l) c.as_slice-code-items.ensures c.loop-code-test.true in
    let is : code ≡ get_or codes k code = subst (λ l. code ≡ get_or l k code) c.as_slice-code-items.ensures c.code-item.is in
    let room = room_left codes k code lt is in
    let fits = c.loop-code.invariant.0 in
    let len = c.len.ensures in
    omega (arith, room, fits, len)

pub overflow_add-place-in-loop-code-2 : goal.overflow_add-place-in-loop-code-2
overflow_add-place-in-loop-code-2 c =
    let codes = c.args.image.now.contexts in
    let code = c.code-item.result in
    let k = c.loop-code.code-index in
    let lt : k < length codes = subst (λ l. k < length l) c.as_slice-code-items.ensures c.loop-code-test.true in
    let is : code ≡ get_or codes k code = subst (λ l. code ≡ get_or l k code) c.as_slice-code-items.ensures c.code-item.is in
    let room = room_left codes k code lt is in
    let fits = c.loop-code.invariant.0 in
    let len = c.len.ensures in
    omega (arith, room, fits, len)

pub loop-code-preserved : goal.loop-code-preserved
loop-code-preserved c =
    let m = c.args.image.now in
    let codes = m.contexts in
    let code = c.code-item.result in
    let k = c.loop-code.code-index in
    let place = c.loop-code.place in
    let lt : k < length codes = subst (λ l. k < length l) c.as_slice-code-items.ensures c.loop-code-test.true in
    let is : code ≡ get_or codes k code = subst (λ l. code ≡ get_or l k code) c.as_slice-code-items.ensures c.code-item.is in
    let room = room_left codes k code lt is in
    let fits = c.loop-code.invariant.0 in
    let len = c.len.ensures in
    let none = sym c.words_fault.ensures ∙ c.in_default.is in
    let next = (place + 8) + 12 * length code.words in
    let step : codes_fault m place (drop k codes) ≡ codes_fault m next (drop (k + 1) codes) =
    ap (codes_fault m place) (first_left codes k code lt is)
    ∙ ap (λ o. or_else o (codes_fault m next (drop (k + 1) codes))) none in
    (omega (arith, room, fits, len), ap (λ n. codes_fault m ((place + 8) + 12 * n) (drop (k + 1) codes)) len ∙ sym step ∙ c.loop-code.invariant.1)
