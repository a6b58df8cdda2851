use Rattle.std.proofs.Common.{Some, refl, sym, ap, ◌∙◌, arith}
use Rattle.asm_context.specs.Views.{seen_operands}
use Rattle.asm_context.proofs.Placing.{other_count, all_left, one_more}
use Rattle.asm_context.proofs.spelt.operands_in.Goals as goal

pub returns-then-roles-words : goal.returns-then-roles-words
returns-then-roles-words c = sym (other_count c.args.roles.now c.args.words.now c.if-roles-words.true)

pub roles-init : goal.roles-init
roles-init c = record {
  within = omega arith;
  same = c.if-roles-words.false;
  later = all_left c.args.roles.now c.args.words.now _ c.if-roles-words.false refl;
}

pub roles-preserved : goal.roles-preserved
roles-preserved c =
    let i = c.roles.invariant in
    record {
      within = omega (arith, i.within);
      same = i.same;
      later = one_more c.args.roles.now c.args.words.now c.roles.at _ _ (seen_operands c.roles.spelt) c.roles-test.true i.within i.same i.later ∙ ap Some (sym c.with_word-spelt.ensures);
    }
