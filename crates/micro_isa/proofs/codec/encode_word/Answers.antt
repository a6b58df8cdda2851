use Rattle.std.proofs.Common.{ℕ, rules, subst, ap, ◌∙◌, ◌<◌}
use Rattle.micro_isa.specs.declared.image.PReg.{PReg}
use Rattle.micro_isa.specs.declared.operands.Operands.{Operands}
use Rattle.micro_isa.specs.declared.fields.Fields.{Fields}
use Rattle.micro_isa.specs.Operands.{operands_of}
use Rattle.micro_isa.specs.WordBytes.{wide_limit, fields_of}
use Rattle.micro_isa.proofs.codec.encode_word.Goals as goal

pub returns-clause-fits : goal.returns-clause-fits
returns-clause-fits c =
    let named = c.operands_of.ensures in
    let same = c.fields_of-fields.ensures.all ∙ ap fields_of named in
    let small = subst (λ (x : Operands PReg ℕ ℕ). c.fields_of-fields.result.wide < wide_limit x.extra) named c.fields_of-fields.ensures.fits in
    let widths = c.fields_of-fields.type_inv in record {
      d = subst (λ (f : Fields). f.d < 256) same (search rules);
      a = subst (λ (f : Fields). f.a < 256) same (search rules);
      b = subst (λ (f : Fields). f.b < 256) same (search rules);
      wide = subst (λ (f : Fields). f.wide < wide_limit (operands_of c.args.word.now.instr).extra) same small;
      line = search rules;
    }
