use Rattle.std.proofs.Common.{sym, subst, length, Bool}
use Rattle.micro_isa.specs.declared.program.VReg.{VReg}
use Rattle.semantics.specs.Source.{numbered_line}
use Rattle.run_state.specs.Running.{CanRun, IsPlaced}
use Rattle.source_core.proofs.context.go_on.Goals as goal

pub returns-clause-context : goal.returns-clause-context
returns-clause-context c =
    let s = c.segment in
    record {
      runs = subst (λ (held : VReg → Bool). CanRun numbered_line held c.args.code.now) (sym s.ensures.held) c.requires.context.runs;
      placed = subst (λ (held : VReg → Bool). IsPlaced held (length c.args.code.now) s.new.place) (sym s.ensures.held) s.ensures.placed;
    }
