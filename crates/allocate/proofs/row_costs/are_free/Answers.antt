use Rattle.std.proofs.Common.{◌+◌, sym, subst, inl, inr, arith}
use Rattle.std.proofs.lemmas.Bool.{cases_eq}
use Rattle.allocate.specs.Tables.{Costs}
use Rattle.allocate.proofs.row_costs.are_free.Goals as goal
use Rattle.allocate.proofs.row_costs.are_free.Goals.{else-p-r-via-then-p-r+then-r-most+else-not-is_free, else-p-r-via-then-p-r+else-r-most, else-p-r-via-else-p-r}

pub loop-j-preserved : goal.loop-j-preserved
loop-j-preserved c code are known k less order reach =
    elim (cases_eq k c.loop-j.j) [
      | inr other ↦ c.loop-j.invariant code are known k (omega arith) order reach
      | inl same ↦ subst (λ n. Costs code c.args.p (c.args.part.all + n) 0) (sym same) (
          elim c.else-p-r.branch [
            | else-p-r-via-then-p-r+then-r-most+else-not-is_free w ↦ w.is_free.ensures w.if-not-is_free.false code are known
            | else-p-r-via-then-p-r+else-r-most w ↦ absurd (let high = w.if-r-most.false in omega arith)
            | else-p-r-via-else-p-r w ↦ absurd (let high = w.if-p-r.false in omega arith)
          ])
    ]
