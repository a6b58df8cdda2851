use Rattle.std.proofs.Common.{◌≡◌, ◌+◌, ◌-◌, List, sym, ap, ◌∙◌, subst, arith}
use Rattle.std.specs.List.{sum_by}
use Rattle.std.proofs.lemmas.Result.{IfOk-weaker}
use Rattle.std.proofs.lemmas.Slice.Zip.{AllZip-long}
use Rattle.micro_isa.specs.declared.program.Program.{Program}
use Rattle.budget.specs.Best.{IsBest}
use Rattle.pressure.specs.declared.pressure_of.Pressure.{Pressure}
use Rattle.allocate.specs.Items.{AreClosed}
use Rattle.allocate.specs.Preferred.{IsPreferred}
use Rattle.allocate.specs.Tables.{AreKept, AreWalksKept, IsTabled}
use Rattle.allocate.proofs.Allocating.{refused_too}
use Rattle.allocate.proofs.Pricing.{AreTabled, are_cost_tables, is_preferred}
use Rattle.allocate.proofs.Zipping.{all_closed}
use Rattle.allocate.proofs.fit.preferred.Goals as goal

pub tables_of-requires-clause-closed : goal.tables_of-requires-clause-closed
tables_of-requires-clause-closed c = subst AreClosed (sym c.as_slice-programs.ensures) (all_closed c.args.bundle.now c.requires.formed)

pub divided-requires-clause-some : goal.divided-requires-clause-some
divided-requires-clause-some c =
    let spare = c.args.bundle.now.file - c.own_total.result in
    let tabled = subst (λ (ps : List Program). AreTabled spare ps c.in-Ok.made.tables) c.as_slice-programs.ensures c.in-Ok.ensures.tables in
    let same = AllZip-long (λ program table. IsTabled spare program.code table) c.args.bundle.now.programs c.in-Ok.made.tables tabled in
    let some = c.requires.formed.some in
    omega arith

pub divided-requires-clause-few : goal.divided-requires-clause-few
divided-requires-clause-few c =
    let spare = c.args.bundle.now.file - c.own_total.result in
    let tabled = subst (λ (ps : List Program). AreTabled spare ps c.in-Ok.made.tables) c.as_slice-programs.ensures c.in-Ok.ensures.tables in
    let same = AllZip-long (λ program table. IsTabled spare program.code table) c.args.bundle.now.programs c.in-Ok.made.tables tabled in
    let few = c.requires.formed.few in
    omega arith

pub divided-requires-clause-tables : goal.divided-requires-clause-tables
divided-requires-clause-tables c =
    let spare = c.args.bundle.now.file - c.own_total.result in
    let tabled = subst (λ (ps : List Program). AreTabled spare ps c.in-Ok.made.tables) c.as_slice-programs.ensures c.in-Ok.ensures.tables in
    are_cost_tables spare c.args.bundle.now.programs c.in-Ok.made.tables tabled

pub returns-in-Ok-clause-preferred : goal.returns-in-Ok-clause-preferred
returns-in-Ok-clause-preferred c =
    let b = c.args.bundle.now in
    let parts = c.args.analysis.now.parts in
    let spare = b.file - c.own_total.result in
    let tabled = subst (λ (ps : List Program). AreTabled spare ps c.in-Ok.made.tables) c.as_slice-programs.ensures c.in-Ok.ensures.tables in
    let own : c.own_total.result ≡ sum_by (λ part. part.private) parts = c.own_total.ensures ∙ ap (sum_by (λ (part : Pressure). part.private)) c.as_slice-parts.ensures in
    let fits = c.requires.fits in
    let all : sum_by (λ part. part.private) parts + spare ≡ b.file = omega arith in
    IfOk-weaker c.divided.result (λ found. IsBest c.in-Ok.made.tables b.file found.budget) (λ found. IsPreferred b parts found.budget)
    (λ found best. is_preferred b parts spare c.in-Ok.made.tables found.budget c.requires.pressures tabled all best) c.divided.ensures.best

pub returns-in-Ok-clause-keeps : goal.returns-in-Ok-clause-keeps
returns-in-Ok-clause-keeps c =
    let b = c.args.bundle.now in
    let keeps = subst (λ (ps : List Program). AreKept ps c.in-Ok.made.keeps) c.as_slice-programs.ensures c.in-Ok.ensures.keeps in
    IfOk-weaker c.divided.result (λ found. found.keeps ≡ c.in-Ok.made.keeps) (λ found. AreKept b.programs found.keeps) (λ found same. subst (AreKept b.programs) (sym same) keeps) c.divided.ensures.keeps

pub returns-in-Ok-clause-walks : goal.returns-in-Ok-clause-walks
returns-in-Ok-clause-walks c =
    let b = c.args.bundle.now in
    let walks = subst (λ (ps : List Program). AreWalksKept ps c.in-Ok.made.walks.items) c.as_slice-programs.ensures c.in-Ok.ensures.walks in
    IfOk-weaker c.divided.result (λ found. found.walks.items ≡ c.in-Ok.made.walks.items) (λ found. AreWalksKept b.programs found.walks.items) (λ found same. subst (AreWalksKept b.programs) (sym same) walks) c.divided.ensures.walks

pub returns-in-Ok-clause-fault : goal.returns-in-Ok-clause-fault
returns-in-Ok-clause-fault c =
    let b = c.args.bundle.now in
    let spare = b.file - c.own_total.result in
    let tabled = subst (λ (ps : List Program). AreTabled spare ps c.in-Ok.made.tables) c.as_slice-programs.ensures c.in-Ok.ensures.tables in
    refused_too b c.args.analysis.now.parts spare c.in-Ok.made.tables c.divided.result c.requires.pressures tabled c.divided.ensures.fault
