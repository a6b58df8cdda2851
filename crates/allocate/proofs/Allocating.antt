-- The preferred budget, the plans of its sizes and their image are the allocation.
use Rattle.std.proofs.Common.{◌≡◌, ℕ, ◌≤◌, List, length, Result, Ok, Err, ap, ◌∙◌, subst, arith}
use Rattle.std.specs.Prelude.{IfErr}
use Rattle.micro_isa.specs.declared.program.Bundle.{Bundle}
use Rattle.micro_isa.specs.declared.image.Image.{Image}
use Rattle.micro_isa.specs.Formed.{IsFormedBundle}
use Rattle.pressure.specs.declared.pressure_of.Pressure.{Pressure}
use Rattle.pressure.specs.Pressures.{need_of}
use Rattle.plan.specs.declared.row.Plan.{Plan}
use Rattle.budget.specs.declared.Budget.{Budget}
use Rattle.budget.specs.declared.CostTable.{CostTable}
use Rattle.budget.specs.Fitting.{need_of as demands_need}
use Rattle.emitted.specs.Emitted.{emitted}
use Rattle.allocate.specs.declared.allocation.AllocFault.{AllocFault}
use Rattle.allocate.specs.declared.allocation.AllocFault.TheVariants.{NoFit, NoMemory}
use Rattle.allocate.specs.Needs.{ArePressures}
use Rattle.allocate.specs.Preferred.{HaveCells, IsPreferred}
use Rattle.allocate.specs.Tables.{AreChosen, Refused}
use Rattle.allocate.specs.Allocations.{IsAllocation, TellsFault, glue_of_all}
use Rattle.allocate.proofs.Even.{cells_glue}
use Rattle.allocate.proofs.Once.{cells_once, is_need}
use Rattle.allocate.proofs.Pricing.{AreTabled, demands_same, need_same}
use Rattle.allocate.proofs.Rooming.{all_cells}
use Rattle.allocate.proofs.Zipping.{all_closed}

-- the plans of the preferred sizes are those of its cells
preferred_cells : (b : Bundle) (parts : List Pressure) (plans : List Plan) (budget : Budget) → ArePressures b.programs parts → IsPreferred b parts budget
    → AreChosen b.programs budget.private budget.shared (length b.programs) plans → HaveCells b.programs budget.private budget.shared budget.cost plans
preferred_cells b parts plans budget pressures preferred chosen =
    let have = all_cells b budget.private budget.shared plans chosen parts pressures preferred.fits in
    let cost = (cells_once b.programs budget.private budget.shared have.0 budget.cost plans preferred.cost.0 have.1 preferred.cost.1).0 in
    subst (λ n. HaveCells b.programs budget.private budget.shared n plans) cost have.1

-- what the preferred budget costs is the glue of these plans
pub preferred_glue : (b : Bundle) (parts : List Pressure) (plans : List Plan) (budget : Budget) → IsFormedBundle b → ArePressures b.programs parts → IsPreferred b parts budget
    → AreChosen b.programs budget.private budget.shared (length b.programs) plans → budget.cost ≡ glue_of_all b plans
preferred_glue b parts plans budget formed pressures preferred chosen =
    cells_glue b.programs budget.private budget.shared budget.cost plans (all_closed b formed) (preferred_cells b parts plans budget pressures preferred chosen)

pub is_allocation : (b : Bundle) (parts : List Pressure) (plans : List Plan) (budget : Budget) (image : Image) (need : ℕ) → IsFormedBundle b → ArePressures b.programs parts → IsPreferred b parts budget
    → AreChosen b.programs budget.private budget.shared (length b.programs) plans → need ≡ need_of parts → need ≤ b.file → image ≡ emitted b plans budget
    → IsAllocation b (record { image = image; budget = budget; plans = plans; glue = budget.cost; need = need })
is_allocation b parts plans budget image need formed pressures preferred chosen is_need fits is_image = record {
  parts = parts;
  pressures = pressures;
  need = is_need;
  fits = fits;
  preferred = preferred;
  cells = preferred_cells b parts plans budget pressures preferred chosen;
  glue = preferred_glue b parts plans budget formed pressures preferred chosen;
  image = is_image;
}

-- a refusal of the tables is one of the bundle
pub refused_too : (b : Bundle) (parts : List Pressure) (spare : ℕ) (tables : List CostTable) {A : Type 0} (result : Result A AllocFault) → ArePressures b.programs parts → AreTabled spare b.programs tables
    → IfErr result (Refused tables b.file) → IfErr result (TellsFault b)
refused_too b parts spare tables (Ok found) pressures tabled refused = tt
refused_too b parts spare tables (Err (NoFit need size)) pressures tabled refused =
    let number : need ≡ need_of parts = refused.0 ∙ ap demands_need (demands_same spare b.programs parts tables pressures tabled) ∙ need_same parts in
    let file = refused.1 in
    let less = refused.2 in
    (is_need b parts need pressures number, file, omega arith)
refused_too b parts spare tables (Err NoMemory) pressures tabled refused = tt
