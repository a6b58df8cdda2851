-- The allocation of a bundle.
use Rattle.std.specs.Prelude.{ℕ, ◌≡◌, ◌≤◌, ◌<◌, List, length, not}
use Rattle.std.specs.List.{filter, sum_by}
use Rattle.micro_isa.specs.declared.program.Bundle.{Bundle}
use Rattle.micro_isa.specs.declared.image.Image.{Image}
use Rattle.micro_isa.specs.Pieces.{total}
use Rattle.semantics.specs.Source.{code_of}
use Rattle.pressure.specs.declared.pressure_of.Pressure.{Pressure}
use Rattle.pressure.specs.Pressures.{need_of}
use Rattle.plan.specs.declared.row.Plan.{Plan}
use Rattle.budget.specs.Fitting.{SizesFit}
use Rattle.emitted.specs.Words.{glue_of}
use Rattle.emitted.specs.Emitted.{plan_at, emitted}
use Rattle.allocate.specs.declared.allocation.Allocation.{Allocation}
use Rattle.allocate.specs.declared.allocation.AllocFault.{AllocFault}
use Rattle.allocate.specs.declared.allocation.AllocFault.TheVariants.{NoFit, NoMemory}
use Rattle.allocate.specs.Needs.{ArePressures, IsNeed}
use Rattle.allocate.specs.Preferred.{AllFitWhole, HaveCells, IsPreferred, demands_by}

-- the glue words of all plans
abbrev pub glue_of_all : Bundle → List Plan → ℕ
glue_of_all b plans = total (λ c. glue_of (code_of b c) (plan_at plans c)) (length b.programs)

-- how many words of an image are not counted
abbrev pub uncounted_words : Image → ℕ
uncounted_words m = sum_by (λ code. length (filter (λ word. not word.counted) code.words)) m.contexts

-- this is the allocation of the bundle: what its contexts need fits the file, the budget is the preferred one, the plans are
-- those of its sizes, and the image is the one that they make
pub record IsAllocation (b : Bundle) (a : Allocation) : Type 0 where
  pub parts : List Pressure
  pub pressures : ArePressures b.programs parts
  pub need : a.need ≡ need_of parts
  pub fits : a.need ≤ b.file
  pub preferred : IsPreferred b parts a.budget
  pub cells : HaveCells b.programs a.budget.private a.budget.shared a.budget.cost a.plans
  pub glue : a.glue ≡ glue_of_all b a.plans
  pub image : a.image ≡ emitted b a.plans a.budget

-- the glue is what the budget costs, and as many words of the image are not counted
pub record IsEven (a : Allocation) : Type 0 where
  pub cost : a.glue ≡ a.budget.cost
  pub words : a.glue ≡ uncounted_words a.image

-- there is no glue where some sizes fit at which the fit over the whole program serves each context
pub record IsStill (b : Bundle) (a : Allocation) : Type 0 where
  pub none : (parts : List Pressure) (private : List ℕ) (shared : ℕ) → ArePressures b.programs parts → SizesFit (demands_by parts) b.file private shared
      → AllFitWhole b.programs private shared → a.glue ≡ 0

-- a bundle has one allocation at most
pub record HasOneAllocation (b : Bundle) : Type 0 where
  pub once : (x y : Allocation) → IsAllocation b x → IsAllocation b y → x ≡ y

-- what the contexts need is above the file, and both are told; or memory was wanting
abbrev pub TellsFault : Bundle → AllocFault → Type 0
TellsFault b (NoFit need file) = IsNeed b need × (file ≡ b.file) × (file < need)
TellsFault b NoMemory = Unit {0}
