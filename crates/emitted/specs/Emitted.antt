-- The image that plans and a budget make of a bundle.
use Rattle.std.specs.Prelude.{ℕ, ◌≡◌, ◌+◌, ◌-◌, ◌≤◌, List, [], ◌∷◌, map, length, sum, take, not, false, Option, Some, None, nat_lt, slice_get, slice_index, if◌then◌else◌}
use Rattle.std.specs.List.{filter}
use Rattle.micro_isa.specs.declared.program.Program.{Program}
use Rattle.micro_isa.specs.declared.program.Bundle.{Bundle}
use Rattle.micro_isa.specs.declared.image.PReg.{PReg}
use Rattle.micro_isa.specs.declared.image.Code.{Code}
use Rattle.micro_isa.specs.declared.image.Image.{Image}
use Rattle.micro_isa.specs.Formed.{IsFormedBundle, IsFormedImage}
use Rattle.semantics.specs.Source.{Contexts, code_of, source_semantics, source_open}
use Rattle.semantics.specs.Machine.{Machine, words_of, machine_semantics, machine_open}
use Rattle.world.specs.declared.event.Event.{Event}
use Rattle.world.specs.declared.event.Seen.{Seen}
use Rattle.world.specs.declared.event.Phase.{Phase}
use Rattle.semantics.specs.Core.{has_ended}
use Rattle.semantics.specs.Events.{Config, run}
use Rattle.semantics.specs.Agreement.{Implements}
use Rattle.plan.specs.declared.row.Plan.{Plan}
use Rattle.plan.specs.ValidPlans.{IsValidPlan}
use Rattle.budget.specs.declared.Budget.{Budget}
use Rattle.micro_isa.specs.Pieces.{pieces}
use Rattle.emitted.specs.Located.{IsLocated}
use Rattle.emitted.specs.Words.{words_of_plan, glue_of}

-- the register of a place: private ones first, then shared ones
abbrev pub register_of : ℕ → ℕ → ℕ → ℕ → PReg
register_of start own shared q = record { 0 = if nat_lt q own then start + q else shared + (q - own) }

-- the plan of a context; one without rows where there is none
abbrev pub plan_in : Option Plan → Plan
plan_in None = record { p = 0; r = 0; rows = [] }
plan_in (Some plan) = plan

abbrev pub plan_at : List Plan → ℕ → Plan
plan_at plans c = plan_in (slice_get plans c)

-- where the private range of a context begins: behind those of the contexts before it
abbrev pub start_of : List ℕ → ℕ → ℕ
start_of sizes c = sum (take c sizes)

-- how many registers of its own a context has
abbrev pub size_of : List ℕ → ℕ → ℕ
size_of sizes c = slice_index sizes c

-- the register of a place of a context
abbrev pub register_in : Budget → ℕ → ℕ → PReg
register_in budget c = register_of (start_of budget.private c) (size_of budget.private c) (sum budget.private)

-- a context: its own registers, and its words
abbrev pub context_of : Bundle → List Plan → Budget → ℕ → Code
context_of b plans budget c = record {
  private = record { start = start_of budget.private c; size = size_of budget.private c };
  words = words_of_plan (code_of b c) (plan_at plans c) (register_in budget c);
}

-- the image: the private ranges one after another, then the shared one, and each context's words
abbrev pub emitted : Bundle → List Plan → Budget → Image
emitted b plans budget = record {
  file = b.file;
  setting = b.setting;
  shared = record { start = sum budget.private; size = budget.shared };
  contexts = pieces (λ c. context_of b plans budget c ∷ []) (length b.programs);
}

-- a valid plan for each program
pub record ArePlans (b : Bundle) (plans : List Plan) : Type 0 where
  pub one_each : length plans ≡ length b.programs
  pub valid : (c : ℕ) (p : Program) (plan : Plan) → slice_get b.programs c ≡ Some p → slice_get plans c ≡ Some plan
      → IsValidPlan p.code plan

-- the plans have room in the budget, and the budget has in the file
pub record PlansFit (b : Bundle) (plans : List Plan) (budget : Budget) : Type 0 where
  pub one_each : length budget.private ≡ length b.programs
  pub each : (c : ℕ) (plan : Plan) → slice_get plans c ≡ Some plan →
      (plan.p ≤ size_of budget.private c) × (plan.r ≤ size_of budget.private c + budget.shared)
  pub file : sum budget.private + budget.shared ≤ b.file

-- each instruction has exactly one counted word, in order and with its line
pub record CountsOnce (b : Bundle) (m : Image) : Type 0 where
  pub each : (c : ℕ) (p : Program) → slice_get b.programs c ≡ Some p
      → map (λ w. w.line) (filter (λ w. w.counted) (words_of m c)) ≡ map (λ l. l.line) p.code

-- the words that are not counted are those of the plans
pub record HasGlue (b : Bundle) (plans : List Plan) (m : Image) : Type 0 where
  pub each : (c : ℕ) (p : Program) (plan : Plan) → slice_get b.programs c ≡ Some p → slice_get plans c ≡ Some plan
      → length (filter (λ w. not w.counted) (words_of m c)) ≡ glue_of p.code plan

-- after every list of events for which both runs are defined, each context that has not ended is where its plan says
pub record Locates (b : Bundle) (plans : List Plan) (budget : Budget) : Type 0 where
  pub each : (bound : ℕ) (es : List Event) (x : Config Contexts) (y : Config Machine) (seen seen' : List Seen) (c : ℕ) (phase : Phase)
      → run (source_semantics b) (source_open b bound) es ≡ Some (x, seen)
      → run (machine_semantics (emitted b plans budget)) (machine_open (emitted b plans budget) bound) es ≡ Some (y, seen')
      → slice_get y.core.phases c ≡ Some phase → has_ended phase ≡ false
      → IsLocated (code_of b c) (plan_at plans c) (register_in budget c) (x.state c) (y.state.contexts c) y.state.file

-- what holds of the emitted image: it does what the bundle does, for every bound and every list of events; its words are
-- those of the instructions and of the plans' glue; it is formed; and its contexts are where their plans say
pub record IsEmitted (b : Bundle) (plans : List Plan) (budget : Budget) (m : Image) : Type 0 where
  pub implements : Implements m b
  pub counts : CountsOnce b m
  pub glue : HasGlue b plans m
  pub formed : IsFormedImage m
  pub located : Locates b plans budget

-- valid plans that have room in a budget give such an image
abbrev pub EmittedLaw : Type 0
EmittedLaw =
    (b : Bundle) (plans : List Plan) (budget : Budget) → IsFormedBundle b → ArePlans b plans → PlansFit b plans budget
    → IsEmitted b plans budget (emitted b plans budget)
