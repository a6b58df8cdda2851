-- What holds of the emitted image.
use Rattle.std.proofs.Common.{List, map, length, ap, ◌∙◌}
use Rattle.std.specs.Prelude.{not}
use Rattle.std.specs.List.{filter}
use Rattle.micro_isa.specs.declared.program.Bundle.{Bundle}
use Rattle.micro_isa.specs.Formed.{IsFormedBundle}
use Rattle.semantics.specs.Source.{code_in, code_of}
use Rattle.plan.specs.declared.row.Plan.{Plan}
use Rattle.budget.specs.declared.Budget.{Budget}
use Rattle.emitted.specs.Words.{glue_of}
use Rattle.emitted.specs.Emitted.{plan_in, plan_at, register_in, emitted, ArePlans, PlansFit, IsEmitted}
use Rattle.emitted.proofs.Counting.{counted_lines, glue_words}
use Rattle.emitted.proofs.Implementing.{words_at, implements}
use Rattle.emitted.proofs.Locating.{locates}
use Rattle.emitted.proofs.FormedImage.{image_formed}

pub is_emitted : (b : Bundle) (plans : List Plan) (budget : Budget) → IsFormedBundle b → ArePlans b plans → PlansFit b plans budget → IsEmitted b plans budget (emitted b plans budget)
is_emitted b plans budget formed are room = record {
  implements = implements b plans budget formed are room;
  counts = record {
    each = λ c p is. ap (λ ws. map (λ w. w.line) (filter (λ w. w.counted) ws)) (words_at b plans budget formed are room c)
        ∙ counted_lines (code_of b c) (plan_at plans c) (register_in budget c) ∙ ap (λ o. map (λ l. l.line) (code_in o)) is;
  };
  glue = record {
    each = λ c p plan is there. ap (λ ws. length (filter (λ w. not w.counted) ws)) (words_at b plans budget formed are room c)
        ∙ glue_words (code_of b c) (plan_at plans c) (register_in budget c) ∙ (λ j. glue_of (code_in (is j)) (plan_in (there j)));
  };
  formed = image_formed b plans budget formed are room;
  located = locates b plans budget formed are room;
}
