-- Valid plans for all contexts, over private and shared ranges, give an image that does what the bundle does.
use Rattle.std.proofs.Common.{◌≡◌, ℕ, zero, suc, ◌+◌, ◌<◌, ◌≤◌, List, [], ◌∷◌, length, replicate, sum, Option, Some, None, refl, sym, ap, ◌∙◌, subst, inl, inr, arith}
use Rattle.std.proofs.lemmas.List.{length-replicate}
use Rattle.std.proofs.lemmas.Option.{slice_get_within, slice_get_past}
use Rattle.std.specs.Prelude.{slice_get, slice_index}
use Rattle.world.specs.declared.event.Phase.{Phase}
use Rattle.world.specs.declared.event.Phase.TheVariants.{Ready}
use Rattle.micro_isa.specs.declared.program.VReg.{VReg}
use Rattle.micro_isa.specs.declared.program.Program.{Program}
use Rattle.micro_isa.specs.declared.program.Bundle.{Bundle}
use Rattle.micro_isa.specs.declared.image.PReg.{PReg}
use Rattle.micro_isa.specs.declared.image.Code.{Code}
use Rattle.micro_isa.specs.declared.image.Image.{Image}
use Rattle.micro_isa.specs.Formed.{IsFormedBundle}
use Rattle.flow_graph.specs.Paths.{IsClosedCode}
use Rattle.flow_graph.proofs.Forming.{closed_code}
use Rattle.liveness.specs.Liveness.{LiveIn}
use Rattle.world.specs.declared.event.Event.{Event}
use Rattle.semantics.specs.Events.{run}
use Rattle.semantics.specs.Core.{opening_core}
use Rattle.semantics.specs.Source.{code_in, code_of, source_semantics, source_open}
use Rattle.semantics.specs.Machine.{words_in, words_of, machine_semantics, machine_open}
use Rattle.semantics.specs.Agreement.{Implements}
use Rattle.semantics.proofs.Simulation.{BothBeside, related_after, beside_agree}
use Rattle.semantics.proofs.Waiting.{Fits}
use Rattle.plan.specs.declared.row.Plan.{Plan}
use Rattle.plan.specs.ValidPlans.{place_in, IsValidPlan}
use Rattle.budget.specs.declared.Budget.{Budget}
use Rattle.micro_isa.specs.Pieces.{pieces, total}
use Rattle.emitted.specs.Edges.{row_at}
use Rattle.emitted.specs.Words.{words_of_plan}
use Rattle.emitted.specs.Emitted.{plan_in, plan_at, start_of, size_of, register_in, context_of, emitted, ArePlans, PlansFit}
use Rattle.emitted.proofs.Standing.{Laid, EdgeWords, Suspended}
use Rattle.emitted.proofs.Follow.{Carries}
use Rattle.emitted.proofs.Contexts.{AllCarried, Related, simulates}
use Rattle.micro_isa.proofs.Pieced.{append_nil, length-pieces, piece_there}
use Rattle.emitted.proofs.Rows.{item_at, row_valid}
use Rattle.emitted.proofs.WordsOf.{laid, plan_carries, entry_words}
use Rattle.emitted.proofs.Ranges.{ends_below, one_before, one_place, inside, others_apart}

ones : (n : ℕ) → total (λ k. 1) n ≡ n
ones zero = refl
ones (suc n) = omega (arith, ones n)

-- one item for each number
pub single_at : {A : Type 0} (f : ℕ → A) (n i : ℕ) → i < n → slice_get (pieces (λ k. f k ∷ []) n) i ≡ Some (f i)
single_at f n i lt =
    let all = pieces (λ k. f k ∷ []) n in
    sym (λ j. slice_get (append_nil all j) (ones i j)) ∙ (piece_there (λ k. f k ∷ []) n i [] lt).0

pub length-single : {A : Type 0} (f : ℕ → A) (n : ℕ) → length (pieces (λ k. f k ∷ []) n) ≡ n
length-single f n = length-pieces (λ k. f k ∷ []) n ∙ ones n

slice_index-replicate : (n i : ℕ) → slice_index (replicate n 0) i ≡ 0
slice_index-replicate zero i = refl
slice_index-replicate (suc n) zero = refl
slice_index-replicate (suc n) (suc i) = slice_index-replicate n i

get-replicate : (n i : ℕ) (p : Phase) → i < n → slice_get (replicate n p) i ≡ Some p
get-replicate zero i p lt = absurd (omega arith)
get-replicate (suc n) zero p lt = refl
get-replicate (suc n) (suc i) p lt = get-replicate n i p (omega arith)

module _ (b : Bundle) (plans : List Plan) (budget : Budget) (formed : IsFormedBundle b) (are : ArePlans b plans) (room : PlansFit b plans budget) where
  abbrev m : Image
  m = emitted b plans budget

  abbrev contexts : List Code
  contexts = pieces (λ c. context_of b plans budget c ∷ []) (length b.programs)

  abbrev start : ℕ → ℕ
  start c = start_of budget.private c

  abbrev own : ℕ → ℕ
  own c = size_of budget.private c

  abbrev shared : ℕ
  shared = sum budget.private

  abbrev reg : ℕ → ℕ → PReg
  reg c = register_in budget c

  abbrev plan : ℕ → Plan
  plan c = plan_at plans c

  abbrev pub laids : ℕ → Laid
  laids c = laid (code_of b c) (plan c) b.file (reg c)

  pub fits : (c : ℕ) → ((plan c).p ≤ own c) × ((plan c).r ≤ own c + budget.shared)
  fits c = by (slice_get plans c) refl
    where
      by : (o : Option Plan) → slice_get plans c ≡ o → ((plan_in o).p ≤ own c) × ((plan_in o).r ≤ own c + budget.shared)
      by None is = (omega arith, omega arith)
      by (Some q) is = room.each c q is

  pub words_at : (c : ℕ) → words_of m c ≡ words_of_plan (code_of b c) (plan c) (reg c)
  words_at c = by (slice_get b.programs c) refl
    where
      by : (o : Option Program) → slice_get b.programs c ≡ o → words_of m c ≡ words_of_plan (code_of b c) (plan c) (reg c)
      by (Some p) is =
          ap words_in (single_at (context_of b plans budget) (length b.programs) c (slice_get_within b.programs c p is))
      by None is =
          let past : length contexts ≤ c = omega (arith, length-single (context_of b plans budget) (length b.programs), past_end b.programs c is) in
          ap words_in (slice_get_past contexts c past) ∙ ap (λ o. words_of_plan (code_in o) (plan c) (reg c)) (sym is)
        where
          past_end : {A : Type 0} (xs : List A) (i : ℕ) → slice_get xs i ≡ None → length xs ≤ i
          past_end [] i e = omega arith
          past_end (x ∷ xs) zero e = absurd (cc)
          past_end (x ∷ xs) (suc i) e = omega (arith, past_end xs i e)

  module _ (c : ℕ) (p : Program) (is : slice_get b.programs c ≡ Some p) where
    pub closed : IsClosedCode (code_of b c)
    closed = subst (λ o. IsClosedCode (code_in o)) (sym is) (closed_code p (formed.programs c p is))

    pub valid : IsValidPlan (code_of b c) (plan c)
    valid =
        let there = slice_get_within b.programs c p is in
        let q = item_at plans c (omega (arith, are.one_each)) in
        subst (λ o. IsValidPlan (code_in o) (plan c)) (sym is)
        (subst (λ o. IsValidPlan p.code (plan_in o)) (sym q.1) (are.valid c p q.0 is q.1))

    pub apart_places : (q k : ℕ) → q < (plan c).r → k < (plan c).r → (reg c q).0 ≡ (reg c k).0 → q ≡ k
    apart_places = one_place (start c) (own c) shared (plan c).r budget.shared (ends_below budget.private c) (fits c).1

    pub in_file : (q : ℕ) → q < (plan c).r → (reg c q).0 < b.file
    in_file = inside (start c) (own c) shared (plan c).r budget.shared b.file (ends_below budget.private c) room.file (fits c).1

    carries_in : (memory : List ℕ) → Carries (laids c) b.file (words_of_plan (code_of b c) (plan c) (reg c)) (reg c) c memory (code_of b c)
    carries_in memory = plan_carries (code_of b c) (plan c) b.file (reg c) apart_places in_file valid closed c memory

    enters : EdgeWords (laids c) b.file (words_of_plan (code_of b c) (plan c) (reg c)) (reg c) 0 0 ((laids c).loc 0) []
    enters = entry_words (code_of b c) (plan c) b.file (reg c) apart_places in_file valid closed closed.some

    entry_private : (v : VReg) → LiveIn (code_of b c) 0 v.0 → (laids c).mine ((laids c).loc 0 v)
    entry_private v live = (place_in (row_at (plan c) 0).places v.0, (row_valid (code_of b c) (plan c) valid 0 closed.some).private v.0 (inr (refl, live)), refl)

  carried : AllCarried b m laids b.file reg
  carried = record {
    each = λ c memory. subst (λ ws. Carries (laids c) b.file ws (reg c) c memory (code_of b c)) (sym (words_at c)) (by c memory (slice_get b.programs c) refl);
    apart = λ c d ne q h k. others_apart (start c) (own c) (start d) (own d) shared (ends_below budget.private c) (ends_below budget.private d) (one_before budget.private c d ne) h.0 k.0 (within d h.0 h.1) (sym h.2 ∙ k.2);
  }
    where
      within : (d q : ℕ) → q < (plan d).p → q < own d
      within d q lt = omega (arith, (fits d).0)

      by : (c : ℕ) (memory : List ℕ) (o : Option Program) → slice_get b.programs c ≡ o → Carries (laids c) b.file (words_of_plan (code_of b c) (plan c) (reg c)) (reg c) c memory (code_of b c)
      by c memory (Some p) is = carries_in c p is memory
      by c memory None is = λ x before m a.
          let lt : x.kept.at < length (code_in None) = subst (λ o. x.kept.at < length (code_in o)) is a.within in
          absurd (omega arith)

  opened : (bound : ℕ) → Related m laids b.file reg (machine_open m bound).core (source_open b bound).state (machine_open m bound).state
  opened bound = record {
    held = λ o. record {
      long = length-replicate b.file 0;
      each = λ c lt but.
          let there : c < length contexts = simp length-replicate at lt in
          let p = item_at b.programs c (omega (arith, length-single (context_of b plans budget) (length b.programs))) in
          record {
            fits = subst (λ f. Fits {R = VReg} f None) (sym (get-replicate (length contexts) c Ready there)) tt;
            waits = λ lives. subst (λ ws. Suspended (laids c) b.file ws (reg c) ((source_open b bound).state c) ((machine_open m bound).state.contexts c) (replicate b.file 0)) (sym (words_at c)) (inl (record {
              place = refl;
              none = refl;
              kept = refl;
              stays = enters c p.0 p.1;
              values = λ v live. (entry_private c p.0 p.1 v live, slice_index-replicate b.file ((laids c).loc 0 v));
            }));
          };
    };
    cut = λ o. absurd (cc);
  }

  -- both runs are related after every list of events
  pub related : (bound : ℕ) (es : List Event) → BothBeside (Related m laids b.file reg) (run (source_semantics b) (source_open b bound) es) (run (machine_semantics m) (machine_open m bound) es)
  related bound es =
      related_after (source_semantics b) (machine_semantics m) (Related m laids b.file reg) (simulates b m laids b.file reg carried) (source_open b bound) (machine_open m bound)
      (ap (λ n. opening_core b.setting n bound) (sym (length-single (context_of b plans budget) (length b.programs)))) (opened bound) es

  pub implements : Implements m b
  implements = record {
    same = λ bound es. sym (beside_agree (Related m laids b.file reg) (run (source_semantics b) (source_open b bound) es) (run (machine_semantics m) (machine_open m bound) es) (related bound es));
  }
