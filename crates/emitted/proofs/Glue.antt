-- Words that are not counted: the steps of an edge and a jump, and what they come to.
use Rattle.std.proofs.Common.{◌≡◌, ℕ, ◌+◌, List, [], ◌∷◌, drop, map, length, Some, Bool, true, false, refl, sym, ap, ◌∙◌, arith}
use Rattle.std.specs.Prelude.{slice_get, slice_set, bit_xor, ◌==◌, if◌then◌else◌}
use Rattle.std.proofs.lemmas.Bool.{eqb-true, eq-eqb}
use Rattle.micro_isa.specs.declared.image.PReg.{PReg}
use Rattle.micro_isa.specs.declared.image.Word.{Word}
use Rattle.edge_moves.specs.declared.step.Step.{Step}
use Rattle.edge_moves.specs.declared.step.Step.TheVariants as step
use Rattle.semantics.specs.Effects.{SavedContext}
use Rattle.semantics.specs.Stretches.{ActiveContext, uncounted_one, uncounted, landed, settled}
use Rattle.semantics.specs.Machine.{read_in, numbered_word, machine_kind}
use Rattle.emitted.specs.Words.{step_word, jump_word}
use Rattle.micro_isa.specs.Pieces.{HasAt}
use Rattle.semantics.proofs.Settling.{settled_at, counted_stays, counted_lands}

-- a context that runs on the file
abbrev pub OnFile : Type 0
OnFile = ActiveContext PReg (List ℕ)

-- it stands at this place, over this file
abbrev pub stand : SavedContext PReg → ℕ → List ℕ → OnFile
stand k at file = record { kept = record k { at = at }; values = file }

-- the file after a step's word, and after those of steps in order
abbrev pub do_word : (ℕ → PReg) → Step → List ℕ → List ℕ
do_word reg (step.Mov to from) file = slice_set file (reg to.0).0 (read_in file (reg from.0))
do_word reg (step.Xor to with) file =
    slice_set file (reg to.0).0 (bit_xor (read_in file (reg to.0)) (read_in file (reg with.0)))

abbrev pub do_words : (ℕ → PReg) → List Step → List ℕ → List ℕ
do_words reg [] file = file
do_words reg (s ∷ ss) file = do_words reg ss (do_word reg s file)

module _ (c : ℕ) (memory : List ℕ) (words : List Word) where
  abbrev settle : OnFile → OnFile
  settle = settled machine_kind c memory words

  one_step : (rest jump : OnFile → OnFile) (reg : ℕ → PReg) (s : Step) (k : SavedContext PReg) (at : ℕ) (file : List ℕ) → uncounted_one machine_kind c memory rest jump (numbered_word (step_word reg s)) (stand k at file) ≡ rest (stand k (at + 1) (do_word reg s file))
  one_step rest jump reg (step.Mov to from) k at file =
      let next = stand k (at + 1) (do_word reg (step.Mov to from) file) in
      ap (λ b. if b then rest next else jump next) (eq-eqb (at + 1) (at + 1) refl)
  one_step rest jump reg (step.Xor to with) k at file =
      let next = stand k (at + 1) (do_word reg (step.Xor to with) file) in
      ap (λ b. if b then rest next else jump next) (eq-eqb (at + 1) (at + 1) refl)

  pub steps_run : (reg : ℕ → PReg) (ss : List Step) (k : SavedContext PReg) (at : ℕ) (file : List ℕ) → HasAt words at (map (step_word reg) ss) → settle (stand k at file) ≡ settle (stand k (at + length ss) (do_words reg ss file))
  steps_run reg [] k at file h =
      let e : at ≡ at + 0 = omega arith in
      ap (λ n. settle (stand k n file)) e
  steps_run reg (s ∷ ss) k at file h =
      let e : at + 1 + length ss ≡ at + length (s ∷ ss) = omega arith in
      settled_at machine_kind c memory words (stand k at file) (step_word reg s) h.0
      ∙ one_step (uncounted machine_kind c memory (landed machine_kind c memory words) (drop (at + 1) words)) (landed machine_kind c memory words) reg s k at file
      ∙ steps_run reg ss k (at + 1) (do_word reg s file) h.1
      ∙ ap (λ n. settle (stand k n (do_words reg (s ∷ ss) file))) e

  -- a jump comes to a counted word
  pub jump_goes : (k : SavedContext PReg) (at : ℕ) (file : List ℕ) (target : ℕ) (w : Word) → slice_get words at ≡ Some (jump_word target) → slice_get words target ≡ Some w → w.counted ≡ true → settle (stand k at file) ≡ stand k target file
  jump_goes k at file target w h there counts =
      settled_at machine_kind c memory words (stand k at file) (jump_word target) h ∙ by (target == at + 1) refl
    where
      by : (b : Bool) → (target == at + 1) ≡ b → (if b then uncounted machine_kind c memory (landed machine_kind c memory words) (drop (at + 1) words) (stand k target file) else landed machine_kind c memory words (stand k target file)) ≡ stand k target file
      by true is =
          ap (λ n. uncounted machine_kind c memory (landed machine_kind c memory words) (drop n words) (stand k target file)) (sym (eqb-true target (at + 1) is))
          ∙ counted_stays machine_kind c memory words (stand k target file) w there counts
      by false is = counted_lands machine_kind c memory words (stand k target file) w there counts
