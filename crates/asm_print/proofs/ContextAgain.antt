-- The canonical lines of a program have no fault, and say the program.
use Rattle.std.proofs.Common.{◌≡◌, ◌++◌, ◌≤◌, ℕ, ◌+◌, suc, Bool, true, List, [], ◌∷◌, Some, None, refl, sym, ap, ◌∙◌, arith, length, map, slice_get, slice_index, subst, append_assoc, append-nil}
use Rattle.std.proofs.lemmas.Bool.{and_parts}
use Rattle.std.proofs.lemmas.List.{length-append}
use Rattle.std.proofs.lemmas.List.Folds.{list_all-append}
use Rattle.std.proofs.Math.Seq.{take-length}
use Rattle.std.specs.List.{list_all, AllByRecursion}
use Rattle.micro_isa.specs.declared.instr.Instr.{Instr}
use Rattle.micro_isa.specs.declared.program.VReg.{VReg}
use Rattle.micro_isa.specs.declared.program.Line.{Line}
use Rattle.micro_isa.specs.declared.program.Label.{Label}
use Rattle.micro_isa.specs.declared.program.Channel.{Channel}
use Rattle.micro_isa.specs.declared.program.Program.{Program}
use Rattle.micro_isa.specs.Names.{name_test}
use Rattle.micro_isa.specs.Formed.{Each, IsFormedProgram, named_by, all_below, option_below, target_of, fits_channels, never_falls}
use Rattle.asm_lines.specs.Cutting.{Words, TextLine}
use Rattle.asm_context.specs.Faults.{channels, lines_fault, faults_after}
use Rattle.asm_context.specs.Programs.{program_of, labels_from as labels_said, code_after}
use Rattle.asm_context.specs.Said.{Said, nothing, said_by}
use Rattle.asm_print.specs.Canonical.{labels_at, label_row, instruction_row, line_rows, code_rows}
use Rattle.asm_print.proofs.Plain.{lines_with}
use Rattle.asm_print.specs.Typed.{NumberFits, IsTypedProgram}
use Rattle.asm_print.specs.Again.{unlined_code, unlined_program}
use Rattle.asm_print.proofs.ContextLines.{stands, final, Placed, label_walk, instruction_walk}
use Rattle.asm_print.proofs.InTurn.{InTurn, grown, grown-append, grown_within, turn_parts, known_all, in_turn}
use Rattle.asm_print.proofs.InstructionAgain.{numbers_of, Channelled}
use Rattle.asm_print.proofs.Lines.{lines-append}
use Rattle.asm_print.proofs.Targets.{labels_from, here_then_later, from_start, none_past, targets_here}
use Rattle.asm_print.proofs.Walking.{Walks, no_walk, then_walk, instrs}

-- what the text of a program stands on
pub record Good (chs : Words) (kinds : List Channel) (p : Program) : Type 0 where
  pub formed : IsFormedProgram p
  pub typed : IsTypedProgram p
  pub channels : Channelled chs kinds
  pub fits : Each p.code (λ l. fits_channels kinds l.instr ≡ true)

-- instructions of a program behind others
record Rest (p : Program) (before : List Label) (k at : ℕ) (done ls : List Line) : Type 0 where
  code : done ++ ls ≡ p.code
  place : length done ≡ at
  labels : before ++ labels_from at p.labels ≡ p.labels
  few : k ≤ length p.registers
  turn : InTurn k (named_by ls)
  grows : grown k (named_by ls) ≡ length p.registers

pub there : {A : Type 0} (xs : List A) (y : A) (ys : List A) → slice_get (xs ++ y ∷ ys) (length xs) ≡ Some y
there [] y ys = refl
there (x ∷ xs) y ys = there xs y ys

passes_there : (test : Label → Bool) (xs : List Label) (y : Label) (ys : List Label) → list_all test (xs ++ y ∷ ys) ≡ true → test y ≡ true
passes_there test xs y ys e =
    (and_parts (test y) (list_all test ys) (and_parts (list_all test xs) (list_all test (y ∷ ys)) (sym (list_all-append test xs (y ∷ ys)) ∙ e)).1).0

pub number_there : (p : Line → Type 0) (xs : List Line) (y : Line) (ys : List Line) → AllByRecursion p (xs ++ y ∷ ys) → p y
number_there p [] y ys a = a.0
number_there p (x ∷ xs) y ys a = number_there p xs y ys a.1

module _ (chs : Words) (kinds : List Channel) (p : Program) (good : Good chs kinds p) where
  rewalked : (s t u : Said) (ls ms : List TextLine) (is : List (Instr VReg)) → ls ≡ ms → t ≡ u → Walks (channels chs kinds) (final p) s ls t is → Walks (channels chs kinds) (final p) s ms u is
  rewalked s t u ls ms is e f w = subst (λ ms. Walks (channels chs kinds) (final p) s ms u is) e (subst (λ u. Walks (channels chs kinds) (final p) s ls u is) f w)

  labels_walk : (n k at : ℕ) (before group later : List Label) → Placed p k at → before ++ (group ++ later) ≡ p.labels → AllByRecursion (λ l. l.target ≡ at) group
      → Walks (channels chs kinds) (final p) (stands p before k at) (lines_with n (map label_row group)) (stands p (before ++ group) k at) []
  labels_walk n k at before [] later placed parts here =
      rewalked _ _ _ _ _ _ refl (ap (λ ls. stands p ls k at) (sym (append-nil before))) (no_walk (channels chs kinds) (final p) (stands p before k at))
  labels_walk n k at before (l ∷ group) later placed parts here =
      let named = passes_there (λ l. name_test l.name) before l (group ++ later) (ap (list_all (λ (l : Label). name_test l.name)) parts ∙ good.typed.labels) in
      let first = label_walk chs kinds p n k at before l (group ++ later) placed named good.formed.label_names parts here.0 in
      let rest = labels_walk (n + 1) k at (before ++ l ∷ []) group later placed (append_assoc before (l ∷ []) (group ++ later) ∙ parts) here.1 in
      rewalked _ _ _ _ _ _ refl (ap (λ ls. stands p ls k at) (append_assoc before (l ∷ []) group)) (then_walk (channels chs kinds) (final p) _ _ _ _ _ [] [] first rest)

  code_walk : (n k at : ℕ) (before : List Label) (done ls : List Line) → Rest p before k at done ls
      → Walks (channels chs kinds) (final p) (stands p before k at) (lines_with n (code_rows chs p at ls)) (final p) (instrs ls)
  code_walk n k at before done [] rest =
      let len : at ≡ length p.code = sym rest.place ∙ ap length (sym (append-nil done) ∙ rest.code) in
      let all : before ≡ p.labels = sym (append-nil before) ∙ ap (λ ls. before ++ ls) (sym (ap (λ n. labels_from n p.labels) len ∙ none_past (length p.code) p.labels good.formed.label_targets)) ∙ rest.labels in
      rewalked _ _ _ _ _ _ refl
      (ap (λ ls. stands p ls k at) all ∙ ap (λ n. stands p p.labels k n) len ∙ ap (λ j. stands p p.labels j (length p.code)) rest.grows
      ∙ ap (λ (rs : Words). record { labels = map (λ (l : Label). l.name) p.labels; targets = map (λ (l : Label). l.target) p.labels; registers = rs; done = length p.code }) (take-length p.registers))
      (no_walk (channels chs kinds) (final p) (stands p before k at))
  code_walk n k at before done (l ∷ ls) rest =
      let group = labels_at p.labels at in
      let nums = numbers_of l.instr in
      let long : at + suc (length ls) ≡ length p.code = omega (arith, rest.place, length-append done (l ∷ ls), ap length rest.code) in
      let placed : Placed p k at = record { few = rest.few; registers = good.formed.registers; within = omega (arith, long); short = good.formed.few } in
      let parts : before ++ (group ++ labels_from (at + 1) p.labels) ≡ p.labels = ap (λ ls. before ++ ls) (sym (here_then_later at p.labels 0 good.formed.label_order)) ∙ rest.labels in
      let here : slice_get p.code at ≡ Some l = ap (λ c. slice_get c at) (sym rest.code) ∙ ap (slice_get (done ++ l ∷ ls)) (sym rest.place) ∙ there done l ls in
      let below = (and_parts (all_below (length p.registers) nums) (option_below (length p.code) (target_of l.instr)) (good.formed.named at l here)).0 in
      let turns = turn_parts k nums (named_by ls) rest.turn in
      let within = grown_within k nums (length p.registers) rest.few below in
      let ends : at + 1 ≡ length p.code → never_falls l.instr ≡ true =
      λ e. good.formed.ends l (ap (slice_get p.code) (omega arith) ∙ here) in
      let number = number_there (λ l. NumberFits l.instr) done l ls (subst (AllByRecursion (λ (l : Line). NumberFits l.instr)) (sym rest.code) good.typed.numbers) in
      let first = labels_walk n k at before group (labels_from (at + 1) p.labels) placed parts (targets_here at p.labels) in
      let second = instruction_walk chs kinds p (n + length (map label_row group)) k at (before ++ group) l.instr placed
      (record {
        channels = good.channels;
        distinct = good.formed.distinct;
        few = within;
        known = known_all k nums turns.0;
        labels = good.typed.labels;
        label_names = good.formed.label_names;
        labelled = good.formed.labelled at l here;
        fits = good.fits at l here;
        number = number;
      })
      turns.0 below good.typed.registers ends in
      let third = code_walk (n + length (line_rows chs p at l)) (grown k nums) (at + 1) (before ++ group) (done ++ l ∷ []) ls (record {
        code = append_assoc done (l ∷ []) ls ∙ rest.code;
        place = length-append done (l ∷ []) ∙ ap (λ n. n + 1) rest.place;
        labels = append_assoc before group (labels_from (at + 1) p.labels) ∙ parts;
        few = within;
        turn = turns.1;
        grows = sym (grown-append k nums (named_by ls)) ∙ rest.grows;
      }) in
      let both = then_walk (channels chs kinds) (final p) _ _ _ _ _ [] (l.instr ∷ []) first second in
      let whole = then_walk (channels chs kinds) (final p) _ _ _ _ _ (l.instr ∷ []) (instrs ls) both third in
      rewalked _ _ _ _ _ _
      (ap (λ xs. xs ++ lines_with (n + length (line_rows chs p at l)) (code_rows chs p (at + 1) ls)) (sym (lines-append n (map label_row group) (instruction_row chs p l.instr ∷ [])))
      ∙ sym (lines-append n (line_rows chs p at l) (code_rows chs p (at + 1) ls)))
      refl whole

  -- the lines of a program
  pub program_walk : (n : ℕ) → Walks (channels chs kinds) (final p) nothing (lines_with n (code_rows chs p 0 p.code)) (final p) (instrs p.code)
  program_walk n =
      let t = in_turn 0 (named_by p.code) (length p.registers) good.formed.numbered in
      code_walk n 0 0 [] [] p.code (record {
        code = refl;
        place = refl;
        labels = from_start p.labels 0 good.formed.label_order;
        few = omega arith;
        turn = t.turn;
        grows = t.grows;
      })

-- ---- what a program's lines say

target_there : (front : List Label) (l : Label) (ls : List Label) → slice_index (map (λ l. l.target) (front ++ l ∷ ls)) (length front) ≡ l.target
target_there [] l ls = refl
target_there (f ∷ front) l ls = target_there front l ls

labels_again : (front ls all : List Label) (n : ℕ) → front ++ ls ≡ all → length front ≡ n → labels_said n (map (λ l. l.name) ls) (map (λ l. l.target) all) ≡ ls
labels_again front [] all n e h = refl
labels_again front (l ∷ ls) all n e h =
    ap (λ (t : ℕ). record { name = l.name; target = t } ∷ labels_said (n + 1) (map (λ l. l.name) ls) (map (λ l. l.target) all))
    (ap (λ xs. slice_index (map (λ (l : Label). l.target) xs) n) (sym e) ∙ ap (slice_index (map (λ (l : Label). l.target) (front ++ l ∷ ls))) (sym h) ∙ target_there front l ls)
    ∙ ap (λ xs. l ∷ xs) (labels_again (front ++ l ∷ []) ls all (n + 1) (append_assoc front (l ∷ []) ls ∙ e) (length-append front (l ∷ []) ∙ ap (λ n. n + 1) h))

unlined_is : (code : List Line) → unlined_code code ≡ map (λ i. record { instr = i; line = 0 }) (instrs code)
unlined_is [] = refl
unlined_is (l ∷ ls) = ap (λ ms. record { instr = l.instr; line = 0 } ∷ ms) (unlined_is ls)

pub record Said_again (chs : Words) (kinds : List Channel) (p : Program) (lines : List TextLine) : Type 0 where
  pub free : lines_fault (channels chs kinds) lines ≡ None
  pub same : unlined_program (program_of chs p.name lines) ≡ unlined_program p

pub said_again : (chs : Words) (kinds : List Channel) (p : Program) → Good chs kinds p → (n : ℕ) → Said_again chs kinds p (lines_with n (code_rows chs p 0 p.code))
said_again chs kinds p good n =
    let lines = lines_with n (code_rows chs p 0 p.code) in
    let w = program_walk chs kinds p good n in
    let code : instrs (code_after chs (said_by lines) [] lines) ≡ instrs p.code = ap (λ all. instrs (code_after chs all [] lines)) w.said ∙ w.code [] refl in
    record {
      free = ap (λ all. faults_after (channels chs kinds) all [] lines) w.said ∙ w.free [] refl;
      same =
          ap (λ (c : List Line). record { name = p.name; registers = (said_by lines).registers; labels = labels_said 0 (said_by lines).labels (said_by lines).targets; code = c })
          (unlined_is (code_after chs (said_by lines) [] lines) ∙ ap (map (λ i. record { instr = i; line = 0 })) code ∙ sym (unlined_is p.code))
          ∙ ap (λ (s : Said). record { name = p.name; registers = s.registers; labels = labels_said 0 s.labels s.targets; code = unlined_code p.code }) w.said
          ∙ ap (λ (ls : List Label). record { name = p.name; registers = p.registers; labels = ls; code = unlined_code p.code }) (labels_again [] p.labels p.labels 0 refl refl);
    }
