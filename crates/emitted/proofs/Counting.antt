-- Which words are counted: one for each instruction, in order.
use Rattle.std.proofs.Common.{◌≡◌, ℕ, zero, suc, ◌+◌, ◌<◌, List, [], ◌∷◌, ◌++◌, map, length, Option, Some, None, Bool, true, false, cond, refl, sym, ap, ◌∙◌, append_assoc, length-append, arith}
use Rattle.std.specs.Prelude.{slice_get, not}
use Rattle.std.specs.List.{filter}
use Rattle.std.proofs.lemmas.List.{length-map}
use Rattle.micro_isa.specs.declared.program.Line.{Line}
use Rattle.micro_isa.specs.declared.image.PReg.{PReg}
use Rattle.micro_isa.specs.declared.image.Word.{Word}
use Rattle.edge_moves.specs.declared.step.Step.{Step}
use Rattle.edge_moves.specs.declared.step.Step.TheVariants as step
use Rattle.plan.specs.declared.row.Plan.{Plan}
use Rattle.micro_isa.specs.Pieces.{pieces, total}
use Rattle.emitted.specs.Edges.{next_at, edge_steps, steps_to, fall_steps}
use Rattle.emitted.specs.Words.{step_word, jump_word, address, size_with_jump, block_size, word_for, word_at, falls_at, piece_at, block_words, block_to, block_at, words_of_plan, glue_of}
use Rattle.micro_isa.proofs.Pieced.{append_nil, length-pieces, same_total}
use Rattle.emitted.proofs.Rows.{item_at}

abbrev pub is_counted : Word → Bool
is_counted w = w.counted

abbrev pub is_glue_word : Word → Bool
is_glue_word w = not w.counted

filter-both : {A : Type 0} (p : A → Bool) (a b : List A) → filter p (a ++ b) ≡ filter p a ++ filter p b
filter-both p [] b = refl
filter-both p (x ∷ a) b = by (filter-both p a b) (p x)
  where
    by : filter p (a ++ b) ≡ filter p a ++ filter p b → (t : Bool) → cond t (x ∷ filter p (a ++ b)) (filter p (a ++ b)) ≡ cond t (x ∷ filter p a) (filter p a) ++ filter p b
    by rest true = ap (λ l. x ∷ l) rest
    by rest false = rest

filter-pieces : {A : Type 0} (p : A → Bool) (f g : ℕ → List A) (n : ℕ) → ((i : ℕ) → i < n → filter p (f i) ≡ g i) → filter p (pieces f n) ≡ pieces g n
filter-pieces p f g zero h = refl
filter-pieces p f g (suc n) h =
    let rest = filter-pieces p f g n (λ i lt. h i (omega arith)) in
    filter-both p (pieces f n) (f n) ∙ (λ j. rest j ++ h n (omega arith) j)

empty_pieces : {A : Type 0} (n : ℕ) → pieces {A = A} (λ i. []) n ≡ []
empty_pieces zero = refl
empty_pieces (suc n) = append_nil (pieces (λ i. []) n) ∙ empty_pieces n

-- steps and jumps are not counted
no_step_counted : (reg : ℕ → PReg) (ss : List Step) → filter is_counted (map (step_word reg) ss) ≡ []
no_step_counted reg [] = refl
no_step_counted reg (step.Mov to from ∷ ss) = no_step_counted reg ss
no_step_counted reg (step.Xor to with ∷ ss) = no_step_counted reg ss

every_step_glue : (reg : ℕ → PReg) (ss : List Step) → filter is_glue_word (map (step_word reg) ss) ≡ map (step_word reg) ss
every_step_glue reg [] = refl
every_step_glue reg (step.Mov to from ∷ ss) = ap (λ l. step_word reg (step.Mov to from) ∷ l) (every_step_glue reg ss)
every_step_glue reg (step.Xor to with ∷ ss) = ap (λ l. step_word reg (step.Xor to with) ∷ l) (every_step_glue reg ss)

no_block_counted : (reg : ℕ → PReg) (ss : List Step) (target : ℕ) → filter is_counted (block_words reg ss target) ≡ []
no_block_counted reg [] target = refl
no_block_counted reg (s ∷ ss) target =
    filter-both is_counted (map (step_word reg) (s ∷ ss)) (jump_word target ∷ []) ∙ ap (λ l. l ++ []) (no_step_counted reg (s ∷ ss))

every_block_glue : (reg : ℕ → PReg) (ss : List Step) (target : ℕ) → filter is_glue_word (block_words reg ss target) ≡ block_words reg ss target
every_block_glue reg [] target = refl
every_block_glue reg (s ∷ ss) target =
    filter-both is_glue_word (map (step_word reg) (s ∷ ss)) (jump_word target ∷ []) ∙ ap (λ l. l ++ jump_word target ∷ []) (every_step_glue reg (s ∷ ss))

-- the first piece, and the pieces behind it
first_piece : {A : Type 0} (f : ℕ → List A) (n : ℕ) → pieces f (suc n) ≡ f 0 ++ pieces (λ i. f (suc i)) n
first_piece f zero = sym (append_nil (f 0))
first_piece f (suc n) =
    ap (λ l. l ++ f (suc n)) (first_piece f n) ∙ append_assoc (f 0) (pieces (λ i. f (suc i)) n) (f (suc n))

abbrev line_in : Option Line → ℕ
line_in None = 0
line_in (Some l) = l.line

lines_in : (code : List Line) → pieces (λ i. line_in (slice_get code i) ∷ []) (length code) ≡ map (λ l. l.line) code
lines_in [] = refl
lines_in (l ∷ ls) =
    first_piece (λ i. line_in (slice_get (l ∷ ls) i) ∷ []) (length ls) ∙ ap (λ ns. l.line ∷ ns) (lines_in ls)

map-both : {A B : Type 0} (f : A → B) (a b : List A) → map f (a ++ b) ≡ map f a ++ map f b
map-both f [] b = refl
map-both f (x ∷ a) b = ap (λ l. f x ∷ l) (map-both f a b)

map-single : {A B : Type 0} (f : A → B) (g : ℕ → A) (h : ℕ → B) → ((i : ℕ) → f (g i) ≡ h i) → (n : ℕ) → map f (pieces (λ i. g i ∷ []) n) ≡ pieces (λ i. h i ∷ []) n
map-single f g h e zero = refl
map-single f g h e (suc n) = map-both f (pieces (λ i. g i ∷ []) n) (g n ∷ []) ∙ (λ j. map-single f g h e n j ++ e n j ∷ [])

module _ (code : List Line) (plan : Plan) (reg : ℕ → PReg) where
  line_for : (i : ℕ) (o : Option Line) → (word_for code plan reg i o).line ≡ line_in o
  line_for i None = refl
  line_for i (Some l) = refl

  counted_word : (i : ℕ) → i < length code → (word_at code plan reg i).counted ≡ true
  counted_word i lt = let l = item_at code i lt in ap (λ o. (word_for code plan reg i o).counted) l.1

  counted_piece : (i : ℕ) → i < length code → filter is_counted (piece_at code plan reg i) ≡ word_at code plan reg i ∷ []
  counted_piece i lt =
      let w = word_at code plan reg i in
      let rest = filter is_counted (falls_at code plan reg i) in
      ap (λ b. cond b (w ∷ rest) rest) (counted_word i lt) ∙ ap (λ l. w ∷ l) (no_step_counted reg (fall_steps code plan i))

  counted_block : (i : ℕ) (o : Option ℕ) → filter is_counted (block_to code plan reg i o) ≡ []
  counted_block i None = refl
  counted_block i (Some j) = no_block_counted reg (edge_steps code plan i j) (address code plan j)

  -- the counted words are those of the instructions
  pub counted_words : filter is_counted (words_of_plan code plan reg) ≡ pieces (λ i. word_at code plan reg i ∷ []) (length code)
  counted_words =
      let n = length code in
      let front = filter-pieces is_counted (piece_at code plan reg) (λ i. word_at code plan reg i ∷ []) n counted_piece in
      let back = filter-pieces is_counted (block_at code plan reg) (λ i. []) n (λ i lt. counted_block i (next_at (slice_get code i) i).jump) ∙ empty_pieces n in
      filter-both is_counted (pieces (piece_at code plan reg) n) (pieces (block_at code plan reg) n)
      ∙ (λ j. front j ++ back j) ∙ append_nil (pieces (λ i. word_at code plan reg i ∷ []) n)

  pub counted_lines : map (λ w. w.line) (filter is_counted (words_of_plan code plan reg)) ≡ map (λ l. l.line) code
  counted_lines =
      ap (map (λ w. w.line)) counted_words
      ∙ map-single (λ w. w.line) (word_at code plan reg) (λ i. line_in (slice_get code i)) (λ i. line_for i (slice_get code i)) (length code)
      ∙ lines_in code

  glue_piece : (i : ℕ) → i < length code → filter is_glue_word (piece_at code plan reg i) ≡ falls_at code plan reg i
  glue_piece i lt =
      let w = word_at code plan reg i in
      let rest = filter is_glue_word (falls_at code plan reg i) in
      ap (λ b. cond (not b) (w ∷ rest) rest) (counted_word i lt) ∙ every_step_glue reg (fall_steps code plan i)

  glue_block : (i : ℕ) (o : Option ℕ) → filter is_glue_word (block_to code plan reg i o) ≡ block_to code plan reg i o
  glue_block i None = refl
  glue_block i (Some j) = every_block_glue reg (edge_steps code plan i j) (address code plan j)

  words_long : (ss : List Step) (target : ℕ) → length (block_words reg ss target) ≡ size_with_jump ss
  words_long [] target = refl
  words_long (s ∷ ss) target =
      length-append (map (step_word reg) (s ∷ ss)) (jump_word target ∷ []) ∙ ap (λ n. n + 1) (length-map (s ∷ ss) (step_word reg))

  block_long : (i : ℕ) (o : Option ℕ) → length (block_to code plan reg i o) ≡ size_with_jump (steps_to code plan i o)
  block_long i None = refl
  block_long i (Some j) = words_long (edge_steps code plan i j) (address code plan j)

  two_totals : (f g : ℕ → ℕ) (n : ℕ) → total f n + total g n ≡ total (λ i. f i + g i) n
  two_totals f g zero = refl
  two_totals f g (suc n) = omega (arith, two_totals f g n)

  pub glue_words : length (filter is_glue_word (words_of_plan code plan reg)) ≡ glue_of code plan
  glue_words =
      let n = length code in
      let front = filter-pieces is_glue_word (piece_at code plan reg) (falls_at code plan reg) n glue_piece in
      let back = filter-pieces is_glue_word (block_at code plan reg) (block_at code plan reg) n (λ i lt. glue_block i (next_at (slice_get code i) i).jump) in
      let falls = length-pieces (falls_at code plan reg) n ∙ same_total (λ i. length (falls_at code plan reg i)) (λ i. length (fall_steps code plan i)) (λ i. length-map (fall_steps code plan i) (step_word reg)) n in
      let blocks = length-pieces (block_at code plan reg) n ∙ same_total (λ i. length (block_at code plan reg i)) (block_size code plan) (λ i. block_long i (next_at (slice_get code i) i).jump) n in
      ap length (filter-both is_glue_word (pieces (piece_at code plan reg) n) (pieces (block_at code plan reg) n) ∙ (λ j. front j ++ back j))
      ∙ length-append (pieces (falls_at code plan reg) n) (pieces (block_at code plan reg) n)
      ∙ (λ j. falls j + blocks j)
      ∙ two_totals (λ i. length (fall_steps code plan i)) (block_size code plan) n
