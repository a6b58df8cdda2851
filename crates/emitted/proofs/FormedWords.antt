-- The words of a valid plan are formed.
use Rattle.std.proofs.Common.{◌+◌, ◌≡◌, ℕ, zero, suc, ◌-◌, ◌*◌, ◌<◌, ◌≤◌, List, [], ◌∷◌, ◌++◌, map, length, Option, Some, None, Bool, true, false, refl, sym, ap, ◌∙◌, subst, length-append, inl, inr, arith}
use Rattle.std.specs.Prelude.{slice_get, option_map, nat_lt, ◌&&◌, ◌||◌}
use Rattle.std.specs.List.{AllByRecursion, cons_option}
use Rattle.std.proofs.lemmas.Bool.{lt-ltb}
use Rattle.std.proofs.lemmas.Option.{same_Some, slice_get_within}
use Rattle.micro_isa.specs.declared.instr.Instr.{Instr}
use Rattle.micro_isa.specs.declared.program.VReg.{VReg}
use Rattle.micro_isa.specs.declared.program.Line.{Line}
use Rattle.micro_isa.specs.declared.program.Channel.{Channel}
use Rattle.micro_isa.specs.declared.image.PReg.{PReg}
use Rattle.micro_isa.specs.declared.image.Word.{Word}
use Rattle.micro_isa.specs.declared.image.Range.{Range}
use Rattle.micro_isa.specs.declared.operands.Extra.{Extra}
use Rattle.micro_isa.specs.declared.operands.Extra.TheVariants as extra
use Rattle.micro_isa.specs.declared.operands.Operands.{Operands}
use Rattle.micro_isa.specs.Operands.{operands_of, renamed, retargeted}
use Rattle.micro_isa.specs.Columns.{registers, target_in, written_by, ends, next_of}
use Rattle.micro_isa.specs.Formed.{target_of, never_falls, all_below, option_below, names_below, fits_channels, fits_extra, is_counted_at, glue_fits, writes_within, lies_in}
use Rattle.flow_graph.specs.Paths.{GoesTo, IsClosedCode}
use Rattle.liveness.specs.Liveness.{Reads}
use Rattle.edge_moves.specs.declared.step.Step.{Step}
use Rattle.edge_moves.specs.declared.step.Step.TheVariants as step
use Rattle.edge_moves.specs.Within.{StepsWithin}
use Rattle.plan.specs.declared.row.Plan.{Plan}
use Rattle.plan.specs.ValidPlans.{place_in, IsValidPlan}
use Rattle.micro_isa.specs.Pieces.{pieces, total, HasAt}
use Rattle.micro_isa.specs.declared.limits.TheConstants.{MOST_WORDS}
use Rattle.emitted.specs.Edges.{most_edge_steps, row_at, place_or_zero, written_in, next_at, steps_for, edge_steps, steps_to, fall_steps, jump_steps}
use Rattle.emitted.specs.Words.{reword, step_word, jump_word, address, size_with_jump, block_address, target_for, target_from, word_for, word_at, falls_at, piece_at, block_words, block_to, block_at, words_of_plan}
use Rattle.micro_isa.proofs.Laws.{reworded, no_fall, jumps_to}
use Rattle.micro_isa.proofs.Pieced.{length-pieces}
use Rattle.emitted.proofs.Rows.{item_at, live_read, place_below, write_below}
use Rattle.emitted.proofs.WordsOf.{here, counted_at, block_stands, piece_long, block_long, steps_within, steps_few}

pub both : (a b : Bool) → a ≡ true → b ≡ true → (a && b) ≡ true
both true b h k = k
both false b h k = h

-- a word of these words, over a file and ranges
pub record IsFormedWord (file : ℕ) (own shared : Range) (chs : List Channel) (ws : List Word) (w : Word) : Type 0 where
  pub named : names_below (λ r. r.0) file (length ws) w.instr ≡ true
  pub written : writes_within own shared (written_by w.instr) ≡ true
  pub glue : glue_fits ws w ≡ true
  pub channels : fits_channels chs w.instr ≡ true

pub all_at : {A : Type 0} (P : A → Type 0) (xs : List A) → AllByRecursion P xs → (i : ℕ) (x : A) → slice_get xs i ≡ Some x → P x
all_at P [] h i x e = absurd (cc)
all_at P (y ∷ xs) h zero x e = subst P (same_Some y x e) h.0
all_at P (y ∷ xs) h (suc i) x e = all_at P xs h.1 i x e

all_both : {A : Type 0} (P : A → Type 0) (a b : List A) → AllByRecursion P a → AllByRecursion P b → AllByRecursion P (a ++ b)
all_both P [] b h k = k
all_both P (x ∷ a) b h k = (h.0, all_both P a b h.1 k)

all_pieces : {A : Type 0} (P : A → Type 0) (f : ℕ → List A) (n : ℕ) → ((i : ℕ) → i < n → AllByRecursion P (f i)) → AllByRecursion P (pieces f n)
all_pieces P f zero h = tt
all_pieces P f (suc n) h = all_both P (pieces f n) (f n) (all_pieces P f n (λ i lt. h i (omega arith))) (h n (omega arith))

below_one : (n a : ℕ) → a < n → all_below n (a ∷ []) ≡ true
below_one n a h = both (nat_lt a n) true (lt-ltb a n h) refl

below_two : (n a b : ℕ) → a < n → b < n → all_below n (a ∷ b ∷ []) ≡ true
below_two n a b h k = both (nat_lt a n) (all_below n (b ∷ [])) (lt-ltb a n h) (below_one n b k)

below_three : (n a b c : ℕ) → a < n → b < n → c < n → all_below n (a ∷ b ∷ c ∷ []) ≡ true
below_three n a b c h k l = both (nat_lt a n) (all_below n (b ∷ c ∷ [])) (lt-ltb a n h) (below_two n b c k l)

-- one more register that is in the file, if there is one
below_cons : (file : ℕ) (f : VReg → PReg) (o : Option VReg) (rs : List PReg) → ((v : VReg) → o ≡ Some v → (f v).0 < file) → all_below file (map (λ r. r.0) rs) ≡ true → all_below file (map (λ r. r.0) (cons_option (option_map f o) rs)) ≡ true
below_cons file f None rs h all = all
below_cons file f (Some v) rs h all = both (nat_lt (f v).0 file) (all_below file (map (λ r. r.0) rs)) (lt-ltb (f v).0 file (h v refl)) all

-- what is no register: a target is a word, and a channel stays

below_target : (n : ℕ) (t : ℕ → ℕ) (e : Extra ℕ ℕ) → ((j : ℕ) → target_in e ≡ Some j → t j < n) → option_below n (target_in (retargeted t e)) ≡ true
below_target n t (extra.Target target) h = lt-ltb (t target) n (h target refl)
below_target n t _ h = refl

same_channel : (chs : List Channel) (t : ℕ → ℕ) (e : Extra ℕ ℕ) → fits_extra chs (retargeted t e) ≡ fits_extra chs e
same_channel chs t (extra.Target target) = refl
same_channel chs t _ = refl

module _ (f : VReg → PReg) (g : PReg) (t : ℕ → ℕ) where
  -- the word of an instruction names registers of the file and words, where what it reads, writes and jumps to does
  named_word : (file n line : ℕ) (o : Instr VReg) → ((v : VReg) → Reads (record { instr = o; line = line }) v.0 → (f v).0 < file) → ((d : VReg) → written_by o ≡ Some d → g.0 < file) → ((j : ℕ) → target_of o ≡ Some j → t j < n) → names_below (λ r. r.0) file n (reword f g t o) ≡ true
  named_word file n line o r w j =
      let x = operands_of o in
      let second = below_cons file f x.b [] (λ v e. r v (inr e)) refl in
      let first = below_cons file f x.a (cons_option (option_map f x.b) []) (λ v e. r v (inl e)) second in
      let all = below_cons file (λ v. g) x.to (cons_option (option_map f x.a) (cons_option (option_map f x.b) [])) w first in
      ap (λ (y : Operands PReg ℕ ℕ). all_below file (map (λ r. r.0) (registers y)) && option_below n (target_in y.extra)) (reworded f g t o).operands
      ∙ both (all_below file (map (λ r. r.0) (registers (renamed f g t x)))) (option_below n (target_in (retargeted t x.extra))) all (below_target n t x.extra j)

  -- what stays: whether it falls, and the channel
  same_falls : (o : Instr VReg) → never_falls (reword f g t o) ≡ never_falls o
  same_falls o = ap ends (reworded f g t o).operation

  same_channels : (chs : List Channel) (o : Instr VReg) → fits_channels chs (reword f g t o) ≡ fits_channels chs o
  same_channels chs o =
      ap (λ (y : Operands PReg ℕ ℕ). fits_extra chs y.extra) (reworded f g t o).operands ∙ same_channel chs t (operands_of o).extra

  written_word : (own shared : Range) (o : Instr VReg) → ((d : VReg) → written_by o ≡ Some d → (lies_in own g.0 || lies_in shared g.0) ≡ true) → writes_within own shared (written_by (reword f g t o)) ≡ true
  written_word own shared o w =
      ap (λ (y : Operands PReg ℕ ℕ). writes_within own shared y.to) (reworded f g t o).operands ∙ by (written_by o) w
    where
      by : (to : Option VReg) → ((d : VReg) → to ≡ Some d → (lies_in own g.0 || lies_in shared g.0) ≡ true) → writes_within own shared (option_map (λ r. g) to) ≡ true
      by None h = refl
      by (Some d) h = h d refl

counted_there : (ws : List Word) (target : ℕ) (w : Word) → slice_get ws target ≡ Some w → w.counted ≡ true → is_counted_at ws (Some target) ≡ true
counted_there ws target w h c = rw h c

pub total_most : (f : ℕ → ℕ) (n : ℕ) → ((i : ℕ) → i < n → f i ≤ most_edge_steps + 1) → total f n ≤ (most_edge_steps + 1) * n
total_most f zero h = omega arith
total_most f (suc n) h =
    let rest = total_most f n (λ i lt. h i (omega arith)) in
    let last = h n (omega arith) in
    omega arith

-- the last item, or this where there is none
abbrev last_or : {A : Type 0} → Option A → List A → Option A
last_or o [] = o
last_or o (x ∷ xs) = last_or (Some x) xs

last_both : {A : Type 0} (o : Option A) (a b : List A) → last_or o (a ++ b) ≡ last_or (last_or o a) b
last_both o [] b = refl
last_both o (x ∷ a) b = last_both (Some x) a b

last_at : {A : Type 0} (x : A) (xs : List A) → slice_get (x ∷ xs) (length xs) ≡ last_or (Some x) xs
last_at x [] = refl
last_at x (y ∷ ys) = last_at y ys

last_is : {A : Type 0} (xs : List A) (y : A) → slice_get xs (length xs - 1) ≡ Some y → last_or None xs ≡ Some y
last_is [] y h = absurd (cc)
last_is (x ∷ xs) y h =
    let e : length (x ∷ xs) - 1 ≡ length xs = omega arith in
    sym (last_at x xs) ∙ subst (λ n. slice_get (x ∷ xs) n ≡ Some y) e h

abbrev StopsAt : Option Word → Type 0
StopsAt None = Unit {0}
StopsAt (Some w) = never_falls w.instr ≡ true

stops_block : (reg : ℕ → PReg) (ss : List Step) (target : ℕ) (o : Option Word) → StopsAt o → StopsAt (last_or o (block_words reg ss target))
stops_block reg [] target o h = h
stops_block reg (s ∷ ss) target o h =
    subst StopsAt (sym (last_both o (map (step_word reg) (s ∷ ss)) (jump_word target ∷ []))) refl

stops_pieces : (f : ℕ → List Word) (n : ℕ) → ((i : ℕ) (o : Option Word) → StopsAt o → StopsAt (last_or o (f i))) → (o : Option Word) → StopsAt o → StopsAt (last_or o (pieces f n))
stops_pieces f zero h o s = s
stops_pieces f (suc n) h o s =
    subst StopsAt (sym (last_both o (pieces f n) (f n))) (h n (last_or o (pieces f n)) (stops_pieces f n h o s))

module _ (code : List Line) (plan : Plan) (file : ℕ) (reg : ℕ → PReg) (one_place : (q k : ℕ) → q < plan.r → k < plan.r → (reg q).0 ≡ (reg k).0 → q ≡ k) (inside : (q : ℕ) → q < plan.r → (reg q).0 < file) (valid : IsValidPlan code plan) (closed : IsClosedCode code) where
  abbrev words : List Word
  words = words_of_plan code plan reg

  -- the steps of a fall or a jump
  steps_below : (i : ℕ) → i < length code → (o : Option ℕ) → ((j : ℕ) (l : Line) → o ≡ Some j → slice_get code i ≡ Some l → GoesTo (next_of l.instr i) j) → StepsWithin plan.r (steps_to code plan i o) × (length (steps_to code plan i o) ≤ most_edge_steps)
  steps_below i lt None goes = (tt, omega arith)
  steps_below i lt (Some j) goes =
      let l = item_at code i lt in
      let go = goes j l.0 refl l.1 in (
        subst (λ o. StepsWithin plan.r (steps_for plan (written_in o) i j)) (sym l.1) (steps_within code plan file reg one_place inside valid closed i j l.0 (written_by l.0.instr) lt l.1 refl go),
        subst (λ o. length (steps_for plan (written_in o) i j) ≤ most_edge_steps) (sym l.1) (steps_few code plan file reg one_place inside valid closed i j l.0 (written_by l.0.instr) lt l.1 refl go),
      )

  pub fall_below : (i : ℕ) → i < length code → StepsWithin plan.r (fall_steps code plan i) × (length (fall_steps code plan i) ≤ most_edge_steps)
  fall_below i lt = steps_below i lt (next_at (slice_get code i) i).fall (λ j l e is. inl (ap (λ o. (next_at o i).fall) (sym is) ∙ e))

  pub jump_below : (i : ℕ) → i < length code → StepsWithin plan.r (jump_steps code plan i) × (length (jump_steps code plan i) ≤ most_edge_steps)
  jump_below i lt = steps_below i lt (next_at (slice_get code i) i).jump (λ j l e is. inr (ap (λ o. (next_at o i).jump) (sym is) ∙ e))

  -- all targets are words
  address_below : (j : ℕ) → j < length code → address code plan j < length words
  address_below j lt = slice_get_within words (address code plan j) (word_at code plan reg j) (here code plan file reg j lt)

  target_below : (i j : ℕ) (l : Line) → i < length code → slice_get code i ≡ Some l → (next_of l.instr i).jump ≡ Some j → target_from code plan i j < length words
  target_below i j l lt is goes = by (edge_steps code plan i j) stand
    where
      there : j < length code
      there = closed.closed i j (l, is, inr goes)

      stand : HasAt words (block_address code plan i) (block_words reg (edge_steps code plan i j) (address code plan j))
      stand = subst (λ o. HasAt words (block_address code plan i) (block_to code plan reg i o)) (ap (λ o. (next_at o i).jump) is ∙ goes) (block_stands code plan file reg i lt)

      by : (ss : List Step) → HasAt words (block_address code plan i) (block_words reg ss (address code plan j)) → target_for ss (block_address code plan i) (address code plan j) < length words
      by [] h = address_below j there
      by (s ∷ ss) h = slice_get_within words (block_address code plan i) (step_word reg s) h.0

  -- at most as many words as an image may have
  pub words_few : length words ≤ MOST_WORDS
  words_few =
      let n = length code in
      let front = length-pieces (piece_at code plan reg) n in
      let back = length-pieces (block_at code plan reg) n in
      let first = total_most (λ i. length (piece_at code plan reg i)) n (λ i lt. let k = (fall_below i lt).1 in omega (arith, piece_long code plan file reg i)) in
      let second = total_most (λ i. length (block_at code plan reg i)) n (λ i lt. subst (λ k. k ≤ most_edge_steps + 1) (sym (block_long code plan file reg i (next_at (slice_get code i) i).jump)) (with_jump (jump_steps code plan i) (jump_below i lt).1)) in
      omega (arith, closed.few, length-append (pieces (piece_at code plan reg) n) (pieces (block_at code plan reg) n))
    where
      with_jump : (ss : List Step) → length ss ≤ most_edge_steps → size_with_jump ss ≤ most_edge_steps + 1
      with_jump [] h = omega arith
      with_jump (s ∷ ss) h = omega arith

  pub words_some : 1 ≤ length words
  words_some = let lt = address_below 0 closed.some in omega arith

  -- the last word does not fall
  pub words_end : ((last : Line) → slice_get code (length code - 1) ≡ Some last → never_falls last.instr ≡ true) → (last : Word) → slice_get words (length words - 1) ≡ Some last → never_falls last.instr ≡ true
  words_end ends last is =
      subst StopsAt (last_is words last is)
      (subst StopsAt (sym (last_both None (pieces (piece_at code plan reg) (length code)) (pieces (block_at code plan reg) (length code))))
      (stops_pieces (block_at code plan reg) (length code) (λ i o h. block i (next_at (slice_get code i) i).jump o h) (last_or None (pieces (piece_at code plan reg) (length code))) (front (length code) refl)))
    where
      block : (i : ℕ) (j : Option ℕ) (o : Option Word) → StopsAt o → StopsAt (last_or o (block_to code plan reg i j))
      block i None o h = h
      block i (Some j) o h = stops_block reg (edge_steps code plan i j) (address code plan j) o h

      front : (n : ℕ) → length code ≡ n → StopsAt (last_or None (pieces (piece_at code plan reg) n))
      front zero e = tt
      front (suc k) e =
          let l = item_at code k (omega arith) in
          let stops : never_falls l.0.instr ≡ true = ends l.0 (let at : length code - 1 ≡ k = omega arith in subst (λ n. slice_get code n ≡ Some l.0) (sym at) l.1) in
          let none : falls_at code plan reg k ≡ [] = ap (λ o. map (step_word reg) (steps_to code plan k (next_at o k).fall)) l.1 ∙ ap (λ o. map (step_word reg) (steps_to code plan k o)) (no_fall l.0.instr k stops) in
          let word : never_falls (word_at code plan reg k).instr ≡ true = ap (λ o. never_falls (word_for code plan reg k o).instr) l.1 ∙ same_falls (λ v. reg (place_in (row_at plan k).places v.0)) (reg (place_or_zero (row_at plan k).write)) (target_from code plan k) l.0.instr ∙ stops in
          subst StopsAt (sym (last_both None (pieces (piece_at code plan reg) k) (piece_at code plan reg k)))
          (subst (λ ws. StopsAt (last_or (Some (word_at code plan reg k)) ws)) (sym none) word)

  module _ (own shared : Range) (chs : List Channel) (within : (q : ℕ) → q < plan.r → (lies_in own (reg q).0 || lies_in shared (reg q).0) ≡ true) (channels : (i : ℕ) (l : Line) → slice_get code i ≡ Some l → fits_channels chs l.instr ≡ true) where
    abbrev Formed : Word → Type 0
    Formed = IsFormedWord file own shared chs words

    word_formed : (i : ℕ) → i < length code → Formed (word_at code plan reg i)
    word_formed i lt =
        let l = item_at code i lt in
        let f : VReg → PReg = λ v. reg (place_in (row_at plan i).places v.0) in
        let g = reg (place_or_zero (row_at plan i).write) in
        let t = target_from code plan i in
        subst (λ o. Formed (word_for code plan reg i o)) (sym l.1) (record {
          named = named_word f g t file (length words) l.0.line l.0.instr
              (λ v reads. inside (place_in (row_at plan i).places v.0) (place_below code plan valid i lt v.0 (live_read code i v.0 l.0 l.1 reads)))
              (λ d w. inside (place_or_zero (row_at plan i).write) (write_below code plan valid i lt l.0 l.1 d w))
              (λ j e. target_below i j l.0 lt l.1 (jumps_to l.0.instr i ∙ e));
          written = written_word f g t own shared l.0.instr (λ d w. within (place_or_zero (row_at plan i).write) (write_below code plan valid i lt l.0 l.1 d w));
          glue = refl;
          channels = same_channels f g t chs l.0.instr ∙ channels i l.0 l.1;
        })

    steps_formed : (ss : List Step) → StepsWithin plan.r ss → AllByRecursion Formed (map (step_word reg) ss)
    steps_formed [] h = tt
    steps_formed (step.Mov to from ∷ ss) h = (
      record {
        named = both (all_below file ((reg to.0).0 ∷ (reg from.0).0 ∷ [])) true (below_two file (reg to.0).0 (reg from.0).0 (inside to.0 h.0.0) (inside from.0 h.0.1)) refl;
        written = within to.0 h.0.0;
        glue = refl;
        channels = refl;
      },
      steps_formed ss h.1,
    )
    steps_formed (step.Xor to with ∷ ss) h = (
      record {
        named = both (all_below file ((reg to.0).0 ∷ (reg to.0).0 ∷ (reg with.0).0 ∷ [])) true (below_three file (reg to.0).0 (reg to.0).0 (reg with.0).0 (inside to.0 h.0.0) (inside to.0 h.0.0) (inside with.0 h.0.1)) refl;
        written = within to.0 h.0.0;
        glue = refl;
        channels = refl;
      },
      steps_formed ss h.1,
    )

    jump_formed : (j : ℕ) → j < length code → Formed (jump_word (address code plan j))
    jump_formed j lt = record {
      named = lt-ltb (address code plan j) (length words) (address_below j lt);
      written = refl;
      glue = counted_there words (address code plan j) (word_at code plan reg j) (here code plan file reg j lt) (counted_at code plan file reg j lt);
      channels = refl;
    }

    block_formed : (ss : List Step) (j : ℕ) → StepsWithin plan.r ss → j < length code → AllByRecursion Formed (block_words reg ss (address code plan j))
    block_formed [] j h lt = tt
    block_formed (s ∷ ss) j h lt =
        all_both Formed (map (step_word reg) (s ∷ ss)) (jump_word (address code plan j) ∷ []) (steps_formed (s ∷ ss) h) (jump_formed j lt, tt)

    block_at_formed : (i : ℕ) → i < length code → (o : Option ℕ) → (next_at (slice_get code i) i).jump ≡ o → AllByRecursion Formed (block_to code plan reg i o)
    block_at_formed i lt None e = tt
    block_at_formed i lt (Some j) e =
        let l = item_at code i lt in
        let there = closed.closed i j (l.0, l.1, inr (ap (λ o. (next_at o i).jump) (sym l.1) ∙ e)) in
        block_formed (edge_steps code plan i j) j (subst (λ o. StepsWithin plan.r (steps_to code plan i o)) e (jump_below i lt).0) there

    pub words_formed : AllByRecursion Formed words
    words_formed =
        all_both Formed (pieces (piece_at code plan reg) (length code)) (pieces (block_at code plan reg) (length code))
        (all_pieces Formed (piece_at code plan reg) (length code) (λ i lt. (word_formed i lt, steps_formed (fall_steps code plan i) (fall_below i lt).0)))
        (all_pieces Formed (block_at code plan reg) (length code) (λ i lt. block_at_formed i lt (next_at (slice_get code i) i).jump refl))
