-- The words of a valid plan carry the code out.
use Rattle.std.proofs.Common.{◌≡◌, ◌≢◌, ℕ, suc, ◌+◌, ◌<◌, ◌≤◌, List, [], ◌∷◌, map, length, Option, Some, None, Bool, true, false, refl, sym, ap, ◌∙◌, subst, arith, length-append, inl, inr}
use Rattle.std.specs.Prelude.{slice_get, slice_index, option_map, ◌==◌, if◌then◌else◌}
use Rattle.std.proofs.lemmas.Bool.{eqb-true, eqb-false}
use Rattle.std.proofs.lemmas.List.{length-map}
use Rattle.std.proofs.lemmas.Option.{same_Some, slice_get_within}
use Rattle.micro_isa.specs.declared.program.VReg.{VReg}
use Rattle.micro_isa.specs.declared.program.Line.{Line}
use Rattle.micro_isa.specs.declared.image.PReg.{PReg}
use Rattle.micro_isa.specs.declared.image.Word.{Word}
use Rattle.micro_isa.specs.Columns.{written_by, switches_at, next_of}
use Rattle.flow_graph.specs.Paths.{GoesTo, IsClosedCode}
use Rattle.liveness.specs.Liveness.{Writes, LiveIn}
use Rattle.edge_moves.specs.declared.step.Step.{Step}
use Rattle.edge_moves.specs.ParallelMove.{AreDistinct}
use Rattle.edge_moves.specs.Within.{StepsWithin}
use Rattle.edge_moves.proofs.Bounds.{keeps_within}
use Rattle.semantics.specs.Effects.{SavedContext}
use Rattle.semantics.specs.Stretches.{settled}
use Rattle.semantics.specs.Machine.{numbered_word, machine_kind}
use Rattle.plan.specs.declared.row.Plan.{Plan}
use Rattle.liveness.specs.Surviving.{Stays}
use Rattle.plan.specs.ValidPlans.{place_in, IsValidPlan}
use Rattle.micro_isa.specs.Pieces.{pieces, total, HasAt}
use Rattle.emitted.specs.Edges.{most_edge_steps, row_at, place_or_zero, written_in, next_at, place_after, place, pair_from, free_from, edge_pairs, steps_for, edge_steps, steps_to, fall_steps}
use Rattle.emitted.specs.Words.{step_word, jump_word, piece_size, address, size_with_jump, block_size, block_address, target_for, target_from, word_for, word_at, piece_at, block_words, block_to, block_at, words_of_plan}
use Rattle.semantics.proofs.Settling.{counted_stays}
use Rattle.emitted.proofs.Glue.{stand, do_words, steps_run, jump_goes}
use Rattle.emitted.proofs.Places.{long_after, outside_after, pair_moved, pair_of, Apart, distinct_pairs, pairs_within, free_is, free_within}
use Rattle.emitted.proofs.Standing.{Laid, after_of, IsOther, EdgeWords, Flow, Way}
use Rattle.emitted.proofs.Follow.{Carries}
use Rattle.emitted.proofs.Planned.{Rests, Planned, AllPlanned, carries}
use Rattle.micro_isa.proofs.Pieced.{has_front, has_back, length-pieces, same_total, piece_there, piece_behind}
use Rattle.emitted.proofs.FewSteps.{few_steps, few_places}
use Rattle.emitted.proofs.Rows.{item_at, live_before, stays_over, live_read, row_valid, live_has, has_live, row_differs, listed_below, place_below, places_apart, write_below, write_apart}

-- a register that is not the written one is not written
not_written : (l : Line) (w : Option VReg) (v : VReg) → written_by l.instr ≡ w → IsOther w v → Writes l v.0 → ⊥
not_written l None v is other writes = absurd (cc)
not_written l (Some d) v is other writes =
    let same : v ≡ d = same_Some v d (sym writes ∙ is) in
    other (ap (λ r. r.0) same)

module _ (code : List Line) (plan : Plan) (size : ℕ) (reg : ℕ → PReg) where
  -- how the plan lays the context out
  abbrev pub laid : Laid
  laid = record {
    count = length code;
    addr = address code plan;
    loc = λ i v. (reg (place_in (row_at plan i).places v.0)).0;
    write = λ i. (reg (place_or_zero (row_at plan i).write)).0;
    live = λ i v. LiveIn code i v.0;
    mine = λ x. (q : ℕ) × (q < plan.p) × (x ≡ (reg q).0);
    free = λ x. (q : ℕ) × (q < plan.r) × (x ≡ (reg q).0);
  }

  abbrev words : List Word
  words = words_of_plan code plan reg

  -- the sizes are those of the words
  pub piece_long : (i : ℕ) → length (piece_at code plan reg i) ≡ piece_size code plan i
  piece_long i = omega (arith, length-map (fall_steps code plan i) (step_word reg))

  same_address : (i : ℕ) → total (λ k. length (piece_at code plan reg k)) i ≡ address code plan i
  same_address i = same_total (λ k. length (piece_at code plan reg k)) (piece_size code plan) piece_long i

  words_long : (ss : List Step) (target : ℕ) → length (block_words reg ss target) ≡ size_with_jump ss
  words_long [] target = refl
  words_long (s ∷ ss) target =
      length-append (map (step_word reg) (s ∷ ss)) (jump_word target ∷ []) ∙ ap (λ n. n + 1) (length-map (s ∷ ss) (step_word reg))

  pub block_long : (i : ℕ) (o : Option ℕ) → length (block_to code plan reg i o) ≡ size_with_jump (steps_to code plan i o)
  block_long i None = refl
  block_long i (Some j) = words_long (edge_steps code plan i j) (address code plan j)

  same_block : (i : ℕ) → length (pieces (piece_at code plan reg) (length code)) + total (λ k. length (block_at code plan reg k)) i ≡ block_address code plan i
  same_block i =
      let front = length-pieces (piece_at code plan reg) (length code) ∙ same_address (length code) in
      let back = same_total (λ k. length (block_at code plan reg k)) (block_size code plan) (λ k. block_long k (next_at (slice_get code k) k).jump) i in
      λ a. front a + back a

  piece_stands : (i : ℕ) → i < length code → HasAt words (address code plan i) (piece_at code plan reg i)
  piece_stands i lt =
      subst (λ n. HasAt words n (piece_at code plan reg i)) (same_address i) (piece_there (piece_at code plan reg) (length code) i (pieces (block_at code plan reg) (length code)) lt)

  pub block_stands : (i : ℕ) → i < length code → HasAt words (block_address code plan i) (block_at code plan reg i)
  block_stands i lt =
      subst (λ n. HasAt words n (block_at code plan reg i)) (same_block i) (piece_behind (pieces (piece_at code plan reg) (length code)) (block_at code plan reg) (length code) i lt)

  pub here : (i : ℕ) → i < length code → slice_get words (address code plan i) ≡ Some (word_at code plan reg i)
  here i lt = (piece_stands i lt).0

  pub counted_at : (i : ℕ) → i < length code → (word_at code plan reg i).counted ≡ true
  counted_at i lt = let l = item_at code i lt in ap (λ o. (word_for code plan reg i o).counted) l.1

  abbrev Lands : ℕ → ℕ → List Step → Type 0
  Lands at j ss =
      (c : ℕ) (memory : List ℕ) (k : SavedContext PReg) (file : List ℕ) → settled machine_kind c memory words (stand k at file) ≡ stand k (address code plan j) (do_words reg ss file)

  stays : (i : ℕ) → i < length code → Lands (address code plan i) i []
  stays i lt c memory k file =
      counted_stays machine_kind c memory words (stand k (address code plan i) file) (word_at code plan reg i) (here i lt) (counted_at i lt)

  next_address : (i : ℕ) → address code plan i + 1 + length (fall_steps code plan i) ≡ address code plan (i + 1)
  next_address i =
      let e : suc i ≡ i + 1 = omega arith in
      let s : address code plan i + 1 + length (fall_steps code plan i) ≡ address code plan (suc i) = omega arith in
      s ∙ ap (address code plan) e

  lands_fall : (i : ℕ) → i < length code → i + 1 < length code → (next_at (slice_get code i) i).fall ≡ Some (i + 1) → Lands (address code plan i + 1) (i + 1) (edge_steps code plan i (i + 1))
  lands_fall i lt next is c memory k file =
      let ss = edge_steps code plan i (i + 1) in
      let there : HasAt words (address code plan i + 1) (map (step_word reg) ss) = subst (λ o. HasAt words (address code plan i + 1) (map (step_word reg) (steps_to code plan i o))) is (piece_stands i lt).1 in
      let e : address code plan i + 1 + length ss ≡ address code plan (i + 1) = subst (λ o. address code plan i + 1 + length (steps_to code plan i o) ≡ address code plan (i + 1)) is (next_address i) in
      steps_run c memory words reg ss k (address code plan i + 1) file there
      ∙ ap (λ n. settled machine_kind c memory words (stand k n (do_words reg ss file))) e
      ∙ stays (i + 1) next c memory k (do_words reg ss file)

  lands_block : (i j : ℕ) → j < length code → (ss : List Step) → HasAt words (block_address code plan i) (block_words reg ss (address code plan j)) → Lands (target_for ss (block_address code plan i) (address code plan j)) j ss
  lands_block i j there [] h c memory k file = stays j there c memory k file
  lands_block i j there (s ∷ ss) h c memory k file =
      let at = block_address code plan i in
      let front = has_front words at (map (step_word reg) (s ∷ ss)) (jump_word (address code plan j) ∷ []) h in
      let back = has_back words at (map (step_word reg) (s ∷ ss)) (jump_word (address code plan j) ∷ []) h in
      let jump : slice_get words (at + length (s ∷ ss)) ≡ Some (jump_word (address code plan j)) = subst (λ n. slice_get words (at + n) ≡ Some (jump_word (address code plan j))) (length-map (s ∷ ss) (step_word reg)) back.0 in
      steps_run c memory words reg (s ∷ ss) k at file front
      ∙ jump_goes c memory words k (at + length (s ∷ ss)) (do_words reg (s ∷ ss) file) (address code plan j) (word_at code plan reg j) jump (here j there) (counted_at j there)

  lands_jump : (i j : ℕ) → i < length code → j < length code → (next_at (slice_get code i) i).jump ≡ Some j → Lands (target_from code plan i j) j (edge_steps code plan i j)
  lands_jump i j lt there is =
      lands_block i j there (edge_steps code plan i j) (subst (λ o. HasAt words (block_address code plan i) (block_to code plan reg i o)) is (block_stands i lt))

  module _ (one_place : (q k : ℕ) → q < plan.r → k < plan.r → (reg q).0 ≡ (reg k).0 → q ≡ k) (inside : (q : ℕ) → q < plan.r → (reg q).0 < size) (valid : IsValidPlan code plan) (closed : IsClosedCode code) where
    -- an edge from i, whose line is l and which writes w, to j
    module _ (i j : ℕ) (l : Line) (w : Option VReg) (lt : i < length code) (is : slice_get code i ≡ Some l) (writes : written_by l.instr ≡ w) (goes : GoesTo (next_of l.instr i) j) where
      there : j < length code
      there = closed.closed i j (l, is, goes)

      abbrev before : ℕ → ℕ
      before k = place_in (row_at plan i).places k

      -- what is not written survives
      survives : (v : VReg) → LiveIn code j v.0 → IsOther w v → LiveIn code i v.0 × Stays code i v.0
      survives v live other = (
        live_before code i j v.0 l is goes (not_written l w v writes other) live,
        stays_over code i j v.0 l is goes (not_written l w v writes other) live,
      )

      after_below : (k : ℕ) → LiveIn code j k → place_after (row_at plan i) w k < plan.r
      after_below k live = by w refl
        where
          by : (o : Option VReg) → w ≡ o → place_after (row_at plan i) o k < plan.r
          by None e = place_below code plan valid i lt k (survives (record { 0 = k }) live (subst (λ o. IsOther o (record { 0 = k })) (sym e) tt)).0
          by (Some d) e = at (k == d.0) refl
            where
              at : (b : Bool) → (k == d.0) ≡ b → (if b then place_or_zero (row_at plan i).write else before k) < plan.r
              at true eq = write_below code plan valid i lt l is d (writes ∙ e)
              at false eq = place_below code plan valid i lt k (survives (record { 0 = k }) live (subst (λ o. IsOther o (record { 0 = k })) (sym e) (eqb-false k d.0 eq))).0

      after_apart : Apart (place_after (row_at plan i) w) (row_at plan j).places
      after_apart k m hk hm = by w refl
        where
          lk : LiveIn code j k
          lk = has_live code plan valid j there k hk

          lm : LiveIn code j m
          lm = has_live code plan valid j there m hm

          by : (o : Option VReg) → w ≡ o → place_after (row_at plan i) o k ≡ place_after (row_at plan i) o m → k ≡ m
          by None e = places_apart code plan valid i lt k m (survives (record { 0 = k }) lk (subst (λ o. IsOther o (record { 0 = k })) (sym e) tt)).0 (survives (record { 0 = m }) lm (subst (λ o. IsOther o (record { 0 = m })) (sym e) tt)).0
          by (Some d) e = at (k == d.0) (m == d.0) refl refl
            where
              other : (n : ℕ) → LiveIn code j n → n ≢ d.0 → LiveIn code i n × (before n ≢ place_or_zero (row_at plan i).write)
              other n ln ne =
                  let s = survives (record { 0 = n }) ln (subst (λ o. IsOther o (record { 0 = n })) (sym e) ne) in
                  (s.0, write_apart code plan valid i lt l is d (writes ∙ e) n s.1)

              at : (b c : Bool) → (k == d.0) ≡ b → (m == d.0) ≡ c → (if b then place_or_zero (row_at plan i).write else before k) ≡ (if c then place_or_zero (row_at plan i).write else before m) → k ≡ m
              at true true eb ec same = eqb-true k d.0 eb ∙ sym (eqb-true m d.0 ec)
              at true false eb ec same = absurd ((other m lm (eqb-false m d.0 ec)).1 (sym same))
              at false true eb ec same = absurd ((other k lk (eqb-false k d.0 eb)).1 same)
              at false false eb ec same = places_apart code plan valid i lt k m (other k lk (eqb-false k d.0 eb)).0 (other m lm (eqb-false m d.0 ec)).0 same

      -- places after i, and the registers that they are
      after_reg : (v : VReg) → (reg (place_after (row_at plan i) w v.0)).0 ≡ after_of (laid.loc i) (laid.write i) w v
      after_reg v = by w
        where
          by : (o : Option VReg) → (reg (place_after (row_at plan i) o v.0)).0 ≡ after_of (laid.loc i) (laid.write i) o v
          by None = refl
          by (Some d) = at (v.0 == d.0)
            where
              at : (b : Bool) → (reg (if b then place_or_zero (row_at plan i).write else before v.0)).0 ≡ (if b then laid.write i else laid.loc i v)
              at true = refl
              at false = refl

      flow : Flow laid size words reg i j w
      flow = by w refl
        where
          by : (o : Option VReg) → w ≡ o → Flow laid size words reg i j o
          by None e = λ v live. (survives v live (subst (λ o. IsOther o v) (sym e) tt)).0
          by (Some d) e =
              let below = write_below code plan valid i lt l is d (writes ∙ e) in (
                (place_or_zero (row_at plan i).write, below, refl),
                inside (place_or_zero (row_at plan i).write) below,
                λ v live ne.
                    let s = survives v live (subst (λ o. IsOther o v) (sym e) ne) in
                    (s.0, λ same. write_apart code plan valid i lt l is d (writes ∙ e) v.0 s.1 (one_place (before v.0) (place_or_zero (row_at plan i).write) (place_below code plan valid i lt v.0 s.0) below same)),
              )

      pub distinct : AreDistinct (edge_pairs plan w i j)
      distinct = distinct_pairs (place_after (row_at plan i) w) (row_at plan j).places (row_differs code plan valid j there) after_apart (row_valid code plan valid j there).apart

      -- the steps stay within the plan's places, and are few
      pub steps_within : StepsWithin plan.r (steps_for plan w i j)
      steps_within =
          let pairs = edge_pairs plan w i j in
          let pw = pairs_within plan.r (place_after (row_at plan i) w) (row_at plan j).places (λ k h. after_below k (has_live code plan valid j there k h)) (listed_below code plan valid j there) in
          keeps_within pairs (free_from pairs plan.r 0) (steps_for plan w i j) refl plan.r pw (free_within pairs plan.r plan.r 0 (omega arith))

      pub steps_few : length (steps_for plan w i j) ≤ most_edge_steps
      steps_few =
          let pairs = edge_pairs plan w i j in
          let qs = (row_at plan j).places in
          let long = length-map qs (pair_from (place_after (row_at plan i) w)) in
          let places = length-map qs (λ q. q.place) in
          let few = few_places qs plan.r (row_valid code plan valid j there).apart (listed_below code plan valid j there) in
          few_steps pairs (free_from pairs plan.r 0) distinct (free_is pairs plan.r 0) (omega (arith, valid.few))

      way : (at : ℕ) → Lands at j (steps_for plan w i j) → Way laid size words reg i w at j
      way at lands =
          let f = place_after (row_at plan i) w in
          let qs = (row_at plan j).places in
          let pairs = edge_pairs plan w i j in
          let isf = free_is pairs plan.r 0 in
          let pw = pairs_within plan.r f qs (λ k h. after_below k (has_live code plan valid j there k h)) (listed_below code plan valid j there) in
          let fw = free_within pairs plan.r plan.r 0 (omega arith) in
          record {
            ss = steps_for plan w i j;
            edge = record {
              within = there;
              goes = lands;
              moved = λ file long v live.
                  let k = pair_of f qs v.0 (live_has code plan valid j there v.0 live) in
                  pair_moved reg plan.r size one_place inside pairs (free_from pairs plan.r 0) distinct isf pw fw file long k.0 (place (f v.0), place (place_in qs v.0)) k.1 (place_below code plan valid j there v.0 live)
                  ∙ ap (slice_index file) (after_reg v);
              keeps = λ file long q nf. outside_after reg plan.r size one_place inside (steps_for plan w i j) steps_within file q (λ k below e. nf (k, below, e));
              long = λ file long. long_after reg plan.r size one_place inside (steps_for plan w i j) file ∙ long;
            };
            flow = flow;
          }

    module _ (i : ℕ) (l : Line) (lt : i < length code) (is : slice_get code i ≡ Some l) where
      fall : (next_of l.instr i).fall ≡ Some (i + 1) → Way laid size words reg i (written_by l.instr) (address code plan i + 1) (i + 1)
      fall next =
          let there = closed.closed i (i + 1) (l, is, inl next) in
          way i (i + 1) l (written_by l.instr) lt is refl (inl next) (address code plan i + 1)
          (subst (λ o. Lands (address code plan i + 1) (i + 1) (steps_for plan (written_in o) i (i + 1))) is (lands_fall i lt there (ap (λ o. (next_at o i).fall) is ∙ next)))

      jump : (j : ℕ) → (next_of l.instr i).jump ≡ Some j → Way laid size words reg i (written_by l.instr) (target_from code plan i j) j
      jump j next =
          let there = closed.closed i j (l, is, inr next) in
          way i j l (written_by l.instr) lt is refl (inr next) (target_from code plan i j)
          (subst (λ o. Lands (target_from code plan i j) j (steps_for plan (written_in o) i j)) is (lands_jump i j lt there (ap (λ o. (next_at o i).jump) is ∙ next)))

      -- what lives on over a switch has a private place
      own : switches_at l.instr ≡ true → (next_of l.instr i).fall ≡ Some (i + 1) → (v : VReg) → LiveIn code (i + 1) v.0 → IsOther (written_by l.instr) v → LiveIn code i v.0 × laid.mine (laid.loc i v)
      own switches next v live other =
          let s = survives i (i + 1) l (written_by l.instr) lt is refl (inl next) v live other in
          (s.0, (place_in (row_at plan i).places v.0, (row_valid code plan valid i lt).private v.0 (inl ((l, is, switches), s.1)), refl))

      rests : switches_at l.instr ≡ true → (next_of l.instr i).fall ≡ Some (i + 1) → Rests laid size words reg (target_from code plan) i (written_by l.instr)
      rests switches next = record { way = fall next; own = own switches next }

    planned : (i : ℕ) (l : Line) → i < length code → slice_get code i ≡ Some l → Planned laid size words reg (target_from code plan) i l.instr
    planned i l lt is = record {
      first = λ v e. live_read code i v.0 l is (inl e);
      second = λ v e. live_read code i v.0 l is (inr e);
      fall = fall i l lt is;
      jump = jump i l lt is;
      rests = rests i l lt is;
    }

    all_planned : AllPlanned laid size words reg (target_from code plan) code
    all_planned = record {
      some = λ i lt. item_at code i lt;
      word = λ i l is. let lt = slice_get_within code i l is in ap (option_map numbered_word) (here i lt ∙ ap (λ o. Some (word_for code plan reg i o)) is);
      each = λ i l is. planned i l (slice_get_within code i l is) is;
    }

    pub plan_carries : (c : ℕ) (memory : List ℕ) → Carries laid size words reg c memory code
    plan_carries c memory = carries laid size words reg (target_from code plan) c memory code all_planned

    -- the entry: nothing comes before the first instruction
    pub entry_words : 0 < length code → EdgeWords laid size words reg (address code plan 0) 0 (laid.loc 0) []
    entry_words lt = record {
      within = lt;
      goes = stays 0 lt;
      moved = λ file long v live. refl;
      keeps = λ file long q nf. refl;
      long = λ file long. long;
    }
