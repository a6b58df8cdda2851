-- The emitted image is formed.
use Rattle.std.proofs.Common.{◌≡◌, ℕ, suc, ◌+◌, ◌-◌, ◌<◌, ◌≤◌, List, [], ◌∷◌, map, length, sum, Option, Some, None, Bool, true, false, refl, sym, ap, ◌∙◌, subst, inl, inr, ◌⊎◌, arith}
use Rattle.std.specs.Prelude.{slice_get, option_map, nat_lt, nat_le, ◌==◌, ◌||◌, if◌then◌else◌}
use Rattle.std.specs.List.{list_all}
use Rattle.std.proofs.lemmas.Bool.{lt-ltb, le-leb, ltb-true, ltb-false}
use Rattle.std.proofs.lemmas.Option.{same_Some, slice_get_within, slice_get-map}
use Rattle.micro_isa.specs.declared.limits.TheConstants.{MOST_CONTEXTS}
use Rattle.micro_isa.specs.declared.program.Line.{Line}
use Rattle.micro_isa.specs.declared.program.Program.{Program}
use Rattle.micro_isa.specs.declared.program.Bundle.{Bundle}
use Rattle.micro_isa.specs.declared.image.Range.{Range}
use Rattle.micro_isa.specs.declared.image.Code.{Code}
use Rattle.micro_isa.specs.declared.image.Image.{Image}
use Rattle.micro_isa.specs.Formed.{never_falls, fits_channels, lies_in, are_apart, all_apart, IsFormedBundle, IsFormedCode, IsFormedImage}
use Rattle.semantics.specs.Source.{code_in, code_of}
use Rattle.plan.specs.declared.row.Plan.{Plan}
use Rattle.budget.specs.declared.Budget.{Budget}
use Rattle.emitted.specs.Words.{words_of_plan}
use Rattle.emitted.specs.Emitted.{register_of, plan_at, start_of, size_of, register_in, context_of, emitted, ArePlans, PlansFit}
use Rattle.emitted.proofs.Rows.{item_at}
use Rattle.emitted.proofs.Ranges.{ends_below, in_order}
use Rattle.emitted.proofs.FormedWords.{both, IsFormedWord, all_at, words_few, words_some, words_end, words_formed}
use Rattle.emitted.proofs.Implementing.{single_at, length-single, fits, closed, valid, apart_places, in_file}

-- ranges

apart_by : (x y z w : Bool) → (z ≡ true) ⊎ (w ≡ true) → (x || y || z || w) ≡ true
apart_by true y z w h = refl
apart_by false true z w h = refl
apart_by false false true w h = refl
apart_by false false false w (inl h) = absurd (cc)
apart_by false false false w (inr h) = h

apart_before : (a b : Range) → a.start + a.size ≤ b.start → are_apart a b ≡ true
apart_before a b h = apart_by (a.size == 0) (b.size == 0) (nat_le (a.start + a.size) b.start) (nat_le (b.start + b.size) a.start) (inl (le-leb (a.start + a.size) b.start h))

apart_behind : (a b : Range) → b.start + b.size ≤ a.start → are_apart a b ≡ true
apart_behind a b h = apart_by (a.size == 0) (b.size == 0) (nat_le (a.start + a.size) b.start) (nat_le (b.start + b.size) a.start) (inr (le-leb (b.start + b.size) a.start h))

all_from : {A : Type 0} (test : A → Bool) (xs : List A) → ((i : ℕ) (x : A) → slice_get xs i ≡ Some x → test x ≡ true) → list_all test xs ≡ true
all_from test [] h = refl
all_from test (x ∷ xs) h = both (test x) (list_all test xs) (h 0 x refl) (all_from test xs (λ i y e. h (suc i) y e))

all_apart_from : (rs : List Range) → ((i j : ℕ) (a b : Range) → i < j → slice_get rs i ≡ Some a → slice_get rs j ≡ Some b → are_apart a b ≡ true) → all_apart rs ≡ true
all_apart_from [] h = refl
all_apart_from (r ∷ rs) h =
    both (list_all (are_apart r) rs) (all_apart rs) (all_from (are_apart r) rs (λ i y e. h 0 (suc i) r y (omega arith) refl e)) (all_apart_from rs (λ i j a b lt x y. h (suc i) (suc j) a b (omega arith) x y))

or_first : (a b : Bool) → a ≡ true → (a || b) ≡ true
or_first true b h = refl
or_first false b h = absurd (cc)

or_second : (a b : Bool) → b ≡ true → (a || b) ≡ true
or_second true b h = refl
or_second false b h = h

lies : (r : Range) (q : ℕ) → r.start ≤ q → q < r.start + r.size → lies_in r q ≡ true
lies r q le lt = both (nat_le r.start q) (nat_lt q (r.start + r.size)) (le-leb r.start q le) (lt-ltb q (r.start + r.size) lt)

-- a place's register is a private or a shared one
within_ranges : (start own shared s q : ℕ) → q < own + s → (lies_in (record { start = start; size = own }) (register_of start own shared q).0 || lies_in (record { start = shared; size = s }) (register_of start own shared q).0) ≡ true
within_ranges start own shared s q lt = by (nat_lt q own) refl
  where
    mine : Range
    mine = record { start = start; size = own }

    all : Range
    all = record { start = shared; size = s }

    by : (t : Bool) → nat_lt q own ≡ t → (lies_in mine (if t then start + q else shared + (q - own)) || lies_in all (if t then start + q else shared + (q - own))) ≡ true
    by true is =
        let less = ltb-true q own is in
        or_first (lies_in mine (start + q)) (lies_in all (start + q)) (lies mine (start + q) (omega arith) (omega arith))
    by false is =
        let most = ltb-false q own is in
        or_second (lies_in mine (shared + (q - own))) (lies_in all (shared + (q - own))) (lies all (shared + (q - own)) (omega arith) (omega arith))

module _ (b : Bundle) (plans : List Plan) (budget : Budget) (formed : IsFormedBundle b) (are : ArePlans b plans) (room : PlansFit b plans budget) where
  abbrev m : Image
  m = emitted b plans budget

  abbrev context : ℕ → Code
  context c = context_of b plans budget c

  abbrev ranges : List Range
  ranges = map (λ code. code.private) m.contexts

  range_at : (c : ℕ) (r : Range) → slice_get ranges c ≡ Some r → (context c).private ≡ r
  range_at c r is =
      let e = sym (slice_get-map (λ code. code.private) m.contexts c) ∙ is in
      by (slice_get m.contexts c) refl e
    where
      by : (o : Option Code) → slice_get m.contexts c ≡ o → option_map (λ code. code.private) o ≡ Some r → (context c).private ≡ r
      by None there e = absurd (cc)
      by (Some code) there e =
          let lt : c < length m.contexts = slice_get_within m.contexts c code there in
          let few = length-single context (length b.programs) in
          let one : context c ≡ code = same_Some (context c) code (sym (single_at context (length b.programs) c (omega arith)) ∙ there) in
          ap (λ k. k.private) one ∙ same_Some code.private r e

  ranges_apart : all_apart (m.shared ∷ ranges) ≡ true
  ranges_apart =
      both (list_all (are_apart m.shared) ranges) (all_apart ranges)
      (all_from (are_apart m.shared) ranges (λ c r is. subst (λ k. are_apart m.shared k ≡ true) (range_at c r is) (apart_behind m.shared (context c).private (ends_below budget.private c))))
      (all_apart_from ranges (λ c d x y lt ex ey. subst (λ k. are_apart k y ≡ true) (range_at c x ex) (subst (λ k. are_apart (context c).private k ≡ true) (range_at d y ey) (apart_before (context c).private (context d).private (in_order budget.private c d lt)))))

  code_formed : (c : ℕ) (p : Program) → slice_get b.programs c ≡ Some p → IsFormedCode m (context c)
  code_formed c p is =
      let code = code_of b c in
      let plan = plan_at plans c in
      let reg = register_in budget c in
      let same : code_of b c ≡ p.code = ap code_in is in
      let f = formed.programs c p is in
      let one_place = apart_places b plans budget formed are room c p is in
      let inside = in_file b plans budget formed are room c p is in
      let v = valid b plans budget formed are room c p is in
      let k = closed b plans budget formed are room c p is in
      let ends : (last : Line) → slice_get code (length code - 1) ≡ Some last → never_falls last.instr ≡ true = subst (λ ls. (last : Line) → slice_get ls (length ls - 1) ≡ Some last → never_falls last.instr ≡ true) (sym same) f.ends in
      let channels : (i : ℕ) (l : Line) → slice_get code i ≡ Some l → fits_channels b.setting.channels l.instr ≡ true = subst (λ ls. (i : ℕ) (l : Line) → slice_get ls i ≡ Some l → fits_channels b.setting.channels l.instr ≡ true) (sym same) (formed.channels c p is) in
      let fit = fits b plans budget formed are room c in
      let within : (q : ℕ) → q < plan.r → (lies_in (context c).private (reg q).0 || lies_in m.shared (reg q).0) ≡ true = λ q lt. within_ranges (start_of budget.private c) (size_of budget.private c) (sum budget.private) budget.shared q (omega (arith, fit.1)) in
      let all = words_formed code plan b.file reg one_place inside v k (context c).private m.shared b.setting.channels within channels in
      let ws = words_of_plan code plan reg in
      let each : (i : ℕ) (w : _) → slice_get ws i ≡ Some w → IsFormedWord b.file (context c).private m.shared b.setting.channels ws w = all_at (IsFormedWord b.file (context c).private m.shared b.setting.channels ws) ws all in
      record {
        some = words_some code plan b.file reg one_place inside v k;
        few = words_few code plan b.file reg one_place inside v k;
        within = omega (arith, ends_below budget.private c, room.file);
        named = λ i w e. (each i w e).named;
        written = λ i w e. (each i w e).written;
        glue = λ i w e. (each i w e).glue;
        channels = λ i w e. (each i w e).channels;
        ends = words_end code plan b.file reg one_place inside v k ends;
      }

  pub image_formed : IsFormedImage m
  image_formed =
      let few = length-single context (length b.programs) in
      record {
        file = formed.file;
        small = formed.small;
        setting = formed.setting;
        some = subst (λ n. 1 ≤ n) (sym few) formed.some;
        few = subst (λ n. n ≤ MOST_CONTEXTS) (sym few) formed.few;
        shared = room.file;
        apart = ranges_apart;
        contexts = λ c code is.
            let lt : c < length m.contexts = slice_get_within m.contexts c code is in
            let one : context c ≡ code = same_Some (context c) code (sym (single_at context (length b.programs) c (omega arith)) ∙ is) in
            let p = item_at b.programs c (omega arith) in
            subst (IsFormedCode m) one (code_formed c p.0 p.1);
      }
