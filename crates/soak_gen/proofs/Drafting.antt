-- What the code of a context is like, whatever is drawn.
use Rattle.std.proofs.Common.{◌≡◌, ◌++◌, ◌≤◌, ◌<◌, ◌+◌, ◌*◌, ◌==◌, ℕ, zero, suc, Bool, true, false, List, [], ◌∷◌, length, map, refl, sym, subst, ap, ◌∙◌, arith, if◌then◌else◌}
use Rattle.std.specs.Prelude.{nat_lt, slice_index}
use Rattle.std.specs.List.{list_all}
use Rattle.std.proofs.lemmas.Bool.{lt-ltb, ltb-true, and_parts, and_from}
use Rattle.std.proofs.lemmas.Grind.{flat_map-append}
use Rattle.std.proofs.lemmas.List.{length-append, map-append}
use Rattle.std.proofs.lemmas.List.Folds.{list_all-append}
use Rattle.std.proofs.lemmas.List.FromFn.{get_or-range_with_len}
use Rattle.micro_isa.specs.declared.instr.Instr.{Instr}
use Rattle.micro_isa.specs.declared.instr.Instr.TheVariants as instr
use Rattle.micro_isa.specs.declared.operands.Extra.{Extra}
use Rattle.micro_isa.specs.declared.operands.Extra.TheVariants.{Nothing, Number}
use Rattle.micro_isa.specs.declared.program.VReg.{VReg}
use Rattle.micro_isa.specs.Operands.{operands_of}
use Rattle.micro_isa.specs.Columns.{registers_in}
use Rattle.micro_isa.specs.Formed.{all_below}
use Rattle.soak_gen.specs.declared.draft.Draft.{Draft}
use Rattle.soak_gen.specs.Draws.{draw, after}
use Rattle.soak_gen.specs.Drafts.{value, with_code, operation_code, number_code, load_code, store_code, with_picked, with_row, with_rows, opened, closing, drafted}
use Rattle.soak_gen.specs.Bundles.{named, places}

-- an instruction that names neither a target nor a channel
abbrev pub is_plain_extra : Extra ℕ ℕ → Bool
is_plain_extra Nothing = true
is_plain_extra (Number n) = true
is_plain_extra _ = false

abbrev pub is_plain : Instr VReg → Bool
is_plain i = is_plain_extra (operands_of i).extra

-- the numbers of names
abbrev pub numbers_of : List ℕ → List ℕ → List ℕ
numbers_of numbers names = map (λ name. slice_index numbers name) names

-- names below 12 are their own numbers by their places
pub placed : (names : List ℕ) → all_below 12 names ≡ true → numbers_of places names ≡ names
placed [] e = refl
placed (x ∷ xs) e =
    let parts = and_parts (nat_lt x 12) (all_below 12 xs) e in
    let at : slice_index places x ≡ x = get_or-range_with_len 0 12 x 0 (ltb-true x 12 parts.0) ∙ omega arith in
    ap (λ y. y ∷ numbers_of places xs) at ∙ ap (λ ys. x ∷ ys) (placed xs parts.1)

-- code over some numbers names the numbers of what it names over the names' places
pub record Names (numbers : List ℕ) (code mould : List (Instr VReg)) : Type 0 where
  pub same : named code ≡ numbers_of numbers (named mould)
  pub small : all_below 12 (named mould) ≡ true

names_of : (numbers names : List ℕ) (code mould : List (Instr VReg)) → named code ≡ numbers_of numbers names → named mould ≡ numbers_of places names → all_below 12 names ≡ true → Names numbers code mould
names_of numbers names code mould e f small =
    let same : named mould ≡ names = f ∙ placed names small in
    record { same = e ∙ ap (numbers_of numbers) (sym same); small = ap (all_below 12) same ∙ small }

-- the numbers that an instruction names
abbrev numbers_at : Instr VReg → List ℕ
numbers_at i = map (λ r. r.0) (registers_in i)

names_more : (numbers : List ℕ) (code mould own more : List (Instr VReg)) → Names numbers code mould → Names numbers own more → Names numbers (code ++ own) (mould ++ more)
names_more numbers code mould own more n m = record {
  same =
      flat_map-append numbers_at code own
      ∙ ap (λ xs. xs ++ named own) n.same
      ∙ ap (λ xs. numbers_of numbers (named mould) ++ xs) m.same
      ∙ sym (map-append (λ name. slice_index numbers name) (named mould) (named more))
      ∙ ap (numbers_of numbers) (sym (flat_map-append numbers_at mould more));
  small =
      ap (all_below 12) (flat_map-append numbers_at mould more)
      ∙ list_all-append (λ x. nat_lt x 12) (named mould) (named more)
      ∙ and_from (all_below 12 (named mould)) (all_below 12 (named more)) n.small m.small;
}

-- a row's code over some numbers, and the same over the names' places
record Piece (numbers : List ℕ) (own more : List (Instr VReg)) : Type 0 where
  names : Names numbers own more
  plain : list_all is_plain own ≡ true
  few : length own ≤ 2

-- a draft over some numbers, and the same over the names' places
record Follows (numbers : List ℕ) (d mould : Draft) (most : ℕ) : Type 0 where
  state : d.state ≡ mould.state
  names : Names numbers d.code mould.code
  plain : list_all is_plain d.code ≡ true
  some : 2 ≤ length d.code
  few : length d.code ≤ most

follows_more : (numbers : List ℕ) (d mould : Draft) (most draws : ℕ) (own more : List (Instr VReg)) → Follows numbers d mould most → Piece numbers own more → Follows numbers (with_code d own draws) (with_code mould more draws) (most + 2)
follows_more numbers d mould most draws own more f p =
    let long = length-append d.code own in
    record {
      state = ap (after draws) f.state;
      names = names_more numbers d.code mould.code own more f.names p.names;
      plain = list_all-append is_plain d.code own ∙ and_from (list_all is_plain d.code) (list_all is_plain own) f.plain p.plain;
      some = omega (arith, long, f.some);
      few = omega (arith, long, p.few, f.few);
    }

draw_below : (below state : ℕ) → 0 < below → draw below state < below
unfolding draw
draw_below below state some = omega arith

value_below : (state : ℕ) → nat_lt (value (draw 9 state)) 12 ≡ true
value_below state = lt-ltb _ _ (let d = draw_below 9 state (omega arith) in omega (arith, d))

more_names : (a : ℕ) (names : List ℕ) → nat_lt a 12 ≡ true → all_below 12 names ≡ true → all_below 12 (a ∷ names) ≡ true
more_names a names e f = and_from (nat_lt a 12) (all_below 12 names) e f

operation_piece : (numbers : List ℕ) (x : ℕ) → Piece numbers (operation_code numbers x) (operation_code places x)
operation_piece numbers x =
    let a = value (draw 9 (after 1 x)) in
    let b = value (draw 9 (after 2 x)) in
    let c = value (draw 9 (after 3 x)) in
    record {
      names = names_of numbers (a ∷ b ∷ c ∷ []) (operation_code numbers x) (operation_code places x) refl refl
          (more_names a (b ∷ c ∷ []) (value_below (after 1 x)) (more_names b (c ∷ []) (value_below (after 2 x)) (more_names c [] (value_below (after 3 x)) refl)));
      plain = refl;
      few = omega arith;
    }

number_piece : (numbers : List ℕ) (x : ℕ) → Piece numbers (number_code numbers x) (number_code places x)
number_piece numbers x =
    let a = value (draw 9 x) in
    record {
      names = names_of numbers (a ∷ []) (number_code numbers x) (number_code places x) refl refl (more_names a [] (value_below x) refl);
      plain = refl;
      few = omega arith;
    }

load_piece : (numbers : List ℕ) (x : ℕ) → Piece numbers (load_code numbers x) (load_code places x)
load_piece numbers x =
    let a = value (draw 9 x) in
    let d = value (draw 9 (after 2 x)) in
    record {
      names = names_of numbers (a ∷ d ∷ a ∷ []) (load_code numbers x) (load_code places x) refl refl
          (more_names a (d ∷ a ∷ []) (value_below x) (more_names d (a ∷ []) (value_below (after 2 x)) (more_names a [] (value_below x) refl)));
      plain = refl;
      few = omega arith;
    }

store_piece : (numbers : List ℕ) (x : ℕ) → Piece numbers (store_code numbers x) (store_code places x)
store_piece numbers x =
    let a = value (draw 9 x) in
    let b = value (draw 9 (after 2 x)) in
    record {
      names = names_of numbers (a ∷ a ∷ b ∷ []) (store_code numbers x) (store_code places x) refl refl
          (more_names a (a ∷ b ∷ []) (value_below x) (more_names a (b ∷ []) (value_below x) (more_names b [] (value_below (after 2 x)) refl)));
      plain = refl;
      few = omega arith;
    }

yield_piece : (numbers : List ℕ) (x : ℕ) → Piece numbers (instr.Yield ∷ []) (instr.Yield ∷ [])
yield_piece numbers x = record { names = record { same = refl; small = refl }; plain = refl; few = omega arith }

follows_by : (numbers : List ℕ) (d mould : Draft) (most draws : ℕ) (code : List ℕ → ℕ → List (Instr VReg)) → ((x : ℕ) → Piece numbers (code numbers x) (code places x)) → Follows numbers d mould most → Follows numbers (with_code d (code numbers d.state) draws) (with_code mould (code places mould.state) draws) (most + 2)
follows_by numbers d mould most draws code p f =
    follows_more numbers d mould most draws (code numbers d.state) (code places mould.state) f
    (subst (λ x. Piece numbers (code numbers d.state) (code places x)) f.state (p d.state))

either : (numbers : List ℕ) (most : ℕ) (b : Bool) (d e m n : Draft) → Follows numbers d m most → Follows numbers e n most → Follows numbers (if b then d else e) (if b then m else n) most
either numbers most true d e m n f g = f
either numbers most false d e m n f g = g

picked_follows : (numbers : List ℕ) (pick : ℕ) (d mould : Draft) (most : ℕ) → Follows numbers d mould most → Follows numbers (with_picked pick numbers d) (with_picked pick places mould) (most + 2)
picked_follows numbers pick d mould most f =
    either numbers (most + 2) (nat_lt pick 6) _ _ _ _ (follows_by numbers d mould most 4 operation_code (operation_piece numbers) f)
    (either numbers (most + 2) (pick == 6) _ _ _ _ (follows_by numbers d mould most 2 number_code (number_piece numbers) f)
    (either numbers (most + 2) (pick == 7) _ _ _ _ (follows_by numbers d mould most 3 load_code (load_piece numbers) f)
    (either numbers (most + 2) (pick == 8) _ _ _ _ (follows_by numbers d mould most 3 store_code (store_piece numbers) f)
    (follows_by numbers d mould most 0 (λ ns x. instr.Yield ∷ []) (yield_piece numbers) f))))

row_follows : (numbers : List ℕ) (d mould : Draft) (most : ℕ) → Follows numbers d mould most → Follows numbers (with_row numbers d) (with_row places mould) (most + 2)
unfolding with_row
row_follows numbers d mould most f =
    let on : Follows numbers (record d { state = after 1 d.state }) (record mould { state = after 1 mould.state }) most =
    record { state = ap (after 1) f.state; names = f.names; plain = f.plain; some = f.some; few = f.few } in
    subst (λ pick. Follows numbers (with_picked (draw 10 d.state) numbers (record d { state = after 1 d.state })) (with_picked pick places (record mould { state = after 1 mould.state })) (most + 2))
    (ap (draw 10) f.state)
    (picked_follows numbers (draw 10 d.state) (record d { state = after 1 d.state }) (record mould { state = after 1 mould.state }) most on)

opened_follows : (numbers : List ℕ) (state : ℕ) → Follows numbers (opened numbers state) (opened places state) 2
opened_follows numbers state = record {
  state = refl;
  names = names_of numbers (0 ∷ 1 ∷ []) (opened numbers state).code (opened places state).code refl refl refl;
  plain = refl;
  some = omega arith;
  few = omega arith;
}

rows_follow : (numbers : List ℕ) (n state : ℕ) → Follows numbers (with_rows n numbers (opened numbers state)) (with_rows n places (opened places state)) (2 + 2 * n)
rows_follow numbers zero state = opened_follows numbers state
rows_follow numbers (suc n) state =
    let d = with_rows n numbers (opened numbers state) in
    let mould = with_rows n places (opened places state) in
    let longer : (2 + 2 * n) + 2 ≡ 2 + 2 * suc n = omega arith in
    subst (λ most. Follows numbers (with_row numbers d) (with_row places mould) most) longer (row_follows numbers d mould (2 + 2 * n) (rows_follow numbers n state))

closing_names : (numbers : List ℕ) → Names numbers (closing numbers) (closing places)
closing_names numbers = names_of numbers (0 ∷ 0 ∷ 1 ∷ 0 ∷ 2 ∷ 3 ∷ []) (closing numbers) (closing places) refl refl refl

-- the whole code of a context: plain code, and then the closing
pub record Shaped (numbers : List ℕ) (state : ℕ) : Type 0 where
  pub body : List (Instr VReg)
  pub is : (drafted numbers state).code ≡ body ++ closing numbers
  pub plain : list_all is_plain body ≡ true
  pub some : 2 ≤ length body
  pub few : length body ≤ 1602
  pub names : Names numbers (drafted numbers state).code (drafted places state).code

pub shaped : (numbers : List ℕ) (state : ℕ) → Shaped numbers state
unfolding drafted
shaped numbers state =
    let f = rows_follow numbers 800 state in
    let d = with_rows 800 numbers (opened numbers state) in
    let mould = with_rows 800 places (opened places state) in
    record {
      body = d.code;
      is = refl;
      plain = f.plain;
      some = f.some;
      few = f.few;
      names = names_more numbers d.code mould.code (closing numbers) (closing places) f.names (closing_names numbers);
    }

pub record Sizes (numbers : List ℕ) (state : ℕ) : Type 0 where
  pub some : 4 ≤ length (drafted numbers state).code
  pub few : length (drafted numbers state).code ≤ 1606

pub drafted_sizes : (numbers : List ℕ) (state : ℕ) → Sizes numbers state
drafted_sizes numbers state =
    let s = shaped numbers state in
    let long : length (drafted numbers state).code ≡ length s.body + 4 = ap length s.is ∙ length-append s.body (closing numbers) in
    record { some = omega (arith, long, s.some); few = omega (arith, long, s.few) }
