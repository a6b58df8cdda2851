-- Operands from the last role to the first, and registers by the places at which they were noted.
use Rattle.std.proofs.Common.{◌≡◌, ◌<◌, ◌≤◌, ◌-◌, ℕ, suc, Bool, true, false, List, [], ◌∷◌, Option, Some, None, length, drop, get_or, fold, refl, sym, ap, ◌∙◌, subst, arith, nat_lt}
use Rattle.std.proofs.lemmas.Bool.{ltb-true}
use Rattle.std.proofs.Math.Seq.{drop-cons, drop-length}
use Rattle.std.specs.List.{position_or_len}
use Rattle.std.specs.Option.{option_map}
use Rattle.std.specs.Str.{bytes_eq}
use Rattle.std.specs.Borrow.{Bor}
use Rattle.micro_isa.specs.declared.operation.Role.{Role}
use Rattle.micro_isa.specs.declared.instr.Instr.{Instr}
use Rattle.micro_isa.specs.declared.limits.TheConstants.{MOST_REGISTERS}
use Rattle.micro_isa.specs.Columns.{registers}
use Rattle.micro_isa.specs.Operands.{instr_of, with}
use Rattle.asm_lines.specs.Cutting.{Words}
use Rattle.asm_lines.specs.Numbers.{number_or}
use Rattle.asm_lines.specs.Tables.{words_seen, knows, place_of, declare, one}
use Rattle.asm_lines.proofs.Known.{knows_it, knows_fold}
use Rattle.asm_context.specs.declared.said.Places.{Places}
use Rattle.asm_context.specs.Forms.{Form, Blank, Instruction, Miscounted, Unknown, operands_of}
use Rattle.asm_context.specs.Places.{place_in, places_of, places_in, PlaceFits, PlacesFit, register_at, placed, instr_at}
use Rattle.asm_context.specs.Programs.{register, target, instr_in}
use Rattle.asm_context.specs.Said.{Said}
use Rattle.asm_context.specs.Spelt.{Spelt, operands_in, with_word, each_extra}
use Rattle.asm_context.proofs.Numbering.{places_all, places_names}

-- words and roles of other numbers

pub other_count : (rs : List Role) (bs : List (Bor (List ℕ))) → (length rs ≡ length bs → ⊥) → operands_in rs (words_seen bs) ≡ None
other_count [] [] differ = absurd (differ refl)
other_count [] (b ∷ bs) differ = refl
other_count (r ∷ rs) [] differ = refl
other_count (r ∷ rs) (b ∷ bs) differ = ap (option_map (with_word r b.now)) (other_count rs bs (λ e. differ (omega (arith, e))))

-- no role is left

pub all_left : (rs : List Role) (bs : List (Bor (List ℕ))) (x : Spelt) → length rs ≡ length bs → Some x ≡ operands_in [] [] → operands_in (drop (length rs) rs) (words_seen (drop (length rs) bs)) ≡ Some x
all_left rs bs x e is =
    ap (λ r. operands_in r (words_seen (drop (length rs) bs))) (drop-length rs)
    ∙ ap (λ n. operands_in [] (words_seen (drop n bs))) e
    ∙ ap (λ b. operands_in [] (words_seen b)) (drop-length bs)
    ∙ sym is

-- one role more

pub one_more : (rs : List Role) (bs : List (Bor (List ℕ))) (at : ℕ) (d : Role) (e : Bor (List ℕ)) (x : Spelt) → 0 < at → at ≤ length rs → length rs ≡ length bs → operands_in (drop at rs) (words_seen (drop at bs)) ≡ Some x
    → operands_in (drop (at - 1) rs) (words_seen (drop (at - 1) bs)) ≡ Some (with_word (get_or rs (at - 1) d) (get_or bs (at - 1) e).now x)
one_more rs bs at d e x some within same later =
    let next : suc (at - 1) ≡ at = omega arith in
    ap (λ r. operands_in r (words_seen (drop (at - 1) bs))) (drop-cons rs (at - 1) d (omega arith))
    ∙ ap (λ b. operands_in (get_or rs (at - 1) d ∷ drop (suc (at - 1)) rs) (words_seen b)) (drop-cons bs (at - 1) e (omega arith))
    ∙ ap (λ n. option_map (with_word (get_or rs (at - 1) d) (get_or bs (at - 1) e).now) (operands_in (drop n rs) (words_seen (drop n bs)))) next
    ∙ ap (option_map (with_word (get_or rs (at - 1) d) (get_or bs (at - 1) e).now)) later

-- a name that is known keeps its place where more are noted

kept : (ws names : Words) (w : List ℕ) → knows names w ≡ true → place_of (fold declare names ws) w ≡ place_of names w
kept ws names w e = places_names ws names (fold declare names ws) (places_all (fold declare names ws)) w e ∙ sym (places_all names w e)

-- the name that there may be is known
abbrev IsIn : Words → Option (List ℕ) → Type 0
IsIn names None = Unit {0}
IsIn names (Some w) = knows names w ≡ true

now_in : (o : Option (List ℕ)) (names : Words) → IsIn (fold declare names (one o)) o
now_in None names = tt
now_in (Some w) names = knows_it names w

in_more : (o : Option (List ℕ)) (names ws : Words) → IsIn names o → IsIn (fold declare names ws) o
in_more None names ws e = tt
in_more (Some w) names ws e = knows_fold ws names w e

stays : (o : Option (List ℕ)) (names ws : Words) → IsIn names o → place_in (fold declare names ws) o ≡ place_in names o
stays None names ws e = refl
stays (Some w) names ws e = ap Some (kept ws names w e)

abbrev together : Option ℕ → Option ℕ → Option ℕ → Places
together to a b = record { to = to; a = a; b = b }

-- three registers that were noted one after another
pub all_placed : (n0 n1 n2 n3 : Words) (x : Spelt) (to a b : Option ℕ) → n1 ≡ fold declare n0 (one x.to) → n2 ≡ fold declare n1 (one x.a) → n3 ≡ fold declare n2 (one x.b) → to ≡ place_in n1 x.to → a ≡ place_in n2 x.a → b ≡ place_in n3 x.b → together to a b ≡ places_of n3 x
all_placed n0 n1 n2 n3 x to a b e1 e2 e3 pt pa pb =
    let in1 : IsIn n1 x.to = subst (λ n. IsIn n x.to) (sym e1) (now_in x.to n0) in
    let in2 : IsIn n2 x.to = subst (λ n. IsIn n x.to) (sym e2) (in_more x.to n1 (one x.a) in1) in
    let also : IsIn n2 x.a = subst (λ n. IsIn n x.a) (sym e2) (now_in x.a n1) in
    let t2 : place_in n2 x.to ≡ place_in n1 x.to = ap (λ n. place_in n x.to) e2 ∙ stays x.to n1 (one x.a) in1 in
    let t3 : place_in n3 x.to ≡ place_in n2 x.to = ap (λ n. place_in n x.to) e3 ∙ stays x.to n2 (one x.b) in2 in
    let a3 : place_in n3 x.a ≡ place_in n2 x.a = ap (λ n. place_in n x.a) e3 ∙ stays x.a n2 (one x.b) also in
    ap (λ t. together t a b) (pt ∙ sym (t3 ∙ t2)) ∙ ap (λ v. together (place_in n3 x.to) v b) (pa ∙ sym a3) ∙ ap (together (place_in n3 x.to) (place_in n3 x.a)) pb

-- a place is a register's number where there are few

place_le : (names : Words) (w : List ℕ) → place_of names w ≤ length names
place_le names w =
    let at = position_or_len (λ n. bytes_eq w n) names in
    let go : (b : Bool) → nat_lt at (length names) ≡ b → place_of names w ≤ length names = elim [
      | true ↦ λ e. let lt = ltb-true at (length names) e in rw e (omega arith)
      | false ↦ λ e. rw e (omega arith)
    ] in go (nat_lt at (length names)) refl

fits_in : (rs : Words) (o : Option (List ℕ)) → length rs ≤ MOST_REGISTERS → PlaceFits (place_in rs o)
fits_in rs None few = tt
fits_in rs (Some w) few = omega (arith, place_le rs w)

line_fits : (rs : Words) (f : Form) → length rs ≤ MOST_REGISTERS → PlacesFit (places_in rs f)
line_fits rs f few = let x = operands_of f in record { to = fits_in rs x.to few; a = fits_in rs x.a few; b = fits_in rs x.b few }

pub places_fit : (rs : Words) (f : Form) (p : Places) → p ≡ places_in rs f → length rs ≤ MOST_REGISTERS → PlacesFit p
places_fit rs f p e few = subst PlacesFit (sym e) (line_fits rs f few)

-- the instruction over places is that over names

mapped : (rs : Words) (o : Option (List ℕ)) → option_map register_at (place_in rs o) ≡ option_map (register rs) o
mapped rs None = refl
mapped rs (Some w) = refl

line_placed : (rs chs : Words) (all : Said) (f : Form) → instr_at (places_in rs f) chs all f ≡ instr_in rs chs all f
line_placed rs chs all (Instruction o x) =
    let rest = each_extra number_or (target all) (place_of chs) x.extra in
    ap (λ t. instr_of o (with t (option_map register_at (place_in rs x.a)) (option_map register_at (place_in rs x.b)) rest)) (mapped rs x.to)
    ∙ ap (λ v. instr_of o (with (option_map (register rs) x.to) v (option_map register_at (place_in rs x.b)) rest)) (mapped rs x.a)
    ∙ ap (λ v. instr_of o (with (option_map (register rs) x.to) (option_map (register rs) x.a) v rest)) (mapped rs x.b)
line_placed rs chs all Blank = refl
line_placed rs chs all Miscounted = refl
line_placed rs chs all Unknown = refl

pub instr_placed : (rs chs : Words) (all : Said) (f : Form) (p : Places) → p ≡ places_in rs f → instr_at p chs all f ≡ instr_in rs chs all f
instr_placed rs chs all f p e = ap (λ p. instr_at p chs all f) e ∙ line_placed rs chs all f
