-- What a formed image says of its parts.
use Rattle.std.proofs.Common.{◌≡◌, ◌<◌, ◌≤◌, ℕ, zero, suc, Bool, true, List, [], ◌∷◌, ◌++◌, length, map, Some, None, sym, ap, ◌∙◌, subst, arith, append_assoc}
use Rattle.std.specs.Prelude.{nat_le, sum, slice_get, get_or, OnOk, Result, Ok, Err}
use Rattle.std.specs.List.{list_all}
use Rattle.std.proofs.lemmas.Bool.{and_parts, leb-true}
use Rattle.micro_isa.specs.declared.program.Channel.{Channel}
use Rattle.micro_isa.specs.declared.program.Channel.TheVariants.{Inner, Input, Output}
use Rattle.micro_isa.specs.declared.program.Setting.{Setting}
use Rattle.micro_isa.specs.declared.image.Image.{Image}
use Rattle.micro_isa.specs.Formed.{Each, has_formed_ring, initial_count, is_ring_size, IsFormedSetting, IsFormedImage}
use Rattle.micro_isa.specs.declared.limits.TheConstants.{MOST_INITIAL_WORDS}
use Rattle.image_load.specs.Writing.{IsSmallPart, IsSmallCode}
use Rattle.image_load.proofs.Apart.{sum_cons}

pub each_passes : {A : Type 0} (p : A → Bool) (xs : List A) → list_all p xs ≡ true → (i : ℕ) (x : A) → slice_get xs i ≡ Some x → p x ≡ true
each_passes p [] all i x e = absurd (cc)
each_passes p (y ∷ ys) all zero x e = let same : y ≡ x = cc in subst (λ z. p z ≡ true) same (and_parts (p y) (list_all p ys) all).0
each_passes p (y ∷ ys) all (suc i) x e = each_passes p ys (and_parts (p y) (list_all p ys) all).1 i x e

pub each_below : (cs : List Channel) (i : ℕ) (c : Channel) → slice_get cs i ≡ Some c → initial_count c ≤ sum (map initial_count cs)
each_below [] i c e = absurd (cc)
each_below (d ∷ ds) zero c e = let same : d ≡ c = cc in subst (λ z. initial_count z ≤ sum (map initial_count (d ∷ ds))) same (omega (arith, sum_cons (initial_count d) (map initial_count ds)))
each_below (d ∷ ds) (suc i) c e = omega (arith, each_below ds i c e, sum_cons (initial_count d) (map initial_count ds))

pub small_ring : (n : ℕ) → is_ring_size n ≡ true → n < 65536
small_ring n e = let le = leb-true n 1024 (and_parts (nat_le 1 n) (nat_le n 1024) e).1 in omega (arith, le)

small_part : (c : Channel) → has_formed_ring c ≡ true → initial_count c ≤ MOST_INITIAL_WORDS → IsSmallPart c
small_part (Inner capacity) ring few = record { capacity = small_ring capacity ring; count = omega arith }
small_part (Input words None) ring few = record { capacity = omega arith; count = few }
small_part (Input words (Some port)) ring few = record { capacity = small_ring port.capacity ring; count = few }
small_part (Output None) ring few = record { capacity = omega arith; count = omega arith }
small_part (Output (Some port)) ring few = record { capacity = omega arith; count = omega arith }

pub small_parts : (s : Setting) → IsFormedSetting s → Each s.channels IsSmallPart
small_parts s f i c e = small_part c (each_passes has_formed_ring s.channels f.rings i c e) (let below = each_below s.channels i c e in let few = f.words in omega (arith, below, few))

pub small_codes : (m : Image) → IsFormedImage m → Each m.contexts IsSmallCode
small_codes m f i code e =
    let formed = f.contexts i code e in
    let within = formed.within in
    let small = f.small in
    record { start = omega (arith, within, small); size = omega (arith, within, small); count = formed.few }

-- the item that a loop comes to
pub item_at : {A : Type 0} (xs : List A) (i : ℕ) (x : A) → i < length xs → x ≡ get_or xs i x → slice_get xs i ≡ Some x
item_at [] i x lt e = absurd (omega (arith, lt))
item_at (y ∷ ys) zero x lt e = ap (λ z. Some z) (sym e)
item_at (y ∷ ys) (suc i) x lt e = item_at ys i x (omega (arith, lt)) e

-- what is appended in two steps
pub appended : (start next end a b : List ℕ) → next ≡ start ++ a → end ≡ next ++ b → end ≡ start ++ (a ++ b)
appended start next end a b e f = f ∙ ap (λ l. l ++ b) e ∙ append_assoc start a b

pub on_ok : {T E P Q : Type 0} (r : Result T E) → OnOk r P → (P → Q) → OnOk r Q
on_ok (Ok x) p f = f p
on_ok (Err why) p f = tt
