-- A spelling with more bytes behind it: the first of them is told.
use Rattle.std.proofs.Common.{◌≡◌, ◌-◌, ℕ, false, List, ◌∷◌, ◌++◌, length, Some, Err, sym, ap, ◌∙◌, arith, if◌then◌else◌, append_assoc, length-append}
use Rattle.std.specs.Prelude.{nat_eq}
use Rattle.std.specs.List.{flat_map}
use Rattle.std.proofs.lemmas.Bool.{eqb-true, false_from_ne_true}
use Rattle.micro_isa.specs.declared.image.Image.{Image}
use Rattle.image_load.specs.declared.fault.ImageKind.TheVariants.{Trailing}
use Rattle.image_load.specs.Faults.{fault_at, unless, ◌>>=◌}
use Rattle.image_load.specs.Spelling.{channel_bytes, code_bytes, image_bytes, Spells}
use Rattle.image_load.specs.Loading.{front_at, codes_fault, image_read, image_fault, fault_in}
use Rattle.image_load.proofs.Several.{done}
use Rattle.image_load.proofs.Headers.{spelt}
use Rattle.image_load.proofs.Images.{header_of, with_tail, front_with}

pub trailing_told : (a : List ℕ) (m : Image) (b : ℕ) (bs : List ℕ) → Spells a m → image_fault (a ++ b ∷ bs) ≡ Some (fault_at (length a) Trailing)
unfolding image_read image_bytes
trailing_told a m b bs s =
    let tail = b ∷ bs in
    let chs = flat_map channel_bytes m.setting.channels in
    let codes = flat_map code_bytes m.contexts in
    let h = spelt (header_of m) in
    let same : a ++ tail ≡ with_tail m tail = ap (λ l. l ++ tail) s.spelt ∙ append_assoc h (chs ++ codes) tail ∙ ap (λ l. h ++ l) (append_assoc chs codes tail) in
    let len : length (with_tail m tail) - length tail ≡ length a = let e = ap length (sym same) ∙ length-append a tail in omega (arith, e) in
    let longer : nat_eq (length tail) 0 ≡ false = false_from_ne_true (nat_eq (length tail) 0) (λ none. let e = eqb-true (length tail) 0 none in omega (arith, e)) in
    let read : front_at (with_tail m tail) ≡ Err (fault_at (length (with_tail m tail) - length tail) Trailing) = front_with m tail s.formed s.fits ∙ ap (λ t. if t then done (m, length (with_tail m tail) - length (codes ++ tail)) else Err (fault_at (length (with_tail m tail) - length tail) Trailing)) longer in
    ap image_fault same
    ∙ ap (λ r. fault_in (r >>= λ x. unless (codes_fault x.0 x.1 x.0.contexts) (done x.0))) read
    ∙ ap (λ n. Some (fault_at n Trailing)) len
