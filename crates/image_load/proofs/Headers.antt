-- A header without a fault is spelled so, and a header within its limits has no fault.
use Rattle.std.proofs.Common.{◌≡◌, ◌≤◌, ◌+◌, ℕ, List, ◌++◌, length, None, refl, ap, ◌∙◌, arith, drop}
use Rattle.std.specs.Prelude.{nat_lt}
use Rattle.std.proofs.lemmas.Bool.{ltb-false, le-ltb}
use Rattle.std.proofs.lemmas.List.{drop-drop, length-drop}
use Rattle.byteorder.specs.Endian.{little_bytes, little_number}
use Rattle.byteorder.specs.Numbers.{little_number-reads_back}
use Rattle.micro_isa.specs.declared.image.Range.{Range}
use Rattle.micro_isa.specs.declared.limits.TheConstants.{MOST_CONTEXTS, MOST_FILE, MOST_CHANNELS, MOST_MEMORY}
use Rattle.image_load.specs.declared.fault.ImageKind.{ImageKind}
use Rattle.image_load.specs.declared.fault.ImageKind.TheVariants as wrong
use Rattle.image_load.specs.declared.header.Header.{Header}
use Rattle.image_load.specs.Faults.{first_of}
use Rattle.image_load.specs.Spelling.{magic, range_bytes}
use Rattle.image_load.specs.Loading.{header_in, range_in, outside, field_tests, shared_tests, header_fault}
use Rattle.image_load.proofs.Several.{front_2, front_4, IsBytes, bytes_drop, none_met, met_none, none_else, else_none}
use Rattle.image_load.proofs.ContextParts.{not_outside, is_inside, range_again}

-- the bytes of a header's numbers
abbrev pub spelt : Header → List ℕ
spelt h =
    little_bytes 4 magic
    ++ little_bytes 2 1
    ++ little_bytes 2 h.contexts
    ++ little_bytes 2 h.file
    ++ little_bytes 2 h.channels
    ++ little_bytes 4 h.memory
    ++ range_bytes h.shared

pub record IsWithin (h : Header) : Type 0 where
  pub some : 1 ≤ h.contexts
  pub few : h.contexts ≤ MOST_CONTEXTS
  pub file : 1 ≤ h.file
  pub small : h.file ≤ MOST_FILE
  pub channels : h.channels ≤ MOST_CHANNELS
  pub memory : h.memory ≤ MOST_MEMORY
  pub shared : h.shared.start + h.shared.size ≤ h.file

field_2 : (place next : ℕ) (bytes : List ℕ) → IsBytes bytes → place + 2 ≡ next → next ≤ length bytes → drop place bytes ≡ little_bytes 2 (little_number 2 (drop place bytes)) ++ drop next bytes
field_2 place next bytes is e long =
    front_2 (drop place bytes) (bytes_drop place bytes is) (omega (arith, length-drop place bytes, e, long))
    ∙ ap (λ r. little_bytes 2 (little_number 2 (drop place bytes)) ++ r) (drop-drop 2 place bytes ∙ ap (λ n. drop n bytes) e)

field_4 : (place next : ℕ) (bytes : List ℕ) → IsBytes bytes → place + 4 ≡ next → next ≤ length bytes → drop place bytes ≡ little_bytes 4 (little_number 4 (drop place bytes)) ++ drop next bytes
field_4 place next bytes is e long =
    (front_4 (drop place bytes) (bytes_drop place bytes is) (omega (arith, length-drop place bytes, e, long))).0
    ∙ ap (λ r. little_bytes 4 (little_number 4 (drop place bytes)) ++ r) (drop-drop 4 place bytes ∙ ap (λ n. drop n bytes) e)

field_from : (bytes : List ℕ) (place width : ℕ) (kind : ImageKind) (least most : ℕ) → first_of (field_tests bytes place width kind least most) ≡ None → (least ≤ little_number width (drop place bytes)) × (little_number width (drop place bytes) ≤ most)
field_from bytes place width kind least most e =
    let met = none_met (field_tests bytes place width kind least most) e in
    not_outside least most (little_number width (drop place bytes)) met.1.0

pub record HeaderTaken (bytes : List ℕ) : Type 0 where
  pub within : IsWithin (header_in bytes)
  pub parts : bytes ≡ spelt (header_in bytes) ++ drop 20 bytes

pub header_takes : (bytes : List ℕ) → IsBytes bytes → header_fault bytes ≡ None → HeaderTaken bytes
unfolding header_fault
header_takes bytes is e =
    let e0 = none_else (first_of (field_tests bytes 0 4 wrong.Magic magic magic)) _ e in
    let e4 = none_else (first_of (field_tests bytes 4 2 wrong.Version 1 1)) _ e0.1 in
    let e6 = none_else (first_of (field_tests bytes 6 2 wrong.Count 1 MOST_CONTEXTS)) _ e4.1 in
    let e8 = none_else (first_of (field_tests bytes 8 2 wrong.Count 1 MOST_FILE)) _ e6.1 in
    let e10 = none_else (first_of (field_tests bytes 10 2 wrong.Count 0 MOST_CHANNELS)) _ e8.1 in
    let e12 = none_else (first_of (field_tests bytes 12 4 wrong.Count 0 MOST_MEMORY)) _ e10.1 in
    let shared = none_met (shared_tests bytes) e12.1 in
    let long : 20 ≤ length bytes = ltb-false (length bytes) 20 shared.0 in
    let is_magic = field_from bytes 0 4 wrong.Magic magic magic e0.0 in
    let is_version = field_from bytes 4 2 wrong.Version 1 1 e4.0 in
    let contexts = field_from bytes 6 2 wrong.Count 1 MOST_CONTEXTS e6.0 in
    let file = field_from bytes 8 2 wrong.Count 1 MOST_FILE e8.0 in
    let channels = field_from bytes 10 2 wrong.Count 0 MOST_CHANNELS e10.0 in
    let memory = field_from bytes 12 4 wrong.Count 0 MOST_MEMORY e12.0 in
    let h = header_in bytes in
    let magic_is : little_number 4 bytes ≡ magic = omega (arith, is_magic.0, is_magic.1) in
    let version_is : little_number 2 (drop 4 bytes) ≡ 1 = omega (arith, is_version.0, is_version.1) in
    let size_long : 2 ≤ length (drop 2 (drop 16 bytes)) = omega (arith, length-drop 2 (drop 16 bytes), length-drop 16 bytes, long) in
    let behind : drop 2 (drop 2 (drop 16 bytes)) ≡ drop 20 bytes = drop-drop 2 2 (drop 16 bytes) ∙ drop-drop 4 16 bytes in
    let p18 : drop 2 (drop 16 bytes) ≡ little_bytes 2 h.shared.size ++ drop 20 bytes = front_2 (drop 2 (drop 16 bytes)) (bytes_drop 2 (drop 16 bytes) (bytes_drop 16 bytes is)) size_long ∙ ap (λ r. little_bytes 2 h.shared.size ++ r) behind in
    let p16 : drop 16 bytes ≡ range_bytes h.shared ++ drop 20 bytes = front_2 (drop 16 bytes) (bytes_drop 16 bytes is) (omega (arith, length-drop 16 bytes, long)) ∙ ap (λ r. little_bytes 2 h.shared.start ++ r) p18 in
    let p12 = field_4 12 16 bytes is refl (omega (arith, long)) ∙ ap (λ r. little_bytes 4 h.memory ++ r) p16 in
    let p10 = field_2 10 12 bytes is refl (omega (arith, long)) ∙ ap (λ r. little_bytes 2 h.channels ++ r) p12 in
    let p8 = field_2 8 10 bytes is refl (omega (arith, long)) ∙ ap (λ r. little_bytes 2 h.file ++ r) p10 in
    let p6 = field_2 6 8 bytes is refl (omega (arith, long)) ∙ ap (λ r. little_bytes 2 h.contexts ++ r) p8 in
    let p4 = field_2 4 6 bytes is refl (omega (arith, long)) ∙ ap (λ n. little_bytes 2 n ++ drop 6 bytes) version_is ∙ ap (λ r. little_bytes 2 1 ++ r) p6 in
    let p0 = field_4 0 4 bytes is refl (omega (arith, long)) ∙ ap (λ n. little_bytes 4 n ++ drop 4 bytes) magic_is ∙ ap (λ r. little_bytes 4 magic ++ r) p4 in record {
      within = record {
        some = contexts.0;
        few = contexts.1;
        file = file.0;
        small = file.1;
        channels = channels.1;
        memory = memory.1;
        shared = ltb-false h.file (h.shared.start + h.shared.size) shared.1.0;
      };
      parts = p0;
    }

field_is : (bytes : List ℕ) (place width : ℕ) (kind : ImageKind) (least most n : ℕ) → place + width ≤ length bytes → little_number width (drop place bytes) ≡ n → least ≤ n → n ≤ most → first_of (field_tests bytes place width kind least most) ≡ None
field_is bytes place width kind least most n long e low high =
    met_none (field_tests bytes place width kind least most) (le-ltb _ _ long, (ap (outside least most) e ∙ is_inside least most n low high, tt))

abbrev of_header : ℕ → ℕ → ℕ → ℕ → Range → Header
of_header contexts file channels memory shared = record { contexts = contexts; file = file; channels = channels; memory = memory; shared = shared }

pub record HeaderRead (h : Header) (bytes : List ℕ) : Type 0 where
  pub none : header_fault bytes ≡ None
  pub same : header_in bytes ≡ h

pub header_again : (h : Header) (rest : List ℕ) → IsWithin h → HeaderRead h (spelt h ++ rest)
unfolding header_fault
header_again h rest w =
    let bytes = spelt h ++ rest in
    let some = w.some in
    let few = w.few in
    let file = w.file in
    let small = w.small in
    let channels = w.channels in
    let memory = w.memory in
    let shared = w.shared in
    let t16 : List ℕ = range_bytes h.shared ++ rest in
    let t12 : List ℕ = little_bytes 4 h.memory ++ t16 in
    let t10 : List ℕ = little_bytes 2 h.channels ++ t12 in
    let t8 : List ℕ = little_bytes 2 h.file ++ t10 in
    let t6 : List ℕ = little_bytes 2 h.contexts ++ t8 in
    let t4 : List ℕ = little_bytes 2 1 ++ t6 in
    let n0 : little_number 4 (drop 0 bytes) ≡ magic = little_number-reads_back 4 magic t4 (omega arith) in
    let n4 : little_number 2 (drop 4 bytes) ≡ 1 = little_number-reads_back 2 1 t6 (omega arith) in
    let n6 : little_number 2 (drop 6 bytes) ≡ h.contexts = little_number-reads_back 2 h.contexts t8 (omega (arith, few)) in
    let n8 : little_number 2 (drop 8 bytes) ≡ h.file = little_number-reads_back 2 h.file t10 (omega (arith, small)) in
    let n10 : little_number 2 (drop 10 bytes) ≡ h.channels = little_number-reads_back 2 h.channels t12 (omega (arith, channels)) in
    let n12 : little_number 4 (drop 12 bytes) ≡ h.memory = little_number-reads_back 4 h.memory t16 (omega (arith, memory)) in
    let n16 : range_in (drop 16 bytes) ≡ h.shared = range_again h.shared rest (omega (arith, shared, small)) (omega (arith, shared, small)) in
    let long : 20 ≤ length bytes = omega arith in
    let same : header_in bytes ≡ h =
    ap (λ n. of_header n (little_number 2 (drop 8 bytes)) (little_number 2 (drop 10 bytes)) (little_number 4 (drop 12 bytes)) (range_in (drop 16 bytes))) n6
    ∙ ap (λ n. of_header h.contexts n (little_number 2 (drop 10 bytes)) (little_number 4 (drop 12 bytes)) (range_in (drop 16 bytes))) n8
    ∙ ap (λ n. of_header h.contexts h.file n (little_number 4 (drop 12 bytes)) (range_in (drop 16 bytes))) n10
    ∙ ap (λ n. of_header h.contexts h.file h.channels n (range_in (drop 16 bytes))) n12
    ∙ ap (of_header h.contexts h.file h.channels h.memory) n16 in
    let last = met_none (shared_tests bytes) (le-ltb _ _ long, (ap (λ (g : Header). nat_lt g.file (g.shared.start + g.shared.size)) same ∙ le-ltb _ _ shared, tt)) in
    let none =
    else_none _ _ (field_is bytes 0 4 wrong.Magic magic magic magic (omega (arith, long)) n0 (omega arith) (omega arith)) (
    else_none _ _ (field_is bytes 4 2 wrong.Version 1 1 1 (omega (arith, long)) n4 (omega arith) (omega arith)) (
    else_none _ _ (field_is bytes 6 2 wrong.Count 1 MOST_CONTEXTS h.contexts (omega (arith, long)) n6 some few) (
    else_none _ _ (field_is bytes 8 2 wrong.Count 1 MOST_FILE h.file (omega (arith, long)) n8 file small) (
    else_none _ _ (field_is bytes 10 2 wrong.Count 0 MOST_CHANNELS h.channels (omega (arith, long)) n10 (omega arith) channels) (
    else_none _ _ (field_is bytes 12 4 wrong.Count 0 MOST_MEMORY h.memory (omega (arith, long)) n12 (omega arith) memory) last))))) in
    record { none = none; same = same }
