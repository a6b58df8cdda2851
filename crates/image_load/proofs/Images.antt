-- The bytes that are read without a fault are the spellings of images.
use Rattle.std.proofs.Common.{◌≡◌, ◌+◌, ◌-◌, ℕ, Bool, true, false, List, [], ◌∷◌, ◌++◌, length, Result, Ok, Err, refl, sym, ap, ◌∙◌, subst, arith, if◌then◌else◌, drop, length-append}
use Rattle.std.specs.Prelude.{nat_eq}
use Rattle.std.specs.List.{flat_map, AllByRecursion}
use Rattle.std.proofs.lemmas.Bool.{eqb-true}
use Rattle.std.proofs.lemmas.List.{append-nil, nil_from_length}
use Rattle.micro_isa.specs.declared.program.Channel.{Channel}
use Rattle.micro_isa.specs.declared.image.Code.{Code}
use Rattle.micro_isa.specs.declared.image.Image.{Image}
use Rattle.micro_isa.specs.Formed.{IsFormedImage, IsFormedCode}
use Rattle.image_load.specs.declared.fault.ImageKind.TheVariants.{Trailing}
use Rattle.image_load.specs.declared.fault.At.{At}
use Rattle.image_load.specs.declared.header.Header.{Header}
use Rattle.image_load.specs.Faults.{fault_at, unless, ◌>>=◌}
use Rattle.image_load.specs.Spelling.{channel_bytes, code_bytes, image_bytes, FitsChannel, FitsCode, FitsImage, Spells, SpellsAlone}
use Rattle.image_load.specs.Loading.{header_in, header_fault, many_at, channel_at, context_at, image_of, front_at, codes_fault, image_read}
use Rattle.image_load.proofs.Several.{IsBytes, bytes_drop, unless_ok, bind_ok, done, ok_is, many_takes, many_again, all_behind}
use Rattle.image_load.proofs.WordTests.{IsSized, codes_from, codes_are, each_from, each_is}
use Rattle.image_load.proofs.ChannelParts.{IsSound, sound_none, channel_takes, IsNext, channel_again, next_in}
use Rattle.image_load.proofs.ContextParts.{AreApart, context_takes, IsNextCode, context_again, code_in}
use Rattle.image_load.proofs.Headers.{spelt, IsWithin, header_takes, HeaderRead, header_again}

abbrev pub header_of : Image → Header
header_of m = record { contexts = length m.contexts; file = m.file; channels = length m.setting.channels; memory = m.setting.memory; shared = m.shared }

-- what the first pass knows
pub record IsFront (bytes : List ℕ) (m : Image) (start : ℕ) : Type 0 where
  pub within : IsWithin (header_of m)
  pub sound : IsSound m.setting.channels
  pub small : AllByRecursion FitsChannel m.setting.channels
  pub apart : AreApart (header_of m) m.contexts
  pub sized : AllByRecursion (IsSized m.file) m.contexts
  pub spelled : bytes ≡ image_bytes m
  pub ends : start + length (flat_map code_bytes m.contexts) ≡ length bytes

pub then_ok : {A : Type 0} (b : Bool) (found : At) (read : Result A At) (y : A) → (if b then read else Err found) ≡ Ok y → (b ≡ true) × (read ≡ Ok y)
then_ok true found read y e = (refl, e)
then_ok false found read y e = absurd (cc)

abbrev with_counts : Header → ℕ → ℕ → Header
with_counts h contexts channels = record { contexts = contexts; file = h.file; channels = channels; memory = h.memory; shared = h.shared }

pub front_is : (bytes : List ℕ) (x : Image × ℕ) → IsBytes bytes → front_at bytes ≡ Ok x → IsFront bytes x.0 x.1
unfolding front_at image_bytes
front_is bytes x is e =
    let size = length bytes in
    let h = header_in bytes in
    let u = unless_ok (header_fault bytes) _ x e in
    let taken = header_takes bytes is u.0 in
    let a = bind_ok (many_at (channel_at size) h.channels [] (drop 20 bytes)) _ x u.1 in
    let chs = a.0 in
    let t = many_takes channel_bytes FitsChannel IsSound (channel_at size) (channel_takes size) h.channels [] (drop 20 bytes) chs sound_none (bytes_drop 20 bytes is) a.1 in
    let b = bind_ok (many_at (context_at size h) h.contexts [] chs.1) _ x a.2 in
    let codes = b.0 in
    let s = many_takes code_bytes (IsSized h.file) (AreApart h) (context_at size h) (context_takes size h) h.contexts [] chs.1 codes refl t.0.rest_fits b.1 in
    let m = image_of h chs.0 codes.0 in
    let g = then_ok (nat_eq (length codes.1) 0) (fault_at (size - length codes.1) Trailing) (done (m, size - length chs.1)) x b.2 in
    let nothing : codes.1 ≡ [] = nil_from_length codes.1 (eqb-true _ _ g.0) in
    let contexts : length codes.0 ≡ h.contexts = ap length s.0.all ∙ s.0.count in
    let channels : length chs.0 ≡ h.channels = ap length t.0.all ∙ t.0.count in
    let same : header_of m ≡ h = ap (λ n. with_counts h n (length chs.0)) contexts ∙ ap (with_counts h h.contexts) channels in
    let behind : chs.1 ≡ flat_map code_bytes codes.0 = s.0.parts ∙ ap (λ r. flat_map code_bytes s.0.added ++ r) nothing ∙ append-nil (flat_map code_bytes s.0.added) ∙ ap (flat_map code_bytes) (sym s.0.all) in
    let middle : drop 20 bytes ≡ flat_map channel_bytes chs.0 ++ flat_map code_bytes codes.0 = t.0.parts ∙ ap (λ cs. flat_map channel_bytes cs ++ chs.1) (sym t.0.all) ∙ ap (λ r. flat_map channel_bytes chs.0 ++ r) behind in
    let spelled : bytes ≡ image_bytes m = taken.parts ∙ ap (λ r. spelt h ++ r) middle ∙ ap (λ k. spelt k ++ (flat_map channel_bytes chs.0 ++ flat_map code_bytes codes.0)) (sym same) in
    let lengths : length bytes ≡ length (spelt h) + (length (flat_map channel_bytes chs.0) + length chs.1) =
    ap length taken.parts ∙ length-append (spelt h) (drop 20 bytes) ∙ ap (λ n. length (spelt h) + n) (ap length (t.0.parts ∙ ap (λ cs. flat_map channel_bytes cs ++ chs.1) (sym t.0.all)) ∙ length-append (flat_map channel_bytes chs.0) chs.1) in
    let len : length chs.1 ≡ length (flat_map code_bytes codes.0) = ap length behind in
    let front : IsFront bytes m (size - length chs.1) = record {
      within = subst IsWithin (sym same) taken.within;
      sound = t.1;
      small = subst (AllByRecursion FitsChannel) (sym t.0.all) t.0.fit;
      apart = s.1;
      sized = subst (AllByRecursion (IsSized h.file)) (sym s.0.all) s.0.fit;
      spelled = spelled;
      ends = omega (arith, len, lengths);
    } in
    subst (λ (y : Image × ℕ). IsFront bytes y.0 y.1) (ok_is (m, size - length chs.1) x g.1) front

all_words : (file : ℕ) (codes : List Code) → AllByRecursion (IsSized file) codes → AllByRecursion FitsCode codes
all_words file [] all = tt
all_words file (code ∷ codes) all = (all.0.fits, all_words file codes all.1)

-- what is read is spelled so
pub read_spelled : (bytes : List ℕ) (m : Image) → IsBytes bytes → image_read bytes ≡ Ok m → Spells bytes m
unfolding image_read
read_spelled bytes m is e =
    let a = bind_ok (front_at bytes) (λ x. unless (codes_fault x.0 x.1 x.0.contexts) (done x.0)) m e in
    let u = unless_ok (codes_fault a.0.0 a.0.1 a.0.0.contexts) (done a.0.0) m a.2 in
    let f = front_is bytes a.0 is a.1 in
    let codes = codes_from a.0.0 a.0.0.contexts a.0.1 u.0 f.sized in
    let spells : Spells bytes a.0.0 = record {
      formed = record {
        file = f.within.file;
        small = f.within.small;
        setting = record { memory = f.within.memory; few = f.within.channels; rings = f.sound.rings; ports = f.sound.ports; distinct = f.sound.distinct; words = f.sound.words };
        some = f.within.some;
        few = f.within.few;
        shared = f.within.shared;
        apart = f.apart;
        contexts = each_from (IsFormedCode a.0.0) a.0.0.contexts codes;
      };
      fits = record { initial = f.small; words = all_words a.0.0.file a.0.0.contexts f.sized };
      spelt = f.spelled;
    } in
    subst (Spells bytes) (ok_is a.0.0 m u.1) spells

-- what is spelled so is read

pub sized_from : (m : Image) (codes : List Code) → AllByRecursion (IsFormedCode m) codes → AllByRecursion FitsCode codes → AllByRecursion (IsSized m.file) codes
sized_from m [] formed fits = tt
sized_from m (code ∷ codes) formed fits = (record { some = formed.0.some; few = formed.0.few; within = formed.0.within; fits = fits.0 }, sized_from m codes formed.1 fits.1)

-- all bytes of an image, with these behind them
abbrev pub with_tail : Image → List ℕ → List ℕ
with_tail m tail = spelt (header_of m) ++ (flat_map channel_bytes m.setting.channels ++ (flat_map code_bytes m.contexts ++ tail))

pub front_with : (m : Image) (tail : List ℕ) → IsFormedImage m → FitsImage m → front_at (with_tail m tail) ≡ (if nat_eq (length tail) 0 then Ok (m, length (with_tail m tail) - length (flat_map code_bytes m.contexts ++ tail)) else Err (fault_at (length (with_tail m tail) - length tail) Trailing))
unfolding front_at
front_with m tail f fits =
    let h = header_of m in
    let chs = m.setting.channels in
    let codes = m.contexts in
    let behind = flat_map code_bytes codes ++ tail in
    let rest = flat_map channel_bytes chs ++ behind in
    let bytes = with_tail m tail in
    let size = length bytes in
    let within : IsWithin h = record { some = f.some; few = f.few; file = f.file; small = f.small; channels = f.setting.few; memory = f.setting.memory; shared = f.shared } in
    let top : HeaderRead h bytes = header_again h rest within in
    let sound : IsSound chs = record { rings = f.setting.rings; ports = f.setting.ports; distinct = f.setting.distinct; words = f.setting.words } in
    let sized = sized_from m codes (each_is (IsFormedCode m) codes f.contexts) fits.words in
    let channels = many_again channel_bytes IsNext (channel_at size) (channel_again size) chs [] behind (all_behind IsNext (λ l. IsSound l × AllByRecursion FitsChannel l) next_in chs [] (sound, fits.initial)) in
    let contexts = many_again code_bytes (IsNextCode h) (context_at size h) (context_again size h) codes [] tail (all_behind (IsNextCode h) (λ l. AreApart h l × AllByRecursion (IsSized h.file) l) (code_in h f.small) codes [] (f.apart, sized)) in
    let finish : Header → List Channel × List ℕ → List Code × List ℕ → Result (Image × ℕ) At = λ g c d. if nat_eq (length d.1) 0 then Ok (image_of g c.0 d.0, size - length c.1) else Err (fault_at (size - length d.1) Trailing) in
    let second : Header → List Channel × List ℕ → Result (Image × ℕ) At = λ g c. many_at (context_at size g) g.contexts [] c.1 >>= λ d. finish g c d in
    let first : Header → Result (Image × ℕ) At = λ g. many_at (channel_at size) g.channels [] rest >>= λ c. second g c in
    ap (λ o. unless o (first (header_in bytes))) top.none
    ∙ ap first top.same
    ∙ ap (λ r. r >>= λ c. second h c) channels
    ∙ ap (λ r. r >>= λ d. finish h (chs, behind) d) contexts

front_again : (m : Image) → IsFormedImage m → FitsImage m → (start : ℕ) × (front_at (image_bytes m) ≡ Ok (m, start))
unfolding image_bytes
front_again m f fits =
    let codes = flat_map code_bytes m.contexts in
    let whole : with_tail m [] ≡ image_bytes m = ap (λ l. spelt (header_of m) ++ (flat_map channel_bytes m.setting.channels ++ l)) (append-nil codes) in
    (length (with_tail m []) - length (codes ++ []), ap front_at (sym whole) ∙ front_with m [] f fits)

pub spelled_read : (bytes : List ℕ) (m : Image) → Spells bytes m → image_read bytes ≡ Ok m
unfolding image_read
spelled_read bytes m s =
    let front = front_again m s.formed s.fits in
    let none = codes_are m m.contexts front.0 (each_is (IsFormedCode m) m.contexts s.formed.contexts) in
    ap image_read s.spelt
    ∙ ap (λ r. r >>= λ x. unless (codes_fault x.0 x.1 x.0.contexts) (done x.0)) front.1
    ∙ ap (λ o. unless o (done m)) none

-- one image a spelling
pub spelled_once : (bytes : List ℕ) (m : Image) → image_read bytes ≡ Ok m → SpellsAlone bytes m
spelled_once bytes m e other s = ok_is other m (sym (spelled_read bytes other s) ∙ e)
