-- What is known of a context that may run.
use Rattle.std.proofs.Common.{◌≡◌, ℕ, zero, suc, ◌<◌, List, [], ◌∷◌, length, Option, Some, None, Bool, true, false, refl, sym, ap, ◌∙◌, subst, arith, get_or, map}
use Rattle.std.specs.Prelude.{slice_get, IfSome, ◌||◌, ◌&&◌}
use Rattle.std.proofs.lemmas.Bool.{ltb-true}
use Rattle.std.proofs.lemmas.Option.{slice_get-get_or}
use Rattle.micro_isa.specs.declared.image.PReg.{PReg}
use Rattle.micro_isa.specs.declared.image.Word.{Word}
use Rattle.micro_isa.specs.declared.image.Code.{Code}
use Rattle.micro_isa.specs.declared.image.Image.{Image}
use Rattle.micro_isa.specs.Columns.{written_by}
use Rattle.micro_isa.specs.Formed.{Each, all_below, option_below, registers_in, target_of, lies_in, writes_within, IsFormedCode}
use Rattle.world.specs.declared.event.Event.TheVariants.{Run}
use Rattle.semantics.specs.Core.{Core, illegal_of}
use Rattle.semantics.specs.Machine.{numbered_word, words_of}
use Rattle.run_state.proofs.Segments.{is_there}
use Rattle.run_state.specs.declared.stretch.ContextPlace.{ContextPlace}
use Rattle.run_state.specs.Running.{CanRun, IsPlaced}
use Rattle.engine_core.specs.EngineState.{is_private, may_write, IsContext, IsSound}
use Rattle.engine_core.proofs.Confined.{passes}
use Rattle.engine_core.proofs.SegmentLemmas.{words_read, is_placed}

both : (a b : Bool) → (a && b) ≡ true → b ≡ true
both true b h = h
both false b h = absurd (cc)

-- any register of the file may be written
all_held : (o : Option PReg) → IfSome o (λ r. true ≡ true)
all_held None = tt
all_held (Some r) = refl

target_below : (size : ℕ) (o : Option ℕ) → option_below size o ≡ true → IfSome o (λ target. target < size)
target_below size None h = tt
target_below size (Some target) h = ltb-true target size h

formed_runs : (m : Image) (code : Code) → IsFormedCode m code → CanRun numbered_word (λ r. true) code.words
formed_runs m code formed = record {
  few = omega (arith, formed.few);
  each = λ i w is. record {
    written = all_held (written_by w.instr);
    target = target_below (length code.words) (target_of w.instr) (both (all_below m.file (map (λ r. r.0) (registers_in w.instr))) (option_below (length code.words) (target_of w.instr)) (formed.named i w is));
  };
}

found : {A : Type 0} (xs : List A) (i : ℕ) → i < length xs → (x : A) × (slice_get xs i ≡ Some x)
found [] i lt = absurd (omega arith)
found (x ∷ xs) zero lt = (x, refl)
found (x ∷ xs) (suc i) lt = found xs i (omega arith)

-- what code of a formed image writes is what its context may write
pub within_passes : (image : Image) (c : ℕ) (code : Code) (o : Option PReg) → slice_get image.contexts c ≡ Some code → writes_within code.private image.shared o ≡ passes (may_write image c) o
within_passes image c code None is = refl
within_passes image c code (Some r) is = ap (λ o. is_private o r.0 || lies_in image.shared r.0) (sym is)

-- its words can run, it stands within them, and it writes what it may write
pub record MayRun (image : Image) (c : ℕ) (k : ContextPlace PReg) (words : List Word) : Type 0 where
  pub runs : CanRun numbered_word (λ r. true) words
  pub placed : IsPlaced (λ r. true) (length words) k
  pub written : Each words (λ w. passes (may_write image c) (written_by w.instr) ≡ true)
  pub pending : passes (may_write image c) k.pending ≡ true

has_words : (image : Image) (c : ℕ) (code : Code) (k : ContextPlace PReg) → slice_get image.contexts c ≡ Some code → IsFormedCode image code → IsContext image code k → MayRun image c k code.words
has_words image c code k is formed one = record {
  runs = formed_runs image code formed;
  placed = record { within = one.within; pending = all_held k.pending };
  written = λ i w at. sym (within_passes image c code (written_by w.instr) is) ∙ formed.written i w at;
  pending = sym (within_passes image c code k.pending is) ∙ one.pending;
}

pub may_run : (image : Image) (core : Core) (ks : List (ContextPlace PReg)) (c : ℕ) (words : List Word) → IsSound image core ks → illegal_of core (Run c) ≡ None → words ≡ words_of image c → MayRun image c (get_or ks c (record { at = 0; pending = None })) words
may_run image core ks c words s may is_words =
    let has = found image.contexts c (omega (arith, is_there core c may, s.as_many_words)) in
    let start : ContextPlace PReg = record { at = 0; pending = None } in
    let at = slice_get-get_or ks c start (is_placed image core ks c s may) in
    subst (MayRun image c (get_or ks c start)) (sym (is_words ∙ words_read image c has.0 has.1))
    (has_words image c has.0 (get_or ks c start) has.1 (s.formed.contexts c has.0 has.1) (s.each c has.0 (get_or ks c start) has.1 at))
