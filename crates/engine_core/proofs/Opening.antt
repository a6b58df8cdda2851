-- An engine is sound at its opening.
use Rattle.std.proofs.Common.{◌≡◌, ℕ, zero, suc, ◌≤◌, List, length, Some, None, true, refl, sym, ◌∙◌, subst, arith, replicate}
use Rattle.std.specs.Prelude.{slice_get}
use Rattle.micro_isa.specs.declared.image.Image.{Image}
use Rattle.micro_isa.specs.Formed.{IsFormedImage, writes_within}
use Rattle.std.proofs.lemmas.List.{length-replicate}
use Rattle.world.specs.declared.event.Phase.TheVariants.{Ready}
use Rattle.semantics.specs.Machine.{machine_open}
use Rattle.semantics.specs.Core.{Core, opening_core}
use Rattle.micro_isa.specs.declared.image.PReg.{PReg}
use Rattle.run_state.specs.declared.stretch.ContextPlace.{ContextPlace}
use Rattle.engine_core.specs.EngineState.{kept_of, config_of, IsSound}

start_of : (n c : ℕ) (k : ContextPlace PReg) → slice_get (replicate n (record { at = 0; pending = None })) c ≡ Some k → (let s : ContextPlace PReg = record { at = 0; pending = None } in s) ≡ k
start_of zero c k h = absurd (cc)
start_of (suc n) zero k h = cc
start_of (suc n) (suc c) k h = start_of n c k h

-- every context stands at its first word
at_first_words : (m : Image) (bound : ℕ) → IsFormedImage m → IsSound m (opening_core m.setting (length m.contexts) bound) (replicate (length m.contexts) (record { at = 0; pending = None }))
at_first_words m bound formed = record {
  formed = formed;
  as_many = length-replicate (length m.contexts) (let s : ContextPlace PReg = record { at = 0; pending = None } in s) ∙ sym (length-replicate (length m.contexts) Ready);
  as_many_words = sym (length-replicate (length m.contexts) Ready);
  each = λ c code k is_code is_k.
      let start = start_of (length m.contexts) c k is_k in
      record {
        within = subst (λ p. p.at ≤ length code.words) start (omega arith);
        pending = subst (λ p. writes_within code.private m.shared p.pending ≡ true) start refl;
      };
}

kept_start : (n c : ℕ) → kept_of (slice_get (replicate n (record { at = 0; pending = None })) c) ≡ record { at = 0; pending = None }
kept_start zero c = refl
kept_start (suc n) zero = refl
kept_start (suc n) (suc c) = kept_start n c

pub opens_sound : (m image : Image) (bound : ℕ) (core : Core) (ks : List (ContextPlace PReg)) → IsFormedImage m → image ≡ m → core ≡ opening_core m.setting (length m.contexts) bound → ks ≡ replicate (length m.contexts) (record { at = 0; pending = None }) → IsSound image core ks
opens_sound m image bound core ks formed is_image is_core is_ks =
    subst (λ x. IsSound x core ks) (sym is_image) (subst (λ x. IsSound m x ks) (sym is_core) (subst (λ x. IsSound m (opening_core m.setting (length m.contexts) bound) x) (sym is_ks) (at_first_words m bound formed)))

-- an engine that opens is the opening of the machine run
opens_as : (m : Image) (bound : ℕ) → config_of (record { image = m; core = opening_core m.setting (length m.contexts) bound; file = replicate m.file 0; contexts = replicate (length m.contexts) (record { at = 0; pending = None }) }) ≡ machine_open m bound
opens_as m bound = λ i. record {
  core = opening_core m.setting (length m.contexts) bound;
  state = record { file = replicate m.file 0; contexts = λ c. kept_start (length m.contexts) c i };
}

pub opens : (m image : Image) (bound : ℕ) (core : Core) (file : List ℕ) (ks : List (ContextPlace PReg)) → image ≡ m → core ≡ opening_core m.setting (length m.contexts) bound → file ≡ replicate m.file 0 → ks ≡ replicate (length m.contexts) (record { at = 0; pending = None }) → config_of (record { image = image; core = core; file = file; contexts = ks }) ≡ machine_open m bound
opens m image bound core file ks is_image is_core is_file is_ks =
    (λ i. config_of (record { image = is_image i; core = is_core i; file = is_file i; contexts = is_ks i })) ∙ opens_as m bound
