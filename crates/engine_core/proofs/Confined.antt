-- What a context runs writes only registers that pass a test, where its words and its completion write no other.
use Rattle.std.proofs.Common.{◌≡◌, ℕ, zero, suc, ◌+◌, List, [], ◌∷◌, Option, Some, None, Bool, true, false, refl, ap, ◌∙◌, drop}
use Rattle.std.specs.Prelude.{slice_get, slice_set, option_map, ◌==◌, if◌then◌else◌}
use Rattle.micro_isa.specs.declared.instr.Instr.{Instr}
use Rattle.micro_isa.specs.declared.instr.Instr.TheVariants.{Li, Mov, Alu, Div, Ctx, Jmp, Branch}
use Rattle.micro_isa.specs.declared.image.PReg.{PReg}
use Rattle.micro_isa.specs.declared.image.Word.{Word}
use Rattle.micro_isa.specs.Arithmetic.{quotient_of}
use Rattle.micro_isa.specs.Columns.{written_by}
use Rattle.micro_isa.specs.Formed.{Each}
use Rattle.semantics.specs.declared.Change.{Change}
use Rattle.semantics.specs.declared.Change.TheVariants.{Nothing, Register}
use Rattle.semantics.specs.declared.Stopped.{Stopped}
use Rattle.semantics.specs.declared.Effect.{Effect}
use Rattle.semantics.specs.Effects.{SavedContext, divided, effect_of}
use Rattle.semantics.specs.Stretches.{ActiveContext, changed, after, received, effect_at, uncounted_on, uncounted, landed, settled, going_on, counted_from, stretch}
use Rattle.semantics.specs.Machine.{numbered_word, machine_kind}
use Rattle.semantics.proofs.Waiting.{get-set_other}

-- a context that runs on the file
abbrev pub Ran : Type 0
Ran = ActiveContext PReg (List ℕ)

-- registers that do not pass are as they were
abbrev pub Keeps : (ℕ → Bool) → List ℕ → List ℕ → Type 0
Keeps may before after = (q : ℕ) → may q ≡ false → slice_get after q ≡ slice_get before q

-- a register, if any, passes
abbrev pub passes : (ℕ → Bool) → Option PReg → Bool
passes may None = true
passes may (Some r) = may r.0

-- since a configuration with this file other registers are as they were, and a completion will write one that passes
pub record IsConfined (may : ℕ → Bool) (before : List ℕ) (x : Ran) : Type 0 where
  pub keeps : Keeps may before x.values
  pub pending : passes may x.kept.pending ≡ true

abbrev ChangePasses : (ℕ → Bool) → Change PReg → Type 0
ChangePasses may Nothing = Unit {0}
ChangePasses may (Register to value) = may to.0 ≡ true

abbrev StopPasses : (ℕ → Bool) → Option (Stopped PReg) → Type 0
StopPasses may None = Unit {0}
StopPasses may (Some s) = passes may s.pending ≡ true

-- an effect writes, now or at its completion, a register that passes
record EffectPasses (may : ℕ → Bool) (e : Effect PReg) : Type 0 where
  change : ChangePasses may e.change
  stopped : StopPasses may e.stopped

keeps_set : (may : ℕ → Bool) (before file : List ℕ) (r v : ℕ) → may r ≡ true → Keeps may before file → Keeps may before (slice_set file r v)
keeps_set may before file r v passed was q fails =
    get-set_other file r q v (λ same. let e : may q ≡ may r = ap may same in cc) ∙ was q fails

change_keeps : (may : ℕ → Bool) (before : List ℕ) (x : Ran) (ch : Change PReg) → ChangePasses may ch → IsConfined may before x → IsConfined may before (changed machine_kind ch x)
change_keeps may before x Nothing passed was = was
change_keeps may before x (Register to value) passed was =
    record { keeps = keeps_set may before x.values to.0 value passed was.keeps; pending = was.pending }

after_keeps : (may : ℕ → Bool) (before : List ℕ) (x : Ran) (e : Effect PReg) → EffectPasses may e → IsConfined may before x → IsConfined may before (after machine_kind e x)
after_keeps may before x e passed was =
    let now = change_keeps may before x e.change passed.change was in
    record { keeps = now.keeps; pending = now.pending }

quotient_passes : (may : ℕ → Bool) (q : Option ℕ) (to : PReg) (line at : ℕ) → may to.0 ≡ true → EffectPasses may (divided q to line at)
quotient_passes may None to line at passed = record { change = tt; stopped = refl }
quotient_passes may (Some v) to line at passed = record { change = passed; stopped = tt }

effect_passes : (may : ℕ → Bool) (c line : ℕ) (i : Instr PReg) (read : PReg → ℕ) (memory : List ℕ) (k : SavedContext PReg) → passes may (written_by i) ≡ true → EffectPasses may (effect_of c line i read memory k)
effect_passes may c line (Li to n) read memory k passed = record { change = passed; stopped = tt }
effect_passes may c line (Mov to from) read memory k passed = record { change = passed; stopped = tt }
effect_passes may c line (Alu op to a b) read memory k passed = record { change = passed; stopped = tt }
effect_passes may c line (Div op to a b) read memory k passed =
    quotient_passes may (quotient_of op (read a) (read b)) to line k.at passed
effect_passes may c line (Ctx to) read memory k passed = record { change = passed; stopped = tt }
effect_passes may c line (Jmp target) read memory k passed = record { change = tt; stopped = tt }
effect_passes may c line (Branch test a b target) read memory k passed = record { change = tt; stopped = tt }
effect_passes may c line _ read memory k passed = record { change = tt; stopped = passed }

module _ (may : ℕ → Bool) (before : List ℕ) (c : ℕ) (memory : List ℕ) where
  abbrev Goes : Ran → Type 0
  Goes x = IsConfined may before x

  either : (b : Bool) (y z : Ran) → Goes y → Goes z → Goes (if b then y else z)
  either true y z first second = first
  either false y z first second = second

  word_passes : (o : Option Word) (x : Ran) → ((w : Word) → o ≡ Some w → passes may (written_by w.instr) ≡ true) → EffectPasses may (effect_at machine_kind c memory (option_map numbered_word o) x)
  word_passes None x passed = record { change = tt; stopped = refl }
  word_passes (Some w) x passed = effect_passes may c w.line w.instr _ memory x.kept (passed w refl)

  -- words that are not counted
  uncounted_goes : (rest jump : Ran → Ran) (x : Ran) (e : Effect PReg) (o : Option (Stopped PReg)) → ((y : Ran) → Goes y → Goes (rest y)) → ((y : Ran) → Goes y → Goes (jump y)) → EffectPasses may e → Goes x → Goes (uncounted_on machine_kind c memory rest jump x e o)
  uncounted_goes rest jump x e (Some s) goes jumps passed was = was
  uncounted_goes rest jump x e None goes jumps passed was =
      let now = after_keeps may before x e passed was in
      either (e.next == x.kept.at + 1) (rest (after machine_kind e x)) (jump (after machine_kind e x)) (goes _ now) (jumps _ now)

  all_uncounted : (jump : Ran → Ran) (ws : List Word) (x : Ran) → ((y : Ran) → Goes y → Goes (jump y)) → Each ws (λ w. passes may (written_by w.instr) ≡ true) → Goes x → Goes (uncounted machine_kind c memory jump ws x)
  all_uncounted jump [] x jumps passed was = was
  all_uncounted jump (w ∷ ws) x jumps passed was =
      let e : Effect PReg = effect_at machine_kind c memory (Some (numbered_word w)) x in
      either w.counted x _ was
      (uncounted_goes (uncounted machine_kind c memory jump ws) jump x e e.stopped (λ y now. all_uncounted jump ws y jumps (λ i v is. passed (suc i) v is) now) jumps (word_passes (Some w) x (λ v is. passed zero v is)) was)

  each_dropped : {P : Word → Type 0} (n : ℕ) (ws : List Word) → Each ws P → Each (drop n ws) P
  each_dropped zero ws each = each
  each_dropped (suc n) [] each = each
  each_dropped (suc n) (w ∷ ws) each = each_dropped n ws (λ i v is. each (suc i) v is)

  module _ (ws : List Word) (passed : Each ws (λ w. passes may (written_by w.instr) ≡ true)) where
    settled_goes : (x : Ran) → Goes x → Goes (settled machine_kind c memory ws x)
    settled_goes x was =
        all_uncounted (landed machine_kind c memory ws) (drop x.kept.at ws) x (λ y now. all_uncounted (λ z. z) (drop y.kept.at ws) y (λ z done. done) (each_dropped y.kept.at ws passed) now) (each_dropped x.kept.at ws passed) was

    -- counted words
    going : (n : ℕ) (x : Ran) (o : Option (Stopped PReg)) → StopPasses may o → ((y : Ran) → Goes y → Goes (counted_from machine_kind c memory ws n (settled machine_kind c memory ws y)).state) → Goes x → Goes (going_on (λ y. counted_from machine_kind c memory ws n (settled machine_kind c memory ws y)) x o).state
    going n x None stops goes was = goes x was
    going n x (Some s) stops goes was = record { keeps = was.keeps; pending = stops }

    counts : (n : ℕ) (x : Ran) → Goes x → Goes (counted_from machine_kind c memory ws n x).state
    counts zero x was = was
    counts (suc n) x was =
        let e : Effect PReg = effect_at machine_kind c memory (option_map numbered_word (slice_get ws x.kept.at)) x in
        let passes : EffectPasses may e = word_passes (slice_get ws x.kept.at) x (λ w is. passed x.kept.at w is) in
        going n (after machine_kind e x) e.stopped passes.stopped (λ y now. counts n (settled machine_kind c memory ws y) (settled_goes y now)) (after_keeps may before x e passes was)

    pub stretch_confined : (n : ℕ) (x : Ran) → Goes x → Goes (stretch machine_kind c memory ws n x).state
    stretch_confined n x was = counts n (settled machine_kind c memory ws x) (settled_goes x was)

-- a completion
pub received_confined : (may : ℕ → Bool) (x : Ran) (o : Option PReg) (word : Option ℕ) → x.kept.pending ≡ o → passes may o ≡ true → IsConfined may x.values (received machine_kind o word x)
received_confined may x (Some r) (Some v) is passed =
    record { keeps = keeps_set may x.values x.values r.0 v passed (λ q fails. refl); pending = refl }
received_confined may x (Some r) None is passed = record { keeps = λ q fails. refl; pending = ap (passes may) is ∙ passed }
received_confined may x None word is passed = record { keeps = λ q fails. refl; pending = ap (passes may) is ∙ passed }
