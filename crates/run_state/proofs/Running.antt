-- Instructions one after another, over code and registers of any kind.
use Rattle.std.proofs.Common.{◌≡◌, ◌≢◌, ℕ, zero, suc, ◌+◌, ◌<◌, ◌≤◌, List, [], ◌∷◌, drop, Option, Some, None, Bool, true, false, refl, sym, ap, ◌∙◌, arith}
use Rattle.std.specs.Prelude.{slice_get, ◌==◌, if◌then◌else◌}
use Rattle.std.specs.Option.{is_some}
use Rattle.std.proofs.lemmas.Bool.{eq-eqb, ne_eqb}
use Rattle.micro_isa.specs.declared.instr.Instr.{Instr}
use Rattle.micro_isa.specs.declared.instr.Instr.TheVariants.{Li, Mov, Alu, Div, Ctx, Jmp, Branch}
use Rattle.micro_isa.specs.Arithmetic.{quotient_of, test_of}
use Rattle.semantics.specs.declared.Change.{Change}
use Rattle.semantics.specs.declared.Change.TheVariants.{Nothing, Register}
use Rattle.semantics.specs.declared.Stopped.{Stopped}
use Rattle.semantics.specs.declared.Effect.{Effect}
use Rattle.semantics.specs.Effects.{SavedContext, divided, effect_of}
use Rattle.semantics.specs.Stretches.{Kind, ActiveContext, at_place, changed, after, received, effect_of_one, uncounted_on, uncounted_one, uncounted}
use Rattle.run_state.specs.Running.{kind_by, same_line, context_at, written, CanRunOne, StaysWithin}

-- a place after another one within the code
next_within : (size at : ℕ) (b : Bool) (target : ℕ) → at < size → target < size → (if b then target else at + 1) ≤ size
next_within size at true target here there = omega arith
next_within size at false target here there = omega arith

divided_stays : {R : Type 0} (holds : R → Bool) (size at line : ℕ) (q : Option ℕ) (to : R) → at < size → holds to ≡ true → StaysWithin holds size (divided q to line at)
divided_stays holds size at line None to here h = record { change = tt; next = omega arith; pending = tt }
divided_stays holds size at line (Some v) to here h = record { change = h; next = omega arith; pending = tt }

-- what an instruction that can run does stays within its code and the registers that may be written; the last row is that
-- of an instruction that ends the stretch
pub effect_stays : {R : Type 0} (holds : R → Bool) (size : ℕ) (c line : ℕ) (i : Instr R) (read : R → ℕ) (memory : List ℕ) (k : SavedContext R) → k.at < size → CanRunOne holds size i → StaysWithin holds size (effect_of c line i read memory k)
effect_stays holds size c line (Li to n) read memory k here can = record { change = can.written; next = omega arith; pending = tt }
effect_stays holds size c line (Mov to from) read memory k here can = record { change = can.written; next = omega arith; pending = tt }
effect_stays holds size c line (Alu op to a b) read memory k here can = record { change = can.written; next = omega arith; pending = tt }
effect_stays holds size c line (Div op to a b) read memory k here can = divided_stays holds size k.at line (quotient_of op (read a) (read b)) to here can.written
effect_stays holds size c line (Ctx to) read memory k here can = record { change = can.written; next = omega arith; pending = tt }
effect_stays holds size c line (Jmp target) read memory k here can = let there : target < size = can.target in record { change = tt; next = omega arith; pending = tt }
effect_stays holds size c line (Branch test a b target) read memory k here can = record { change = tt; next = next_within size k.at (test_of test (read a) (read b)) target here can.target; pending = tt }
effect_stays holds size c line _ read memory k here can = record { change = tt; next = omega arith; pending = can.written }

module _ {L R V : Type 0} (kind : Kind L R V) where
  -- a change of the values is a change of the context that runs on them
  pub change_made : (values : V) (at next : ℕ) (pending : Option R) (change : Change R) → at_place next (changed kind change (context_at at values pending)) ≡ context_at next (written kind.write values change) pending
  change_made values at next pending Nothing = refl
  change_made values at next pending (Register to value) = refl

module _ {L R V : Type 0} (kind : Kind L R V) (c : ℕ) (memory : List ℕ) (jump : ActiveContext R V → ActiveContext R V) where
  at_line : (ls : List L) (at : ℕ) (x : ActiveContext R V) (l : L) → slice_get ls at ≡ Some l → uncounted kind c memory jump (drop at ls) x ≡ uncounted_one kind c memory (uncounted kind c memory jump (drop (suc at) ls)) jump (kind.numbered l) x
  at_line [] at x l is = absurd (cc)
  at_line (m ∷ ls) zero x l is = let e : m ≡ l = cc in ap (λ k. uncounted_one kind c memory (uncounted kind c memory jump ls) jump (kind.numbered k) x) e
  at_line (m ∷ ls) (suc at) x l is = at_line ls at x l is

  pub after_last : (ls : List L) (at : ℕ) (x : ActiveContext R V) → slice_get ls at ≡ None → uncounted kind c memory jump (drop at ls) x ≡ x
  after_last [] zero x is = refl
  after_last [] (suc at) x is = refl
  after_last (m ∷ ls) zero x is = absurd (cc)
  after_last (m ∷ ls) (suc at) x is = after_last ls at x is

  pub at_counted : (ls : List L) (at : ℕ) (x : ActiveContext R V) (l : L) → slice_get ls at ≡ Some l → (kind.numbered l).counted ≡ true → uncounted kind c memory jump (drop at ls) x ≡ x
  at_counted ls at x l is counted =
      let e : Effect R = effect_of_one kind c memory (kind.numbered l) x in
      at_line ls at x l is ∙ ap (λ b. if b then x else uncounted_on kind c memory (uncounted kind c memory jump (drop (suc at) ls)) jump x e e.stopped) counted

  -- one that is not counted, by what it does
  not_counted : (ls : List L) (at : ℕ) (x : ActiveContext R V) (l : L) (e : Effect R) → slice_get ls at ≡ Some l → (kind.numbered l).counted ≡ false → e ≡ effect_of_one kind c memory (kind.numbered l) x → uncounted kind c memory jump (drop at ls) x ≡ uncounted_on kind c memory (uncounted kind c memory jump (drop (suc at) ls)) jump x e e.stopped
  not_counted ls at x l e is counted does =
      let f : Effect R = effect_of_one kind c memory (kind.numbered l) x in
      at_line ls at x l is
      ∙ ap (λ b. if b then x else uncounted_on kind c memory (uncounted kind c memory jump (drop (suc at) ls)) jump x f f.stopped) counted
      ∙ ap (λ k. uncounted_on kind c memory (uncounted kind c memory jump (drop (suc at) ls)) jump x k k.stopped) (sym does)

  stop_by : (rest : ActiveContext R V → ActiveContext R V) (x : ActiveContext R V) (e : Effect R) (o : Option (Stopped R)) → is_some o ≡ true → uncounted_on kind c memory rest jump x e o ≡ x
  stop_by rest x e None h = absurd (cc)
  stop_by rest x e (Some s) h = refl

  pub at_stop : (ls : List L) (at : ℕ) (x : ActiveContext R V) (l : L) (e : Effect R) → slice_get ls at ≡ Some l → (kind.numbered l).counted ≡ false → e ≡ effect_of_one kind c memory (kind.numbered l) x → is_some e.stopped ≡ true → uncounted kind c memory jump (drop at ls) x ≡ x
  at_stop ls at x l e is counted does stops =
      not_counted ls at x l e is counted does ∙ stop_by (uncounted kind c memory jump (drop (suc at) ls)) x e e.stopped stops

  goes_by : (rest : ActiveContext R V → ActiveContext R V) (x : ActiveContext R V) (e : Effect R) (o : Option (Stopped R)) (b : Bool) → is_some o ≡ false → (e.next == x.kept.at + 1) ≡ b → uncounted_on kind c memory rest jump x e o ≡ (if b then rest (after kind e x) else jump (after kind e x))
  goes_by rest x e (Some s) b h next = absurd (cc)
  goes_by rest x e None b h next = ap (λ k. if k then rest (after kind e x) else jump (after kind e x)) next

  -- one that goes on with the next line
  pub goes_on : (ls : List L) (at : ℕ) (values : V) (pending : Option R) (l : L) (e : Effect R) → slice_get ls at ≡ Some l → (kind.numbered l).counted ≡ false → e ≡ effect_of_one kind c memory (kind.numbered l) (context_at at values pending) → is_some e.stopped ≡ false → e.next ≡ at + 1 → uncounted kind c memory jump (drop at ls) (context_at at values pending) ≡ uncounted kind c memory jump (drop e.next ls) (context_at e.next (written kind.write values e.change) pending)
  goes_on ls at values pending l e is counted does goes next =
      let one : suc at ≡ e.next = omega (arith, next) in
      not_counted ls at (context_at at values pending) l e is counted does
      ∙ goes_by (uncounted kind c memory jump (drop (suc at) ls)) (context_at at values pending) e e.stopped true goes (eq-eqb e.next (at + 1) next)
      ∙ ap (λ n. uncounted kind c memory jump (drop n ls) (after kind e (context_at at values pending))) one
      ∙ ap (uncounted kind c memory jump (drop e.next ls)) (change_made kind values at e.next pending e.change)

  -- one that jumps
  pub jumps : (ls : List L) (at : ℕ) (values : V) (pending : Option R) (l : L) (e : Effect R) → slice_get ls at ≡ Some l → (kind.numbered l).counted ≡ false → e ≡ effect_of_one kind c memory (kind.numbered l) (context_at at values pending) → is_some e.stopped ≡ false → e.next ≢ at + 1 → uncounted kind c memory jump (drop at ls) (context_at at values pending) ≡ jump (context_at e.next (written kind.write values e.change) pending)
  jumps ls at values pending l e is counted does goes next =
      not_counted ls at (context_at at values pending) l e is counted does
      ∙ goes_by (uncounted kind c memory jump (drop (suc at) ls)) (context_at at values pending) e e.stopped false goes (ne_eqb e.next (at + 1) next)
      ∙ ap jump (change_made kind values at e.next pending e.change)

-- the word of a completion, whatever the lines are
pub delivered_alike : {L R V : Type 0} (kind : Kind L R V) (pending : Option R) (word : Option ℕ) (x : ActiveContext R V) → received (kind_by same_line kind.read kind.write) pending word x ≡ received kind pending word x
delivered_alike kind None word x = refl
delivered_alike kind (Some r) None x = refl
delivered_alike kind (Some r) (Some v) x = refl
