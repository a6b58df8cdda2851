-- Where each edge of an instruction does its moves, its counted word does what the instruction does.
use Rattle.std.proofs.Common.{◌≡◌, ℕ, ◌+◌, ◌<◌, List, Option, Some, None, Bool, true, false, refl, sym, ap, ◌∙◌, subst, length-set, get_or-set_same, get_or-set_other, inr}
use Rattle.std.specs.Prelude.{slice_get, slice_set, slice_index, option_map, ◌==◌, if◌then◌else◌}
use Rattle.std.proofs.lemmas.Bool.{eqb-false}
use Rattle.micro_isa.specs.declared.instr.Instr.{Instr}
use Rattle.micro_isa.specs.declared.instr.Instr.TheVariants.{Li, Mov, Alu, Div, Ctx, Jmp, Branch, Load, Store, Yield, Recv, Send, Halt}
use Rattle.micro_isa.specs.declared.program.VReg.{VReg}
use Rattle.micro_isa.specs.declared.program.Line.{Line}
use Rattle.micro_isa.specs.declared.image.PReg.{PReg}
use Rattle.micro_isa.specs.declared.image.Word.{Word}
use Rattle.micro_isa.specs.Columns.{reads_in, written_by, switches_at, next_of}
use Rattle.micro_isa.specs.Arithmetic.{alu_of, test_of, quotient_of}
use Rattle.semantics.specs.declared.SegmentExit.{SegmentExit}
use Rattle.semantics.specs.declared.SegmentExit.TheVariants as stop
use Rattle.semantics.specs.declared.Change.TheVariants.{Nothing, Register}
use Rattle.semantics.specs.Effects.{onward, stops, divided, effect_of}
use Rattle.semantics.specs.Stretches.{Numbered, at_place, settled, numbered_at, effect_at, effect_here}
use Rattle.semantics.specs.Source.{SourceContext, source_kind, put}
use Rattle.semantics.specs.Machine.{read_in, machine_kind}
use Rattle.semantics.specs.Core.{is_cut}
use Rattle.semantics.proofs.Waiting.{FitsStop}
use Rattle.emitted.specs.Words.{reword}
use Rattle.emitted.proofs.Glue.{OnFile}
use Rattle.emitted.proofs.Standing.{kept_in, preg, Laid, after_of, IsOther, Arrives, edge_arrives, Way, kept_by_write}
use Rattle.emitted.proofs.Follow.{MatchesEffects, Carries}

-- the word of an instruction of the source
abbrev pub reworded : (VReg → PReg) → PReg → (ℕ → ℕ) → Line → Numbered PReg
reworded f g t l = record { instr = reword f g t l.instr; line = l.line; counted = true }

module _ (p : Laid) (size : ℕ) (words : List Word) (reg : ℕ → PReg) (tgt : ℕ → ℕ → ℕ) where
  abbrev pub Falls : ℕ → Option VReg → Type 0
  Falls i w = Way p size words reg i w (p.addr i + 1) (i + 1)

  -- what lives on over a switch is in registers of the context's own
  abbrev pub Own : ℕ → Option VReg → Type 0
  Own i w = (v : VReg) → p.live (i + 1) v → IsOther w v → p.live i v × p.mine (p.loc i v)

  pub record Rests (i : ℕ) (w : Option VReg) : Type 0 where
    pub way : Falls i w
    pub own : Own i w

  -- what an instruction reads is live, and each way from it does the moves of its edge, at once or behind a switch
  pub record Planned (i : ℕ) (o : Instr VReg) : Type 0 where
    pub first : (v : VReg) → (reads_in o).first ≡ Some v → p.live i v
    pub second : (v : VReg) → (reads_in o).second ≡ Some v → p.live i v
    pub fall : (next_of o i).fall ≡ Some (i + 1) → Falls i (written_by o)
    pub jump : (j : ℕ) → (next_of o i).jump ≡ Some j → Way p size words reg i (written_by o) (tgt i j) j
    pub rests : switches_at o ≡ true → (next_of o i).fall ≡ Some (i + 1) → Rests i (written_by o)

  abbrev place_of : ℕ → VReg → PReg
  place_of i v = preg (p.loc i v)

  -- the words stand for the code, and each edge does its moves
  pub record AllPlanned (code : List Line) : Type 0 where
    pub some : (i : ℕ) → i < p.count → (l : Line) × (slice_get code i ≡ Some l)
    pub word : (i : ℕ) (l : Line) → slice_get code i ≡ Some l → numbered_at machine_kind words (p.addr i) ≡ Some (reworded (place_of i) (preg (p.write i)) (tgt i) l)
    pub each : (i : ℕ) (l : Line) → slice_get code i ≡ Some l → Planned i l.instr

  -- the context of the image that stands at the instruction of x, over this file
  abbrev on : SourceContext → List ℕ → OnFile
  on x file = record { kept = kept_in (p.addr x.kept.at) (preg (p.write x.kept.at)) x.kept; values = file }

  module _ (c : ℕ) (memory : List ℕ) (x : SourceContext) (before file : List ℕ) (a : Arrives p size x before (on x file)) where
    abbrev w : PReg
    w = preg (p.write x.kept.at)

    read : (v : VReg) → p.live x.kept.at v → read_in file (preg (p.loc x.kept.at v)) ≡ x.values v
    read v l = a.agree v l

    goes_on : (j at : ℕ) → Way p size words reg x.kept.at None at j → Arrives p size (at_place j x) file (settled machine_kind c memory words (at_place at (on x file)))
    goes_on j at way =
        edge_arrives p size words reg at (p.loc x.kept.at) way.ss (at_place j x) way.edge a.none c memory (on x file).kept (p.addr x.kept.at) w refl file file a.long (λ r l. a.agree r (way.flow r l)) (λ q nf. refl)

    writes_on : (to : VReg) (v u : ℕ) → u ≡ v → Falls x.kept.at (Some to) → MatchesEffects p size words reg c memory x (on x file) (onward (Register to v) (x.kept.at + 1)) (onward (Register w u) (p.addr x.kept.at + 1))
    writes_on to v u e way =
        subst (λ n. MatchesEffects p size words reg c memory x (on x file) (onward (Register to v) (x.kept.at + 1)) (onward (Register w n) (p.addr x.kept.at + 1))) (sym e)
        (edge_arrives p size words reg (p.addr x.kept.at + 1) (after_of (p.loc x.kept.at) (p.write x.kept.at) (Some to)) way.ss (record { kept = record x.kept { at = x.kept.at + 1 }; values = put x.values to v }) way.edge a.none c memory (on x file).kept (p.addr x.kept.at) w refl (slice_set file (p.write x.kept.at) v) file (length-set file (p.write x.kept.at) v ∙ a.long) (λ r l. got r l (r.0 == to.0) refl) (λ q nf. kept_by_write p.free file (p.write x.kept.at) v q way.flow.0 nf))
      where
        got : (r : VReg) → p.live (x.kept.at + 1) r → (b : Bool) → (r.0 == to.0) ≡ b → slice_index (slice_set file (p.write x.kept.at) v) (if b then p.write x.kept.at else p.loc x.kept.at r) ≡ (if b then v else x.values r)
        got r l true is = get_or-set_same file (p.write x.kept.at) v 0 (subst (λ n. p.write x.kept.at < n) (sym a.long) way.flow.1)
        got r l false is =
            let f = way.flow.2 r l (eqb-false r.0 to.0 is) in
            get_or-set_other file (p.write x.kept.at) (p.loc x.kept.at r) v 0 f.1 ∙ a.agree r f.0

    -- a stop behind which the context waits
    rests : (why why' : SegmentExit) (pending : Option VReg) → why ≡ why' → is_cut why ≡ false → FitsStop why pending → Rests x.kept.at pending → MatchesEffects p size words reg c memory x (on x file) (stops why pending (x.kept.at + 1)) (stops why' (option_map (λ v. w) pending) (p.addr x.kept.at + 1))
    rests why why' pending same goes fits rest = (
      same,
      goes,
      fits,
      refl,
      λ lives. inr (
        x.kept.at,
        record {
          place = refl;
          kept = refl;
          way = rest.way;
          values = λ v l o. let k = rest.own v l o in (k.1, a.agree v k.0);
        },
      ),
    )

    divides : (q q' : Option ℕ) → q' ≡ q → (to : VReg) (line : ℕ) → Falls x.kept.at (Some to) → MatchesEffects p size words reg c memory x (on x file) (divided q to line x.kept.at) (divided q' w line (p.addr x.kept.at))
    divides q q' e to line way =
        subst (λ o. MatchesEffects p size words reg c memory x (on x file) (divided q to line x.kept.at) (divided o w line (p.addr x.kept.at))) (sym e) (by q)
      where
        by : (o : Option ℕ) → MatchesEffects p size words reg c memory x (on x file) (divided o to line x.kept.at) (divided o w line (p.addr x.kept.at))
        by None = (refl, refl, tt, refl, λ lives. absurd (cc))
        by (Some u) = writes_on to u u refl way

    branches : (b b' : Bool) → b' ≡ b → (target to : ℕ) → Falls x.kept.at None → Way p size words reg x.kept.at None to target → MatchesEffects p size words reg c memory x (on x file) (onward Nothing (if b then target else x.kept.at + 1)) (onward Nothing (if b' then to else p.addr x.kept.at + 1))
    branches b b' e target to fall jump =
        subst (λ o. MatchesEffects p size words reg c memory x (on x file) (onward Nothing (if b then target else x.kept.at + 1)) (onward Nothing (if o then to else p.addr x.kept.at + 1))) (sym e) (by b)
      where
        by : (o : Bool) → MatchesEffects p size words reg c memory x (on x file) (onward Nothing (if o then target else x.kept.at + 1)) (onward Nothing (if o then to else p.addr x.kept.at + 1))
        by true = goes_on target to jump
        by false = goes_on (x.kept.at + 1) (p.addr x.kept.at + 1) fall

    matches : (line : ℕ) (o : Instr VReg) → Planned x.kept.at o → MatchesEffects p size words reg c memory x (on x file) (effect_of c line o x.values memory x.kept) (effect_of c line (reword (place_of x.kept.at) w (tgt x.kept.at) o) (read_in file) memory (on x file).kept)
    matches line (Li to n) k = writes_on to n n refl (k.fall refl)
    matches line (Mov to from) k = writes_on to (x.values from) (read_in file (place_of x.kept.at from)) (read from (k.first from refl)) (k.fall refl)
    matches line (Alu op to d e) k =
        writes_on to (alu_of op (x.values d) (x.values e)) (alu_of op (read_in file (place_of x.kept.at d)) (read_in file (place_of x.kept.at e))) (λ j. alu_of op (read d (k.first d refl) j) (read e (k.second e refl) j)) (k.fall refl)
    matches line (Div op to d e) k =
        divides (quotient_of op (x.values d) (x.values e)) (quotient_of op (read_in file (place_of x.kept.at d)) (read_in file (place_of x.kept.at e))) (λ j. quotient_of op (read d (k.first d refl) j) (read e (k.second e refl) j)) to line (k.fall refl)
    matches line (Ctx to) k = writes_on to c c refl (k.fall refl)
    matches line (Jmp target) k = goes_on target (tgt x.kept.at target) (k.jump target refl)
    matches line (Branch test d e target) k =
        branches (test_of test (x.values d) (x.values e)) (test_of test (read_in file (place_of x.kept.at d)) (read_in file (place_of x.kept.at e))) (λ j. test_of test (read d (k.first d refl) j) (read e (k.second e refl) j)) target (tgt x.kept.at target) (k.fall refl) (k.jump target refl)
    matches line (Load to address) k =
        rests (stop.Load (x.values address) line) (stop.Load (read_in file (place_of x.kept.at address)) line) (Some to) (sym (ap (λ v. stop.Load v line) (read address (k.first address refl)))) refl tt (k.rests refl refl)
    matches line (Store address from) k =
        rests (stop.Store (x.values address) (x.values from) line) (stop.Store (read_in file (place_of x.kept.at address)) (read_in file (place_of x.kept.at from)) line) None (sym (λ j. stop.Store (read address (k.first address refl) j) (read from (k.second from refl) j) line)) refl tt (k.rests refl refl)
    matches line Yield k = rests stop.Yield stop.Yield None refl refl tt (k.rests refl refl)
    matches line (Recv to channel) k = rests (stop.Recv channel) (stop.Recv channel) (Some to) refl refl tt (k.rests refl refl)
    matches line (Send channel from) k =
        rests (stop.Send channel (x.values from)) (stop.Send channel (read_in file (place_of x.kept.at from))) None (sym (ap (λ v. stop.Send channel v) (read from (k.first from refl)))) refl tt (k.rests refl refl)
    matches line Halt k = (refl, refl, tt, refl, λ lives. absurd (cc))

  pub carries : (c : ℕ) (memory : List ℕ) (code : List Line) → AllPlanned code → Carries p size words reg c memory code
  carries c memory code planned x before m a =
      let file = m.values in
      let same : on x file ≡ m = λ j. record { kept = sym a.kept j; values = file } in
      let a' : Arrives p size x before (on x file) = subst (Arrives p size x before) (sym same) a in
      let l = planned.some x.kept.at a.within in
      let source : numbered_at source_kind code x.kept.at ≡ Some (record { instr = l.0.instr; line = l.0.line; counted = true }) = ap (option_map source_kind.numbered) l.1 in
      let word = planned.word x.kept.at l.0 l.1 in
      let k = matches c memory x before file a' l.0.line l.0.instr (planned.each x.kept.at l.0 l.1) in
      subst (λ y. MatchesEffects p size words reg c memory x y (effect_here source_kind c memory code x) (effect_here machine_kind c memory words y)) same
      (subst (λ o. MatchesEffects p size words reg c memory x (on x file) (effect_at source_kind c memory o x) (effect_here machine_kind c memory words (on x file))) (sym source)
      (subst (λ o. MatchesEffects p size words reg c memory x (on x file) (effect_at source_kind c memory (Some (record { instr = l.0.instr; line = l.0.line; counted = true })) x) (effect_at machine_kind c memory o (on x file))) (sym word) k))
