-- A turn of the context that is next is a move in round order.
use Rattle.std.proofs.Common.{◌≡◌, ℕ, ◌<◌, List, [], ◌∷◌, ◌++◌, length, Option, Some, None, Bool, true, false, refl, sym, ap, ◌∙◌, subst}
use Rattle.std.specs.Prelude.{option_map, if◌then◌else◌}
use Rattle.std.proofs.lemmas.Option.{same_Some}
use Rattle.micro_isa.specs.declared.program.Channel.{Channel}
use Rattle.world.specs.declared.event.Entry.{Entry}
use Rattle.world.specs.declared.event.Entry.TheVariants as entry
use Rattle.world.specs.declared.event.Event.TheVariants.{Run}
use Rattle.world.specs.declared.event.SegmentEnd.{SegmentEnd}
use Rattle.world.specs.declared.event.SegmentEnd.TheVariants as end
use Rattle.world.specs.declared.event.Segment.{Segment}
use Rattle.world.specs.declared.event.Seen.TheVariants as seen
use Rattle.world.specs.declared.event.Output.{Output}
use Rattle.world.specs.WorldState.{WorldState, is_plugged}
use Rattle.semantics.specs.Core.{Core, is_runnable, ending_of}
use Rattle.semantics.specs.Events.{Semantics, Config, fire}
use Rattle.semantics.specs.Entries.{entry_seen, LeadsTo}
use Rattle.semantics.specs.Machine.{Machine, machine_semantics}
use Rattle.semantics.specs.Rounds.{next_in_round}
use Rattle.semantics.specs.Moves.{Turn, entries_of, last_of, LostBy}
use Rattle.semantics.proofs.Moves.{last_of-append}
use Rattle.engine_core.specs.EngineState.{config_of}
use Rattle.ports.specs.SlotsState.{SlotsState}
use Rattle.run_journal.specs.declared.answers.Delivery.{Delivery}
use Rattle.run_journal.specs.declared.answers.TurnAnswer.{TurnAnswer}
use Rattle.run_journal.specs.declared.answers.TurnAnswer.TheVariants as turn
use Rattle.run_journal.specs.Turning.{delivery, loses, LeftBy, Delivers}
use Rattle.run_journal.specs.Parts.{Advanced}
use Rattle.run_journal.specs.Histories.{RunState, channels_of}
use Rattle.run_journal.specs.Keeping.{port_at}
use Rattle.run_journal.specs.Turns.{ready_answer, open_answer, turn_answer, TurnDid, TurnLowers, to_come}
use Rattle.context_runner.specs.Moving.{Moved}
use Rattle.context_runner.specs.Sharing.{lost_at, OwnOf}

-- what a turn lost, if anything, by its segment
record Lost (s : Segment) (lost : List Entry) : Type 0 where
  channel : Option ℕ
  by : LostBy (seen.Ran s) channel
  entries : lost ≡ lost_at channel

left_at : (b : Bool) (before after : Core) (s s' : SlotsState) (d : Delivery) (seg : Segment) (lost : List Entry) → option_map (λ o. o.channel) seg.sent ≡ Some d.channel → LeftBy b before after s s' d lost → Lost seg lost
left_at true before after s s' d seg lost on left = record { channel = Some d.channel; by = on; entries = left.2 }
left_at false before after s s' d seg lost on left = record { channel = None; by = tt; entries = left.2 }

channel_by : (chs : List Channel) (w : WorldState) (o : Output) (d : Delivery) (b : Bool) (port : Option ℕ) → (if b then option_map (λ j. record { channel = o.channel; port = j; word = o.word }) port else None) ≡ Some d → o.channel ≡ d.channel
channel_by chs w o d true None h = absurd (cc)
channel_by chs w o d true (Some j) h = ap (λ (x : Delivery). x.channel) (same_Some _ d h)
channel_by chs w o d false port h = absurd (cc)

-- what is delivered was put out on its channel
delivered_on : (chs : List Channel) (w : WorldState) (sent : Option Output) (d : Delivery) → delivery chs w sent ≡ Some d → option_map (λ o. o.channel) sent ≡ Some d.channel
delivered_on chs w None d h = absurd (cc)
delivered_on chs w (Some o) d h = ap Some (channel_by chs w o d (is_plugged w o.channel) (port_at chs o.channel) h)

-- a turn loses one port at most, that of the word that its segment put out
lost_by : (chs : List Channel) (w : WorldState) (seg : Segment) (o : Option Delivery) (before after : Core) (s s' : SlotsState) (lost : List Entry) → delivery chs w seg.sent ≡ o → Delivers o before after s s' lost → Lost seg lost
lost_by chs w seg None before after s s' lost is did = record { channel = None; by = tt; entries = did.2 }
lost_by chs w seg (Some d) before after s s' lost is did =
    left_at (loses did.answer before.over) before after s s' d seg lost (delivered_on chs w seg.sent d is) did.left

lost_is : (r r' : RunState) (s s' : SlotsState) (c : ℕ) (e : Entry) → (did : Advanced r.engine r'.engine r.entries r'.entries s s' c e) → Lost did.segment did.lost
lost_is r r' s s' c e did =
    lost_by (channels_of r.engine) did.middle.core.world did.segment (delivery (channels_of r.engine) did.middle.core.world did.segment.sent) did.middle.core r'.engine.core s s' did.lost refl did.delivers

-- an unplugging is no turn
lost_last : (c : ℕ) (o : Option ℕ) → last_of (Some c) (lost_at o) ≡ Some c
lost_last c None = refl
lost_last c (Some k) = refl

own_is : (c steps : ℕ) (end : SegmentEnd) (o : Option ℕ) → entry.Ran c steps end ∷ lost_at o ≡ entries_of (Turn c steps end o)
own_is c steps end None = refl
own_is c steps end (Some k) = refl

-- the context that is next has its turn: a segment ran
ran_of : (rules : Semantics Machine) (m : Config Machine) (n c : ℕ) (answer : TurnAnswer) → ending_of m.core ≡ None → is_runnable m.core c ≡ true → answer ≡ turn_answer rules m n c → (e : Entry) × (answer ≡ turn.Ran e)
ran_of rules m n c answer goes can is =
    let e = entry_seen (entry.Ran c 0 end.Bound) (fire rules m (Run c)).1 in
    (e, is ∙ ap (λ o. open_answer o (is_runnable m.core c) e n) goes ∙ ap (λ b. ready_answer b e n) can)

advanced_moves : (r r' : RunState) (s s' : SlotsState) (c : ℕ) (e : Entry) → next_in_round r.engine.core (last_of None r.entries) ≡ Some c → Advanced r.engine r'.engine r.entries r'.entries s s' c e → r'.idle ≡ 0 → Moved r r'
advanced_moves r r' s s' c e next did idle =
    let o = lost_is r r' s s' c e did in
    let own : e ∷ did.lost ≡ entries_of (Turn c did.segment.steps did.segment.end o.channel) =
    ap (λ x. x ∷ did.lost) did.tells ∙ ap (λ l. entry.Ran c did.segment.steps did.segment.end ∷ l) o.entries ∙ own_is c did.segment.steps did.segment.end o.channel
    in record {
      move = Turn c did.segment.steps did.segment.end o.channel;
      entries = did.went.entries ∙ ap (λ l. r.entries ++ l) own;
      may = (next, subst (λ x. LostBy x o.channel) (sym (ap (λ p. p.1) did.ran)) o.by);
      leads = subst (λ l. LeadsTo (machine_semantics r.engine.image) (config_of r.engine) l (config_of r'.engine)) own did.went.leads;
      idle = idle;
    }

pub turn_moves : (answer : TurnAnswer) (r r' : RunState) (s s' : SlotsState) (c : ℕ) → ending_of r.engine.core ≡ None → is_runnable r.engine.core c ≡ true → next_in_round r.engine.core (last_of None r.entries) ≡ Some c → answer ≡ turn_answer (machine_semantics r.engine.image) (config_of r.engine) (length r.entries) c → TurnDid answer r r' s s' c → Moved r r'
turn_moves answer r r' s s' c goes can next is did =
    let ran = ran_of (machine_semantics r.engine.image) (config_of r.engine) (length r.entries) c answer goes can is in
    let d = subst (λ a. TurnDid a r r' s s' c) ran.1 did in
    advanced_moves r r' s s' c ran.0 next d.0 d.1

pub turn_lowers : (answer : TurnAnswer) (r r' : RunState) (c : ℕ) → ending_of r.engine.core ≡ None → is_runnable r.engine.core c ≡ true → answer ≡ turn_answer (machine_semantics r.engine.image) (config_of r.engine) (length r.entries) c → TurnLowers answer r r' → to_come r'.engine.core r'.idle < to_come r.engine.core r.idle
turn_lowers answer r r' c goes can is lowers =
    subst (λ a. TurnLowers a r r') (ran_of (machine_semantics r.engine.image) (config_of r.engine) (length r.entries) c answer goes can is).1 lowers

-- the context of a turn is the last that ran
pub turn_last : (answer : TurnAnswer) (r r' : RunState) (s s' : SlotsState) (c : ℕ) → ending_of r.engine.core ≡ None → is_runnable r.engine.core c ≡ true → answer ≡ turn_answer (machine_semantics r.engine.image) (config_of r.engine) (length r.entries) c → TurnDid answer r r' s s' c → last_of None r'.entries ≡ Some c
turn_last answer r r' s s' c goes can is did =
    let ran = ran_of (machine_semantics r.engine.image) (config_of r.engine) (length r.entries) c answer goes can is in
    let d = (subst (λ a. TurnDid a r r' s s' c) ran.1 did).0 in
    let o = lost_is r r' s s' c ran.0 d in
    ap (last_of None) (d.went.entries ∙ ap (λ x. r.entries ++ x ∷ d.lost) d.tells ∙ ap (λ l. r.entries ++ entry.Ran c d.segment.steps d.segment.end ∷ l) o.entries)
    ∙ last_of-append None r.entries _
    ∙ lost_last c o.channel

-- the entries of a turn are that of its segment and of the port that it lost, if any
pub own_of : (r r' : RunState) (s s' : SlotsState) (c : ℕ) (e : Entry) → (did : Advanced r.engine r'.engine r.entries r'.entries s s' c e) → OwnOf (fire (machine_semantics r.engine.image) (config_of r.engine) (Run c)).1 (turn.Ran e) (e ∷ did.lost)
own_of r r' s s' c e did = let o = lost_is r r' s s' c e did in (o.channel, subst (λ x. LostBy x o.channel) (sym (ap (λ p. p.1) did.ran)) o.by, ap (λ l. e ∷ l) o.entries)
