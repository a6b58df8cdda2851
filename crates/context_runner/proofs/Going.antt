-- Moves in round order, one after another.
use Rattle.std.proofs.Common.{◌≡◌, ℕ, ◌<◌, ◌≤◌, List, [], ◌∷◌, ◌++◌, length, Option, Some, None, true, refl, sym, ap, ◌∙◌, subst, append_assoc, arith}
use Rattle.std.specs.List.{flat_map}
use Rattle.std.specs.Prelude.{if◌then◌else◌, ◌==◌}
use Rattle.std.specs.Option.{ForSome, is_some, option_or}
use Rattle.std.proofs.lemmas.Grind.{flat_map-append}
use Rattle.std.proofs.lemmas.List.{append-nil}
use Rattle.micro_isa.specs.declared.limits.TheConstants.{MOST_CONTEXTS}
use Rattle.semantics.specs.Entries.{LeadsTo}
use Rattle.semantics.specs.Machine.{machine_semantics}
use Rattle.semantics.specs.Moves.{entries_of, last_of, round_behind, MayCome, RoundsTo}
use Rattle.semantics.proofs.Moves.{rounds_more, last_of-append, last_behind, last_there}
use Rattle.engine_core.specs.EngineState.{config_of}
use Rattle.ports.specs.declared.told.Told.{Told}
use Rattle.ports.specs.SlotsState.{SlotsState}
use Rattle.run_journal.specs.Keeping.{PortsKept}
use Rattle.run_journal.specs.Turning.{Fits}
use Rattle.run_journal.specs.Histories.{RunState, IsHistory, IsIdle, run_ending, bound_of, channels_of}
use Rattle.world.specs.declared.event.End.{End}
use Rattle.world.specs.declared.event.End.TheVariants as ending
use Rattle.world.specs.declared.event.Entry.{Entry}
use Rattle.world.specs.declared.event.Entry.TheVariants as entry
use Rattle.semantics.specs.Core.{Core, ending_of}
use Rattle.context_runner.specs.Endings.{round_at, WentInRounds, Brought}
use Rattle.context_runner.specs.Moving.{context_of, Moved, Stays, IsLast, MovedTo}

-- the last context that ran after a move
pub last_moved : (r r' : RunState) → (did : Moved r r') → last_of None r'.entries ≡ (round_behind (round_at r) did.move).last
last_moved r r' did =
    ap (last_of None) did.entries
    ∙ last_of-append None r.entries (entries_of did.move)
    ∙ sym (last_behind (machine_semantics r.engine.image) (config_of r.engine) (round_at r) did.move did.may)

round_moved : (r r' : RunState) → (did : Moved r r') → round_behind (round_at r) did.move ≡ round_at r'
round_moved r r' did = λ i. record { last = sym (last_moved r r' did) i; idle = sym did.idle i }

-- no move yet
pub went_nowhere : (r : RunState) → WentInRounds r r
went_nowhere r = record { moves = []; entries = sym (append-nil r.entries); order = (refl, refl) }

-- one move more
pub went_more : (first r r' : RunState) → r.engine.image ≡ first.engine.image → WentInRounds first r → Moved r r' → WentInRounds first r'
went_more first r r' image so did =
    let leads = subst (λ m. LeadsTo (machine_semantics m) (config_of r.engine) (entries_of did.move) (config_of r'.engine)) image did.leads in
    let may = subst (λ m. MayCome (machine_semantics m) (config_of r.engine) (round_at r) did.move) image did.may in
    let more = rounds_more (machine_semantics first.engine.image) (config_of first.engine) (config_of r.engine) (config_of r'.engine) (round_at first) (round_at r) so.moves did.move so.order may leads in
    record {
      moves = so.moves ++ did.move ∷ [];
      entries = did.entries
          ∙ ap (λ l. l ++ entries_of did.move) so.entries
          ∙ append_assoc first.entries (flat_map entries_of so.moves) (entries_of did.move)
          ∙ ap (λ l. first.entries ++ l) (ap (λ l. flat_map entries_of so.moves ++ l) (sym (append-nil (entries_of did.move))) ∙ sym (flat_map-append entries_of so.moves (did.move ∷ [])));
      order = subst (λ x. RoundsTo (machine_semantics first.engine.image) (config_of first.engine) (round_at first) (so.moves ++ did.move ∷ []) (config_of r'.engine) x) (round_moved r r' did) more;
    }

-- the last context that ran is one of the engine's
pub last_is : (r : RunState) (n : ℕ) (last : Option ℕ) → IsHistory r.engine r.entries → n ≡ length r.engine.core.phases → n ≤ MOST_CONTEXTS → last ≡ last_of None r.entries → IsLast r last
last_is r n last h is few same = record { is = same; small = λ c one. go c (there c (sym same ∙ one)) }
  where
    there : ForSome (last_of None r.entries) (λ c. c < length r.engine.core.phases)
    there = last_there (machine_semantics r.engine.image) _ (config_of r.engine) None r.entries h.legal (λ c none. absurd (cc))

    go : (c : ℕ) → c < length r.engine.core.phases → c < MOST_CONTEXTS
    go c lt = omega (arith, lt, is, few)

-- before the first move
pub moved_start : (r : RunState) (s : SlotsState) (last : Option ℕ) → Fits (channels_of r.engine) r.engine.core.world s → IsLast r last → MovedTo r r s s last
moved_start r s last fits is = record {
  went = went_nowhere r;
  stays = record { image = refl; bound = refl; bench = λ start b. b };
  fits = fits;
  latest = is;
}

pub moved_more : (first r r' : RunState) (s0 s s' : SlotsState) (last last' : Option ℕ) → MovedTo first r s0 s last → Moved r r' → Stays r r' s s' → Fits (channels_of r'.engine) r'.engine.core.world s' → IsLast r' last' → MovedTo first r' s0 s' last'
moved_more first r r' s0 s s' last last' so did stays fits is = record {
  went = went_more first r r' so.stays.image so.went did;
  stays = record {
    image = stays.image ∙ so.stays.image;
    bound = stays.bound ∙ so.stays.bound;
    bench = λ start b. stays.bench start (so.stays.bench start b);
  };
  fits = fits;
  latest = is;
}

some_end : (o : Option End) → true ≡ is_some o → (how : End) × (o ≡ Some how)
some_end None h = absurd (cc)
some_end (Some how) h = (how, refl)

-- moves that came to an ending
pub brought_is : (first r : RunState) (s0 s : SlotsState) (last : Option ℕ) → MovedTo first r s0 s last → IsHistory r.engine r.entries → IsIdle r.engine.core r.idle → true ≡ is_some (run_ending r.engine.core r.idle) → Brought true first r
brought_is first r s0 s last so known quiet over =
    let e = some_end (run_ending r.engine.core r.idle) over in
    record {
      image = so.stays.image;
      bound = so.stays.bound;
      known = known;
      quiet = quiet;
      begins = (flat_map entries_of so.went.moves, sym so.went.entries);
      order = λ in_rounds. so.went;
      how = e.0;
      ended = e.1;
    }

-- the entry at the end of a list
last_one : (l : Option ℕ) (es : List Entry) (e : Entry) → last_of l (es ++ e ∷ []) ≡ option_or (context_of e) (last_of l es)
last_one l es (entry.Ran c steps end) = last_of-append l es _
last_one l es (entry.Fed k word) = last_of-append l es _
last_one l es (entry.Unplugged k) = last_of-append l es _

pub last_ran : (es rest : List Entry) (e : Entry) (c : ℕ) → es ≡ rest ++ e ∷ [] → Some c ≡ context_of e → Some c ≡ last_of None es
last_ran es rest e c parts is = ap (λ o. option_or o (last_of None rest)) is ∙ sym (ap (last_of None) parts ∙ last_one None rest e)

pub last_other : (es rest : List Entry) (e : Entry) → es ≡ rest ++ e ∷ [] → None ≡ context_of e → last_of None rest ≡ last_of None es
last_other es rest e parts is = ap (λ o. option_or o (last_of None rest)) is ∙ sym (ap (last_of None) parts ∙ last_one None rest e)

-- the last context that ran after a turn and after a pump
pub last_after : (r r' : RunState) (last last' : Option ℕ) → IsLast r last → last' ≡ last_of None r'.entries → ForSome last' (λ c. c < MOST_CONTEXTS) → IsLast r' last'
last_after r r' last last' so is small = record { is = is; small = small }

pub not_over : (core : Core) (idle : ℕ) → run_ending core idle ≡ None → ending_of core ≡ None
not_over core idle h = by (ending_of core) refl h
  where
    by : (o : Option End) → ending_of core ≡ o → option_or o (if idle == 1000 then Some ending.Idle else None) ≡ None → o ≡ None
    by None e h = refl
    by (Some end) e h = absurd (cc)

pub stays_is : (r r' : RunState) (s s' : SlotsState) → r'.engine.image ≡ r.engine.image → bound_of r'.engine ≡ bound_of r.engine → Fits (channels_of r'.engine) r'.engine.core.world s' → ((start : List Told) → PortsKept (channels_of r.engine) r.entries r.engine.core r.idle start s.told → PortsKept (channels_of r'.engine) r'.entries r'.engine.core r'.idle start s'.told) → Stays r r' s s'
stays_is r r' s s' image bound fits kept = record {
  image = image;
  bound = bound;
  bench = λ start b. record { fits = fits; kept = kept start b.kept };
}
