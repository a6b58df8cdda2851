-- Moves in round order: one more, what they leave, and the last context that ran.
use Rattle.std.proofs.Common.{◌≡◌, ℕ, ◌+◌, ◌<◌, List, [], ◌∷◌, ◌++◌, length, Option, Some, None, refl, sym, ap, ◌∙◌, subst}
use Rattle.std.specs.List.{flat_map}
use Rattle.std.specs.Option.{ForSome}
use Rattle.std.proofs.lemmas.Bool.{ltb-true}
use Rattle.std.proofs.lemmas.List.{length-set}
use Rattle.std.proofs.lemmas.Option.{same_Some}
use Rattle.world.specs.declared.event.Event.{Event}
use Rattle.world.specs.declared.event.Event.TheVariants.{Run, Feed, Unplug}
use Rattle.world.specs.declared.event.Phase.TheVariants.{Ready}
use Rattle.world.specs.declared.event.Seen.{Seen}
use Rattle.world.specs.declared.event.Entry.{Entry}
use Rattle.world.specs.declared.event.Entry.TheVariants as entry
use Rattle.world.specs.WorldState.{WorldState}
use Rattle.semantics.specs.Events.{Semantics, Config, fire, step}
use Rattle.semantics.specs.Entries.{LeadsTo}
use Rattle.semantics.specs.Moves.{Move, Turn, Pump, entries_of, last_of, Round, round_behind, FromPump, MayCome, RoundsTo}
use Rattle.semantics.proofs.Histories.{leads_append, stepped, may_happen}
use Rattle.semantics.proofs.Waiting.{legal}

-- one move more
pub rounds_more : {X : Type 0} (rules : Semantics X) (m now next : Config X) (r round : Round) (vs : List Move) (v : Move) → RoundsTo rules m r vs now round → MayCome rules now round v → LeadsTo rules now (entries_of v) next → RoundsTo rules m r (vs ++ v ∷ []) next (round_behind round v)
rounds_more rules m now next r round [] v so may leads = (
  next,
  subst (λ x. MayCome rules x r v) (sym so.0) (subst (λ x. MayCome rules now x v) (sym so.1) may),
  subst (λ x. LeadsTo rules x (entries_of v) next) (sym so.0) leads,
  (refl, ap (λ x. round_behind x v) so.1),
)
rounds_more rules m now next r round (x ∷ xs) v so may leads =
    (so.0, so.1, so.2, rounds_more rules so.0 now next (round_behind r x) round xs v so.3 may leads)

-- the entries of moves in round order are legal
pub rounds_lead : {X : Type 0} (rules : Semantics X) (m last : Config X) (r round : Round) (vs : List Move) → RoundsTo rules m r vs last round → LeadsTo rules m (flat_map entries_of vs) last
rounds_lead rules m last r round [] so = so.0
rounds_lead rules m last r round (v ∷ vs) so =
    leads_append rules m so.0 last (entries_of v) (flat_map entries_of vs) so.2 (rounds_lead rules so.0 last (round_behind r v) round vs so.3)

pub last_of-append : (last : Option ℕ) (es fs : List Entry) → last_of last (es ++ fs) ≡ last_of (last_of last es) fs
last_of-append last [] fs = refl
last_of-append last (entry.Ran c steps end ∷ es) fs = last_of-append (Some c) es fs
last_of-append last (entry.Fed k word ∷ es) fs = last_of-append last es fs
last_of-append last (entry.Unplugged k ∷ es) fs = last_of-append last es fs

-- no context runs in a pump
pub pumped_last : (w : WorldState) (k : ℕ) (last : Option ℕ) (es : List Entry) → FromPump w k es → last_of last es ≡ last
pumped_last w k last [] from = refl
pumped_last w k last (entry.Ran c steps end ∷ es) from = absurd from
pumped_last w k last (entry.Fed j word ∷ es) from = pumped_last w (j + 1) last es from.2
pumped_last w k last (entry.Unplugged j ∷ es) from = pumped_last w (j + 1) last es from.2

-- the last context that ran after a move is that of its entries
pub last_behind : {X : Type 0} (rules : Semantics X) (m : Config X) (r : Round) (v : Move) → MayCome rules m r v → (round_behind r v).last ≡ last_of r.last (entries_of v)
last_behind rules m r (Turn c steps end None) may = refl
last_behind rules m r (Turn c steps end (Some k)) may = refl
last_behind rules m r (Pump entries) may = sym (pumped_last m.core.world 0 r.last entries may.3)

-- and so it is after all moves
pub rounds_last : {X : Type 0} (rules : Semantics X) (m last : Config X) (r round : Round) (vs : List Move) → RoundsTo rules m r vs last round → round.last ≡ last_of r.last (flat_map entries_of vs)
rounds_last rules m last r round [] so = sym (ap (λ x. x.last) so.1)
rounds_last rules m last r round (v ∷ vs) so =
    rounds_last rules so.0 last (round_behind r v) round vs so.3
    ∙ ap (λ x. last_of x (flat_map entries_of vs)) (last_behind rules m r v so.1)
    ∙ sym (last_of-append r.last (entries_of v) (flat_map entries_of vs))

phases_by : {X : Type 0} (rules : Semantics X) (m n : Config X) (e : Event) (s : Seen) → fire rules m e ≡ (n, s) → length n.core.phases ≡ length m.core.phases
phases_by rules m n (Run c) s did = sym (ap (λ p. length p.0.core.phases) did) ∙ length-set _ c _ ∙ length-set m.core.phases c Ready
phases_by rules m n (Feed k word) s did = sym (ap (λ p. length p.0.core.phases) did)
phases_by rules m n (Unplug k) s did = sym (ap (λ p. length p.0.core.phases) did)

-- an event leaves as many contexts
pub phases_stay : {X : Type 0} (rules : Semantics X) (m n : Config X) (e : Event) (s : Seen) → step rules m e ≡ Some (n, s) → length n.core.phases ≡ length m.core.phases
phases_stay rules m n e s did = phases_by rules m n e s (stepped rules m n e s did)

few_still : (n n' : ℕ) (last : Option ℕ) → n' ≡ n → ForSome last (λ c. c < n) → ForSome last (λ c. c < n')
few_still n n' last same there c is = subst (λ x. c < x) (sym same) (there c is)

-- the last context that ran is one of the contexts
pub last_there : {X : Type 0} (rules : Semantics X) (m now : Config X) (last : Option ℕ) (es : List Entry) → LeadsTo rules m es now → ForSome last (λ c. c < length m.core.phases) → ForSome (last_of last es) (λ c. c < length now.core.phases)
last_there rules m now last [] leads there = few_still (length m.core.phases) (length now.core.phases) last (sym (ap (λ x. length x.core.phases) leads)) there
last_there rules m now last (entry.Ran c steps end ∷ es) leads there =
    let ran = (legal m.core c (may_happen rules m leads.0 (Run c) leads.1 leads.2)).there in
    let here : c < length leads.0.core.phases = subst (λ n. c < n) (sym (phases_stay rules m leads.0 (Run c) leads.1 leads.2)) (ltb-true c (length m.core.phases) ran) in
    last_there rules leads.0 now (Some c) es leads.4 (λ x is. subst (λ y. y < length leads.0.core.phases) (same_Some c x is) here)
last_there rules m now last (entry.Fed k word ∷ es) leads there =
    last_there rules leads.0 now last es leads.4 (few_still (length m.core.phases) (length leads.0.core.phases) last (phases_stay rules m leads.0 (Feed k word) leads.1 leads.2) there)
last_there rules m now last (entry.Unplugged k ∷ es) leads there =
    last_there rules leads.0 now last es leads.4 (few_still (length m.core.phases) (length leads.0.core.phases) last (phases_stay rules m leads.0 (Unplug k) leads.1 leads.2) there)
