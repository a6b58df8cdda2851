-- The ports that come back are in their order, and what the report of a run comes to with them.
use Rattle.std.proofs.Common.{◌≡◌, ℕ, zero, suc, List, [], ◌∷◌, length, map, Bool, Option, Some, None, Result, Ok, Err, refl, sym, ap, ◌∙◌, subst, arith, append-nil, inl, inr}
use Rattle.std.specs.Prelude.{◌⊎◌, slice_get, IfOk}
use Rattle.std.proofs.lemmas.Bool.{cases_eq}
use Rattle.std.proofs.lemmas.List.{length-map}
use Rattle.std.proofs.lemmas.Option.{same_Some}
use Rattle.std.proofs.lemmas.Result.{IfOk-weaker}
use Rattle.micro_isa.specs.declared.list.NoMemory.{NoMemory}
use Rattle.micro_isa.specs.declared.program.Channel.{Channel}
use Rattle.micro_isa.specs.Formed.{port_of}
use Rattle.micro_kit.specs.Streams.{Gives, Grew}
use Rattle.ports.specs.declared.told.Told.{Told}
use Rattle.ports.specs.SlotsState.{SlotsState}
use Rattle.semantics.specs.Core.{shown_core}
use Rattle.run_journal.specs.Histories.{RunState, run_ending, bound_of, channels_of}
use Rattle.run_journal.specs.Keeping.{port_at, NoChannelHas, Kept, Used, used_by}
use Rattle.context_runner.specs.Benches.{IsBench}
use Rattle.context_runner.specs.Endings.{Brought}
use Rattle.report_run.specs.Report.{report_text}
use Rattle.commands.specs.declared.task.Reply.{Reply}
use Rattle.commands.specs.declared.prepared.Opening.{Opening}
use Rattle.commands.specs.GivenBack.{WentOn, InTheirOrder}
use Rattle.commands.specs.Openings.{IsAttached, IsReported}
use Rattle.commands.specs.Reports.{IsReport, status_so_far}
use Rattle.commands.specs.Tells.{IsRefusal}
use Rattle.commands.proofs.Reporting.{report_is}
use Rattle.commands.proofs.Telling.{report_goes}

gave_none : (left : Option (List ℕ)) → Gives left [] left
gave_none None = refl
gave_none (Some words) = refl

took_none : (taken : Option (List ℕ)) → Grew taken [] taken
took_none None = refl
took_none (Some words) = ap Some (sym (append-nil words))

stands : (t : Told) → WentOn t t
stands t = record {
  given = [];
  gave = gave_none t.left;
  taken = [];
  took = took_none t.taken;
  grows = record { faults = omega arith; polls = omega arith; closings = omega arith };
}

stands_by : (a b : Told) (o o' : Option Told) → o' ≡ o → o ≡ Some a → o' ≡ Some b → WentOn a b
stands_by a b o o' same before after = subst (WentOn a) (same_Some a b (sym before ∙ sym same ∙ after)) (stands a)

-- ports that tell the same
pub stay_in_order : (start now : List Told) → now ≡ start → InTheirOrder start now
stay_in_order start now same = record { each = λ j a b before after. stands_by a b (slice_get start j) (slice_get now j) (ap (λ l. slice_get l j) same) before after }

is_or_not : (o : Option ℕ) (j : ℕ) → (o ≡ Some j) ⊎ (o ≡ Some j → ⊥)
is_or_not None j = inr (λ e. absurd (cc))
is_or_not (Some i) j = elim (cases_eq i j) [
  | inl e ↦ inl (ap Some e)
  | inr ne ↦ inr (λ e. ne (same_Some i j e))
]

-- a channel has the port of this number, or none has
channel_of : (chs : List Channel) (j : ℕ) → ((k : ℕ) × (port_at chs k ≡ Some j)) ⊎ NoChannelHas chs j
channel_of [] j = inr (λ k h. absurd (cc))
channel_of (ch ∷ chs) j = by (is_or_not (port_of ch) j) (channel_of chs j)
  where
    by : (port_of ch ≡ Some j) ⊎ (port_of ch ≡ Some j → ⊥) → ((k : ℕ) × (port_at chs k ≡ Some j)) ⊎ NoChannelHas chs j → ((k : ℕ) × (port_at (ch ∷ chs) k ≡ Some j)) ⊎ NoChannelHas (ch ∷ chs) j
    by (inl here) rest = inl (zero, here)
    by (inr not_here) (inl there) = inl (suc there.0, there.1)
    by (inr not_here) (inr none) = inr at
      where
        at : (k : ℕ) → port_at (ch ∷ chs) k ≡ Some j → ⊥
        at zero h = not_here h
        at (suc k) h = none k h

went : (a b : Told) (u : Used) → Kept a b u → WentOn a b
went a b u kept = record { given = u.fed; gave = kept.gave; taken = kept.took.words; took = kept.took.grew; grows = kept.grows }

-- ports that are kept
kept_each : (r : RunState) (s : SlotsState) (start : List Told) → IsBench start r s → (j : ℕ) (a b : Told) → slice_get start j ≡ Some a → slice_get s.told j ≡ Some b → WentOn a b
kept_each r s start bench j a b before after = by (channel_of (channels_of r.engine) j)
  where
    by : ((k : ℕ) × (port_at (channels_of r.engine) k ≡ Some j)) ⊎ NoChannelHas (channels_of r.engine) j → WentOn a b
    by (inl named) = went a b (used_by r.entries r.engine.core r.idle named.0) (bench.kept.named named.0 j a b named.1 before after)
    by (inr none) = stands_by a b (slice_get start j) (slice_get s.told j) (bench.kept.others j none) before after

pub kept_in_order : (r : RunState) (s : SlotsState) (start : List Told) → IsBench start r s → InTheirOrder start s.told
kept_in_order r s start bench = record { each = kept_each r s start bench }

-- the report of a run that was brought to an ending, if there was memory for it
reports : (in_rounds : Bool) (o : Opening) (r' after : RunState) (s s' : SlotsState) (result : Result Reply NoMemory) → IsAttached o.run r' s → Brought in_rounds r' after → IsBench s.told after s' → IfOk result (λ r. r.status ≡ status_so_far (run_ending after.engine.core after.idle) after.engine.core.phases) → IfOk result (λ r. r.text.items ≡ report_text o.need (Some after.engine.image) after.engine.image.setting.channels after.entries (record { view = shown_core after.engine.core; file = Some after.engine.file; ending = run_ending after.engine.core after.idle }))
    → IfOk result (λ r. IsReport in_rounds (bound_of o.run.engine) o.run.engine.image o.need s.told s'.told r.status r.text.items)
reports in_rounds o r' after s s' (Ok r) a b bench answered told = report_is in_rounds o.run r' after s s' o.need r.status r.text.items a b bench answered told
reports in_rounds o r' after s s' (Err why) a b bench answered told = tt

as_many : {P : Type 0} (tells : P → Told) (ports ports' : List P) (start now : List Told) → start ≡ map tells ports → map tells ports' ≡ now → length now ≡ length start → length ports' ≡ length ports
as_many tells ports ports' start now before after count = sym (length-map ports' tells) ∙ ap length after ∙ count ∙ ap length before ∙ length-map ports tells

pub reported : {P : Type 0} (tells : P → Told) (in_rounds : Bool) (o : Opening) (r' after : RunState) (s s' : SlotsState) (result : Result Reply NoMemory) (ports ports' : List P) → s.told ≡ map tells ports → map tells ports' ≡ s'.told → IsAttached o.run r' s → Brought in_rounds r' after → IsBench s.told after s' → IfOk result (λ r. r.status ≡ status_so_far (run_ending after.engine.core after.idle) after.engine.core.phases) → IfOk result (λ r. r.text.items ≡ report_text o.need (Some after.engine.image) after.engine.image.setting.channels after.entries (record { view = shown_core after.engine.core; file = Some after.engine.file; ending = run_ending after.engine.core after.idle }))
    → IsReported in_rounds o (map tells ports) (map tells ports') ports ports' result
reported tells in_rounds o r' after s s' result ports ports' before back a b bench answered told =
    subst (λ l. IsReported in_rounds o l (map tells ports') ports ports' result) before
    (subst (λ l. IsReported in_rounds o s.told l ports ports' result) (sym back) (record {
      report = is;
      goes = IfOk-weaker result (λ r. IsReport in_rounds (bound_of o.run.engine) o.run.engine.image o.need s.told s'.told r.status r.text.items) (λ r. IsRefusal r.status → ⊥)
          (λ r report. report_goes in_rounds (bound_of o.run.engine) o.run.engine.image o.need s.told s'.told r.status r.text.items report) is;
      as_many = as_many tells ports ports' s.told s'.told before back bench.kept.as_many;
      in_order = kept_in_order after s' s.told bench;
    }))
  where
    is : IfOk result (λ r. IsReport in_rounds (bound_of o.run.engine) o.run.engine.image o.need s.told s'.told r.status r.text.items)
    is = reports in_rounds o r' after s s' result a b bench answered told

-- memory was wanting before the run went on
pub not_reported : {P : Type 0} (tells : P → Told) (in_rounds : Bool) (o : Opening) (why : NoMemory) (s s' : SlotsState) (ports ports' : List P) → s.told ≡ map tells ports → map tells ports' ≡ s'.told → s' ≡ s → IsReported in_rounds o (map tells ports) (map tells ports') ports ports' (Err why)
not_reported tells in_rounds o why s s' ports ports' before back same = record {
  report = tt;
  goes = tt;
  as_many = as_many tells ports ports' s.told s'.told before back (ap (λ (x : SlotsState). length x.told) same);
  in_order = stay_in_order (map tells ports) (map tells ports') (back ∙ ap (λ (x : SlotsState). x.told) same ∙ before);
}
