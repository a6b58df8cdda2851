-- From what was asked and what the sink took to what the call promises; and when a task is served.
use Rattle.std.proofs.Common.{◌≡◌, ℕ, ◌+◌, ◌<◌, ◌≤◌, List, ◌++◌, length, take, Bool, true, Option, Some, None, Result, Ok, Err, refl, sym, ap, ◌∙◌, subst, arith, append-nil, length-append, inl, inr}
use Rattle.std.specs.Prelude.{◌⊎◌, IfSome}
use Rattle.std.proofs.lemmas.Option.{same_Some}
use Rattle.micro_kit.specs.Streams.{Rose, Gives, Grew, IsSpent}
use Rattle.ports.specs.declared.told.Told.{Told}
use Rattle.commands.specs.declared.status.Status.{Status}
use Rattle.commands.specs.declared.status.Status.TheVariants as status
use Rattle.commands.specs.declared.task.Job.{Job}
use Rattle.commands.specs.declared.task.Job.TheVariants.{OfInput, Soak}
use Rattle.commands.specs.declared.task.Task.{Task}
use Rattle.commands.specs.declared.task.Task.TheVariants.{OfBundle, OfImage, OfJournal}
use Rattle.soak_gen.specs.Bundles.{generated}
use Rattle.commands.specs.declared.task.BundleTask.TheVariants as bundle
use Rattle.commands.specs.declared.task.ImageTask.TheVariants as image
use Rattle.commands.specs.Tells.{Fits, FitsFile, IsServed, IsRefusal, is_round}
use Rattle.micro_isa.specs.declared.list.NoMemory.{NoMemory}
use Rattle.commands.specs.declared.task.Reply.{Reply}
use Rattle.commands.specs.declared.prepared.Opening.{Opening}
use Rattle.commands.specs.GivenBack.{InTheirOrder}
use Rattle.commands.specs.Openings.{TellsAtOnce, TellsInTheEnd, IsReported}
use Rattle.commands.proofs.GivenBack.{stay_in_order}
use Rattle.micro_cli.specs.declared.command.Silence.{Silence}
use Rattle.micro_cli.specs.declared.command.Silence.TheVariants as silence
use Rattle.micro_isa.specs.declared.program.Bundle.{Bundle}
use Rattle.asm_text.specs.Texts.{Spells}
use Rattle.commands.specs.declared.task.JournalTask.{JournalTask}
use Rattle.commands.specs.Journals.{FitsJournal}
use Rattle.journal_text.specs.Journals.{bundle_part, journal_part}
use Rattle.micro_cli.specs.Answers.{SaysOfParts, Says, TellsInput, TellsTooLong, TellsTask, Asks, TookAtMost, most_read}
use Rattle.micro_cli.specs.Lines.{limit_of}
use Rattle.micro_cli.specs.Silences.{IsSilent}
use Rattle.micro_cli.specs.Words.{JobRunsBy}
use Rattle.micro_cli.specs.Preparing.{AsksBy}
use Rattle.micro_cli.specs.Written.{IsTold, IsToldOrFree, status_of_silence}
use Rattle.micro_cli.specs.Calls.{Outside, CouldNotRead, Finishes, IsAside, LeavesPorts, Serves, InputFits, NumberFits, HasNoCause, IsServedOrFree, IsFinish}
use Rattle.micro_cli.proofs.Preparing.{took_none}

-- a text that was written to its end, or in part
pub told_whole : (meant : Status) (text : List ℕ) (wrote wrote' : Option (List ℕ)) (faults faults' : ℕ) → Grew wrote text wrote' → IsTold meant text wrote wrote' faults faults' meant
told_whole meant text wrote wrote' faults faults' grew = inl (record { answered = refl; grew = grew })

pub told_in_part : (meant : Status) (text : List ℕ) (wrote wrote' : Option (List ℕ)) (faults faults' taken : ℕ) → Rose faults faults' → taken < length text → Grew wrote (take taken text) wrote' → IsTold meant text wrote wrote' faults faults' status.WriteFault
told_in_part meant text wrote wrote' faults faults' taken rose part grew = inr (record { answered = refl; rose = rose; taken = taken; part = part; grew = grew })

-- so was a text that was asked for
told_finishes : (meant answer : Status) (wanted : Option Job) (o : Outside) (text : List ℕ) → Asks meant wanted o.left o.left' o.ports o.ports' text → (IsRefusal meant → o.ports' ≡ o.ports) → IsTold meant text o.wrote o.wrote' o.write_faults o.write_faults' answer → Finishes answer wanted o
told_finishes meant answer wanted o text asked refused (inl whole) =
    subst (λ a. Finishes a wanted o) (sym whole.answered) (inl (record { text = text; asked = asked; grew = whole.grew }))
told_finishes meant answer wanted o text asked refused (inr cut) =
    inr (inl (record { answered = cut.answered; rose = cut.rose; intended = meant; text = text; asked = asked; refused = refused; taken = cut.taken; part = cut.part; grew = cut.grew }))

no_memory : (answer : Status) (wanted : Option Job) (o : Outside) → answer ≡ status.NoMemory → TookAtMost (most_read wanted) o.left o.left' → o.wrote' ≡ o.wrote → Finishes answer wanted o
no_memory answer wanted o answered taken silent = inr (inr (inr (record { answered = answered; taken = taken; silent = silent })))

-- a read that failed, and memory that was wanting
silent_finishes : (why : Silence) (answer : Status) (wanted : Option Job) (o : Outside) → IsSilent why wanted o.left o.left' o.read_faults o.read_faults' → TookAtMost (most_read wanted) o.left o.left' → o.wrote' ≡ o.wrote → answer ≡ status_of_silence why → Finishes answer wanted o
silent_finishes silence.ReadFault answer wanted o fails taken silent answered =
    inr (inr (inl (record { answered = answered; task = fails.0; asked = fails.1; rose = (fails.2).0; taken = (fails.2).1; silent = silent })))
silent_finishes silence.NoMemory answer wanted o fails taken silent answered = no_memory answer wanted o answered taken silent

-- where the source tells its bytes, those that were taken to its end are all of them
whole_is : (input taken : List ℕ) (left' : Option (List ℕ)) → Gives (Some input) taken left' → IsSpent left' → taken ≡ input
whole_is input taken None gives spent = absurd (cc)
whole_is input taken (Some rest) gives spent =
    sym (same_Some _ _ gives ∙ ap (λ r. taken ++ r) spent ∙ append-nil taken)

longer : (input taken : List ℕ) (left' : Option (List ℕ)) → Gives (Some input) taken left' → length taken ≤ length input
longer input taken None gives = absurd (cc)
longer input taken (Some rest) gives =
    let e : length input ≡ length taken + length rest = ap length (same_Some _ _ gives) ∙ length-append taken rest in
    omega (arith, e)

-- what is told of a bundle's text and a journal that the task serves
of_parts : (task : JournalTask) (answer : Status) (bundle_text journal text : List ℕ) (b : Bundle) → Spells bundle_text b → FitsJournal task b journal → SaysOfParts task answer bundle_text journal text → IsServed answer
of_parts task answer bundle_text journal text b spelt fits (inl bad) =
    let none = spelt.free in
    let some = bad.found in
    absurd (cc)
of_parts task answer bundle_text journal text b spelt fits (inr tells) =
    let same : tells.bundle ≡ b = tells.spelt.said ∙ sym spelt.said in
    tells.served (subst (λ x. FitsJournal task x journal) (sym same) fits)

-- what is told of an input that the task serves
said : (task : Task) (answer : Status) (start now : List Told) (input text : List ℕ) → Serves task input → Says task answer start now input text → IsServed answer
said (OfBundle task) answer start now input text serves (inl bad) =
    let none = serves.spelt.free in
    let some = bad.found in
    absurd (cc)
said (OfBundle task) answer start now input text serves (inr tells) =
    let same : tells.bundle ≡ serves.bundle = tells.spelt.said ∙ sym serves.spelt.said in
    tells.served (subst (Fits task) (sym same) serves.fits)
said (OfImage task) answer start now input text serves (inl bad) = absurd (bad.unspelled serves.0 serves.1)
said (OfImage task) answer start now input text serves (inr tells) = tells.served
said (OfJournal task) answer start now input text serves (inl long) = let above = long.above in let short = serves.short in absurd (omega (arith, above, short))
said (OfJournal task) answer start now input text serves (inr parts) = of_parts task answer (bundle_part input) (journal_part input) text serves.bundle serves.spelt serves.fits parts.says

-- the task of a job
abbrev task_in : Job → Option Task
task_in (OfInput task) = Some task
task_in (Soak number) = None

same_input : (t u : Task) → OfInput t ≡ OfInput u → t ≡ u
same_input t u e = same_Some _ _ (ap task_in e)

-- the number of a job
abbrev number_in : Job → Option ℕ
number_in (OfInput task) = None
number_in (Soak number) = Some number

same_number : (n k : ℕ) → Soak n ≡ Soak k → n ≡ k
same_number n k e = same_Some _ _ (ap number_in e)

-- what is told of the task that the words ask for
task_is_served : (answer : Status) (wanted : Option Job) (o : Outside) (text : List ℕ) (h : InputFits wanted o) → TellsTask answer wanted o.left o.left' o.ports o.ports' text → IsServed answer
task_is_served answer wanted o text h asks = by asks.tells
  where
    same : asks.task ≡ h.task
    same = same_input asks.task h.task (same_Some _ _ (sym asks.asked ∙ h.asks))

    by : TellsTooLong asks.task answer o.left o.left' text ⊎ TellsInput asks.task answer o.left o.left' o.ports o.ports' text → IsServed answer
    by (inl long) =
        let more = longer h.input long.taken o.left' (subst (λ l. Gives l long.taken o.left') h.told long.given) in
        let count : length long.taken ≡ limit_of h.task + 1 = subst (λ t. length long.taken ≡ limit_of t + 1) same long.above in
        let within : length h.input ≤ limit_of h.task = h.within in
        absurd (omega (arith, more, count, within))
    by (inr tells) =
        let is : tells.input ≡ h.input = whole_is h.input tells.input o.left' (subst (λ l. Gives l tells.input o.left') h.told (tells.whole).0) (tells.whole).1 in
        said h.task answer o.ports o.ports' h.input text h.serves (subst (λ t. Says t answer o.ports o.ports' h.input text) same (subst (λ x. Says asks.task answer o.ports o.ports' x text) is tells.says))

asked_input : (answer : Status) (wanted : Option Job) (o : Outside) (text : List ℕ) → InputFits wanted o → Asks answer wanted o.left o.left' o.ports o.ports' text → IsServed answer
asked_input answer wanted o text h (inl usage) = let none = usage.meaningless in let some = h.asks in absurd (cc)
asked_input answer wanted o text h (inr (inl made)) = let number = made.asked in let input = h.asks in absurd (cc)
asked_input answer wanted o text h (inr (inr asks)) = task_is_served answer wanted o text h asks

asked_number : (answer : Status) (wanted : Option Job) (o : Outside) (text : List ℕ) → NumberFits wanted o → Asks answer wanted o.left o.left' o.ports o.ports' text → IsServed answer
asked_number answer wanted o text h (inl usage) = let none = usage.meaningless in let some = h.asks in absurd (cc)
asked_number answer wanted o text h (inr (inl made)) =
    made.served (subst (λ n. FitsFile (generated n)) (same_number h.number made.number (same_Some _ _ (sym h.asks ∙ made.asked))) h.fits)
asked_number answer wanted o text h (inr (inr asks)) = let input = asks.asked in let number = h.asks in absurd (cc)

asked_served : (answer : Status) (wanted : Option Job) (o : Outside) (text : List ℕ) → HasNoCause wanted o → Asks answer wanted o.left o.left' o.ports o.ports' text → IsServed answer
asked_served answer wanted o text (inl h) asks = asked_input answer wanted o text h asks
asked_served answer wanted o text (inr h) asks = asked_number answer wanted o text h asks

writes_of : (wanted : Option Job) (o : Outside) → HasNoCause wanted o → Rose o.write_faults o.write_faults' → ⊥
writes_of wanted o (inl h) = h.writes
writes_of wanted o (inr h) = h.writes

-- a read cannot have failed
reads_of : (answer : Status) (wanted : Option Job) (o : Outside) → HasNoCause wanted o → CouldNotRead answer wanted o → ⊥
reads_of answer wanted o (inl h) failed = h.reads failed.rose
reads_of answer wanted o (inr h) failed = let input = failed.asked in let number = h.asks in absurd (cc)

-- where nothing outside gives a cause, the job is served
pub completes : (answer : Status) (wanted : Option Job) (o : Outside) → Finishes answer wanted o → HasNoCause wanted o → IsServedOrFree answer
completes answer wanted o (inl whole) h = inl (asked_served answer wanted o whole.text h whole.asked)
completes answer wanted o (inr (inl cut)) h = absurd (writes_of wanted o h cut.rose)
completes answer wanted o (inr (inr (inl failed))) h = absurd (reads_of answer wanted o h failed)
completes answer wanted o (inr (inr (inr free))) h = inr free.answered

finished : {P : Type 0} (answer : Status) (wanted : Option Job) (o : Outside) (ports ports' : List P) → Finishes answer wanted o → length ports' ≡ length ports → InTheirOrder o.ports o.ports' → (LeavesPorts wanted answer → ports' ≡ ports) → IsFinish answer wanted o ports ports'
finished answer wanted o ports ports' finishes as_many in_order untouched =
    record { finishes = finishes; complete = completes answer wanted o finishes; as_many = as_many; in_order = in_order; untouched = untouched }

-- a job that the words ask for
pub for_words : {P : Type 0} (answer : Status) (wanted asked : Option Job) (o : Outside) (ports ports' : List P) → wanted ≡ asked → IsFinish answer wanted o ports ports' → IsFinish answer asked o ports ports'
for_words answer wanted asked o ports ports' same finish = subst (λ w. IsFinish answer w o ports ports') same finish

-- the very ports that were handed in
finished_aside : {P : Type 0} (answer : Status) (wanted : Option Job) (o : Outside) (ports : List P) → Finishes answer wanted o → o.ports' ≡ o.ports → IsFinish answer wanted o ports ports
finished_aside answer wanted o ports finishes same = finished answer wanted o ports ports finishes refl (stay_in_order o.ports o.ports' same) (λ leaves. refl)

-- there was no memory to read the words
pub finished_unasked : {P : Type 0} (wanted : Option Job) (o : Outside) (ports : List P) → o.left' ≡ o.left → o.wrote' ≡ o.wrote → o.ports' ≡ o.ports → IsFinish status.NoMemory wanted o ports ports
finished_unasked wanted o ports unread silent same =
    finished_aside status.NoMemory wanted o ports (no_memory status.NoMemory wanted o refl (subst (TookAtMost (most_read wanted) o.left) (sym unread) (took_none (most_read wanted) o.left)) silent) same

-- nothing is to be written
pub finished_silent : {P : Type 0} (why : Silence) (answer : Status) (wanted : Option Job) (o : Outside) (ports : List P) → IsSilent why wanted o.left o.left' o.read_faults o.read_faults' → TookAtMost (most_read wanted) o.left o.left' → o.wrote' ≡ o.wrote → o.ports' ≡ o.ports → answer ≡ status_of_silence why → IsFinish answer wanted o ports ports
finished_silent why answer wanted o ports fails taken silent same answered =
    finished_aside answer wanted o ports (silent_finishes why answer wanted o fails taken silent answered) same

-- each job runs in some order
some_order : (wanted : Option Job) → (in_rounds : Bool) × IfSome wanted (JobRunsBy in_rounds)
some_order None = (true, tt)
some_order (Some (Soak number)) = (true, tt)
some_order (Some (OfInput (OfBundle (bundle.Run steps order)))) = (is_round order, refl)
some_order (Some (OfInput (OfBundle (bundle.Source steps)))) = (true, tt)
some_order (Some (OfInput (OfBundle bundle.Build))) = (true, tt)
some_order (Some (OfInput (OfBundle bundle.Format))) = (true, tt)
some_order (Some (OfInput (OfBundle bundle.Check))) = (true, tt)
some_order (Some (OfInput (OfImage (image.Exec steps order)))) = (is_round order, refl)
some_order (Some (OfInput (OfJournal task))) = (true, tt)

-- a reply for which no port was asked
pub at_once : {P : Type 0} (r : Reply) (answer : Status) (wanted : Option Job) (o : Outside) (ports : List P) → TellsAtOnce (AsksBy wanted o.left o.left') r → o.ports' ≡ o.ports → IsTold r.status r.text.items o.wrote o.wrote' o.write_faults o.write_faults' answer → IsFinish answer wanted o ports ports
at_once r answer wanted o ports comes same told =
    let by = some_order wanted in
    let asked = subst (λ l. Asks r.status wanted o.left o.left' o.ports l r.text.items) (sym same) ((comes.told by.0 o.ports).asks by.1) in
    finished_aside answer wanted o ports (told_finishes r.status answer wanted o r.text.items asked (λ refused. same) told) same

not_refused : (r : Reply) (answer : Status) (wrote wrote' : Option (List ℕ)) (faults faults' : ℕ) → (IsRefusal r.status → ⊥) → IsTold r.status r.text.items wrote wrote' faults faults' answer → IsRefusal answer → ⊥
not_refused r answer wrote wrote' faults faults' goes (inl whole) refused = goes (subst IsRefusal whole.answered refused)
not_refused r answer wrote wrote' faults faults' goes (inr cut) refused = subst IsRefusal cut.answered refused

leaves_none : {P : Type 0} (answer : Status) (wanted : Option Job) (ports ports' : List P) → (IsAside wanted → ⊥) → (IsRefusal answer → ⊥) → LeavesPorts wanted answer → ports' ≡ ports
leaves_none answer wanted ports ports' runs goes (inl aside) = absurd (runs aside)
leaves_none answer wanted ports ports' runs goes (inr refused) = absurd (goes refused)

-- a run that was brought to its ending
pub in_the_end : {P : Type 0} (in_rounds : Bool) (opening : Opening) (report : Result Reply NoMemory) (answer : Status) (wanted : Option Job) (o : Outside) (ports ports' : List P) → IsReported in_rounds opening o.ports o.ports' ports ports' report → IfSome wanted (JobRunsBy in_rounds) → (IsAside wanted → ⊥) → TellsInTheEnd (AsksBy wanted o.left o.left') opening → TookAtMost (most_read wanted) o.left o.left' → IsToldOrFree report o.wrote o.wrote' o.write_faults o.write_faults' answer → IsFinish answer wanted o ports ports'
in_the_end in_rounds opening (Ok r) answer wanted o ports ports' reported by runs comes taken told =
    let asked = (comes.told in_rounds o.ports o.ports' r.status r.text.items reported.report).asks by in
    finished answer wanted o ports ports' (told_finishes r.status answer wanted o r.text.items asked (λ refused. absurd (reported.goes refused)) told) reported.as_many reported.in_order
    (leaves_none answer wanted ports ports' runs (not_refused r answer o.wrote o.wrote' o.write_faults o.write_faults' reported.goes told))
in_the_end in_rounds opening (Err why) answer wanted o ports ports' reported by runs comes taken told =
    finished answer wanted o ports ports' (no_memory answer wanted o told.0 taken told.1) reported.as_many reported.in_order
    (leaves_none answer wanted ports ports' runs (λ refused. subst IsRefusal told.0 refused))
