-- A text whose entries are followed, and where it strays.
use Rattle.std.proofs.Common.{◌≡◌, ℕ, ◌+◌, List, [], ◌∷◌, ◌++◌, length, refl, sym, ap, ◌∙◌, subst, Some}
use Rattle.micro_isa.specs.declared.image.Image.{Image}
use Rattle.world.specs.declared.event.Entry.{Entry}
use Rattle.semantics.specs.Entries.{LeadsTo}
use Rattle.semantics.specs.Machine.{machine_semantics, machine_open}
use Rattle.engine_core.specs.EngineState.{config_of}
use Rattle.journal_text.specs.Journals.{IsJournal, IsFirstStray, AreEntries}
use Rattle.journal_text.specs.Firsts.{IsFirstEntry, BeginsAstray, HasEntries}
use Rattle.journal_text.proofs.Progress.{ReadSoFar}
use Rattle.journal_text.proofs.Reading.{read_none, read_more, read_all, read_alone, strays_at, stray_unread, journal_joined, stray_joined}
use Rattle.run_journal.specs.declared.replaying.ReplayFault.{ReplayFault}
use Rattle.run_journal.specs.declared.replaying.ReplayFault.TheVariants as fault
use Rattle.run_journal.specs.declared.texts.TextFault.{TextFault}
use Rattle.run_journal.specs.declared.texts.TextFault.TheVariants as text_fault
use Rattle.run_journal.specs.Histories.{RunState, IsHistory, bound_of}
use Rattle.run_journal.specs.Replays.{Replays, Followed, StraysAfter}
use Rattle.run_journal.specs.TextReplays.{ReplaysText, IsUnreadAt, StrayEntries, StraysInText, CausesBehind}
use Rattle.run_journal.proofs.Straying.{known_legal, strays_here, stray_refused}

-- the entries of a run are those of the lines before this rest of a text
pub record FollowedTo (r : RunState) (m : Image) (bound : ℕ) (text rest : List ℕ) : Type 0 where
  pub sofar : ReadSoFar text r.entries rest
  pub replays : Replays r m bound r.entries

pub followed_none : (r : RunState) (m : Image) (bound : ℕ) (text : List ℕ) → r.engine.image ≡ m → bound_of r.engine ≡ bound → r.entries ≡ [] → r.idle ≡ 0 → FollowedTo r m bound text text
followed_none r m bound text image same none idle = record {
  sofar = subst (λ es. ReadSoFar text es text) (sym none) (read_none text);
  replays = record { same_image = image; same_bound = same; same_entries = refl; no_pump = idle };
}

pub followed_more : (r r' : RunState) (m : Image) (bound : ℕ) (text rest behind : List ℕ) (e : Entry) → FollowedTo r m bound text rest → IsFirstEntry rest e behind → Followed (Some e) r r' e → FollowedTo r' m bound text behind
followed_more r r' m bound text rest behind e sofar first did = record {
  sofar = read_more text rest behind r.entries r'.entries e sofar.sofar first did.0.went.entries;
  replays = record {
    same_image = did.0.went.image ∙ sofar.replays.same_image;
    same_bound = did.0.went.bound ∙ sofar.replays.same_bound;
    same_entries = refl;
    no_pump = did.1;
  };
}

are_entries : (text : List ℕ) (es : List Entry) → IsJournal text es → AreEntries text es
are_entries text es read = record { read = read; alone = read_alone text es read }

pub followed_all : (r : RunState) (m : Image) (bound : ℕ) (text rest : List ℕ) → FollowedTo r m bound text rest → length rest ≡ 0 → ReplaysText r m bound text
followed_all r m bound text rest sofar none = record {
  are = are_entries text r.entries (read_all text rest r.entries sofar.sofar none);
  replays = sofar.replays;
}

-- what was followed is legal
pub followed_legal : (r : RunState) (m : Image) (bound : ℕ) (text : List ℕ) → IsHistory r.engine r.entries → ReplaysText r m bound text → LeadsTo (machine_semantics m) (machine_open m bound) r.entries (config_of r.engine)
followed_legal r m bound text known replays = known_legal r m bound r.entries known replays.replays

unread_at : (text : List ℕ) (at : ℕ) → IsFirstStray text at → IsUnreadAt text at
unread_at text at stray = record { stray = stray; unread = stray_unread text at stray }

-- the first line that is left is no entry
pub unread_here : (r : RunState) (m : Image) (bound : ℕ) (text rest : List ℕ) → FollowedTo r m bound text rest → BeginsAstray rest → IsUnreadAt text (length r.entries + 1)
unread_here r m bound text rest sofar stray = unread_at text (length r.entries + 1) (strays_at text rest r.entries sofar.sofar stray)

entries_stray : (why : ReplayFault) (r : RunState) (m : Image) (bound : ℕ) (text rest behind : List ℕ) (written : Entry) → IsHistory r.engine r.entries → FollowedTo r m bound text rest → IsFirstEntry rest written behind → StraysAfter why r written → HasEntries behind → StrayEntries why m bound text
entries_stray why r m bound text rest behind written known sofar first strays more =
    let es = r.entries ++ written ∷ more.entries in
    let s = strays_here why r m bound r.entries more.entries es written known sofar.replays refl strays in
    record {
      entries = es;
      are = are_entries text es (journal_joined text rest behind r.entries more.entries written sofar.sofar first more.read);
      strays = s;
      refused = stray_refused why m bound es s;
    }

-- an entry strays: what stands behind it decides what is told
pub stray_told : (told : TextFault) (why : ReplayFault) (r : RunState) (m : Image) (bound at : ℕ) (text rest behind : List ℕ) (written : Entry) → IsHistory r.engine r.entries → FollowedTo r m bound text rest → IsFirstEntry rest written behind → StraysAfter why r written → at ≡ length r.entries + 1 → CausesBehind told why at behind → StraysInText told m bound text
stray_told (text_fault.Reading line) why r m bound at text rest behind written known sofar first strays place cause =
    let s = stray_joined text rest behind r.entries written cause.0 sofar.sofar first cause.2 in
    subst (IsUnreadAt text) (ap (λ n. n + cause.0) (sym place) ∙ sym cause.1) (unread_at text ((length r.entries + 1) + cause.0) s)
stray_told (text_fault.Strays fault.NoMemory) why r m bound at text rest behind written known sofar first strays place cause = tt
stray_told (text_fault.Strays (fault.Illegal a w)) why r m bound at text rest behind written known sofar first strays place cause =
    entries_stray (fault.Illegal a w) r m bound text rest behind written known sofar first (subst (λ y. StraysAfter y r written) (sym cause.0) strays) cause.1
stray_told (text_fault.Strays (fault.Differs a w found)) why r m bound at text rest behind written known sofar first strays place cause =
    entries_stray (fault.Differs a w found) r m bound text rest behind written known sofar first (subst (λ y. StraysAfter y r written) (sym cause.0) strays) cause.1
