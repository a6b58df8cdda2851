-- A shared run that came to an ending.
use Rattle.std.proofs.Common.{◌≡◌, ℕ, ◌<◌, List, [], ◌∷◌, length, take, ◌++◌, All, slice_index_or, true, false, refl, sym, ap, ◌∙◌, subst, arith}
use mathlib.Core.List.{IsPrefix}
use Rattle.world.specs.declared.event.Entry.{Entry}
use Rattle.ports.specs.declared.told.Told.{Told}
use Rattle.ports.specs.SlotsState.{SlotsState}
use Rattle.run_journal.specs.Histories.{RunState}
use Rattle.baton.proofs.Lists.{prefix_then}
use Rattle.context_runner.specs.Benches.{IsBench}
use Rattle.context_runner.specs.Endings.{Brought}
use Rattle.context_runner.specs.Sharing.{BenchState, beginning, Ended}

-- moves in round order brought a run that was shared to an ending
pub threads_end : (b : BenchState) (r r' : RunState) (s s' : SlotsState) → beginning (record { run = r; slots = s; start = b.start }) ≡ beginning b → IsBench b.start r s → Brought true r r' → ((start : List Told) → IsBench start r s → IsBench start r' s') → Ended (beginning b) r' s'
threads_end b r r' s s' from bench brought keeps = record {
  image = brought.image ∙ ap (λ x. x.image) from;
  bound = brought.bound ∙ ap (λ x. x.bound) from;
  known = brought.known;
  quiet = brought.quiet;
  how = brought.how;
  ended = brought.ended;
  bench = keeps b.start bench;
}

-- what passes had seen begins the journal at the end
pub all_begin : {A : Type 0} (seen : A → List Entry) (old new : List A) (closed end : List Entry) → length new ≡ length old → ((i : ℕ) (d : A) → i < length old → IsPrefix (seen (slice_index_or old i d)) (seen (slice_index_or new i d)))
    → All (λ p. IsPrefix (seen p) closed) new → IsPrefix closed end → All (λ p. IsPrefix (seen p) end) old
all_begin seen old new closed end many later all begins k d lt =
    prefix_then (seen (slice_index_or old k d)) closed end
    (prefix_then (seen (slice_index_or old k d)) (seen (slice_index_or new k d)) closed (later k d lt) (all k d (subst (λ n. k < n) (sym many) lt))) begins

-- what passes had seen at the opening begins what they had seen begins
pub opened_begins : {A : Type 0} (seen : A → List Entry) (h end : List Entry) (passes : List A) → 0 < length passes → ((i : ℕ) (d : A) → i < length passes → seen (slice_index_or passes i d) ≡ h) → All (λ p. IsPrefix (seen p) end) passes → IsPrefix h end
opened_begins seen h end [] some is all = absurd (omega arith)
opened_begins seen h end (x ∷ xs) some is all = subst (λ l. IsPrefix l end) (is 0 x (omega arith)) (all 0 x (omega arith))

-- an ending of a run that was shared from here on, in any order
pub brought_by_threads : (b : BenchState) (r' : RunState) (s' : SlotsState) → Ended (beginning b) r' s' → IsPrefix b.run.entries r'.entries → Brought false b.run r'
brought_by_threads b r' s' e begins = record {
  image = e.image;
  bound = e.bound;
  known = e.known;
  quiet = e.quiet;
  begins = begins;
  order = λ never. absurd (cc);
  how = e.how;
  ended = e.ended;
}

-- a list in place of all of another
pub taken_whole : {A : Type 0} (n : ℕ) (ys zs : List A) → length ys ≡ n → take n (ys ++ zs) ≡ ys
taken_whole n [] zs is = ap (λ k. take k zs) (sym is)
taken_whole n (y ∷ ys) zs is = ap (λ k. take k (y ∷ (ys ++ zs))) (sym is) ∙ (λ i. y ∷ taken_whole (length ys) ys zs refl i)
