-- The command takes just the words that have parts, and finds these parts.
use Rattle.std.proofs.Common.{◌≡◌, ◌&&◌, Bool, true, false, List, [], ◌∷◌, map, Option, Some, None, is_some, refl, sym, ap, ◌∙◌, fold}
use Rattle.std.specs.List.{list_all}
use Rattle.std.specs.Option.{MatchOption}
use Rattle.clap.specs.Walk.{Held, Walk, nothing_held, finished, with_default, walked, first_of}
use Rattle.clap.specs.Simple.{built, entered, matches_of}
use Rattle.clap.specs.Takes.{takes, level_passes, walk_passes, settle_passes}
use Rattle.clap.specs.Faults.{fault_of, entered_fault, defaults_fault, check_fault, walk_fault, settle_fault}
use Rattle.clap.specs.Kinds.{or_else, Kinds}
use Rattle.clap.proofs.TakesLemmas.{leaf_takes}
use Rattle.command_words.specs.Command.{command_app}
use Rattle.command_words.specs.Texts.{Text, Parts}
use Rattle.command_words.specs.Hyphens.{is_fit}
use Rattle.command_words.specs.Meaning.{words_parts}
use Rattle.command_words.proofs.Slots.{shape, rules, Slot, first, second, valued, id_of, rule_at, part, rows_of, no_default}
use Rattle.command_words.specs.Texts.{steps, order}
use Rattle.command_words.proofs.WordSteps.{at, Fails, fails_left, fails_cons}
use Rattle.command_words.proofs.Held.{stands_first}
use Rattle.command_words.proofs.States.{start}
use Rattle.command_words.proofs.Walks.{Reaches, all_words}
use Rattle.command_words.proofs.Strays.{unfit_no_texts}

-- no defaults are added
finished_is : (h : Held) → finished rules h ≡ rows_of h
finished_is h =
    ap (λ r. with_default (with_default (with_default r (rule_at second)) (rule_at (valued steps))) (rule_at (valued order))) (no_default first (rows_of h))
    ∙ ap (λ r. with_default (with_default r (rule_at (valued steps))) (rule_at (valued order))) (no_default second (rows_of h))
    ∙ ap (λ r. with_default r (rule_at (valued order))) (no_default (valued steps) (rows_of h))
    ∙ no_default (valued order) (rows_of h)

fails_later : (a b c d : Kinds) → Fails (or_else a c) → Fails (or_else a (or_else b (or_else c d)))
fails_later [] [] c d f = fails_left c d f
fails_later [] (x ∷ b) c d f = fails_cons x _
fails_later (x ∷ a) b c d f = fails_cons x _

level : (ws : List Text) → walk_passes shape [] (at nothing_held 1) ws ≡ true → settle_passes rules false (fold (walked rules []) (at nothing_held 1) ws).held ≡ true → level_passes shape [] nothing_held ws false ≡ true
level ws p e = rw (p, e) refl

abbrev TakesParts : List Text → Parts → Type 0
TakesParts ws p = (takes command_app ws ≡ true) × ((i : Slot) → first_of (id_of i) (matches_of command_app ws) ≡ part p i)

taken : (ws : List Text) → list_all is_fit ws ≡ true → MatchOption (words_parts ws) (Fails (fault_of command_app ws)) (λ p. TakesParts ws p)
taken ws fit =
    let reached : Reaches (at nothing_held 1) ws (words_parts ws) = all_words ws start nothing_held stands_first fit in
    let e : Walk = fold (walked rules []) (at nothing_held 1) ws in
    let below : Kinds = entered_fault (built command_app) e.stopped in
    let later : Kinds = or_else (defaults_fault (rows_of e.held) rules) (check_fault shape (finished rules e.held) (is_some (entered (built command_app) e.stopped))) in
    let go : (o : Option Parts) → Reaches (at nothing_held 1) ws o → MatchOption o (Fails (fault_of command_app ws)) (λ p. TakesParts ws p) = elim [
      | None ↦ λ b. fails_later (walk_fault shape [] (at nothing_held 1) ws) below (settle_fault rules false e.held) later b
      | Some p ↦ λ k. (
        leaf_takes (built command_app) nothing_held ws refl (level ws k.passes k.last),
        λ i. ap (first_of (id_of i)) (finished_is e.held) ∙ k.text i,
      )
    ] in go (words_parts ws) reached

pub unfit_parts : (ws : List Text) → list_all is_fit ws ≡ false → None ≡ words_parts ws
unfit_parts ws f = rw (unfit_no_texts ws f) refl

pub found_parts : (ws : List Text) → list_all is_fit ws ≡ true → (p : Parts) → fault_of command_app ws ≡ [] → ((i : Slot) → first_of (id_of i) (matches_of command_app ws) ≡ part p i) → Some p ≡ words_parts ws
found_parts ws fit p none found =
    let go : (o : Option Parts) → MatchOption o (Fails (fault_of command_app ws)) (λ q. TakesParts ws q) → Some p ≡ o = elim [
      | None ↦ λ f. absurd (f none)
      | Some q ↦ λ t.
          let same : (i : Slot) → part p i ≡ part q i = λ i. sym (found i) ∙ t.1 i in
          λ k. Some (record { command = same first k; number = same second k; steps = same (valued steps) k; order = same (valued order) k })
    ] in go (words_parts ws) (taken ws fit)

pub refused_parts : (ws : List Text) → list_all is_fit ws ≡ true → (takes command_app ws ≡ true → ⊥) → None ≡ words_parts ws
refused_parts ws fit f =
    let go : (o : Option Parts) → MatchOption o (Fails (fault_of command_app ws)) (λ p. TakesParts ws p) → None ≡ o = elim [
      | None ↦ λ b. refl
      | Some p ↦ λ t. absurd (f t.0)
    ] in go (words_parts ws) (taken ws fit)

pub list_all-map : {X : Type 0} (f : Text → Bool) (g : X → Text) (xs : List X) → list_all f (map g xs) ≡ list_all (λ x. f (g x)) xs
list_all-map f g [] = refl
list_all-map f g (x ∷ xs) = ap (λ b. f (g x) && b) (list_all-map f g xs)
