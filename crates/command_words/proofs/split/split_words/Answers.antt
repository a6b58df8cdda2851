-- What the split gives is what `clap` found, for fit words.
use Rattle.std.proofs.Common.{◌≡◌, map, string_bytes, true, [], sym, ap, ◌∙◌, subst, refl}
use Rattle.clap.specs.Words.{app_of, is_simple, matches_of, fault_of, takes, is_simple_and_free, found_of, subcommand_rows_of, subcommand_of}
use Rattle.clap.specs.Walk.{first_of, rows_of}
use Rattle.clap.proofs.WalkLemmas.{first_value-rows}
use Rattle.command_words.specs.Command.{command_app}
use Rattle.command_words.specs.Hyphens.{is_fit}
use Rattle.command_words.specs.Texts.{steps, order}
use Rattle.command_words.proofs.Slots.{Slot, first, second, valued, id_of}
use Rattle.command_words.proofs.Splits.{unfit_parts, found_parts, refused_parts, list_all-map}
use Rattle.command_words.proofs.split.split_words.Goals as goal

pub returns-then-not-are_fit : goal.returns-then-not-are_fit
returns-then-not-are_fit c = unfit_parts (map string_bytes c.args.words.now) (list_all-map is_fit string_bytes c.args.words.now ∙ sym c.are_fit.ensures ∙ c.if-not-are_fit.true)

pub returns-in-Ok-try_get_matches_from : goal.returns-in-Ok-try_get_matches_from
returns-in-Ok-try_get_matches_from c =
    let app : app_of c.in-Ok.command ≡ command_app = c.in-Ok.ensures in
    let fit = list_all-map is_fit string_bytes c.args.words.now ∙ sym c.are_fit.ensures ∙ c.if-not-are_fit.false in
    let m = c.in-Ok-try_get_matches_from.matches in
    let e = c.in-Ok-try_get_matches_from.ensures in
    let ws = map string_bytes c.args.words.now in
    let none : fault_of command_app ws ≡ [] = subst (λ a. is_simple_and_free a ≡ true → fault_of a ws ≡ []) app e.kinds refl in
    let rows = (subst (λ a. is_simple a ≡ true → (rows_of (found_of m) ≡ matches_of a ws) × (subcommand_rows_of m ≡ subcommand_of a ws)) app e.matches refl).0 in
    let text = λ (i : Slot). ap (first_of (id_of i)) (sym rows) ∙ sym (first_value-rows (found_of m) (id_of i)) in
    found_parts ws fit _ none (elim [
      | first ↦ text first ∙ sym c.get_str.ensures
      | second ↦ text second ∙ sym c.get_str-in-Ok-try_get_matches_from.ensures
      | valued steps ↦ text (valued steps) ∙ sym c.get_str-in-Ok-try_get_matches_from-2.ensures
      | valued order ↦ text (valued order) ∙ sym c.get_str-in-Ok-try_get_matches_from-3.ensures
    ])

pub returns : goal.returns
returns c =
    let app : app_of c.in-Ok.command ≡ command_app = c.in-Ok.ensures in
    let fit = list_all-map is_fit string_bytes c.args.words.now ∙ sym c.are_fit.ensures ∙ c.if-not-are_fit.false in
    let ws = map string_bytes c.args.words.now in
    refused_parts ws fit (λ t. c.in_default-kind.not-OutOfMemory (c.kind.ensures ∙ c.in-Err.ensures.passes (ap (λ a. takes a ws) app ∙ t)))
