use Rattle.std.proofs.Common.{rules, ◌≡◌, ℕ, List, sym, subst}
use Rattle.asm_print.specs.Again.{SpellsAgain}
use Rattle.asm_print.specs.Canonical.{canonical_text}
use Rattle.asm_print.proofs.TextAgain.{spells_again}
use Rattle.asm_print.proofs.bundle.print_bundle.Goals as goal

pub returns-clause-again : goal.returns-clause-again
unfolding canonical_text
returns-clause-again c =
    let text : c.put_bundle.new.text.items ≡ canonical_text c.args.bundle.now = search rules in
    subst (λ (t : List ℕ). SpellsAgain t c.args.bundle.now) (sym text) (spells_again c.args.bundle.now c.requires c.typed_bundle.ensures)
