-- What adding an argument makes of a command.
use Rattle.std.proofs.Common.{◌≡◌, false, ap, ◌∙◌}
use Rattle.clap.specs.Words.{App, Rule, AddsArg, app_of, rule_of, with_rule}
use Rattle.clap.specs.declared.builder.arg.Arg.{Arg}
use Rattle.clap.specs.declared.builder.command.Command.{Command}

pub added : (old new : Command) (a : Arg) (app : App) (rule : Rule) → AddsArg old a new → app_of old ≡ app → (rule_of a ≡ rule) × (a.global ≡ false) → app_of new ≡ with_rule app rule
added old new a app rule adds is says = adds.shape says.1 ∙ ap (λ t. with_rule t (rule_of a)) is ∙ ap (λ r. with_rule app r) says.0
