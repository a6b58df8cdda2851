-- The command line in the terms of `clap`, for the proofs; and the parts that a split gives.
use Rattle.std.specs.Prelude.{true, Some, codes, option_map}
use Rattle.clap.specs.Words.{App, Rule, new_app, new_rule, with_rule}
use Rattle.clap.specs.Simple.{on_top}
use Rattle.clap.specs.declared.builder.action.ArgAction.TheVariants.{Set}
use Rattle.command_words.specs.declared.split.Given.{Given}
use Rattle.command_words.specs.Texts.{Text, Parts}

abbrev pub plain_rule : Text → Rule
plain_rule id = record (new_rule id) { action = Some Set }

abbrev pub option_rule : Text → Rule
option_rule id = record (new_rule id) { long = Some id; action = Some Set }

abbrev pub bare_app : App
bare_app = on_top (λ s. record s { no_binary_name = true; disable_help_flag = true; disable_version_flag = true }) (new_app (codes "micro"))

abbrev pub command_app : App
command_app = with_rule (with_rule (with_rule (with_rule bare_app (plain_rule (codes "command"))) (plain_rule (codes "number"))) (option_rule (codes "steps"))) (option_rule (codes "order"))

abbrev pub given_parts : Given → Parts
given_parts g = record {
  command = option_map (λ t. t.now) g.command;
  number = option_map (λ t. t.now) g.number;
  steps = option_map (λ t. t.now) g.steps;
  order = option_map (λ t. t.now) g.order;
}
