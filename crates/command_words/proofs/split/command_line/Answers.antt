use Rattle.std.proofs.Common.{rules, ◌≡◌, codes}
use Rattle.clap.specs.Words.{app_of}
use Rattle.command_words.specs.Command.{bare_app, option_rule, plain_rule}
use Rattle.command_words.proofs.Commands.{added}
use Rattle.command_words.proofs.split.command_line.Goals as goal

pub returns : goal.returns
returns c =
    let bare : app_of c.disable_version_flag.result ≡ bare_app = search rules in
    let one = added _ _ _ bare_app (plain_rule (codes "command")) c.in_ok-arg.ensures bare c.plain_word.ensures in
    let two = added _ _ _ _ (plain_rule (codes "number")) c.in_ok-arg-2.ensures one c.plain_word-2.ensures in
    let three = added _ _ _ _ (option_rule (codes "steps")) c.in_ok-arg-3.ensures two c.valued_option.ensures in
    added _ _ _ _ (option_rule (codes "order")) c.in_ok-command.ensures three c.valued_option-2.ensures
