use Rattle.std.proofs.Common.{◌+◌, ◌||◌, drop, sym, ap, ◌∙◌}
use Rattle.std.specs.Prelude.{nat_eq}
use Rattle.std.specs.List.{list_any, filter_map}
use Rattle.micro_isa.specs.Formed.{port_of}
use Rattle.asm_header.proofs.Ports.{port_on}
use Rattle.asm_header.proofs.fault.is_taken.Goals as goal

pub returns-then-is_port_of : goal.returns-then-is_port_of
returns-then-is_port_of c =
    sym (sym c.loop-channel.invariant
    ∙ port_on c.args.port c.args.channels.now c.loop-channel.channel-index c.channel-item.result c.loop-channel-test.true c.channel-item.is
    ∙ ap (λ b. b || list_any (nat_eq c.args.port) (filter_map port_of (drop (c.loop-channel.channel-index + 1) c.args.channels.now))) (sym c.is_port_of.ensures ∙ c.if-is_port_of.true))

pub loop-channel-preserved : goal.loop-channel-preserved
loop-channel-preserved c =
    sym (sym c.loop-channel.invariant
    ∙ port_on c.args.port c.args.channels.now c.loop-channel.channel-index c.channel-item.result c.loop-channel-test.true c.channel-item.is
    ∙ ap (λ b. b || list_any (nat_eq c.args.port) (filter_map port_of (drop (c.loop-channel.channel-index + 1) c.args.channels.now))) (sym c.is_port_of.ensures ∙ c.if-is_port_of.false))
