use Rattle.micro_cli.proofs.Preparing.{image_comes}
use Rattle.micro_cli.proofs.image_replies.prepare.Goals as goal

pub returns-in_ok-prepare_image-in-Ok : goal.returns-in_ok-prepare_image-in-Ok
returns-in_ok-prepare_image-in-Ok c = record {
  comes = image_comes c.args.task c.args.bytes.items c.in-Ok.image c.in_ok-prepare_image-in-Ok.field-0 c.in-Ok.ensures.spelled c.in_ok-prepare_image-in-Ok.ensures.comes;
}
