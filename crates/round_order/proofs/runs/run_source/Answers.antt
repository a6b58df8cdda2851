use Rattle.source_core.specs.SourceState.{config_of}
use Rattle.round_order.proofs.Starts.{bundle_opening}
use Rattle.round_order.proofs.runs.run_source.Goals as goal

pub run_rounds-requires : goal.run_rounds-requires
run_rounds-requires c = bundle_opening c.args.bundle.now c.args.bound (config_of c.in_ok-source.source) c.requires.formed c.in_ok-source.ensures.opening
