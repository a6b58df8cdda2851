-- Where a context's places lie in the file.
use Rattle.std.specs.Prelude.{ℕ}
use Rattle.micro_isa.specs.declared.image.PReg.{PReg}
use Rattle.emitted.specs.Emitted.{register_of}
use Rattle.emit.specs.declared.layout.Layout.{Layout}

-- the register of a place
abbrev pub register_at : Layout → ℕ → PReg
register_at layout = register_of layout.start layout.own layout.shared
