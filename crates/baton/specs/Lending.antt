-- What a held value becomes, where a `&mut` to it is returned.
use Rattle.std.specs.Borrow.{Lends, Fml, RattleType, MutBor}
use Rattle.baton.specs.declared.pass.Held.{Held}
use Rattle.baton.specs.contracts.pass.Held.{the_row}

module _ (T : RattleType) (held : MutBor (Held T.Denot)) where
  -- once the borrow r ends, the value is what was last written through r
  abbrev pub lends_value : MutBor T.Denot → Fml
  lends_value r = Lends (the_row T) T held r (λ w. record held.now { value = w })
