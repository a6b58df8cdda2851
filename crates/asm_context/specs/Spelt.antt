-- The operands of a line, as its words.
use Rattle.std.specs.Prelude.{ℕ, List, [], ◌∷◌, Option, Some, None, option_map}
use Rattle.micro_isa.specs.declared.operation.Role.{Role}
use Rattle.micro_isa.specs.declared.operation.Role.TheVariants.{To, A, B}
use Rattle.micro_isa.specs.declared.operation.Role.TheVariants as role
use Rattle.micro_isa.specs.declared.operands.Extra.{Extra}
use Rattle.micro_isa.specs.declared.operands.Extra.TheVariants.{Nothing, Number, Target, Receive, Send}
use Rattle.micro_isa.specs.declared.operands.Operands.{Operands}
use Rattle.micro_isa.specs.Operands.{with}
use Rattle.asm_lines.specs.Cutting.{Words}

-- the operands of a line, as its words
abbrev pub Spelt : Type 0
Spelt = Operands (List ℕ) (List ℕ) (List ℕ)

-- operands with this word in this role
abbrev pub with_word : Role → List ℕ → Spelt → Spelt
with_word To w x = with (Some w) x.a x.b x.extra
with_word A w x = with x.to (Some w) x.b x.extra
with_word B w x = with x.to x.a (Some w) x.extra
with_word role.Number w x = with x.to x.a x.b (Number w)
with_word role.Target w x = with x.to x.a x.b (Target w)
with_word role.Receive w x = with x.to x.a x.b (Receive w)
with_word role.Send w x = with x.to x.a x.b (Send w)

-- the operands that these words are in these roles, where there is a word for each role
abbrev pub operands_in : List Role → Words → Option Spelt
operands_in [] [] = Some (with None None None Nothing)
operands_in (r ∷ rs) (w ∷ ws) = option_map (with_word r w) (operands_in rs ws)
operands_in _ _ = None

-- the operand that is a number
abbrev pub number_of : {N K : Type 0} → Extra N K → Option N
number_of (Number n) = Some n
number_of _ = None

-- the channel that is received from
abbrev pub received : {N K : Type 0} → Extra N K → Option K
received (Receive channel) = Some channel
received _ = None

-- the channel that is sent to
abbrev pub sent : {N K : Type 0} → Extra N K → Option K
sent (Send channel) = Some channel
sent _ = None

abbrev pub each_extra : {N K M L : Type 0} → (number target : N → M) → (channel : K → L) → Extra N K → Extra M L
each_extra number target channel Nothing = Nothing
each_extra number target channel (Number n) = Number (number n)
each_extra number target channel (Target t) = Target (target t)
each_extra number target channel (Receive k) = Receive (channel k)
each_extra number target channel (Send k) = Send (channel k)

-- each operand by the function for its kind
abbrev pub each : {R N K S M L : Type 0} → (register : R → S) → (number target : N → M) → (channel : K → L) → Operands R N K → Operands S M L
each register number target channel x =
    with (option_map register x.to) (option_map register x.a) (option_map register x.b) (each_extra number target channel x.extra)
