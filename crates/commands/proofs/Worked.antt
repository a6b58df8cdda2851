-- A worked bundle, by computation: a whole run of its source is legal, and puts out the word 5.
use Rattle.std.proofs.Common.{◌≡◌, List, [], ◌∷◌, Some, None, codes, refl, false}
use Rattle.micro_isa.specs.declared.arithmetic.AluOp.TheVariants as alu
use Rattle.micro_isa.specs.declared.instr.Instr.TheVariants as instr
use Rattle.micro_isa.specs.declared.program.VReg.{VReg}
use Rattle.micro_isa.specs.declared.program.Channel.TheVariants as channel
use Rattle.micro_isa.specs.declared.program.Bundle.{Bundle}
use Rattle.world.specs.declared.event.Event.{Event}
use Rattle.world.specs.declared.event.Event.TheVariants.{Run}
use Rattle.world.specs.declared.event.Phase.TheVariants.{Halted}
use Rattle.world.specs.declared.event.Seen.TheVariants.{Ran}
use Rattle.world.specs.declared.event.SegmentEnd.TheVariants as end
use Rattle.world.specs.declared.event.Output.{Output}
use Rattle.world.specs.declared.event.End.TheVariants.{Finished}
use Rattle.semantics.specs.Events.{run}
use Rattle.semantics.specs.Source.{source_semantics, source_open}
use Rattle.semantics.specs.Agreement.{Shown, shown}

abbrev x : VReg
x = record { 0 = 0 }

abbrev y : VReg
y = record { 0 = 1 }

-- one context that adds 2 and 3 and sends the sum
abbrev pub adds_two_and_three : Bundle
adds_two_and_three = record {
  file = 2;
  setting = record { memory = 0; channels = channel.Output None ∷ [] };
  names = codes "out" ∷ [];
  programs = record {
    name = codes "a";
    registers = codes "x" ∷ codes "y" ∷ [];
    labels = [];
    code =
        record { instr = instr.Li x 2; line = 4 }
        ∷ record { instr = instr.Li y 3; line = 5 }
        ∷ record { instr = instr.Alu alu.Add x x y; line = 6 }
        ∷ record { instr = instr.Send 0 x; line = 7 }
        ∷ record { instr = instr.Halt; line = 8 }
        ∷ [];
  } ∷ [];
}

-- up to the send, and from there to the end
abbrev turns : List Event
turns = Run 0 ∷ Run 0 ∷ []

abbrev five : Output
five = record { channel = 0; word = 5 }

-- the word 5 is put out, after 5 steps
abbrev pub sum_put_out : Shown
sum_put_out = record {
  view = record {
    memory = [];
    left = [] ∷ [];
    rings = [] ∷ [];
    plugged = false ∷ [];
    outputs = five ∷ [];
    steps = 5;
    phases = Halted ∷ [];
  };
  ending = Some Finished;
  seen =
      Ran (record { steps = 4; end = end.Send; sent = None })
      ∷ Ran (record { steps = 1; end = end.Halt; sent = Some five })
      ∷ [];
}

pub source_adds : shown (run (source_semantics adds_two_and_three) (source_open adds_two_and_three 100000) turns) ≡ Some sum_put_out
source_adds = refl
