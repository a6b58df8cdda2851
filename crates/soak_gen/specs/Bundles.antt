-- The bundle that a number generates.
use Rattle.std.specs.Prelude.{ℕ, zero, suc, ◌+◌, ◌==◌, List, [], ◌∷◌, ◌++◌, length, map, take, drop, codes, None, slice_index_or}
use Rattle.std.specs.List.{flat_map, range_with_len, position_or_len}
use Rattle.micro_isa.specs.declared.instr.Instr.{Instr}
use Rattle.micro_isa.specs.declared.program.VReg.{VReg}
use Rattle.micro_isa.specs.declared.program.Line.{Line}
use Rattle.micro_isa.specs.declared.program.Program.{Program}
use Rattle.micro_isa.specs.declared.program.Channel.TheVariants.{Output}
use Rattle.micro_isa.specs.declared.program.Bundle.{Bundle}
use Rattle.micro_isa.specs.Columns.{registers_in}
use Rattle.micro_isa.specs.Formed.{firsts_after}
use Rattle.soak_gen.specs.declared.contexts.Contexts.{Contexts}
use Rattle.soak_gen.specs.Drafts.{drafted}

abbrev pub register_names : List (List ℕ)
register_names =
    codes "n" ∷ codes "k" ∷ codes "z"
    ∷ codes "r0" ∷ codes "r1" ∷ codes "r2" ∷ codes "r3" ∷ codes "r4" ∷ codes "r5" ∷ codes "r6" ∷ codes "r7" ∷ codes "r8"
    ∷ []

abbrev pub register_name : ℕ → List ℕ
register_name name = slice_index_or register_names name (codes "n")

-- the numbers of the registers that code names, in the order of the text
abbrev pub named : List (Instr VReg) → List ℕ
named code = flat_map (λ i. map (λ r. r.0) (registers_in i)) code

-- each name with its own place for a number
abbrev pub places : List ℕ
places = range_with_len 0 12

-- the names by their places, in the order in which they appear in the code that begins in this state
unfoldable pub order : ℕ → List ℕ
order state = firsts_after [] (named (drafted places state).code)

-- the place of a name in an order
abbrev pub place : List ℕ → ℕ → ℕ
place order name = position_or_len (λ other. other == name) order

-- the names' numbers, where they are numbered in this order
abbrev pub numbers_in : List ℕ → List ℕ
numbers_in order = map (place order) places

-- instructions on lines that follow each other
abbrev pub on_lines : ℕ → List (Instr VReg) → List Line
on_lines line [] = []
on_lines line (i ∷ is) = record { instr = i; line = line } ∷ on_lines (line + 1) is

-- the code behind a context's line; the label has a line of its own before the third instruction
abbrev pub lined : ℕ → List (Instr VReg) → List Line
lined line code = on_lines (line + 1) (take 2 code) ++ on_lines (line + 4) (drop 2 code)

abbrev pub context_name : ℕ → List ℕ
context_name context = 99 ∷ (48 + context) ∷ []

-- the program of a context on this line, whose draws begin in this state
unfoldable pub program : ℕ → ℕ → ℕ → Program
program context line state = record {
  name = context_name context;
  registers = map register_name (order state);
  labels = record { name = codes "top"; target = 2 } ∷ [];
  code = lined line (drafted (numbers_in (order state)) state).code;
}

-- one context more, on the line behind the one before it
unfoldable pub with_context : Contexts → ℕ → Contexts
with_context cs context = record {
  programs = cs.programs ++ program context cs.line cs.state ∷ [];
  line = cs.line + (length (drafted places cs.state).code + 2);
  state = (drafted places cs.state).state;
}

-- so many contexts
abbrev pub with_contexts : ℕ → Contexts → Contexts
with_contexts zero cs = cs
with_contexts (suc n) cs = with_context (with_contexts n cs) n

-- the contexts of a number: the first stands behind the three lines of the header
unfoldable pub contexts : ℕ → Contexts
contexts number = with_contexts 8 (record { programs = []; line = 4; state = number })

-- the bundle of a number
unfoldable pub generated : ℕ → Bundle
generated number = record {
  file = 128;
  setting = record { memory = 1024; channels = Output None ∷ [] };
  names = codes "out" ∷ [];
  programs = (contexts number).programs;
}
