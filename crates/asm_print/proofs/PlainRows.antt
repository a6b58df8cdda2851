-- The words of a formed bundle's canonical text are found again in its bytes.
use Rattle.std.proofs.Common.{◌≡◌, ◌++◌, ◌<◌, ◌^◌, ℕ, ◌+◌, Bool, true, false, List, [], ◌∷◌, Option, Some, None, refl, sym, ap, ◌∙◌, arith, length, map, decimal, codes, slice_get, nat_lt, nat_le, cond, subst, append_assoc, ◌==◌}
use Rattle.std.proofs.lemmas.Bool.{and_parts, and_from, ltb-true, leb-true}
use Rattle.std.proofs.lemmas.List.Elements.{filter_map-append}
use Rattle.std.proofs.lemmas.List.Folds.{list_all-append}
use Rattle.std.specs.List.{list_all, flat_map, AllByRecursion, filter_map, cons_option}
use Rattle.std.specs.Option.{option_map}
use Rattle.std.specs.Prelude.{is_some, unwrap_or}
use Rattle.micro_isa.specs.declared.instr.Instr.{Instr}
use Rattle.micro_isa.specs.declared.operation.Role.{Role}
use Rattle.micro_isa.specs.declared.operation.Role.TheVariants.{To, A, B}
use Rattle.micro_isa.specs.declared.operation.Role.TheVariants as role
use Rattle.micro_isa.specs.declared.operands.Extra.{Extra}
use Rattle.micro_isa.specs.declared.operands.Extra.TheVariants.{Nothing, Number, Target, Receive, Send}
use Rattle.micro_isa.specs.declared.operands.Operands.{Operands}
use Rattle.micro_isa.specs.declared.limits.TheConstants.{MOST_PORTS, MOST_RING}
use Rattle.micro_isa.specs.declared.program.VReg.{VReg}
use Rattle.micro_isa.specs.declared.program.Line.{Line}
use Rattle.micro_isa.specs.declared.program.Label.{Label}
use Rattle.micro_isa.specs.declared.program.PortUse.{PortUse}
use Rattle.micro_isa.specs.declared.program.Channel.{Channel}
use Rattle.micro_isa.specs.declared.program.Channel.TheVariants as channel
use Rattle.micro_isa.specs.declared.program.Program.{Program}
use Rattle.micro_isa.specs.declared.program.Bundle.{Bundle}
use Rattle.micro_isa.specs.Names.{name_test}
use Rattle.micro_isa.specs.Columns.{target_in}
use Rattle.micro_isa.specs.Formed as formed
use Rattle.micro_isa.specs.Operands.{operation_of, operands_of}
use Rattle.micro_isa.specs.Table.{row_of, roles_of}
use Rattle.asm_context.specs.Spelt.{each_extra}
use Rattle.asm_lines.specs.Cutting.{Words}
use Rattle.asm_print.specs.Rows.{Row, Flush}
use Rattle.asm_print.specs.Canonical.{spelt, extra_word, word_in, name_at, register_name, target_name, labels_at, label_row, instruction_row, line_rows, code_rows, context_rows, words_rows, input_row, output_row, channel_rows, channels_rows, header_rows, canonical_rows}
use Rattle.asm_print.proofs.Plain.{is_plain, is_plain_word, is_plain_row}
use Rattle.asm_print.specs.Typed.{WordsFit, ExtraFits, NumberFits, IsTyped}
use Rattle.asm_print.proofs.ContextAgain.{Good, there, number_there}
use Rattle.asm_print.proofs.InstructionAgain.{is_there, is_named, written, named_at, reached, met, giver, taker, numbers_of}
use Rattle.asm_print.proofs.Mnemonics.{mnemonic_plain}
use Rattle.asm_print.proofs.Words.{name_plain, number_plain}

and_on : (w : List ℕ) (ws : Words) → is_plain_word w ≡ true → list_all is_plain_word ws ≡ true → list_all is_plain_word (w ∷ ws) ≡ true
and_on w ws e f = and_from (is_plain_word w) (list_all is_plain_word ws) e f

plain : (ws : Words) → AllByRecursion (λ w. is_plain_word w ≡ true) ws → list_all is_plain_word ws ≡ true
plain [] a = refl
plain (w ∷ ws) a = and_on w ws a.0 (plain ws a.1)

-- a register that there may be is below a bound
abbrev AllBelow : ℕ → Option VReg → Type 0
AllBelow n None = Unit {0}
AllBelow n (Some r) = nat_lt r.0 n ≡ true

below_rest : (n : ℕ) (r : Option VReg) (rs : List VReg) → formed.all_below n (map (λ (r : VReg). r.0) (cons_option r rs)) ≡ true → AllBelow n r × (formed.all_below n (map (λ (r : VReg). r.0) rs) ≡ true)
below_rest n None rs e = (tt, e)
below_rest n (Some r) rs e = and_parts (nat_lt r.0 n) (formed.all_below n (map (λ (r : VReg). r.0) rs)) e

each_below : (n : ℕ) (to a b : Option VReg) → formed.all_below n (map (λ (r : VReg). r.0) (cons_option to (cons_option a (cons_option b [])))) ≡ true → AllBelow n to × AllBelow n a × AllBelow n b
each_below n to a b e =
    let first = below_rest n to (cons_option a (cons_option b [])) e in
    let second = below_rest n a (cons_option b []) first.1 in
    let third = below_rest n b [] second.1 in
    (first.0, second.0, third.0)

rows_on : (r : Row) (rs : List Row) → is_plain_row r ≡ true → list_all is_plain_row rs ≡ true → list_all is_plain_row (r ∷ rs) ≡ true
rows_on r rs e f = and_from (is_plain_row r) (list_all is_plain_row rs) e f

rows_both : (xs ys : List Row) → list_all is_plain_row xs ≡ true → list_all is_plain_row ys ≡ true → list_all is_plain_row (xs ++ ys) ≡ true
rows_both xs ys e f = list_all-append is_plain_row xs ys ∙ and_from (list_all is_plain_row xs) (list_all is_plain_row ys) e f

-- ---- the header

numbers_plain : (ns : List ℕ) → AllByRecursion (λ n. n < 2 ^ 32) ns → list_all is_plain_word (map decimal ns) ≡ true
numbers_plain [] a = refl
numbers_plain (n ∷ ns) a = and_on (decimal n) (map decimal ns) (number_plain n a.0) (numbers_plain ns a.1)

words_plain : (name : List ℕ) (ns : List ℕ) → is_plain_word name ≡ true → AllByRecursion (λ n. n < 2 ^ 32) ns → list_all is_plain_row (words_rows name ns) ≡ true
words_plain name [] e a = refl
words_plain name (n ∷ ns) e a =
    rows_on (Flush (codes "words" ∷ name ∷ map decimal (n ∷ ns))) [] (and_on (codes "words") (name ∷ map decimal (n ∷ ns)) refl (and_on name (map decimal (n ∷ ns)) e (numbers_plain (n ∷ ns) a))) refl

ring_plain : (n : ℕ) → formed.is_ring_size n ≡ true → is_plain_word (decimal n) ≡ true
ring_plain n e = number_plain n (omega (arith, leb-true n MOST_RING (and_parts (nat_le 1 n) (nat_le n MOST_RING) e).1))

input_plain : (name : List ℕ) (port : Option PortUse) → is_plain_word name ≡ true → formed.has_formed_ring (channel.Input [] port) ≡ true → formed.all_below MOST_PORTS (filter_map formed.port_of (channel.Input [] port ∷ [])) ≡ true → is_plain_row (input_row name port) ≡ true
input_plain name None e r b = plain (codes "input" ∷ name ∷ []) (refl, (e, tt))
input_plain name (Some port) e r b =
    let p = ltb-true port.number MOST_PORTS (and_parts (nat_lt port.number MOST_PORTS) true b).0 in
    plain (codes "input" ∷ name ∷ codes "port" ∷ decimal port.number ∷ decimal port.capacity ∷ [])
    (refl, (e, (refl, (number_plain port.number (omega arith), (ring_plain port.capacity r, tt)))))

output_plain : (name : List ℕ) (port : Option ℕ) → is_plain_word name ≡ true → formed.all_below MOST_PORTS (filter_map formed.port_of (channel.Output port ∷ [])) ≡ true → is_plain_row (output_row name port) ≡ true
output_plain name None e b = plain (codes "output" ∷ name ∷ []) (refl, (e, tt))
output_plain name (Some port) e b =
    let p = ltb-true port MOST_PORTS (and_parts (nat_lt port MOST_PORTS) true b).0 in
    plain (codes "output" ∷ name ∷ codes "port" ∷ decimal port ∷ []) (refl, (e, (refl, (number_plain port (omega arith), tt))))

channel_plain : (name : List ℕ) (c : Channel) → name_test name ≡ true → formed.has_formed_ring c ≡ true → formed.all_below MOST_PORTS (filter_map formed.port_of (c ∷ [])) ≡ true → WordsFit c → list_all is_plain_row (channel_rows name c) ≡ true
channel_plain name (channel.Inner size) e r b w =
    rows_on (Flush (codes "inner" ∷ name ∷ decimal size ∷ [])) [] (plain (codes "inner" ∷ name ∷ decimal size ∷ []) (refl, (name_plain name e, (ring_plain size r, tt)))) refl
channel_plain name (channel.Input ns None) e r b w =
    rows_on (input_row name None) (words_rows name ns) (input_plain name None (name_plain name e) r b) (words_plain name ns (name_plain name e) w)
channel_plain name (channel.Input ns (Some port)) e r b w =
    rows_on (input_row name (Some port)) (words_rows name ns) (input_plain name (Some port) (name_plain name e) r b) (words_plain name ns (name_plain name e) w)
channel_plain name (channel.Output port) e r b w = rows_on (output_row name port) [] (output_plain name port (name_plain name e) b) refl

ports_parts : (c : Channel) (cs : List Channel) → formed.all_below MOST_PORTS (filter_map formed.port_of (c ∷ cs)) ≡ true → (formed.all_below MOST_PORTS (filter_map formed.port_of (c ∷ [])) ≡ true) × (formed.all_below MOST_PORTS (filter_map formed.port_of cs) ≡ true)
ports_parts c cs e =
    and_parts (formed.all_below MOST_PORTS (filter_map formed.port_of (c ∷ []))) (formed.all_below MOST_PORTS (filter_map formed.port_of cs))
    (sym (list_all-append (λ p. nat_lt p MOST_PORTS) (filter_map formed.port_of (c ∷ [])) (filter_map formed.port_of cs)) ∙ ap (formed.all_below MOST_PORTS) (sym (filter_map-append formed.port_of (c ∷ []) cs)) ∙ e)

channels_plain : (names : Words) (cs : List Channel) → list_all name_test names ≡ true → list_all formed.has_formed_ring cs ≡ true → formed.all_below MOST_PORTS (filter_map formed.port_of cs) ≡ true → AllByRecursion WordsFit cs → list_all is_plain_row (channels_rows names cs) ≡ true
channels_plain [] cs e r b w = refl
channels_plain (n ∷ ns) [] e r b w = refl
channels_plain (n ∷ ns) (c ∷ cs) e r b w =
    let f = and_parts (name_test n) (list_all name_test ns) e in
    let g = and_parts (formed.has_formed_ring c) (list_all formed.has_formed_ring cs) r in
    let h = ports_parts c cs b in
    rows_both (channel_rows n c) (channels_rows ns cs) (channel_plain n c f.0 g.0 h.0 w.0) (channels_plain ns cs f.1 g.1 h.1 w.1)

header_plain : (b : Bundle) → formed.IsFormedBundle b → IsTyped b → list_all is_plain_row (header_rows b) ≡ true
header_plain b f t =
    rows_on (Flush (codes "file" ∷ decimal b.file ∷ [])) (Flush (codes "memory" ∷ decimal b.setting.memory ∷ []) ∷ channels_rows b.names b.setting.channels)
    (plain (codes "file" ∷ decimal b.file ∷ []) (refl, (number_plain b.file (omega (arith, f.small)), tt)))
    (rows_on (Flush (codes "memory" ∷ decimal b.setting.memory ∷ [])) (channels_rows b.names b.setting.channels)
    (plain (codes "memory" ∷ decimal b.setting.memory ∷ []) (refl, (number_plain b.setting.memory (omega (arith, f.setting.memory)), tt)))
    (channels_plain b.names b.setting.channels t.names f.setting.rings f.setting.ports t.words))

-- ---- contexts

instruction_plain : (chs : Words) (kinds : List Channel) (p : Program) (i : Instr VReg) → Good chs kinds p → formed.all_below (length p.registers) (numbers_of i) ≡ true → formed.is_labelled p.labels (formed.target_of i) ≡ true → formed.fits_channels kinds i ≡ true → NumberFits i → is_plain_row (instruction_row chs p i) ≡ true
instruction_plain chs kinds p i good below labelled fits number =
    and_on (row_of (operation_of i)).mnemonic (map (word_in (spelt chs p x)) (roles_of (operation_of i))) (mnemonic_plain (operation_of i)) (words (roles_of (operation_of i)) (written chs p i).there)
  where
    x : Operands VReg ℕ ℕ
    x = operands_of i

    registers : AllBelow (length p.registers) x.to × AllBelow (length p.registers) x.a × AllBelow (length p.registers) x.b
    registers = each_below (length p.registers) x.to x.a x.b below

    register : (r : Option VReg) → is_some r ≡ true → AllBelow (length p.registers) r → is_plain_word (unwrap_or (option_map (register_name p) r) []) ≡ true
    register None e b = absurd (cc)
    register (Some r) e b = name_plain (register_name p r) (named_at p.registers r.0 good.typed.registers (ltb-true r.0 (length p.registers) b))

    channel : (k : ℕ) → k < length kinds → is_plain_word (name_at chs k) ≡ true
    channel k h = name_plain (name_at chs k) (met chs kinds k good.channels h).named

    other : (y : Extra ℕ ℕ) → is_named y ≡ true → formed.is_labelled p.labels (target_in y) ≡ true → formed.fits_extra kinds y ≡ true → ExtraFits y → is_plain_word (extra_word (each_extra decimal (target_name p.labels) (name_at chs) y)) ≡ true
    other Nothing e l f n = absurd (cc)
    other (Number m) e l f n = number_plain m n
    other (Target t) e l f n = name_plain (target_name p.labels t) (reached p.labels t good.typed.labels good.formed.label_names l).named
    other (Receive k) e l f n = channel k (giver kinds k f)
    other (Send k) e l f n = channel k (taker kinds k f)

    word : (r : Role) → is_there x r ≡ true → is_plain_word (word_in (spelt chs p x) r) ≡ true
    word To e = register x.to e registers.0
    word A e = register x.a e registers.1
    word B e = register x.b e registers.2
    word role.Number e = other x.extra e labelled fits number
    word role.Target e = other x.extra e labelled fits number
    word role.Receive e = other x.extra e labelled fits number
    word role.Send e = other x.extra e labelled fits number

    words : (rs : List Role) → list_all (is_there x) rs ≡ true → list_all is_plain_word (map (word_in (spelt chs p x)) rs) ≡ true
    words [] e = refl
    words (r ∷ rs) e =
        let both = and_parts (is_there x r) (list_all (is_there x) rs) e in
        and_on (word_in (spelt chs p x) r) (map (word_in (spelt chs p x)) rs) (word r both.0) (words rs both.1)

ended_plain : (w : List ℕ) → is_plain_word w ≡ true → is_plain_word (w ++ codes ":") ≡ true
ended_plain [] e = refl
ended_plain (c ∷ cs) e = list_all-append is_plain (c ∷ cs) (codes ":") ∙ and_from (list_all is_plain (c ∷ cs)) true e refl

labels_plain : (at : ℕ) (ls : List Label) → list_all (λ l. name_test l.name) ls ≡ true → list_all is_plain_row (map label_row (labels_at ls at)) ≡ true
labels_plain at [] e = refl
labels_plain at (l ∷ ls) e = go (labels_plain at ls a.1) (l.target == at) refl
  where
    a : (name_test l.name ≡ true) × (list_all (λ l. name_test l.name) ls ≡ true)
    a = and_parts (name_test l.name) (list_all (λ l. name_test l.name) ls) e

    go : list_all is_plain_row (map label_row (labels_at ls at)) ≡ true → (b : Bool) → (l.target == at) ≡ b → list_all is_plain_row (map label_row (labels_at (l ∷ ls) at)) ≡ true
    go ih true f =
        ap (λ (b : Bool). list_all is_plain_row (map label_row (cond b (l ∷ labels_at ls at) (labels_at ls at)))) f
        ∙ rows_on (label_row l) (map label_row (labels_at ls at)) (and_on (l.name ++ codes ":") [] (ended_plain l.name (name_plain l.name a.0)) refl) ih
    go ih false f = ap (λ (b : Bool). list_all is_plain_row (map label_row (cond b (l ∷ labels_at ls at) (labels_at ls at)))) f ∙ ih

code_plain : (chs : Words) (kinds : List Channel) (p : Program) → Good chs kinds p → (at : ℕ) (done ls : List Line) → done ++ ls ≡ p.code → list_all is_plain_row (code_rows chs p at ls) ≡ true
code_plain chs kinds p good at done [] e = refl
code_plain chs kinds p good at done (l ∷ ls) e =
    let here : slice_get p.code (length done) ≡ Some l = ap (λ c. slice_get c (length done)) (sym e) ∙ there done l ls in
    let below = (and_parts (formed.all_below (length p.registers) (numbers_of l.instr)) (formed.option_below (length p.code) (formed.target_of l.instr)) (good.formed.named (length done) l here)).0 in
    let number = number_there (λ l. NumberFits l.instr) done l ls (subst (AllByRecursion (λ (l : Line). NumberFits l.instr)) (sym e) good.typed.numbers) in
    rows_both (line_rows chs p at l) (code_rows chs p (at + 1) ls)
    (rows_both (map label_row (labels_at p.labels at)) (instruction_row chs p l.instr ∷ []) (labels_plain at p.labels good.typed.labels)
    (rows_on (instruction_row chs p l.instr) [] (instruction_plain chs kinds p l.instr good below (good.formed.labelled (length done) l here) (good.fits (length done) l here) number) refl))
    (code_plain chs kinds p good (at + 1) (done ++ l ∷ []) ls (append_assoc done (l ∷ []) ls ∙ e))

contexts_plain : (chs : Words) (kinds : List Channel) (ps : List Program) → AllByRecursion (Good chs kinds) ps → list_all is_plain_row (flat_map (context_rows chs) ps) ≡ true
contexts_plain chs kinds [] g = refl
contexts_plain chs kinds (p ∷ ps) g =
    rows_both (context_rows chs p) (flat_map (context_rows chs) ps)
    (rows_on (Flush (codes "context" ∷ p.name ∷ [])) (code_rows chs p 0 p.code) (plain (codes "context" ∷ p.name ∷ []) (refl, (name_plain p.name (g.0).typed.name, tt))) (code_plain chs kinds p g.0 0 [] p.code refl))
    (contexts_plain chs kinds ps g.1)

pub all_rows_plain : (b : Bundle) → formed.IsFormedBundle b → IsTyped b → AllByRecursion (Good b.names b.setting.channels) b.programs → list_all is_plain_row (canonical_rows b) ≡ true
all_rows_plain b f t g =
    rows_both (header_rows b) (flat_map (context_rows b.names) b.programs) (header_plain b f t) (contexts_plain b.names b.setting.channels b.programs g)
