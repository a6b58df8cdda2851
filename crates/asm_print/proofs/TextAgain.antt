-- The canonical text of a formed bundle has no fault, and says the bundle.
use Rattle.std.proofs.Common.{◌≡◌, ◌++◌, ◌<◌, ◌≤◌, ◌||◌, ◌&&◌, ℕ, ◌+◌, suc, Bool, true, false, not, List, [], ◌∷◌, Option, Some, None, refl, sym, ap, ◌∙◌, arith, length, map, sum, codes, append_assoc, if◌then◌else◌, is_none, nat_eq, unwrap_or}
use Rattle.std.proofs.lemmas.Bool.{and_parts, and_from, or_right, or_left, lt-leb, not-true}
use Rattle.std.proofs.lemmas.List.{length-append}
use Rattle.std.proofs.lemmas.List.Folds.{list_all-append, list_any-append}
use Rattle.std.proofs.lemmas.Slice.Eq.{bytes_eq-Decides}
use Rattle.std.specs.List.{list_all, list_any, flat_map, AllByRecursion}
use Rattle.std.specs.Str.{bytes_eq}
use Rattle.micro_isa.specs.declared.instr.Instr.{Instr}
use Rattle.micro_isa.specs.declared.limits.TheConstants.{MOST_CONTEXTS}
use Rattle.micro_isa.specs.declared.program.VReg.{VReg}
use Rattle.micro_isa.specs.declared.program.Line.{Line}
use Rattle.micro_isa.specs.declared.program.Label.{Label}
use Rattle.micro_isa.specs.declared.program.Channel.{Channel}
use Rattle.micro_isa.specs.declared.program.Channel.TheVariants as channel
use Rattle.micro_isa.specs.declared.program.Program.{Program}
use Rattle.micro_isa.specs.declared.program.Bundle.{Bundle}
use Rattle.micro_isa.specs.Names.{name_test}
use Rattle.micro_isa.specs.Formed.{Each, IsFormedProgram, IsFormedBundle, fits_channels, is_distinct, initial_count}
use Rattle.asm_lines.specs.declared.fault.BundleKind.{BundleKind}
use Rattle.asm_lines.specs.declared.fault.BundleKind.TheVariants as kind
use Rattle.asm_lines.specs.Cutting.{Words, TextLine, text_lines}
use Rattle.asm_lines.specs.Verdicts.{at_or, or_else, first_fault}
use Rattle.asm_lines.specs.Tables.{knows}
use Rattle.asm_header.specs.Headers.{Header, header_of, setting_of}
use Rattle.asm_header.specs.Faults.{header_verdicts}
use Rattle.asm_context.specs.Faults as context
use Rattle.asm_context.specs.Forms.{Body, does, label_in}
use Rattle.asm_context.specs.Said.{line_body}
use Rattle.asm_lines.specs.Sections.{starts, ahead}
use Rattle.asm_text.specs.Contexts.{has_instruction, start_test, start_fault, context_verdicts, context_fault, names_with, contexts_verdicts, contexts_fault, program_at, programs}
use Rattle.asm_text.specs.Texts.{header_in, end_verdict, lines_fault, text_fault, bundle_said}
use Rattle.asm_print.specs.Rows.{Row}
use Rattle.asm_print.specs.Canonical.{labels_at, label_row, instruction_row, line_rows, code_rows, context_rows, words_rows, channel_rows, channels_rows, header_rows, canonical_rows, canonical_text}
use Rattle.asm_print.proofs.Plain.{row_words, lines_with}
use Rattle.asm_print.specs.Typed.{IsTypedProgram, IsTyped}
use Rattle.asm_print.specs.Again.{unlined, unlined_program, SpellsAgain}
use Rattle.asm_print.proofs.Bytes.{rows_again}
use Rattle.asm_print.proofs.ContextAgain.{Good, said_again}
use Rattle.asm_print.proofs.ContextLines.{label_again}
use Rattle.asm_lines.proofs.First.{no_kind}
use Rattle.asm_lines.proofs.Verdicts.{first_append, free_in}
use Rattle.asm_print.proofs.HeaderAgain.{header_leads}
use Rattle.asm_print.proofs.HeaderLines.{so_far}
use Rattle.asm_print.proofs.InstructionAgain.{Channelled, body_again, shape}
use Rattle.asm_print.proofs.Mnemonics.{mnemonic_stays}
use Rattle.micro_isa.specs.Operands.{operation_of}
use Rattle.asm_print.proofs.Lines.{lines-append}
use Rattle.asm_print.proofs.PlainRows.{all_rows_plain}
use Rattle.asm_print.proofs.Tables.{fresh, declare_new}

-- ---- which lines begin contexts

-- a line that begins no context
abbrev stays : Row → Bool
stays row = not (starts (row_words row))

abbrev stay : List TextLine → Bool
stay lines = list_all (λ l. not (starts l.words)) lines

stay_rows : (n : ℕ) (rows : List Row) → list_all stays rows ≡ true → stay (lines_with n rows) ≡ true
stay_rows n [] e = refl
stay_rows n (r ∷ rs) e = let a = and_parts (stays r) (list_all stays rs) e in and_from (stays r) (stay (lines_with (n + 1) rs)) a.0 (stay_rows (n + 1) rs a.1)

both_stay : (xs ys : List Row) → list_all stays xs ≡ true → list_all stays ys ≡ true → list_all stays (xs ++ ys) ≡ true
both_stay xs ys e f = list_all-append stays xs ys ∙ and_from (list_all stays xs) (list_all stays ys) e f

words_stay : (name : List ℕ) (ns : List ℕ) → list_all stays (words_rows name ns) ≡ true
words_stay name [] = refl
words_stay name (n ∷ ns) = refl

channel_stays : (name : List ℕ) (c : Channel) → list_all stays (channel_rows name c) ≡ true
channel_stays name (channel.Inner size) = refl
channel_stays name (channel.Input ns None) = words_stay name ns
channel_stays name (channel.Input ns (Some port)) = words_stay name ns
channel_stays name (channel.Output None) = refl
channel_stays name (channel.Output (Some port)) = refl

channels_stay : (names : Words) (cs : List Channel) → list_all stays (channels_rows names cs) ≡ true
channels_stay [] cs = refl
channels_stay (n ∷ ns) [] = refl
channels_stay (n ∷ ns) (c ∷ cs) = both_stay (channel_rows n c) (channels_rows ns cs) (channel_stays n c) (channels_stay ns cs)

header_stays : (b : Bundle) → list_all stays (header_rows b) ≡ true
header_stays b = channels_stay b.names b.setting.channels

instruction_stays : (chs : Words) (p : Program) (i : Instr VReg) → stays (instruction_row chs p i) ≡ true
instruction_stays chs p i = mnemonic_stays (operation_of i)

-- the word `context` ends with no colon
label_stays : (l : Label) → stays (label_row l) ≡ true
label_stays l = go (bytes_eq (l.name ++ codes ":") (codes "context")) refl
  where
    go : (b : Bool) → bytes_eq (l.name ++ codes ":") (codes "context") ≡ b → not (bytes_eq (l.name ++ codes ":") (codes "context")) ≡ true
    go false e = ap (λ (b : Bool). not b) e
    go true e =
        let same : l.name ++ codes ":" ≡ codes "context" = grind (arith, bytes_eq-Decides) in
        let none : Some l.name ≡ None = sym (label_again l.name) ∙ ap label_in same in
        absurd (cc)

labels_stay : (ls : List Label) → list_all stays (map label_row ls) ≡ true
labels_stay [] = refl
labels_stay (l ∷ ls) = and_from (stays (label_row l)) (list_all stays (map label_row ls)) (label_stays l) (labels_stay ls)

code_stays : (chs : Words) (p : Program) (at : ℕ) (ls : List Line) → list_all stays (code_rows chs p at ls) ≡ true
code_stays chs p at [] = refl
code_stays chs p at (l ∷ ls) =
    both_stay (line_rows chs p at l) (code_rows chs p (at + 1) ls)
    (both_stay (map label_row (labels_at p.labels at)) (instruction_row chs p l.instr ∷ []) (labels_stay (labels_at p.labels at))
    (and_from (stays (instruction_row chs p l.instr)) true (instruction_stays chs p l.instr) refl))
    (code_stays chs p (at + 1) ls)

-- ---- lines before a context line

-- nothing follows, or a context line
abbrev turns : List TextLine → Bool
turns [] = true
turns (l ∷ ls) = starts l.words

ahead_all : (xs ys : List TextLine) → stay xs ≡ true → turns ys ≡ true → ahead (xs ++ ys) ≡ xs
ahead_all [] [] e t = refl
ahead_all [] (y ∷ ys) e t = ap (λ (b : Bool). if b then [] else y ∷ ahead ys) t
ahead_all (x ∷ xs) ys e t =
    let a = and_parts (not (starts x.words)) (stay xs) e in
    ap (λ (b : Bool). if b then [] else x ∷ ahead (xs ++ ys)) (not-true (starts x.words) a.0) ∙ ap (λ ls. x ∷ ls) (ahead_all xs ys a.1 t)

faults_pass : (h : Header) (names : Words) (xs ys : List TextLine) → stay xs ≡ true → contexts_fault h names (xs ++ ys) ≡ contexts_fault h names ys
faults_pass h names [] ys e = refl
faults_pass h names (x ∷ xs) ys e =
    let a = and_parts (not (starts x.words)) (stay xs) e in
    ap (λ (b : Bool). first_fault (if b then context_verdicts h names x (ahead (xs ++ ys)) ++ contexts_verdicts h (names_with names x) (xs ++ ys) else contexts_verdicts h names (xs ++ ys))) (not-true (starts x.words) a.0)
    ∙ faults_pass h names xs ys a.1

programs_pass : (h : Header) (xs ys : List TextLine) → stay xs ≡ true → programs h (xs ++ ys) ≡ programs h ys
programs_pass h [] ys e = refl
programs_pass h (x ∷ xs) ys e =
    let a = and_parts (not (starts x.words)) (stay xs) e in
    ap (λ (b : Bool). if b then program_at h x (ahead (xs ++ ys)) ∷ programs h (xs ++ ys) else programs h (xs ++ ys)) (not-true (starts x.words) a.0)
    ∙ programs_pass h xs ys a.1

contexts_turn : (n : ℕ) (chs : Words) (ps : List Program) → turns (lines_with n (flat_map (context_rows chs) ps)) ≡ true
contexts_turn n chs [] = refl
contexts_turn n chs (p ∷ ps) = refl

-- ---- contexts

does_instruction : (chs : Words) (p : Program) (n : ℕ) (i : Instr VReg) → does (line_body (record { number = n; fair = true; words = row_words (instruction_row chs p i) })).form ≡ true
does_instruction chs p n i = ap (λ (b : Body). does b.form) (body_again chs p i) ∙ (shape chs p i).does

code_does : (chs : Words) (p : Program) (n at : ℕ) (ls : List Line) → 1 ≤ length ls → has_instruction (lines_with n (code_rows chs p at ls)) ≡ true
code_does chs p n at [] h = absurd (omega arith)
code_does chs p n at (l ∷ ls) h =
    let group = map label_row (labels_at p.labels at) in
    ap has_instruction (lines-append n (line_rows chs p at l) (code_rows chs p (at + 1) ls) ∙ ap (λ xs. xs ++ lines_with (n + length (line_rows chs p at l)) (code_rows chs p (at + 1) ls)) (lines-append n group (instruction_row chs p l.instr ∷ [])))
    ∙ list_any-append (λ l. does (line_body l).form) (lines_with n group ++ lines_with (n + length group) (instruction_row chs p l.instr ∷ [])) (lines_with (n + length (line_rows chs p at l)) (code_rows chs p (at + 1) ls))
    ∙ or_left (has_instruction (lines_with n group ++ lines_with (n + length group) (instruction_row chs p l.instr ∷ []))) _
    (list_any-append (λ l. does (line_body l).form) (lines_with n group) (lines_with (n + length group) (instruction_row chs p l.instr ∷ []))
    ∙ or_right (has_instruction (lines_with n group)) _ (or_left (does (line_body (record { number = n + length group; fair = true; words = row_words (instruction_row chs p l.instr) })).form) false (does_instruction chs p (n + length group) l.instr)))

-- contexts whose names are new behind these
record Behind (before : Words) (ps : List Program) : Type 0 where
  distinct : is_distinct bytes_eq (before ++ map (λ p. p.name) ps) ≡ true
  few : length before + length ps ≤ MOST_CONTEXTS

record Told (h : Header) (before : Words) (n : ℕ) (ps : List Program) : Type 0 where
  free : contexts_fault h before (lines_with n (flat_map (context_rows h.names) ps)) ≡ None
  same : map unlined_program (programs h (lines_with n (flat_map (context_rows h.names) ps))) ≡ map unlined_program ps

abbrev context_line : ℕ → Program → TextLine
context_line n p = record { number = n; fair = true; words = codes "context" ∷ p.name ∷ [] }

starts_free : (h : Header) (file : ℕ) (before : Words) (n : ℕ) (p : Program) (lines : List TextLine) → h.file ≡ Some file → name_test p.name ≡ true → length before < MOST_CONTEXTS → knows before p.name ≡ false → has_instruction lines ≡ true → (k : BundleKind) → start_test h before (context_line n p) lines k ≡ false
starts_free h file before n p lines f named few new does kind.Name = ap (λ (b : Bool). not b || false) named
starts_free h file before n p lines f named few new does kind.Limit = lt-leb MOST_CONTEXTS (length before) few
starts_free h file before n p lines f named few new does kind.Repeated = ap (λ (b : Bool). b || false) new
starts_free h file before n p lines f named few new does kind.Missing = ap (λ (o : Option ℕ). is_none o && nat_eq (length before) 0) f
starts_free h file before n p lines f named few new does kind.Empty = ap (λ (b : Bool). not b) does
starts_free h file before n p lines f named few new does _ = refl

contexts_told : (h : Header) (file : ℕ) → h.file ≡ Some file → (before : Words) (n : ℕ) (ps : List Program) → AllByRecursion (Good h.names h.channels) ps → Behind before ps → Told h before n ps
contexts_told h file f before n [] g b = record { free = refl; same = refl }
contexts_told h file f before n (p ∷ ps) g b =
    let body = lines_with (n + 1) (code_rows h.names p 0 p.code) in
    let m = n + 1 + length (code_rows h.names p 0 p.code) in
    let rest = lines_with m (flat_map (context_rows h.names) ps) in
    let split : lines_with (n + 1) (code_rows h.names p 0 p.code ++ flat_map (context_rows h.names) ps) ≡ body ++ rest = lines-append (n + 1) (code_rows h.names p 0 p.code) (flat_map (context_rows h.names) ps) in
    let stays : stay body ≡ true = stay_rows (n + 1) (code_rows h.names p 0 p.code) (code_stays h.names p 0 p.code) in
    let own : ahead (body ++ rest) ≡ body = ahead_all body rest stays (contexts_turn m h.names ps) in
    let new : knows before p.name ≡ false = fresh before p.name (map (λ (p : Program). p.name) ps) b.distinct in
    let again = said_again h.names h.channels p g.0 (n + 1) in
    let more = contexts_told h file f (before ++ p.name ∷ []) m ps g.1 (record {
      distinct = ap (is_distinct bytes_eq) (append_assoc before (p.name ∷ []) (map (λ (p : Program). p.name) ps)) ∙ b.distinct;
      few = omega (arith, b.few, length-append before (p.name ∷ []));
    }) in
    let start : start_fault h before (context_line n p) body ≡ None =
    no_kind (start_test h before (context_line n p) body) (starts_free h file before n p body f (g.0).typed.name (omega (arith, b.few)) new (code_does h.names p (n + 1) 0 p.code (g.0).formed.some)) in
    record {
      free =
          ap (λ ls. contexts_fault h before (context_line n p ∷ ls)) split
          ∙ first_append (context_verdicts h before (context_line n p) (ahead (body ++ rest))) (contexts_verdicts h (names_with before (context_line n p)) (body ++ rest))
          ∙ ap (λ own. or_else (context_fault h before (context_line n p) own) (contexts_fault h (names_with before (context_line n p)) (body ++ rest))) own
          ∙ ap (λ k. or_else (at_or n k (context.lines_fault (context.channels h.names h.channels) body)) (contexts_fault h (names_with before (context_line n p)) (body ++ rest))) start
          ∙ ap (λ o. or_else o (contexts_fault h (names_with before (context_line n p)) (body ++ rest))) again.free
          ∙ ap (λ (ns : Words). contexts_fault h ns (body ++ rest)) (declare_new before p.name new)
          ∙ faults_pass h (before ++ p.name ∷ []) body rest stays
          ∙ more.free;
      same =
          ap (λ ls. map unlined_program (program_at h (context_line n p) (ahead ls) ∷ programs h ls)) split
          ∙ ap (λ own. map unlined_program (program_at h (context_line n p) own ∷ programs h (body ++ rest))) own
          ∙ ap (λ q. q ∷ map unlined_program (programs h (body ++ rest))) again.same
          ∙ ap (λ ps. unlined_program p ∷ map unlined_program ps) (programs_pass h body rest stays)
          ∙ ap (λ ps. unlined_program p ∷ ps) more.same;
    }

-- ---- the whole text

goods : (chs : Words) (kinds : List Channel) (ps : List Program) → Channelled chs kinds → Each ps IsFormedProgram → AllByRecursion IsTypedProgram ps → Each ps (λ p. Each p.code (λ l. fits_channels kinds l.instr ≡ true)) → AllByRecursion (Good chs kinds) ps
goods chs kinds [] c f t e = tt
goods chs kinds (p ∷ ps) c f t e =
    (record { formed = f 0 p refl; typed = t.0; channels = c; fits = e 0 p refl }, goods chs kinds ps c (λ i x h. f (suc i) x h) t.1 (λ i x h. e (suc i) x h))

begun : (n : ℕ) (chs : Words) (ps : List Program) → 1 ≤ length ps → list_any (λ l. starts l.words) (lines_with n (flat_map (context_rows chs) ps)) ≡ true
begun n chs [] h = absurd (omega arith)
begun n chs (p ∷ ps) h = refl

record SaidAgain (b : Bundle) : Type 0 where
  free : text_fault (canonical_text b) ≡ None
  same : unlined (bundle_said (text_lines (canonical_text b))) ≡ unlined b

said_whole : (b : Bundle) → IsFormedBundle b → IsTyped b → SaidAgain b
unfolding canonical_text
said_whole b f t =
    let channelled : Channelled b.names b.setting.channels = record { same = f.names; named = t.names; distinct = f.distinct } in
    let good = goods b.names b.setting.channels b.programs channelled f.programs t.programs f.channels in
    let h = so_far b.file b.setting.memory b.names b.setting.channels (0 + sum (map initial_count b.setting.channels)) in
    let head = lines_with 1 (header_rows b) in
    let n = 1 + length (header_rows b) in
    let tail = lines_with n (flat_map (context_rows b.names) b.programs) in
    let lines : text_lines (canonical_text b) ≡ head ++ tail = rows_again (canonical_rows b) (all_rows_plain b f t good) ∙ lines-append 1 (header_rows b) (flat_map (context_rows b.names) b.programs) in
    let last = end_verdict (head ++ tail) ∷ [] in
    let leads = header_leads b f t in
    let stays : stay head ≡ true = stay_rows 1 (header_rows b) (header_stays b) in
    let front : ahead (head ++ tail) ≡ head = ahead_all head tail stays (contexts_turn n b.names b.programs) in
    let header : header_in (head ++ tail) ≡ h = ap header_of front ∙ leads.said in
    let told = contexts_told h b.file refl [] n b.programs good (record { distinct = f.contexts; few = omega (arith, f.few) }) in
    let some : list_any (λ l. starts l.words) (head ++ tail) ≡ true =
    list_any-append (λ l. starts l.words) head tail ∙ or_right (list_any (λ l. starts l.words) head) (list_any (λ l. starts l.words) tail) (begun n b.names b.programs f.some) in
    record {
      free =
          ap lines_fault lines
          ∙ free_in (header_verdicts (ahead (head ++ tail))) (contexts_verdicts (header_in (head ++ tail)) [] (head ++ tail) ++ last) (ap (λ ls. first_fault (header_verdicts ls)) front ∙ leads.free)
          ∙ free_in (contexts_verdicts (header_in (head ++ tail)) [] (head ++ tail)) last (ap (λ h. contexts_fault h [] (head ++ tail)) header ∙ faults_pass h [] head tail stays ∙ told.free)
          ∙ ap (λ (c : Bool). first_fault ((length (head ++ tail) + 1, if c then None else Some kind.Missing) ∷ [])) some;
      same =
          ap (λ ls. unlined (bundle_said ls)) lines
          ∙ ap (λ (h : Header). unlined (record { file = unwrap_or h.file 0; setting = setting_of h; names = h.names; programs = programs h (head ++ tail) })) header
          ∙ ap (λ ps. unlined (record { file = b.file; setting = b.setting; names = b.names; programs = ps })) (programs_pass h head tail stays)
          ∙ ap (λ ps. record { file = b.file; setting = b.setting; names = b.names; programs = ps }) told.same;
    }

pub spells_again : (b : Bundle) → IsFormedBundle b → IsTyped b → SpellsAgain (canonical_text b) b
spells_again b f t = let s = said_whole b f t in record { spelled = bundle_said (text_lines (canonical_text b)); spells = record { free = s.free; said = refl }; same = s.same }
