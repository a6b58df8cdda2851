-- What the lines of a context say is in order, where no line has a fault.
use Rattle.std.proofs.Common.{◌≡◌, ◌&&◌, ◌++◌, ◌≤◌, ◌<◌, ℕ, ◌+◌, Bool, true, false, not, List, [], ◌∷◌, Option, Some, None, length, refl, sym, ap, ◌∙◌, subst, arith, fold, if◌then◌else◌, nat_lt, nat_eq}
use Rattle.std.specs.Prelude.{nat_le, is_some}
use Rattle.std.specs.List.{list_any, list_all}
use Rattle.std.specs.Str.{bytes_eq}
use Rattle.std.proofs.lemmas.Bool.{true≢false, and_parts, and_from, or_parts, ltb-false, lt-ltb, leb-true, le-leb, eqb-false}
use Rattle.std.proofs.lemmas.List.{length-append}
use Rattle.std.proofs.lemmas.List.Folds.{list_all-append}
use Rattle.micro_isa.specs.Formed.{is_distinct, all_below, never_drops}
use Rattle.asm_lines.specs.Cutting.{Words, TextLine}
use Rattle.micro_isa.specs.declared.limits.TheConstants.{MOST_REGISTERS, MOST_INSTRUCTIONS}
use Rattle.asm_lines.specs.Tables.{knows, declare, one}
use Rattle.asm_lines.specs.declared.fault.BundleKind.TheVariants as kind
use Rattle.asm_lines.proofs.First.{none_met}
use Rattle.asm_lines.proofs.Verdicts.{none_at}
use Rattle.asm_lines.proofs.Known.{distinct_snoc, distinct_fold, other_word}
use Rattle.asm_context.specs.Forms.{Body, does, ends, registers_in}
use Rattle.asm_context.specs.Said.{Said, with_body, with_line, line_body, said_by, count, targets_after}
use Rattle.asm_context.specs.Faults.{Channels, body_test, is_loose, line_fault, faults_after, lines_fault}
use Rattle.asm_context.proofs.Naming.{said_snoc}

-- labels and their targets, where so many instructions stand before, of so many in all
pub record AreLabels (total done : ℕ) (labels : Words) (targets : List ℕ) : Type 0 where
  pub distinct : is_distinct bytes_eq labels ≡ true
  pub same : length targets ≡ length labels
  pub order : never_drops 0 targets ≡ true
  pub reached : list_all (λ t. nat_le t done) targets ≡ true
  pub below : all_below total targets ≡ true

drops_snoc : (least : ℕ) (xs : List ℕ) (y : ℕ) → never_drops least xs ≡ true → list_all (λ t. nat_le t y) xs ≡ true → nat_le least y ≡ true → never_drops least (xs ++ y ∷ []) ≡ true
drops_snoc least [] y e all le = and_from (nat_le least y) true le refl
drops_snoc least (x ∷ xs) y e all le =
    let parts = and_parts (nat_le least x) (never_drops x xs) e in
    let each = and_parts (nat_le x y) (list_all (λ t. nat_le t y) xs) all in
    and_from (nat_le least x) (never_drops x (xs ++ y ∷ [])) parts.0 (drops_snoc x xs y parts.1 each.1 each.0)

reached_later : (a b : ℕ) (xs : List ℕ) → a ≤ b → list_all (λ t. nat_le t a) xs ≡ true → list_all (λ t. nat_le t b) xs ≡ true
reached_later a b [] le e = refl
reached_later a b (x ∷ xs) le e =
    let parts = and_parts (nat_le x a) (list_all (λ t. nat_le t a) xs) e in
    and_from (nat_le x b) (list_all (λ t. nat_le t b) xs) (le-leb x b (omega (arith, leb-true x a parts.0))) (reached_later a b xs le parts.1)

labels_later : (total done more : ℕ) (labels : Words) (targets : List ℕ) → done ≤ more → AreLabels total done labels targets → AreLabels total more labels targets
labels_later total done more labels targets le l = record {
  distinct = l.distinct;
  same = l.same;
  order = l.order;
  reached = reached_later done more targets le l.reached;
  below = l.below;
}

label_new : (total done : ℕ) (labels : Words) (targets : List ℕ) (name : List ℕ) → AreLabels total done labels targets → done < total → knows labels name ≡ false → AreLabels total done (labels ++ name ∷ []) (targets ++ done ∷ [])
label_new total done labels targets name l lt new = record {
  distinct = distinct_snoc bytes_eq other_word labels name l.distinct new;
  same = omega (arith, length-append labels (name ∷ []), length-append targets (done ∷ []), l.same);
  order = drops_snoc 0 targets done l.order l.reached (le-leb 0 done (omega arith));
  reached = list_all-append (λ t. nat_le t done) targets (done ∷ []) ∙ and_from (list_all (λ t. nat_le t done) targets) (nat_le done done && true) l.reached (and_from (nat_le done done) true (le-leb done done (omega arith)) refl);
  below = list_all-append (λ t. nat_lt t total) targets (done ∷ []) ∙ and_from (all_below total targets) (nat_lt done total && true) l.below (and_from (nat_lt done total) true (lt-ltb done total lt) refl);
}

labels_with : (total done : ℕ) (labels : Words) (targets : List ℕ) (label : Option (List ℕ)) → AreLabels total done labels targets → ((name : List ℕ) → label ≡ Some name → done < total) → AreLabels total done (fold declare labels (one label)) (targets_after labels targets done label)
labels_with total done labels targets None l lt = l
labels_with total done labels targets (Some name) l lt =
    let go : (t : Bool) → knows labels name ≡ t → AreLabels total done (if t then labels else labels ++ name ∷ []) (if t then targets else targets ++ done ∷ []) = λ t. elim t as (λ t. knows labels name ≡ t → AreLabels total done (if t then labels else labels ++ name ∷ []) (if t then targets else targets ++ done ∷ [])) [
      | true ↦ λ e. l
      | false ↦ λ e. label_new total done labels targets name l (lt name refl) e
    ]
    in go (knows labels name) refl

pub record IsOrderly (all s : Said) : Type 0 where
  pub registers : length s.registers ≤ MOST_REGISTERS
  pub done : s.done ≤ MOST_INSTRUCTIONS
  pub distinct : is_distinct bytes_eq s.registers ≡ true
  pub labels : AreLabels all.done s.done s.labels s.targets

not_equal : (a b : ℕ) (t : Bool) → t ≡ true → (nat_eq a b && t) ≡ false → nat_eq a b ≡ false
not_equal a b t is e =
    let go : (n : Bool) → (n && t) ≡ false → n ≡ false = λ n. elim n as (λ n. (n && t) ≡ false → n ≡ false) [
      | true ↦ λ f. absurd (true≢false (sym is ∙ f))
      | false ↦ λ f. refl
    ] in go (nat_eq a b) e

-- an instruction stands at or behind a label
before_end : (all s : Said) (b : Body) (name : List ℕ) → (with_body s b).done ≤ all.done → (nat_eq (with_body s b).done all.done && is_loose b) ≡ false → b.label ≡ Some name → s.done < all.done
before_end all s b name le loose is =
    let Goal : Bool → Type 0 = λ d. s.done + count d ≤ all.done → (nat_eq (s.done + count d) all.done && (if d then not (ends b.form) else is_some b.label)) ≡ false → s.done < all.done in
    let go : (d : Bool) → Goal d = λ d. elim d as Goal [
      | true ↦ λ le loose. omega arith
      | false ↦ λ le loose. let ne = eqb-false (s.done + 0) all.done (not_equal (s.done + 0) all.done (is_some b.label) (ap is_some is) loose) in omega (arith, ne)
    ] in go (does b.form) le loose

orderly_line : (chs : Channels) (all s : Said) (line : TextLine) → IsOrderly all s → (with_line s line).done ≤ all.done → line_fault chs s all line ≡ None → IsOrderly all (with_line s line)
orderly_line chs all s line o le e =
    let b = line_body line in
    let now = with_line s line in
    let t = none_met (body_test chs (list_any (knows s.labels) (one b.label)) now all line.fair b) e in
    let limits = or_parts (nat_lt MOST_REGISTERS (length now.registers)) (nat_lt MOST_INSTRUCTIONS now.done) (t kind.Limit) in
    record {
      registers = ltb-false MOST_REGISTERS (length now.registers) limits.0;
      done = ltb-false MOST_INSTRUCTIONS now.done limits.1;
      distinct = distinct_fold (registers_in b.form) s.registers o.distinct;
      labels = labels_later all.done s.done now.done now.labels now.targets (omega arith)
          (labels_with all.done s.done s.labels s.targets b.label o.labels (λ name is. before_end all s b name le (t kind.FallsOff) is));
    }

count_grows : (s : Said) (line : TextLine) → s.done ≤ (with_line s line).done
count_grows s line = omega arith

pub done_grows : (lines : List TextLine) (s : Said) → s.done ≤ (fold with_line s lines).done
done_grows [] s = omega arith
done_grows (line ∷ lines) s = omega (arith, count_grows s line, done_grows lines (with_line s line))

declared_grows : (names : Words) (w : List ℕ) → length names ≤ length (declare names w)
declared_grows names w = elim (knows names w) as (λ t. length names ≤ length (if t then names else names ++ w ∷ [])) [
  | true ↦ omega arith
  | false ↦ omega (arith, length-append names (w ∷ []))
]

fold_grows : (ws names : Words) → length names ≤ length (fold declare names ws)
fold_grows [] names = omega arith
fold_grows (w ∷ ws) names = omega (arith, declared_grows names w, fold_grows ws (declare names w))

pub registers_grow : (lines : List TextLine) (s : Said) → length s.registers ≤ length (fold with_line s lines).registers
registers_grow [] s = omega arith
registers_grow (line ∷ lines) s = omega (arith, fold_grows (registers_in (line_body line).form) s.registers, registers_grow lines (with_line s line))

orderly_after : (chs : Channels) (all : Said) (before lines : List TextLine) → IsOrderly all (said_by before) → faults_after chs all before lines ≡ None → all ≡ fold with_line (said_by before) lines → IsOrderly all all
orderly_after chs all before [] o e is = subst (IsOrderly all) (sym is) o
orderly_after chs all before (line ∷ lines) o e is =
    let s = said_by before in
    let both = none_at line.number (line_fault chs s all line) (faults_after chs all (before ++ line ∷ []) lines) e in
    let le : (with_line s line).done ≤ all.done = omega (arith, done_grows lines (with_line s line), ap (λ (a : Said). a.done) is) in
    let now = subst (IsOrderly all) (sym (said_snoc before line)) (orderly_line chs all s line o le both.0) in
    orderly_after chs all (before ++ line ∷ []) lines now both.1 (is ∙ ap (λ s. fold with_line s lines) (sym (said_snoc before line)))

pub orderly : (chs : Channels) (lines : List TextLine) → lines_fault chs lines ≡ None → IsOrderly (said_by lines) (said_by lines)
orderly chs lines e = orderly_after chs (said_by lines) [] lines none e refl
  where
    none : IsOrderly (said_by lines) (said_by [])
    none = record {
      registers = omega arith;
      done = omega arith;
      distinct = refl;
      labels = record { distinct = refl; same = refl; order = refl; reached = refl; below = refl };
    }
