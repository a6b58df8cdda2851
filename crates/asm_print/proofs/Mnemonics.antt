-- Mnemonics are plain words, are no labels and begin no context.
use Rattle.std.proofs.Common.{◌≡◌, Bool, true, false, not, List, [], ◌∷◌, ℕ, Option, Some, None, sym, ap, ◌∙◌, refl, codes, if◌then◌else◌, is_none}
use Rattle.std.specs.List.{find, list_all}
use Rattle.std.specs.Str.{bytes_eq}
use Rattle.std.proofs.lemmas.Bool.{and_parts}
use Rattle.std.proofs.lemmas.Option.{same_Some}
use Rattle.micro_isa.specs.declared.operation.Operation.{Operation}
use Rattle.micro_isa.specs.Table.{row_of, operations}
use Rattle.micro_isa.proofs.Laws.{found}
use Rattle.asm_context.specs.Forms.{label_in}
use Rattle.asm_print.proofs.Plain.{is_plain_word}

-- what is found in a list passes a test that all pass
found_passes : {A : Type 0} (p test : A → Bool) (xs : List A) (y : A) → find p xs ≡ Some y → list_all test xs ≡ true → test y ≡ true
found_passes p test [] y e all = absurd (cc)
found_passes p test (x ∷ xs) y e all = go (p x) refl (λ f. found_passes p test xs y f both.1)
  where
    both : (test x ≡ true) × (list_all test xs ≡ true)
    both = and_parts (test x) (list_all test xs) all

    go : (b : Bool) → p x ≡ b → (find p xs ≡ Some y → test y ≡ true) → test y ≡ true
    go true is later = ap test (sym (same_Some x y (sym (ap (λ (b : Bool). if b then Some x else find p xs) is) ∙ e))) ∙ both.0
    go false is later = later (sym (ap (λ (b : Bool). if b then Some x else find p xs) is) ∙ e)

-- what the table's rows pass, each operation's row passes
each_operation : (test : Operation → Bool) → list_all test operations ≡ true → (o : Operation) → test o ≡ true
each_operation test all o = found_passes (λ (p : Operation). bytes_eq (row_of p).mnemonic (row_of o).mnemonic) test operations o (found o).named all

pub mnemonic_plain : (o : Operation) → is_plain_word (row_of o).mnemonic ≡ true
mnemonic_plain o = each_operation (λ (p : Operation). is_plain_word (row_of p).mnemonic) refl o

pub mnemonic_stays : (o : Operation) → not (bytes_eq (row_of o).mnemonic (codes "context")) ≡ true
mnemonic_stays o = each_operation (λ (p : Operation). not (bytes_eq (row_of p).mnemonic (codes "context"))) refl o

pub no_label : (o : Operation) → label_in (row_of o).mnemonic ≡ None
no_label o = none (label_in (row_of o).mnemonic) (each_operation (λ (p : Operation). is_none (label_in (row_of p).mnemonic)) refl o)
  where
    none : (l : Option (List ℕ)) → is_none l ≡ true → l ≡ None
    none None e = refl
    none (Some name) e = absurd (cc)
