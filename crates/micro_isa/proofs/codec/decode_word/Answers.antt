use Rattle.std.proofs.Common.{rules, ◌≡◌, Result, Ok, Err, sym, ap, ◌∙◌, List, ℕ, length}
use Rattle.std.specs.Prelude.{IfOk, IsErr}
use Rattle.micro_isa.specs.declared.image.Word.{Word}
use Rattle.micro_isa.specs.declared.codec.WordFault.{WordFault}
use Rattle.micro_isa.specs.WordBytes.{word_bytes, word_in, FitsWord}
use Rattle.micro_isa.proofs.Words.{IsBytes, word_again, word_spelled}
use Rattle.micro_isa.proofs.codec.decode_word.Goals as goal

spelled : (bytes : List ℕ) (r : Result Word WordFault) → IsBytes bytes → length bytes ≡ 12 → r ≡ word_in bytes → IfOk r (λ w. (word_bytes w ≡ bytes) × FitsWord w)
spelled bytes (Ok w) fits len e = word_spelled bytes w fits len (sym e)
spelled bytes (Err why) fits len e = tt

alone : (bytes : List ℕ) (r : Result Word WordFault) → r ≡ word_in bytes → IfOk r (λ w. (v : Word) → FitsWord v → word_bytes v ≡ bytes → v ≡ w)
alone bytes (Ok w) e = λ v fits is. let same : Ok v ≡ Ok w = sym (ap word_in (sym is) ∙ word_again v fits) ∙ sym e in cc
alone bytes (Err why) e = tt

unspelled : (bytes : List ℕ) (r : Result Word WordFault) → r ≡ word_in bytes → IsErr r → (v : Word) → FitsWord v → word_bytes v ≡ bytes → ⊥
unspelled bytes (Ok w) e err v fits is = search rules
unspelled bytes (Err why) e err v fits is = let same : Err why ≡ Ok v = e ∙ ap word_in (sym is) ∙ word_again v fits in absurd (cc)

pub returns-clause-word : goal.returns-clause-word
returns-clause-word c = spelled c.args.bytes.now c.decoded.result c.fits-bytes c.told-bytes c.decoded.ensures

pub returns-clause-alone : goal.returns-clause-alone
returns-clause-alone c = alone c.args.bytes.now c.decoded.result c.decoded.ensures

pub returns-clause-unspelled : goal.returns-clause-unspelled
returns-clause-unspelled c = unspelled c.args.bytes.now c.decoded.result c.decoded.ensures
