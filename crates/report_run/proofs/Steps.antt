-- One text more.
use Rattle.std.proofs.Common.{◌≡◌, ℕ, List, ◌++◌, ap, ◌∙◌, append_assoc, Result, Ok, Err, OnOk}

-- a long word was appended, and then the rest
pub word_first : {T E : Type 0} (r : Result T E) (old mid new word rest : List ℕ) → mid ≡ old ++ word → OnOk r (new ≡ mid ++ rest) → OnOk r (new ≡ old ++ (word ++ rest))
word_first (Ok x) old mid new word rest m e = e ∙ ap (λ t. t ++ rest) m ∙ append_assoc old word rest
word_first (Err e) old mid new word rest m h = h
