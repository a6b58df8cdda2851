-- Words that are names.
use Rattle.std.proofs.Common.{◌≡◌, ◌<◌, ℕ, zero, suc, Bool, true, List, [], ◌∷◌, length, get_or, arith}
use Rattle.std.proofs.lemmas.Bool.{and_parts}
use Rattle.std.specs.Borrow.{Bor}
use Rattle.std.specs.List.{list_all}
use Rattle.asm_lines.specs.Tables.{words_seen}

-- each of these words passes the test that all pass
pub word_at : (p : List ℕ → Bool) (ws : List (Bor (List ℕ))) (i : ℕ) (d : Bor (List ℕ)) → list_all p (words_seen ws) ≡ true → i < length ws → p (get_or ws i d).now ≡ true
word_at p [] i d e lt = absurd (omega arith)
word_at p (w ∷ ws) zero d e lt = (and_parts (p w.now) (list_all p (words_seen ws)) e).0
word_at p (w ∷ ws) (suc i) d e lt = word_at p ws i d (and_parts (p w.now) (list_all p (words_seen ws)) e).1 (omega arith)
