-- The lines of a journal tell its entries.
use Rattle.std.proofs.Common.{◌≡◌, ◌++◌, ◌&&◌, ◌==◌, ℕ, true, not, List, [], ◌∷◌, map, refl, sym, ap, ◌∙◌, append_assoc, arith, decimal, codes}
use Rattle.std.specs.List.{flat_map, AllByRecursion}
use Rattle.std.proofs.lemmas.List.Folds.{list_all-append}
use Rattle.asm_lines.specs.Cutting.{lines_from}
use Rattle.world.specs.declared.event.Trap.TheVariants.{Divide, Address}
use Rattle.world.specs.declared.event.SegmentEnd.{SegmentEnd}
use Rattle.world.specs.declared.event.SegmentEnd.TheVariants as end
use Rattle.world.specs.declared.event.Entry.{Entry}
use Rattle.world.specs.declared.event.Entry.TheVariants.{Ran, Fed, Unplugged}
use Rattle.journal_text.specs.Entries.{end_word, entry_words, entry_line, IsFitting}
use Rattle.journal_text.proofs.Parting.{lacks}
use Rattle.journal_text.proofs.Numerals.{number_lacks}
use Rattle.journal_text.proofs.FirstLines.{lines_ahead}
use Rattle.journal_text.proofs.Spelling.{run_flat, feed_flat, same_entry}

lacks_both : (s : ℕ) (xs ys : List ℕ) → lacks s xs ≡ true → lacks s ys ≡ true → lacks s (xs ++ ys) ≡ true
lacks_both s xs ys h k = list_all-append (λ c. not (c == s)) xs ys ∙ ap (λ b. b && lacks s ys) h ∙ k

end_lacks : (e : SegmentEnd) → lacks 10 (end_word e) ≡ true
end_lacks end.Load = refl
end_lacks end.Store = refl
end_lacks end.Yield = refl
end_lacks end.Recv = refl
end_lacks end.Send = refl
end_lacks end.Halt = refl
end_lacks (end.Trap Divide) = refl
end_lacks (end.Trap Address) = refl
end_lacks end.Bound = refl

-- the words of an entry have no newline
pub words_lack : (e : Entry) → IsFitting e → lacks 10 (entry_words e) ≡ true
words_lack (Ran c n e) fit =
    ap (lacks 10) (run_flat (codes "run ") (decimal c) (decimal n) (end_word e))
    ∙ lacks_both 10 (decimal c) (32 ∷ (decimal n ++ (32 ∷ end_word e))) (number_lacks 10 c (omega arith) fit.0) (lacks_both 10 (decimal n) (32 ∷ end_word e) (number_lacks 10 n (omega arith) fit.1) (end_lacks e))
words_lack (Fed k w) fit =
    ap (lacks 10) (feed_flat (codes "feed ") (decimal k) (decimal w))
    ∙ lacks_both 10 (decimal k) (32 ∷ decimal w) (number_lacks 10 k (omega arith) (omega (arith, fit.0))) (number_lacks 10 w (omega arith) fit.1)
words_lack (Unplugged k) fit = number_lacks 10 k (omega arith) (omega (arith, fit))

lines_told : (es : List Entry) → AllByRecursion IsFitting es → lines_from [] (flat_map entry_line es) ≡ map entry_words es
lines_told [] fit = refl
lines_told (e ∷ es) fit =
    ap (lines_from []) (append_assoc (entry_words e) (10 ∷ []) (flat_map entry_line es))
    ∙ lines_ahead [] (entry_words e) (flat_map entry_line es) (words_lack e fit.0)
    ∙ ap (λ ls. entry_words e ∷ ls) (lines_told es fit.1)

-- lists of entries with the same words are the same
pub words_once : (es fs : List Entry) → AllByRecursion IsFitting es → AllByRecursion IsFitting fs → map entry_words es ≡ map entry_words fs → es ≡ fs
words_once [] [] x y h = refl
words_once [] (f ∷ fs) x y h = absurd (cc)
words_once (e ∷ es) [] x y h = absurd (cc)
words_once (e ∷ es) (f ∷ fs) x y h =
    let same : entry_words e ≡ entry_words f = cc in
    let rest : map entry_words es ≡ map entry_words fs = cc in
    let first = same_entry e f x.0 y.0 same in
    let others = words_once es fs x.1 y.1 rest in
    cc

-- lists of entries with the same lines are the same
pub told_once : (es fs : List Entry) → AllByRecursion IsFitting es → AllByRecursion IsFitting fs → flat_map entry_line es ≡ flat_map entry_line fs → es ≡ fs
told_once es fs x y h = words_once es fs x y (sym (lines_told es x) ∙ ap (lines_from []) h ∙ lines_told fs y)
