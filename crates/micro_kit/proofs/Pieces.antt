-- Pieces of what is read and written, one after another.
use Rattle.std.proofs.Common.{◌≡◌, ℕ, ◌+◌, ◌≤◌, List, ◌++◌, length, take, drop, Option, Some, None, option_map, sym, ap, ◌∙◌, append_assoc}
use Rattle.std.proofs.lemmas.List.{take-append-drop, length-take-le, drop-drop}
use Rattle.std.proofs.Common.{arith}
use Rattle.std.proofs.lemmas.Grind.{common_steps}
use Rattle.std.proofs.Math.Seq.{take-append-add}
use Rattle.micro_kit.specs.Streams.{Gives, GivesAtMost, Grew}

pub take-plus : (k n : ℕ) (xs : List ℕ) → k ≤ length xs → take (k + n) xs ≡ take k xs ++ take n (drop k xs)
take-plus k n xs le =
    ap (λ ys. take (k + n) ys) (sym (take-append-drop k xs))
    ∙ ap (λ m. take (m + n) (take k xs ++ drop k xs)) (sym (length-take-le k xs le))
    ∙ take-append-add (take k xs) (drop k xs) n

pub Grew_more : (a b c : Option (List ℕ)) (k n : ℕ) (xs : List ℕ) → Grew a (take k xs) b → Grew b (take n (drop k xs)) c → k ≤ length xs → Grew a (take (k + n) xs) c
Grew_more None b c k n xs g h le = h ∙ ap (option_map (λ told. told ++ take n (drop k xs))) g
Grew_more (Some told) b c k n xs g h le =
    h
    ∙ ap (option_map (λ t. t ++ take n (drop k xs))) g
    ∙ ap Some (append_assoc told (take k xs) (take n (drop k xs)))
    ∙ ap (λ ys. Some (told ++ ys)) (sym (take-plus k n xs le))

pub read_on : (xs into : List ℕ) (at n : ℕ) → take n into ≡ take n (drop at xs) → drop at xs ≡ take n into ++ drop (at + n) xs
read_on xs into at n e =
    sym (take-append-drop n (drop at xs))
    ∙ ap (λ ys. ys ++ drop n (drop at xs)) (sym e)
    ∙ ap (λ ys. take n into ++ ys) (drop-drop n at xs)

pub Gives_more : (a b c : Option (List ℕ)) (xs ys : List ℕ) → Gives a xs b → Gives b ys c → Gives a (xs ++ ys) c
Gives_more a b None xs ys g h = g ∙ ap (option_map (λ rest. xs ++ rest)) h
Gives_more a b (Some rest) xs ys g h =
    g ∙ ap (option_map (λ told. xs ++ told)) h ∙ ap Some (sym (append_assoc xs ys rest))

pub GivesAtMost_more : (a b c : Option (List ℕ)) (xs ys : List ℕ) (n most : ℕ) → Gives a xs b → Gives b (take n ys) c → length xs + length ys ≤ most → GivesAtMost a most c
GivesAtMost_more a b c xs ys n most g h le =
    (xs ++ take n ys, Gives_more a b c xs (take n ys) g h, grind (arith, common_steps))
