-- Items made of one piece for each number, and then of other pieces behind them.
use Rattle.std.proofs.Common.{◌≡◌, ℕ, zero, suc, ◌+◌, ◌<◌, List, [], ◌∷◌, ◌++◌, length, Some, refl, sym, ap, ◌∙◌, subst, arith, append_assoc, length-append, inl, inr}
use Rattle.std.specs.Prelude.{slice_get}
use Rattle.std.proofs.lemmas.Option.{slice_get-get_or}
use Rattle.std.proofs.Math.Seq.{get_or-append_seam}
use Rattle.std.proofs.lemmas.Bool.{cases_order}
use Rattle.micro_isa.specs.Pieces.{pieces, total, HasAt}

pub has_front : {A : Type 0} (xs : List A) (at : ℕ) (a b : List A) → HasAt xs at (a ++ b) → HasAt xs at a
has_front xs at [] b h = tt
has_front xs at (w ∷ a) b h = (h.0, has_front xs (at + 1) a b h.1)

pub has_back : {A : Type 0} (xs : List A) (at : ℕ) (a b : List A) → HasAt xs at (a ++ b) → HasAt xs (at + length a) b
has_back xs at [] b h = let e : at ≡ at + 0 = omega arith in subst (λ n. HasAt xs n b) e h
has_back xs at (w ∷ a) b h =
    let e : at + 1 + length a ≡ at + length (w ∷ a) = omega arith in
    subst (λ n. HasAt xs n b) e (has_back xs (at + 1) a b h.1)

has_all : {A : Type 0} (ws pre : List A) → HasAt (pre ++ ws) (length pre) ws
has_all [] pre = tt
has_all {A} (w ∷ ws) pre =
    let within : length pre < length (pre ++ w ∷ ws) = omega (arith, length-append pre (w ∷ ws)) in
    let here = slice_get-get_or (pre ++ w ∷ ws) (length pre) w within ∙ ap Some (get_or-append_seam pre w ws w) in
    let n : length (pre ++ w ∷ []) ≡ length pre + 1 = omega (arith, length-append pre (w ∷ [])) in
    let rest = subst (λ l. HasAt {A = A} l (length (pre ++ w ∷ [])) ws) (append_assoc pre (w ∷ []) ws) (has_all ws (pre ++ w ∷ [])) in
    (here, subst (λ m. HasAt {A = A} (pre ++ w ∷ ws) m ws) n rest)

pub length-pieces : {A : Type 0} (f : ℕ → List A) (n : ℕ) → length (pieces f n) ≡ total (λ k. length (f k)) n
length-pieces f zero = refl
length-pieces f (suc n) = length-append (pieces f n) (f n) ∙ ap (λ k. k + length (f n)) (length-pieces f n)

pub same_total : (f g : ℕ → ℕ) → ((i : ℕ) → f i ≡ g i) → (n : ℕ) → total f n ≡ total g n
same_total f g h zero = refl
same_total f g h (suc n) = λ i. same_total f g h n i + h n i

-- piece i stands at the sum of the sizes of those before it, whatever follows the pieces
pub piece_there : {A : Type 0} (f : ℕ → List A) (n i : ℕ) (rest : List A) → i < n → HasAt (pieces f n ++ rest) (total (λ k. length (f k)) i) (f i)
piece_there f zero i rest lt = absurd (omega arith)
piece_there {A} f (suc n) i rest lt =
    let size : ℕ → ℕ = λ k. length (f k) in
    subst (λ l. HasAt {A = A} l (total size i) (f i)) (sym (append_assoc (pieces f n) (f n) rest)) (elim (cases_order i n) [
      | inl e ↦
          let here = has_front _ _ (f n) rest (has_all (f n ++ rest) (pieces f n)) in
          let there : HasAt (pieces f n ++ (f n ++ rest)) (total size n) (f n) = subst (λ k. HasAt {A = A} (pieces f n ++ (f n ++ rest)) k (f n)) (length-pieces f n) here in
          subst (λ k. HasAt {A = A} (pieces f n ++ (f n ++ rest)) (total size k) (f k)) (sym e) there
      | inr o ↦ elim o [ inl below ↦ piece_there f n i (f n ++ rest) below | inr above ↦ absurd (omega arith) ]
    ])

get_after : {A : Type 0} (pre ws : List A) (at : ℕ) → slice_get (pre ++ ws) (length pre + at) ≡ slice_get ws at
get_after [] ws at = let e : 0 + at ≡ at = omega arith in ap (slice_get ws) e
get_after (p ∷ pre) ws at =
    let e : length (p ∷ pre) + at ≡ suc (length pre + at) = omega arith in
    ap (slice_get (p ∷ (pre ++ ws))) e ∙ get_after pre ws at

pub append_nil : {A : Type 0} (ws : List A) → ws ++ [] ≡ ws
append_nil [] = refl
append_nil (w ∷ ws) = ap (λ l. w ∷ l) (append_nil ws)

has_after : {A : Type 0} (pre ws xs : List A) (at : ℕ) → HasAt ws at xs → HasAt (pre ++ ws) (length pre + at) xs
has_after pre ws [] at h = tt
has_after {A} pre ws (x ∷ xs) at h =
    let e : length pre + (at + 1) ≡ length pre + at + 1 = omega arith in
    (get_after pre ws at ∙ h.0, subst (λ k. HasAt {A = A} (pre ++ ws) k xs) e (has_after pre ws xs (at + 1) h.1))

-- the same behind other items
pub piece_behind : {A : Type 0} (front : List A) (f : ℕ → List A) (n i : ℕ) → i < n → HasAt (front ++ pieces f n) (length front + total (λ k. length (f k)) i) (f i)
piece_behind {A} front f n i lt =
    let size : ℕ → ℕ = λ k. length (f k) in
    let whole : HasAt (pieces f n ++ []) (total size i) (f i) = piece_there f n i [] lt in
    let plain : HasAt (pieces f n) (total size i) (f i) = subst (λ l. HasAt {A = A} l (total size i) (f i)) (append_nil (pieces f n)) whole in
    has_after front (pieces f n) (f i) (total size i) plain
