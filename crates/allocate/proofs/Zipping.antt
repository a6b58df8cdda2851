-- Lists of values, one for each program.
use Rattle.std.proofs.Common.{◌≡◌, ℕ, zero, suc, ◌+◌, ◌<◌, List, [], ◌∷◌, ◌++◌, length, get_or, Some, refl, sym, ap, ◌∙◌, subst, arith, length-append}
use Rattle.std.proofs.lemmas.Option.{slice_get-get_or, same_Some}
use Rattle.std.proofs.lemmas.Slice.Zip.{AllZip-long}
use Rattle.std.specs.Prelude.{slice_get, slice_set}
use Rattle.std.specs.List.{AllZip}
use Rattle.micro_isa.specs.declared.program.Line.{Line}
use Rattle.micro_isa.specs.declared.program.Program.{Program}
use Rattle.micro_isa.specs.declared.program.Bundle.{Bundle}
use Rattle.micro_isa.specs.Formed.{Each, IsFormedProgram, IsFormedBundle}
use Rattle.flow_graph.specs.Paths.{IsClosedCode}
use Rattle.flow_graph.proofs.Forming.{closed_code}
use Rattle.allocate.specs.Items.{AreClosed, IsItem, Covers}

cover_next : {B : Type 0} (R : List Line → B → Type 0) (ps : List Program) (ys : List B) (y : B) → length ys < length ps → Covers R ps ys
    → ((p : Program) → slice_get ps (length ys) ≡ Some p → R p.code y) → Covers R ps (ys ++ y ∷ [])
cover_next R [] ys y lt h k = absurd (omega arith)
cover_next R (p ∷ ps) [] y lt h k = (k p refl, tt)
cover_next R (p ∷ ps) (x ∷ ys) y lt h k = (h.0, cover_next R ps ys y (omega arith) h.1 k)

pub cover_push : {B : Type 0} (R : List Line → B → Type 0) (ps : List Program) (ys zs : List B) (c : ℕ) (y : B) → zs ≡ ys ++ y ∷ [] → c < length ps → length ys ≡ c → Covers R ps ys
    → IsItem R ps c y → Covers R ps zs
cover_push {B} R ps ys zs c y e lt n h item =
    let at : IsItem R ps (length ys) y = subst (λ k. IsItem R ps k y) (sym n) item in
    subst (λ l. Covers R ps l) (sym e) (cover_next R ps ys y (omega arith) h at.is)

pub cover_all : {B : Type 0} (R : List Line → B → Type 0) (ps : List Program) (ys : List B) → length ys ≡ length ps → Covers R ps ys → AllZip (λ p y. R p.code y) ps ys
cover_all R [] [] n h = tt
cover_all R [] (y ∷ ys) n h = absurd (omega arith)
cover_all R (p ∷ ps) [] n h = absurd (omega arith)
cover_all R (p ∷ ps) (y ∷ ys) n h = (h.0, cover_all R ps ys (omega arith) h.1)

pub closed_at : (ps : List Program) (c : ℕ) (p : Program) → AreClosed ps → slice_get ps c ≡ Some p → IsClosedCode p.code
closed_at [] c p h is = absurd (cc)
closed_at (q ∷ ps) zero p h is = let same : q ≡ p = cc in subst (λ x. IsClosedCode x.code) same h.0
closed_at (q ∷ ps) (suc c) p h is = closed_at ps c p h.1 is

each_closed : (ps : List Program) → Each ps IsFormedProgram → AreClosed ps
each_closed [] h = tt
each_closed (p ∷ ps) h = (closed_code p (h 0 p refl), each_closed ps (λ i x is. h (suc i) x is))

pub all_closed : (b : Bundle) → IsFormedBundle b → AreClosed b.programs
all_closed b formed = each_closed b.programs formed.programs

pub zip_at : {B : Type 0} (R : List Line → B → Type 0) (ps : List Program) (ys : List B) (c : ℕ) (p : Program) (y : B) → AllZip (λ q z. R q.code z) ps ys → slice_get ps c ≡ Some p → slice_get ys c ≡ Some y → R p.code y
zip_at R [] ys c p y h is there = absurd (cc)
zip_at R (q ∷ ps) [] c p y h is there = absurd h
zip_at R (q ∷ ps) (z ∷ ys) zero p y h is there =
    let same : q ≡ p = cc in
    let also : z ≡ y = cc in
    subst (λ x. R x.code y) same (subst (R q.code) also h.0)
zip_at R (q ∷ ps) (z ∷ ys) (suc c) p y h is there = zip_at R ps ys c p y h.1 is there

-- an item that was read
pub got : {A : Type 0} (xs : List A) (i : ℕ) (x : A) → i < length xs → x ≡ get_or xs i x → slice_get xs i ≡ Some x
got xs i x lt e = slice_get-get_or xs i x lt ∙ ap Some (sym e)

pub item_closed : (ps : List Program) (c : ℕ) (p : Program) → AreClosed ps → c < length ps → p ≡ get_or ps c p → IsClosedCode p.code
item_closed ps c p h lt e = closed_at ps c p h (got ps c p lt e)

pub item_is : {B : Type 0} (R : List Line → B → Type 0) (ps : List Program) (c : ℕ) (p : Program) (y : B) → c < length ps → p ≡ get_or ps c p → R p.code y → IsItem R ps c y
item_is R ps c p y lt e r = record {
  is = λ q is. let same : p ≡ q = same_Some p q (sym (got ps c p lt e) ∙ is) in subst (λ x. R x.code y) same r;
}

pub item_zip : {B : Type 0} (R : List Line → B → Type 0) (ps : List Program) (ys : List B) (c : ℕ) (p : Program) (y : B) → AllZip (λ q z. R q.code z) ps ys → c < length ps → p ≡ get_or ps c p → y ≡ get_or ys c y → R p.code y
item_zip R ps ys c p y h lt e f = zip_at R ps ys c p y h (got ps c p lt e) (got ys c y (omega (arith, AllZip-long (λ q z. R q.code z) ps ys h)) f)

pub long : {B : Type 0} (R : List Line → B → Type 0) (ps : List Program) (ys : List B) (c : ℕ) → AllZip (λ q z. R q.code z) ps ys → c < length ps → c < length ys
long R ps ys c h lt = omega (arith, AllZip-long (λ q z. R q.code z) ps ys h)

pub one_longer : {B : Type 0} (ys zs : List B) (c : ℕ) (y : B) → zs ≡ ys ++ y ∷ [] → length ys ≡ c → length zs ≡ c + 1
one_longer ys zs c y e n = ap (λ l. length l) e ∙ length-append ys (y ∷ []) ∙ ap (λ k. k + 1) n

-- one value was put in place of another
pub zip_set : {B : Type 0} (R : List Line → B → Type 0) (ps : List Program) (ys : List B) (c : ℕ) (y : B) → AllZip (λ q z. R q.code z) ps ys → ((p : Program) → slice_get ps c ≡ Some p → R p.code y)
    → AllZip (λ q z. R q.code z) ps (slice_set ys c y)
zip_set R [] [] c y h there = tt
zip_set R [] (z ∷ ys) c y h there = absurd h
zip_set R (q ∷ ps) [] c y h there = absurd h
zip_set R (q ∷ ps) (z ∷ ys) zero y h there = (there q refl, h.1)
zip_set R (q ∷ ps) (z ∷ ys) (suc c) y h there = (h.0, zip_set R ps ys c y h.1 (λ p is. there p is))
