-- Facts of one program more.
use Rattle.std.proofs.Common.{◌≡◌, ℕ, ◌+◌, List, [], ◌∷◌, ◌++◌, map, length, add-one, get_or, take, ◌<◌}
use Rattle.std.specs.List.{All, AllZip}
use Rattle.std.proofs.lemmas.List.Elements.{All-map}
use Rattle.std.proofs.Math.Seq.{take-suc}
use Rattle.std.proofs.lemmas.Option.{slice_get-get_or}
use Rattle.micro_isa.specs.declared.program.Program.{Program}
use Rattle.micro_isa.specs.declared.program.Bundle.{Bundle}
use Rattle.micro_isa.specs.Formed.{IsFormedBundle}
use Rattle.flow_graph.specs.Paths.{IsClosedCode}
use Rattle.flow_graph.proofs.Forming.{closed_code}
use Rattle.pressure.specs.Pressures.{IsPart}
use Rattle.report_check.specs.declared.facts.Facts.{Facts}
use Rattle.report_check.specs.Facts.{AreFactsOf, AreAllFacts}

push_zip : {A B : Type 0} (R : A → B → Type 0) (xs : List A) (ys : List B) (x : A) (y : B) → AllZip R xs ys → R x y → AllZip R (xs ++ x ∷ []) (ys ++ y ∷ [])
push_zip R [] [] x y h r = (r, tt)
push_zip R [] (b ∷ ys) x y h r = absurd h
push_zip R (a ∷ xs) [] x y h r = absurd h
push_zip R (a ∷ xs) (b ∷ ys) x y h r = (h.0, push_zip R xs ys x y h.1 r)

-- facts of one program more
pub push_facts : (programs : List Program) (all : List Facts) (program : Program) (facts : Facts) → AreAllFacts programs all → AreFactsOf program facts
    → AreAllFacts (programs ++ program ∷ []) (all ++ facts ∷ [])
push_facts programs all program facts so_far one = push_zip AreFactsOf programs all program facts so_far one

pub next_facts : (programs : List Program) (i : ℕ) (d : Program) (all new : List Facts) (facts : Facts) → i < length programs → new ≡ all ++ facts ∷ []
    → AreAllFacts (take i programs) all → AreFactsOf (get_or programs i d) facts → AreAllFacts (take (i + 1) programs) new
next_facts programs i d all new facts less e so_far one =
    rw (add-one i, take-suc programs i d less, e) (push_facts (take i programs) all (get_or programs i d) facts so_far one)

-- the programs of a formed bundle are closed
pub all_closed : (b : Bundle) → IsFormedBundle b → All (λ program. IsClosedCode program.code) b.programs
all_closed b formed k d less = closed_code (get_or b.programs k d) (formed.programs k (get_or b.programs k d) (slice_get-get_or b.programs k d less))

pub all_parts : (all : List Facts) → All (λ facts. IsPart facts.pressure) all → All IsPart (map (λ facts. facts.pressure) all)
all_parts all h = All-map IsPart (λ facts. facts.pressure) all h
