-- Walks by links of any kind, put together, by other links, and back.
use Rattle.std.proofs.Common.{ℕ, List, [], ◌∷◌, sym, subst, refl}
use Rattle.flow_graph.specs.Paths.{Walk}
use Rattle.pressure.specs.Rings.{Leads}

joined_on : (link : ℕ → ℕ → Type 0) (rest : List ℕ) (i j k : ℕ) → Walk link i rest j → Leads link j k → Leads link i k
joined_on link [] i j k at on = subst (λ n. Leads link n k) (sym at) on
joined_on link (h ∷ rest) i j k way on =
    let more = joined_on link rest h j k way.1 on in (h ∷ more.0, (way.0, more.1))

pub trans : (link : ℕ → ℕ → Type 0) (i j k : ℕ) → Leads link i j → Leads link j k → Leads link i k
trans link i j k a b = joined_on link a.0 i j k a.1 b

pub one : (link : ℕ → ℕ → Type 0) (i j : ℕ) → link i j → Leads link i j
one link i j step = (j ∷ [], (step, refl))

rerouted : (link other : ℕ → ℕ → Type 0) → ((a b : ℕ) → link a b → Leads other a b) → (rest : List ℕ) (i j : ℕ) → Walk link i rest j → Leads other i j
rerouted link other each [] i j at = ([], at)
rerouted link other each (h ∷ rest) i j way = trans other i h j (each i h way.0) (rerouted link other each rest h j way.1)

pub reroute : (link other : ℕ → ℕ → Type 0) → ((a b : ℕ) → link a b → Leads other a b) → (i j : ℕ) → Leads link i j → Leads other i j
reroute link other each i j way = rerouted link other each way.0 i j way.1

turned : (link : ℕ → ℕ → Type 0) → ((a b : ℕ) → link a b → link b a) → (rest : List ℕ) (i j : ℕ) → Walk link i rest j → Leads link j i
turned link either [] i j at = ([], sym at)
turned link either (h ∷ rest) i j way = trans link j h i (turned link either rest h j way.1) (one link h i (either i h way.0))

pub back : (link : ℕ → ℕ → Type 0) → ((a b : ℕ) → link a b → link b a) → (i j : ℕ) → Leads link i j → Leads link j i
back link either i j way = turned link either way.0 i j way.1

-- what each link carries on, a walk carries on
carried : (P : ℕ → Type 0) (link : ℕ → ℕ → Type 0) → ((a b : ℕ) → P a → link a b → P b) → (rest : List ℕ) (i j : ℕ) → P i → Walk link i rest j → P j
carried P link each [] i j here at = subst P at here
carried P link each (h ∷ rest) i j here way = carried P link each rest h j (each i h here way.0) way.1

pub carry : (P : ℕ → Type 0) (link : ℕ → ℕ → Type 0) → ((a b : ℕ) → P a → link a b → P b) → (i j : ℕ) → P i → Leads link i j → P j
carry P link each i j here way = carried P link each way.0 i j here way.1
