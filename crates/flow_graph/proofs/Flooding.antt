-- What a flood's steps keep.
use Rattle.std.proofs.Common.{replicate, zero, suc, ◌≡◌, ℕ, ◌+◌, ◌<◌, ◌≤◌, Bool, true, false, cond, List, [], ◌∷◌, ◌++◌, Option, Some, None, length, get_or, set, slice_get, ap, sym, subst, refl, ◌∙◌, ◌⊎◌, inl, inr, Contains, arith}
use Rattle.std.proofs.lemmas.Bool.{cases_eq}
use Rattle.std.proofs.lemmas.List.{get_or-set_same, get_or-set_other, length-set, length-append}
use Rattle.std.proofs.lemmas.List.Sums.{sum_by-set}
use Rattle.std.proofs.lemmas.List.Elements.{Contains-append_left, Contains-push, Contains-push_cases}
use Rattle.std.proofs.lemmas.Option.{slice_get_within, slice_get-get_or}
use Rattle.micro_isa.specs.declared.instr.Next.{Next}
use Rattle.flow_graph.specs.Paths.{Below, AreWithin, Walk}
use Rattle.flow_graph.specs.Floods.{Step, Arrives, IsReached, marked, stacked, IsOpen, weight}

-- a path goes on by an edge
onward : (successors : List Next) (rest : List ℕ) (i j k : ℕ) → Walk (Step successors) i rest j → Step successors j k → Arrives successors i k
onward successors [] i j k at edge = (k ∷ [], (subst (λ n. Step successors n k) (sym at) edge, refl))
onward successors (h ∷ rest) i j k walk edge =
    let more = onward successors rest h j k walk.1 edge in
    (h ∷ more.0, (walk.0, more.1))

pub arrives_on : (successors : List Next) (i j k : ℕ) → Arrives successors i j → Step successors j k → Arrives successors i k
arrives_on successors i j k walk edge = onward successors walk.0 i j k walk.1 edge

pub mark_kept : (marks : List Bool) (o : Option ℕ) (j : ℕ) → Below o (length marks) → get_or marks j false ≡ true → get_or (marked marks o) j false ≡ true
mark_kept marks None j _ is = is
mark_kept marks (Some k) j inside is =
    elim (cases_eq j k) [
      | inl same ↦ rw same (get_or-set_same marks k true false inside)
      | inr other ↦ get_or-set_other marks k j true false other ∙ is
    ]

pub mark_set : (marks : List Bool) (o : Option ℕ) (j : ℕ) → Below o (length marks) → o ≡ Some j → get_or (marked marks o) j false ≡ true
mark_set marks None j _ is = absurd (cc)
mark_set marks (Some k) j inside is =
    let same : k ≡ j = cc in rw (← same) (get_or-set_same marks k true false inside)

stack_kept : (marks : List Bool) (stack : List ℕ) (o : Option ℕ) (i : ℕ) → Contains stack i → Contains (stacked marks stack o) i
stack_kept marks stack None i has = has
stack_kept marks stack (Some k) i has =
    let go : (b : Bool) → Contains (cond b stack (stack ++ k ∷ [])) i =
    elim [ true ↦ has | false ↦ Contains-append_left stack (k ∷ []) i has ] in
    go (get_or marks k false)

pub opened : (successors : List Next) (marks : List Bool) (rest : List ℕ) (i : ℕ) → IsOpen successors marks (rest ++ i ∷ []) (length successors) → IsOpen successors marks rest i
opened successors marks rest i before = record {
  one_each = before.one_each;
  path = before.path;
  held = λ a has. before.held a (Contains-append_left rest (i ∷ []) a has);
  done = λ a j is edge.
      elim (before.done a j is edge) [
        | inl past ↦ absurd (let inside = slice_get_within successors a edge.0 edge.1 in omega arith)
        | inr other ↦ elim other [
          | inl has ↦ elim (Contains-push_cases rest i a has) [ inl in_rest ↦ inr (inl in_rest) | inr same ↦ inl (sym same) ]
          | inr marks_j ↦ inr (inr marks_j)
        ]
      ];
}

carried : (marks : List Bool) (stack wider : List ℕ) (spared k i j : ℕ) → k < length marks → (Contains stack i → Contains wider i)
    → (i ≡ spared) ⊎ (Contains stack i ⊎ (get_or marks j false ≡ true))
    → (i ≡ spared) ⊎ (Contains wider i ⊎ (get_or (set marks k true) j false ≡ true))
carried marks stack wider spared k i j inside wide (inl same) = inl same
carried marks stack wider spared k i j inside wide (inr (inl has)) = inr (inl (wide has))
carried marks stack wider spared k i j inside wide (inr (inr is)) = inr (inr (mark_kept marks (Some k) j inside is))

-- what a mark adds is marks, and on the stack
pub added : (successors : List Next) (marks : List Bool) (stack : List ℕ) (spared : ℕ) (o : Option ℕ) → Below o (length marks)
    → ((j : ℕ) → o ≡ Some j → Arrives successors 0 j) → IsOpen successors marks stack spared → IsOpen successors (marked marks o) (stacked marks stack o) spared
added successors marks stack spared None _ from before = before
added successors marks stack spared (Some k) inside from before =
    let path : (j : ℕ) → get_or (set marks k true) j false ≡ true → Arrives successors 0 j =
    λ j is. elim (cases_eq j k) [
      | inl same ↦ rw same (from k refl)
      | inr other ↦ before.path j (sym (get_or-set_other marks k j true false other) ∙ is)
    ] in
    let goes : (b : Bool) → get_or marks k false ≡ b → IsOpen successors (set marks k true) (cond b stack (stack ++ k ∷ [])) spared =
    elim [
      | true ↦ λ e. record {
        one_each = length-set marks k true ∙ before.one_each;
        path = path;
        held = λ i has. ((before.held i has).0, mark_kept marks (Some k) i inside (before.held i has).1);
        done = λ i j is edge.
            let was : get_or marks i false ≡ true =
            elim (cases_eq i k) [ inl same ↦ rw same e | inr other ↦ sym (get_or-set_other marks k i true false other) ∙ is ] in
            carried marks stack stack spared k i j inside (λ has. has) (before.done i j was edge);
      }
      | false ↦ λ e. record {
        one_each = length-set marks k true ∙ before.one_each;
        path = path;
        held = λ i has. elim (Contains-push_cases stack k i has) [
          | inl has_it ↦ ((before.held i has_it).0, mark_kept marks (Some k) i inside (before.held i has_it).1)
          | inr same ↦ (let one = before.one_each in omega arith, mark_set marks (Some k) i inside (ap (λ n. Some n) same))
        ];
        done = λ i j is edge. elim (cases_eq i k) [
          | inl same ↦ inr (inl (rw same (Contains-push stack k)))
          | inr other ↦
              carried marks stack (stack ++ k ∷ []) spared k i j inside (Contains-append_left stack (k ∷ []) i)
              (before.done i j (sym (get_or-set_other marks k i true false other) ∙ is) edge)
        ];
      }
    ] in
    goes (get_or marks k false) refl

pub closed : (successors : List Next) (marks : List Bool) (stack : List ℕ) (i : ℕ) → IsOpen successors marks stack i
    → ((j : ℕ) → Step successors i j → get_or marks j false ≡ true) → IsOpen successors marks stack (length successors)
closed successors marks stack i before all = record {
  one_each = before.one_each;
  path = before.path;
  held = before.held;
  done = λ a j is edge. elim (before.done a j is edge) [
    | inl same ↦ inr (inr (all j (subst (λ n. Step successors n j) same edge)))
    | inr other ↦ inr other
  ];
}

length-marked : (marks : List Bool) (o : Option ℕ) → length (marked marks o) ≡ length marks
length-marked marks None = refl
length-marked marks (Some k) = length-set marks k true

-- one turn of the loop
pub turned : (successors : List Next) (marks : List Bool) (stack rest : List ℕ) (i : ℕ) (x : Next) → stack ≡ rest ++ i ∷ [] → slice_get successors i ≡ Some x
    → Below x.fall (length marks) → Below x.jump (length marks) → IsOpen successors marks stack (length successors)
    → IsOpen successors (marked (marked marks x.fall) x.jump) (stacked (marked marks x.fall) (stacked marks rest x.fall) x.jump) (length successors)
turned successors marks stack rest i x split is fall jump before =
    let first : IsOpen successors marks rest i = opened successors marks rest i (subst (λ s. IsOpen successors marks s (length successors)) split before) in
    let here : Arrives successors 0 i =
    before.path i (before.held i (subst (λ s. Contains s i) (sym split) (Contains-push rest i))).1 in
    let second = added successors marks rest i x.fall fall (λ j e. arrives_on successors 0 i j here (x, is, inl e)) first in
    let jumps : Below x.jump (length (marked marks x.fall)) = subst (λ n. Below x.jump n) (sym (length-marked marks x.fall)) jump in
    let third = added successors (marked marks x.fall) (stacked marks rest x.fall) i x.jump jumps (λ j e. arrives_on successors 0 i j here (x, is, inr e)) second in
    closed successors _ _ i third (λ j edge.
    let same : edge.0 ≡ x = let e = edge.1 in cc in
    elim edge.2 [
      | inl e ↦ mark_kept (marked marks x.fall) x.jump j jumps (mark_set marks x.fall j fall (rw (← same) e))
      | inr e ↦ mark_set (marked marks x.fall) x.jump j jumps (rw (← same) e)
    ])

pub weighs : (marks : List Bool) (stack : List ℕ) (o : Option ℕ) → Below o (length marks) → weight (marked marks o) (stacked marks stack o) ≤ weight marks stack
weighs marks stack None _ = omega arith
weighs marks stack (Some k) inside =
    let total = sum_by-set (λ b. cond b 0 1) marks k true false inside in
    let goes : (b : Bool) → get_or marks k false ≡ b → weight (set marks k true) (cond b stack (stack ++ k ∷ [])) ≤ weight marks stack =
    elim [
      | true ↦ λ e. let v : cond {A = ℕ} (get_or marks k false) 0 1 ≡ 0 = ap (λ (b : Bool). cond b 0 1) e in omega arith
      | false ↦ λ e. let v : cond {A = ℕ} (get_or marks k false) 0 1 ≡ 1 = ap (λ (b : Bool). cond b 0 1) e in simp length-append (omega arith)
    ] in
    goes (get_or marks k false) refl

-- where nothing could be taken nothing is left
pub none_left : (n : ℕ) → (0 < n → false ≡ true) → n ≡ 0
none_left n some = elim (cases_eq n 0) [ inl e ↦ e | inr more ↦ absurd (let bad : false ≡ true = some (omega arith) in cc) ]

-- at the end
complete : (successors : List Next) (marks : List Bool) (stack : List ℕ) → length stack ≡ 0 → IsOpen successors marks stack (length successors) → (rest : List ℕ) (i j : ℕ)
    → get_or marks i false ≡ true → Walk (Step successors) i rest j → get_or marks j false ≡ true
complete successors marks stack none at_end [] i j is walk = rw (← walk) is
complete successors marks stack none at_end (h ∷ rest) i j is walk =
    elim (at_end.done i h is walk.0) [
      | inl past ↦ absurd (let inside = slice_get_within successors i walk.0.0 walk.0.1 in omega arith)
      | inr other ↦ elim other [
        | inl has ↦ absurd (let inside = has.1 in omega arith)
        | inr next ↦ complete successors marks stack none at_end rest h j next walk.1
      ]
    ]

pub dark : (n i : ℕ) → get_or (replicate n false) i false ≡ false
dark zero i = refl
dark (suc n) zero = refl
dark (suc n) (suc i) = dark n i

pub ended : (successors : List Next) (marks : List Bool) (stack : List ℕ) → length stack ≡ 0 → IsOpen successors marks stack (length successors)
    → get_or marks 0 false ≡ true → IsReached successors marks
ended successors marks stack none at_end start = record {
  one_each = at_end.one_each;
  exact = λ j inside. (at_end.path j, λ p. complete successors marks stack none at_end p.0 0 j start p.1);
}

-- at the start
pub begun : (successors : List Next) (marks : List Bool) (n : ℕ) → 0 < length successors → length marks ≡ length successors → ((i : ℕ) → get_or marks i false ≡ false)
    → IsOpen successors (marked marks (Some 0)) (stacked marks [] (Some 0)) (length successors)
begun successors marks n some same dark =
    added successors marks [] (length successors) (Some 0) (omega arith) (λ j e. ([], cc)) (record {
      one_each = same;
      path = λ j is. absurd (let d = dark j in cc);
      held = λ i has. absurd (let none = has.1 in omega arith);
      done = λ i j is edge. absurd (let d = dark i in cc);
    })

-- the lemmas as the successors asks for them
pub top_within : (successors : List Next) (marks : List Bool) (stack rest : List ℕ) (i n : ℕ) → stack ≡ rest ++ i ∷ [] → IsOpen successors marks stack n → i < length successors
top_within successors marks stack rest i n split before = (before.held i (subst (λ s. Contains s i) (sym split) (Contains-push rest i))).0

module _ (successors : List Next) (marks : List Bool) (stack rest : List ℕ) (i : ℕ) (d : Next)
    (split : stack ≡ rest ++ i ∷ []) (within : AreWithin successors) (before : IsOpen successors marks stack (length successors)) where
  here : slice_get successors i ≡ Some (get_or successors i d)
  here = slice_get-get_or successors i d (top_within successors marks stack rest i _ split before)

  pub fall_within : Below (get_or successors i d).fall (length marks)
  fall_within = subst (λ n. Below (get_or successors i d).fall n) (sym before.one_each) (within.fall i _ here)

  pub jump_within : Below (get_or successors i d).jump (length marks)
  jump_within = subst (λ n. Below (get_or successors i d).jump n) (sym before.one_each) (within.jump i _ here)

module _ (successors : List Next) (marks marks1 marks2 : List Bool) (stack rest stack1 stack2 : List ℕ) (i : ℕ) (d : Next)
    (split : stack ≡ rest ++ i ∷ []) (within : AreWithin successors) (before : IsOpen successors marks stack (length successors))
    (e1 : marks1 ≡ marked marks (get_or successors i d).fall) (f1 : stack1 ≡ stacked marks rest (get_or successors i d).fall)
    (e2 : marks2 ≡ marked marks1 (get_or successors i d).jump) (f2 : stack2 ≡ stacked marks1 stack1 (get_or successors i d).jump) where
  inside : i < length successors
  inside = top_within successors marks stack rest i _ split before

  is : slice_get successors i ≡ Some (get_or successors i d)
  is = slice_get-get_or successors i d inside

  fall_in : Below (get_or successors i d).fall (length marks)
  fall_in = fall_within successors marks stack rest i d split within before

  jump_in : Below (get_or successors i d).jump (length marks)
  jump_in = jump_within successors marks stack rest i d split within before

  pub next_open : IsOpen successors marks2 stack2 (length successors)
  next_open =
      rw (e2, f2, e1, f1)
      (turned successors marks stack rest i (get_or successors i d) split is fall_in jump_in before)

  pub lighter : weight marks2 stack2 < weight marks stack
  lighter =
      let once : weight marks1 stack1 ≤ weight marks rest = rw (e1, f1) (weighs marks rest (get_or successors i d).fall fall_in) in
      let same : length marks1 ≡ length marks = rw e1 (length-marked marks (get_or successors i d).fall) in
      let jump1 : Below (get_or successors i d).jump (length marks1) = subst (λ n. Below (get_or successors i d).jump n) (sym same) jump_in in
      let twice : weight marks2 stack2 ≤ weight marks1 stack1 = rw (e2, f2) (weighs marks1 stack1 (get_or successors i d).jump jump1) in
      let long : length stack ≡ length rest + 1 = rw split (length-append rest (i ∷ [])) in
      omega arith

  pub still_start : get_or marks 0 false ≡ true → get_or marks2 0 false ≡ true
  still_start is =
      let same : length marks1 ≡ length marks = rw e1 (length-marked marks (get_or successors i d).fall) in
      let jump1 : Below (get_or successors i d).jump (length marks1) = subst (λ n. Below (get_or successors i d).jump n) (sym same) jump_in in
      let once : get_or marks1 0 false ≡ true = rw e1 (mark_kept marks (get_or successors i d).fall 0 fall_in is) in
      rw e2 (mark_kept marks1 (get_or successors i d).jump 0 jump1 once)

pub begins : (successors : List Next) (marks marks1 : List Bool) (stack0 stack1 : List ℕ) → 0 < length successors → length marks ≡ length successors
    → ((i : ℕ) → get_or marks i false ≡ false) → stack0 ≡ [] → marks1 ≡ marked marks (Some 0) → stack1 ≡ stacked marks stack0 (Some 0)
    → IsOpen successors marks1 stack1 (length successors)
begins successors marks marks1 stack0 stack1 some same dark e0 e1 e2 = rw (e1, e2, e0) (begun successors marks 0 some same dark)
