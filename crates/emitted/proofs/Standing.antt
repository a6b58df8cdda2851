-- Where a context of an image stands beside its source: at a counted word, or behind the word that ended its stretch.
use Rattle.std.proofs.Common.{◌≡◌, ◌≢◌, ℕ, ◌+◌, ◌<◌, List, [], length, Option, Some, None, Bool, true, false, refl, sym, ap, ◌∙◌, subst, length-set, get_or-set_same, get_or-set_other, inl, inr, ◌⊎◌}
use Rattle.std.specs.Prelude.{slice_set, slice_index, option_map, ◌==◌, if◌then◌else◌}
use Rattle.std.proofs.lemmas.Bool.{eqb-false}
use Rattle.micro_isa.specs.declared.program.VReg.{VReg}
use Rattle.micro_isa.specs.declared.image.PReg.{PReg}
use Rattle.micro_isa.specs.declared.image.Word.{Word}
use Rattle.edge_moves.specs.declared.step.Step.{Step}
use Rattle.semantics.specs.Effects.{SavedContext}
use Rattle.semantics.specs.Stretches.{received, settled}
use Rattle.semantics.specs.Source.{SourceContext, source_kind, put}
use Rattle.semantics.specs.Machine.{machine_kind}
use Rattle.emitted.proofs.Glue.{OnFile, stand, do_words}

-- what a context keeps in the image: it stands here, and what waits goes to this register
abbrev pub kept_in : ℕ → PReg → SavedContext VReg → SavedContext PReg
kept_in at w k = record { at = at; pending = option_map (λ v. w) k.pending }

abbrev pub preg : ℕ → PReg
preg q = record { 0 = q }

-- how a context is laid out: how many instructions it has, where instruction i begins, in which register of the file each
-- of its registers is before i, to which one i writes, which ones are live there, which registers of the file no other
-- context writes, and which ones it may write
pub record Laid : Type 1 where
  pub count : ℕ
  pub addr : ℕ → ℕ
  pub loc : ℕ → VReg → ℕ
  pub write : ℕ → ℕ
  pub live : ℕ → VReg → Type 0
  pub mine : ℕ → Type 0
  pub free : ℕ → Type 0

-- where a value is after the instruction that may write it
abbrev pub after_of : (VReg → ℕ) → ℕ → Option VReg → VReg → ℕ
after_of row wp None v = row v
after_of row wp (Some w) v = if v.0 == w.0 then wp else row v

-- another register than this one, if any
abbrev pub IsOther : Option VReg → VReg → Type 0
IsOther None v = Unit {0}
IsOther (Some w) v = v.0 ≢ w.0

-- a word comes just where one is waited for
abbrev pub HasWord : Option VReg → Option ℕ → Type 0
HasWord None v = Unit {0}
HasWord (Some r) None = ⊥
HasWord (Some r) (Some v) = Unit {0}

pub kept_by_write : (free : ℕ → Type 0) (file : List ℕ) (p v q : ℕ) → free p → (free q → ⊥) → slice_index (slice_set file p v) q ≡ slice_index file q
kept_by_write free file p v q fp nq = get_or-set_other file p q v 0 (λ e. nq (subst free (sym e) fp))

any_place : (n : ℕ) (w u : PReg) (k : SavedContext VReg) → k.pending ≡ None → kept_in n w k ≡ kept_in n u k
any_place n w u k e =
    ap (λ o. kept_in n w (record k { pending = o })) e ∙ sym (ap (λ o. kept_in n u (record k { pending = o })) e)

module _ (p : Laid) (size : ℕ) where
  -- the context is at the counted word of its instruction, with the live registers in their places; of the places that it
  -- may not write nothing changed
  pub record Arrives (x : SourceContext) (before : List ℕ) (m : OnFile) : Type 0 where
    pub within : x.kept.at < p.count
    pub none : x.kept.pending ≡ None
    pub kept : m.kept ≡ kept_in (p.addr x.kept.at) (preg (p.write x.kept.at)) x.kept
    pub long : length m.values ≡ size
    pub agree : (r : VReg) → p.live x.kept.at r → slice_index m.values (p.loc x.kept.at r) ≡ x.values r
    pub others : (q : ℕ) → (p.free q → ⊥) → slice_index m.values q ≡ slice_index before q

  module _ (words : List Word) (reg : ℕ → PReg) where
    -- what the words from `at` on do, up to the counted word of instruction j; `after` says in which registers of the file
    -- its values are at first
    pub record EdgeWords (at j : ℕ) (after : VReg → ℕ) (ss : List Step) : Type 0 where
      pub within : j < p.count
      pub goes : (c : ℕ) (memory : List ℕ) (k : SavedContext PReg) (file : List ℕ) → settled machine_kind c memory words (stand k at file) ≡ stand k (p.addr j) (do_words reg ss file)
      -- each live register comes from where it is to where row j has it
      pub moved : (file : List ℕ) → length file ≡ size → (r : VReg) → p.live j r → slice_index (do_words reg ss file) (p.loc j r) ≡ slice_index file (after r)
      pub keeps : (file : List ℕ) → length file ≡ size → (q : ℕ) → (p.free q → ⊥) → slice_index (do_words reg ss file) q ≡ slice_index file q
      pub long : (file : List ℕ) → length file ≡ size → length (do_words reg ss file) ≡ size

    pub edge_arrives : (at : ℕ) (after : VReg → ℕ) (ss : List Step) (x : SourceContext) → EdgeWords at x.kept.at after ss → x.kept.pending ≡ None → (c : ℕ) (memory : List ℕ) (k : SavedContext PReg) (a : ℕ) (w : PReg) → k ≡ kept_in a w x.kept → (file before : List ℕ) → length file ≡ size → ((r : VReg) → p.live x.kept.at r → slice_index file (after r) ≡ x.values r) → ((q : ℕ) → (p.free q → ⊥) → slice_index file q ≡ slice_index before q) → Arrives x before (settled machine_kind c memory words (stand k at file))
    edge_arrives at after ss x e none c memory k a w same file before long agree others =
        subst (Arrives x before) (sym (e.goes c memory k file)) (record {
          within = e.within;
          none = none;
          kept = ap {A = SavedContext PReg} (λ n. record n { at = p.addr x.kept.at }) same ∙ any_place (p.addr x.kept.at) w (preg (p.write x.kept.at)) x.kept none;
          long = e.long file long;
          agree = λ r l. e.moved file long r l ∙ agree r l;
          others = λ q nf. e.keeps file long q nf ∙ others q nf;
        })

    -- what is live at j was live at i, unless it is written there; a survivor keeps its register, which is not written
    abbrev pub Flow : ℕ → ℕ → Option VReg → Type 0
    Flow i j None = (v : VReg) → p.live j v → p.live i v
    Flow i j (Some w) =
        p.free (p.write i) × (p.write i < size) × ((v : VReg) → p.live j v → v.0 ≢ w.0 → p.live i v × (p.loc i v ≢ p.write i))

    -- the way from behind instruction i, which writes w, to instruction j
    pub record Way (i : ℕ) (w : Option VReg) (at j : ℕ) : Type 0 where
      pub ss : List Step
      pub edge : EdgeWords at j (after_of (p.loc i) (p.write i) w) ss
      pub flow : Flow i j w

    -- a context that has not begun
    pub record AtEntry (x : SourceContext) (k : SavedContext PReg) (file : List ℕ) : Type 0 where
      pub place : x.kept.at ≡ 0
      pub none : x.kept.pending ≡ None
      pub kept : k ≡ kept_in (p.addr 0) (preg (p.write 0)) x.kept
      pub stays : EdgeWords (p.addr 0) 0 (p.loc 0) []
      pub values : (v : VReg) → p.live 0 v → p.mine (p.loc 0 v) × (slice_index file (p.loc 0 v) ≡ x.values v)

    -- a context that instruction i has stopped: it stands behind i's word, what waits goes to i's write place, and each
    -- other live register is in a register of its own, where it was before i
    pub record Behind (i : ℕ) (x : SourceContext) (k : SavedContext PReg) (file : List ℕ) : Type 0 where
      pub place : x.kept.at ≡ i + 1
      pub kept : k ≡ kept_in (p.addr i + 1) (preg (p.write i)) x.kept
      pub way : Way i x.kept.pending (p.addr i + 1) (i + 1)
      pub values : (v : VReg) → p.live (i + 1) v → IsOther x.kept.pending v → p.mine (p.loc i v) × (slice_index file (p.loc i v) ≡ x.values v)

    -- a context that waits
    abbrev pub Suspended : SourceContext → SavedContext PReg → List ℕ → Type 0
    Suspended x k file = AtEntry x k file ⊎ ((i : ℕ) × Behind i x k file)

    -- others may change what is not its own
    pub still_suspended : (x : SourceContext) (k : SavedContext PReg) (file file' : List ℕ) → ((q : ℕ) → p.mine q → slice_index file' q ≡ slice_index file q) → Suspended x k file → Suspended x k file'
    still_suspended x k file file' same (inl e) =
        inl (record { place = e.place; none = e.none; kept = e.kept; stays = e.stays; values = λ v l. let h = e.values v l in (h.0, same (p.loc 0 v) h.0 ∙ h.1) })
    still_suspended x k file file' same (inr b) =
        inr (b.0, record { place = b.1.place; kept = b.1.kept; way = b.1.way; values = λ v l o. let h = b.1.values v l o in (h.0, same (p.loc b.0 v) h.0 ∙ h.1) })

    -- a context with these, and what is kept beside them
    abbrev context : SavedContext VReg → ℕ → Option VReg → (VReg → ℕ) → SourceContext
    context k at pending values = record { kept = record k { at = at; pending = pending }; values = values }

    abbrev Resumed : ℕ → List ℕ → SourceContext → SavedContext PReg → List ℕ → Option ℕ → Type 0
    Resumed c memory x k file v =
        Arrives (received source_kind x.kept.pending v x) file (settled machine_kind c memory words (received machine_kind k.pending v (record { kept = k; values = file })))

    -- from behind i, once the word is there
    from_behind : (c : ℕ) (memory : List ℕ) (i : ℕ) (k0 : SavedContext VReg) (q : Option VReg) (values : VReg → ℕ) (file : List ℕ) → length file ≡ size → Way i q (p.addr i + 1) (i + 1) → ((v : VReg) → p.live (i + 1) v → IsOther q v → slice_index file (p.loc i v) ≡ values v) → (v : Option ℕ) → HasWord q v → Resumed c memory (context k0 (i + 1) q values) (kept_in (p.addr i + 1) (preg (p.write i)) (context k0 (i + 1) q values).kept) file v
    from_behind c memory i k0 None values file long way agree v h =
        edge_arrives (p.addr i + 1) (p.loc i) way.ss (context k0 (i + 1) None values) way.edge refl c memory (kept_in (p.addr i + 1) (preg (p.write i)) (context k0 (i + 1) None values).kept) (p.addr i + 1) (preg (p.write i)) refl file file long (λ r l. agree r l tt) (λ q nf. refl)
    from_behind c memory i k0 (Some d) values file long way agree None h = absurd h
    from_behind c memory i k0 (Some d) values file long way agree (Some u) h =
        edge_arrives (p.addr i + 1) (after_of (p.loc i) (p.write i) (Some d)) way.ss (context k0 (i + 1) None (put values d u)) way.edge refl c memory (kept_in (p.addr i + 1) (preg (p.write i)) (context k0 (i + 1) None values).kept) (p.addr i + 1) (preg (p.write i)) refl (slice_set file (p.write i) u) file (length-set file (p.write i) u ∙ long) (λ r l. got r l (r.0 == d.0) refl) (λ q nf. kept_by_write p.free file (p.write i) u q way.flow.0 nf)
      where
        got : (r : VReg) → p.live (i + 1) r → (b : Bool) → (r.0 == d.0) ≡ b → slice_index (slice_set file (p.write i) u) (if b then p.write i else p.loc i r) ≡ (if b then u else values r)
        got r l true is = get_or-set_same file (p.write i) u 0 (subst (λ n. p.write i < n) (sym long) way.flow.1)
        got r l false is =
            let ne = eqb-false r.0 d.0 is in
            let f = way.flow.2 r l ne in
            get_or-set_other file (p.write i) (p.loc i r) u 0 f.1 ∙ agree r l ne

    -- from the entry, where nothing waits
    from_entry : (c : ℕ) (memory : List ℕ) (k0 : SavedContext VReg) (values : VReg → ℕ) (file : List ℕ) → length file ≡ size → EdgeWords (p.addr 0) 0 (p.loc 0) [] → ((v : VReg) → p.live 0 v → slice_index file (p.loc 0 v) ≡ values v) → (v : Option ℕ) → Resumed c memory (context k0 0 None values) (kept_in (p.addr 0) (preg (p.write 0)) (context k0 0 None values).kept) file v
    from_entry c memory k0 values file long e agree v =
        edge_arrives (p.addr 0) (p.loc 0) [] (context k0 0 None values) e refl c memory (kept_in (p.addr 0) (preg (p.write 0)) (context k0 0 None values).kept) (p.addr 0) (preg (p.write 0)) refl file file long agree (λ q nf. refl)

    -- once resumed, whatever others did to registers that are not its own, a context that waits arrives
    pub resumes : (c : ℕ) (memory : List ℕ) (x : SourceContext) (k : SavedContext PReg) (file : List ℕ) → length file ≡ size → Suspended x k file → (v : Option ℕ) → HasWord x.kept.pending v → Resumed c memory x k file v
    resumes c memory x k file long (inl e) v h =
        let same : context x.kept 0 None x.values ≡ x = λ i. record { kept = record x.kept { at = sym e.place i; pending = sym e.none i }; values = x.values } in
        let there = from_entry c memory x.kept x.values file long e.stays (λ r l. (e.values r l).1) v in
        subst (λ n. Resumed c memory x n file v) (sym e.kept)
        (subst (λ y. Resumed c memory y (kept_in (p.addr 0) (preg (p.write 0)) y.kept) file v) same there)
    resumes c memory x k file long (inr b) v h =
        let i = b.0 in
        let same : context x.kept (i + 1) x.kept.pending x.values ≡ x = λ j. record { kept = record x.kept { at = sym (b.1.place) j }; values = x.values } in
        let there = from_behind c memory i x.kept x.kept.pending x.values file long b.1.way (λ r l o. (b.1.values r l o).1) v h in
        subst (λ n. Resumed c memory x n file v) (sym b.1.kept)
        (subst (λ y. Resumed c memory y (kept_in (p.addr i + 1) (preg (p.write i)) y.kept) file v) same there)
