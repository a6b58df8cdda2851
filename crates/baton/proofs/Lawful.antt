-- What the law tells of one view, and how it is kept where one view changes or is new.
use Rattle.std.proofs.Common.{◌≡◌, ℕ, ◌<◌, ◌≤◌, inl, inr, ◌++◌, true, false, List, [], ◌∷◌, length, set, slice_index, Option, None, refl, sym, ap, ◌∙◌, subst}
use Rattle.std.proofs.lemmas.List.{set-get_or}
use mathlib.Core.Logic.{dite}
use mathlib.Core.Option.{some, some-injective}
use mathlib.Core.List.{IsPrefix}
use native.Mathlib.Decide.{ℕ_discrete}
use lib.ListN.{get_elem?}
use Rattle.atomic_table.specs.Table.{State, stepped, keeps}
use Rattle.atomic_table.proofs.Lists.{set_here, set_else, at_longer}
use Rattle.baton.specs.declared.view.View.{View}
use Rattle.baton.specs.Views.{Apart}
use Rattle.baton.specs.Law.{IsOf, IsSound, IsOut, IsLawful}
use Rattle.baton.proofs.Lists.{two_sides, prefix_same, prefix_length, each_set, each_snoc, below, each_pair, snoc_pair}
use Rattle.baton.proofs.Own.{apart_sym, none_apart, apart_none, none_stands, none_once}

module _ {E O : Type 0} (o : O) (callers : ℕ) where
  -- a view with no entries of its own that holds nothing
  pub fresh_sound : (w : View E O) → IsOf o callers w → w.number ≤ callers → w.mine ≡ [] → w.also ≡ [] → w.holding ≡ false → IsSound o callers w
  fresh_sound w of few mine also idle = record {
    of = of;
    few = few;
    note = λ e. (mine, idle);
    also = rw also (w.seen, refl);
    stands = none_stands w.mine w.seen mine;
    once = none_once w.mine mine;
  }

module _ {T E O : Type 0} (history : T → List E) (origin : T → O) (o : O) (callers : ℕ) where
  -- the other views stay as they are
  pub sounds : (s : State (Option T) (View E O)) → IsLawful history origin o callers s → (id : ℕ) (w : View E O) → IsSound o callers w
      → (i : ℕ) (y : View E O) → get_elem? (set s.views id w) i ≡ some y → IsSound o callers y
  sounds s r id w sound = each_set s.views id w (λ i y. IsSound o callers y) sound (λ i y n a. r.sound i y a)

  pub aparts : (s : State (Option T) (View E O)) → IsLawful history origin o callers s → (id : ℕ) (w : View E O)
      → ((j : ℕ) (y : View E O) → ¬ (id ≡ j) → get_elem? s.views j ≡ some y → Apart w.mine y.mine)
      → (i j : ℕ) (x y : View E O) → ¬ (i ≡ j) → get_elem? (set s.views id w) i ≡ some x → get_elem? (set s.views id w) j ≡ some y → Apart x.mine y.mine
  aparts s r id w near i j x y n a b =
      each_pair s.views id w (λ p q. Apart p.mine q.mine) (λ k. Unit {0}) (λ k z m. near k z) (λ p q. apart_sym p.mine q.mine) (λ k l p q m u e f. r.apart k l p q) i j x y tt tt n a b

  -- the view of the seat that is holding is the holder's
  pub is_holder : (s : State (Option T) (View E O)) (id : ℕ) (v : View E O) → (out : IsOut s) → get_elem? s.views id ≡ some v → v.holding ≡ true → (id ≡ out.holder) × (out.view ≡ v)
  is_holder s id v out at holds = dite (ℕ_discrete id out.holder)
      (λ e. (e, some-injective out.view v (sym out.by ∙ (ap (get_elem? s.views) (sym e) ∙ at))))
      (λ n. two_sides v.holding holds (out.each id v at n).1)

  -- who holds nothing is not the holder
  pub not_holder : (s : State (Option T) (View E O)) (id : ℕ) (v : View E O) → (out : IsOut s) → get_elem? s.views id ≡ some v → v.holding ≡ false → ¬ (out.holder ≡ id)
  not_holder s id v out at idle e = two_sides out.view.holding out.holds (ap (λ (x : View E O). x.holding) (some-injective out.view v (sym out.by ∙ (ap (get_elem? s.views) e ∙ at))) ∙ idle)

  -- all have seen a beginning of what the holder has seen
  pub seen_by_holder : (s : State (Option T) (View E O)) → (out : IsOut s) → (i : ℕ) (y : View E O) → get_elem? s.views i ≡ some y → IsPrefix y.seen out.view.seen
  seen_by_holder s out i y a = dite (ℕ_discrete i out.holder)
      (λ e. let same : out.view ≡ y = some-injective out.view y (sym out.by ∙ (ap (get_elem? s.views) (sym e) ∙ a)) in rw same (prefix_same y.seen))
      (λ n. (out.each i y a n).0)

  -- both views have seen beginnings of one history
  pub common : (s : State (Option T) (View E O)) → IsLawful history origin o callers s → (id other : ℕ) (v w : View E O) → get_elem? s.views id ≡ some v → get_elem? s.views other ≡ some w → (l : List E) × IsPrefix v.seen l × IsPrefix w.seen l
  common s r id other v w at at2 = elim r.place [
    | inl h ↦ (history h.value, (h.each id v at).0, (h.each other w at2).0)
    | inr out ↦ (out.view.seen, seen_by_holder s out id v at, seen_by_holder s out other w at2)
  ]

  -- the word 1 is at least as long as what a view has seen
  pub longest : (s : State (Option T) (View E O)) → IsLawful history origin o callers s → (id : ℕ) (v : View E O) → get_elem? s.views id ≡ some v → length v.seen ≤ slice_index s.words 1
  longest s r id v at = elim r.place [
    | inl h ↦ rw h.count (prefix_length v.seen (history h.value) (h.each id v at).0)
    | inr out ↦ rw out.count (prefix_length v.seen out.view.seen (seen_by_holder s out id v at))
  ]

  -- a view that tells no more than it did of the value
  pub replaced : (s : State (Option T) (View E O)) → IsLawful history origin o callers s → (id : ℕ) (v w : View E O) → get_elem? s.views id ≡ some v
      → IsSound o callers w → w.mine ≡ v.mine → w.number ≡ v.number → w.holding ≡ v.holding → w.ended ≡ v.ended → w.seen ≡ v.seen
      → IsLawful history origin o callers (record { words = s.words; homes = s.homes; views = set s.views id w })
  replaced s r id v w at sound mine number holding ended seen = record {
    two = r.two;
    sound = sounds s r id w sound;
    apart = aparts s r id w (λ j y n a. subst (λ m. Apart m y.mine) (sym mine) (r.apart id j v y n at a));
    place = elim r.place [
      | inl h ↦ inl (record {
        value = h.value;
        from = h.from;
        free = h.free;
        home = h.home;
        count = h.count;
        each = each_set s.views id w (λ i y. IsPrefix y.seen (history h.value) × (y.holding ≡ false)) (subst (λ l. IsPrefix l (history h.value)) (sym seen) (h.each id v at).0, holding ∙ (h.each id v at).1) (λ i y n a. h.each i y a);
      })
      | inr out ↦ dite (ℕ_discrete id out.holder)
          (λ e.
          let same : out.view ≡ v = some-injective out.view v (sym out.by ∙ (ap (get_elem? s.views) (sym e) ∙ at)) in
          let view_is : (P : View E O → Type 0) → P out.view → P v = λ P p. subst P same p in
          inr (record {
            holder = id;
            view = w;
            by = set_here s.views id w (below s.views id v at);
            holds = holding ∙ view_is (λ (y : View E O). y.holding ≡ true) out.holds;
            number = view_is (λ (y : View E O). slice_index s.words 0 ≡ y.number) out.number ∙ sym number;
            taken = rw number (view_is (λ (y : View E O). 0 < y.number) out.taken);
            count = view_is (λ (y : View E O). slice_index s.words 1 ≡ length y.seen) out.count ∙ ap length (sym seen);
            each = each_set s.views id w (λ i y. ¬ (i ≡ id) → IsPrefix y.seen w.seen × (y.holding ≡ false)) (λ n. absurd (n refl))
                (λ i y n a k. rw seen (view_is (λ (z : View E O). IsPrefix y.seen z.seen × (y.holding ≡ false)) (out.each i y a (λ f. n (f ∙ sym e)))));
            last = λ m. view_is (λ (y : View E O). y.ended ≡ true → get_elem? s.homes 0 ≡ some (some None)) out.last (sym ended ∙ m);
          }))
          (λ n. inr (record {
            holder = out.holder;
            view = out.view;
            by = set_else s.views id out.holder w (λ e. n (sym e)) ∙ out.by;
            holds = out.holds;
            number = out.number;
            taken = out.taken;
            count = out.count;
            each = each_set s.views id w (λ i y. ¬ (i ≡ out.holder) → IsPrefix y.seen out.view.seen × (y.holding ≡ false))
                (λ m. (subst (λ l. IsPrefix l out.view.seen) (sym seen) (out.each id v at n).0, holding ∙ (out.each id v at n).1)) (λ i y m a k. out.each i y a k);
            last = out.last;
          }))
    ];
  }

  -- a word that becomes what it was
  pub unturned : (s : State (Option T) (View E O)) (k id : ℕ) (w : View E O) (c : List (ℕ × Option T))
      → IsLawful history origin o callers (record { words = s.words; homes = s.homes; views = set s.views id w }) → IsLawful history origin o callers (stepped s k (slice_index s.words k) id c w keeps)
  unturned s k id w c r =
      subst (λ (ws : List ℕ). IsLawful history origin o callers (record { words = ws; homes = s.homes; views = set s.views id w })) (sym (set-get_or s.words k 0)) r

  -- one view more, which has seen what another has, has no entries of its own and holds nothing
  pub one_more : (s : State (Option T) (View E O)) → IsLawful history origin o callers s → (id : ℕ) (v w : View E O) → get_elem? s.views id ≡ some v → IsSound o callers w → w.holding ≡ false → w.seen ≡ v.seen → w.mine ≡ []
      → IsLawful history origin o callers (record { words = s.words; homes = s.homes; views = s.views ++ w ∷ [] })
  one_more s r id v w at sound idle seen mine = record {
    two = r.two;
    sound = each_snoc s.views w (λ i y. IsSound o callers y) (λ i. sound) r.sound;
    apart = snoc_pair s.views w (λ p q. Apart p.mine q.mine) (λ y. none_apart w.mine y.mine mine) (λ x. apart_none x.mine w.mine mine) r.apart;
    place = elim r.place [
      | inl h ↦ inl (record {
        value = h.value;
        from = h.from;
        free = h.free;
        home = h.home;
        count = h.count;
        each = each_snoc s.views w (λ i y. IsPrefix y.seen (history h.value) × (y.holding ≡ false)) (λ i. (rw seen (h.each id v at).0, idle)) h.each;
      })
      | inr out ↦ inr (record {
        holder = out.holder;
        view = out.view;
        by = at_longer s.views (w ∷ []) out.holder out.view out.by;
        holds = out.holds;
        number = out.number;
        taken = out.taken;
        count = out.count;
        each = each_snoc s.views w (λ i y. ¬ (i ≡ out.holder) → IsPrefix y.seen out.view.seen × (y.holding ≡ false)) (λ i n. (rw seen (seen_by_holder s out id v at), idle)) out.each;
        last = out.last;
      })
    ];
  }
