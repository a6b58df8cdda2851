-- Notes and passes that are cut from a view, and views that are joined, keep the law.
use Rattle.std.proofs.Common.{◌≡◌, ℕ, ◌<◌, inl, inr, ◌++◌, true, false, List, [], ◌∷◌, length, set, slice_index, Option, None, refl, sym, ap, ◌∙◌, subst, arith}
use mathlib.Core.Logic.{dite}
use mathlib.Core.Option.{some, some-injective}
use mathlib.Core.List.{IsPrefix}
use native.Mathlib.Decide.{ℕ_discrete}
use lib.ListN.{get_elem?}
use Rattle.atomic_table.specs.Table.{State, Splits, Joins}
use Rattle.atomic_table.proofs.Lists.{set_here, set_else, set_again}
use Rattle.baton.specs.declared.view.View.{View}
use Rattle.baton.specs.Views.{Apart, longer, note_of, dealt_of, both_of, spent_view}
use Rattle.baton.specs.Law.{IsSound, IsHome, IsOut, IsLawful}
use Rattle.baton.proofs.Lists.{prefix_length, longer_is, longer_stays, each_set, each_pair, below}
use Rattle.baton.proofs.Own.{apart_sym, none_apart, apart_both, stands_longer, stands_both, once_both}
use Rattle.baton.proofs.Lawful.{fresh_sound, not_holder, seen_by_holder, common, one_more}

-- the views are all that changes, and one of them becomes what it was
abbrev same_views : {T E O : Type 0} → State (Option T) (View E O) → List (View E O) → State (Option T) (View E O)
same_views s views = record { words = s.words; homes = s.homes; views = views }

module _ {T E O : Type 0} (history : T → List E) (origin : T → O) (o : O) (callers : ℕ) where
  -- a view is cut in two, and the second half holds nothing
  cuts : (id : ℕ) (v w : View E O) → ((k : IsSound o callers v) → IsSound o callers w) → w.holding ≡ false → w.seen ≡ v.seen → w.mine ≡ [] → Splits (IsLawful history origin o callers) id v v w
  cuts id v w sound idle seen mine s r at =
      subst (λ views. IsLawful history origin o callers (same_views s (views ++ w ∷ []))) (sym (set_again s.views id v at))
      (one_more history origin o callers s r id v w at (sound (r.sound id v at)) idle seen mine)

  pub notes : (id : ℕ) (v : View E O) → Splits (IsLawful history origin o callers) id v v (note_of v)
  notes id v = cuts id v (note_of v) (λ k. fresh_sound o callers (note_of v) k.of (omega arith) refl refl refl) refl refl refl

  pub deals : (id : ℕ) (v : View E O) → v.number < callers → Splits (IsLawful history origin o callers) id v v (dealt_of v)
  deals id v more = cuts id v (dealt_of v) (λ k. fresh_sound o callers (dealt_of v) k.of (omega (arith, more)) refl refl refl) refl refl refl

  both_sound : (v w : View E O) → (l : List E) × IsPrefix v.seen l × IsPrefix w.seen l → 0 < v.number → Apart v.mine w.mine → IsSound o callers v → IsSound o callers w → IsSound o callers (both_of v w)
  both_sound v w l pass far k m =
      let t = longer_is v.seen w.seen l.0 l.1 l.2 in
      record {
        of = k.of;
        few = k.few;
        note = λ e. absurd (omega (arith, pass, e));
        also = t.0;
        stands = stands_both v.mine w.mine (longer v.seen w.seen) (stands_longer v.mine v.seen _ t.1 k.stands) (stands_longer w.mine w.seen _ t.2 m.stands);
        once = once_both v.mine w.mine k.once m.once far;
      }

  joined_apart : (s : State (Option T) (View E O)) → IsLawful history origin o callers s → (id other : ℕ) (v w : View E O) → get_elem? s.views id ≡ some v → get_elem? s.views other ≡ some w
      → (i j : ℕ) (x y : View E O) → ¬ (i ≡ j) → get_elem? (set (set s.views id (both_of v w)) other spent_view) i ≡ some x → get_elem? (set (set s.views id (both_of v w)) other spent_view) j ≡ some y → Apart x.mine y.mine
  joined_apart s r id other v w at at2 i j x y n a b =
      each_pair (set s.views id (both_of v w)) other (spent_view {E = E} {O = O}) (λ p q. Apart p.mine q.mine) (λ k. Unit {0}) (λ k z m u f. none_apart [] z.mine refl) (λ p q. apart_sym p.mine q.mine)
      (λ k l p q m u not_k not_l. each_pair s.views id (both_of v w) (λ p' q'. Apart p'.mine q'.mine) (λ k'. ¬ (k' ≡ other))
      (λ k' z not_other e f. apart_both v.mine w.mine z.mine (r.apart id k' v z e at f) (r.apart other k' w z (λ g. not_other (sym g)) at2 f))
      (λ p' q'. apart_sym p'.mine q'.mine)
      (λ k' l' p' q' u' m' e' f'. r.apart k' l' p' q')
      k l p q not_k not_l)
      i j x y tt tt n a b

  joined_home : (s : State (Option T) (View E O)) → (h : IsHome history origin o s) → (id other : ℕ) (v w : View E O) → get_elem? s.views id ≡ some v → get_elem? s.views other ≡ some w
      → IsHome history origin o (same_views s (set (set s.views id (both_of v w)) other spent_view))
  joined_home s h id other v w at at2 =
      let t = longer_is v.seen w.seen (history h.value) (h.each id v at).0 (h.each other w at2).0 in
      record {
        value = h.value;
        from = h.from;
        free = h.free;
        home = h.home;
        count = h.count;
        each = each_set (set s.views id (both_of v w)) other spent_view (λ i y. IsPrefix y.seen (history h.value) × (y.holding ≡ false)) ((history h.value, refl), refl)
            (λ i y n a. each_set s.views id (both_of v w) (λ k z. IsPrefix z.seen (history h.value) × (z.holding ≡ false)) (t.3, (h.each id v at).1) (λ k z m b. h.each k z b) i y a);
      }

  joined_out : (s : State (Option T) (View E O)) → (out : IsOut s) → (id other : ℕ) (v w : View E O) → get_elem? s.views id ≡ some v → get_elem? s.views other ≡ some w → ¬ (other ≡ id) → w.holding ≡ false
      → IsOut (same_views s (set (set s.views id (both_of v w)) other spent_view))
  joined_out s out id other v w at at2 apart idle =
      let far : ¬ (out.holder ≡ other) = not_holder history origin o callers s other w out at2 idle in
      let t = longer_is v.seen w.seen out.view.seen (seen_by_holder history origin o callers s out id v at) (seen_by_holder history origin o callers s out other w at2) in
      dite (ℕ_discrete id out.holder)
      (λ e.
      let same : out.view ≡ v = some-injective out.view v (sym out.by ∙ (ap (get_elem? s.views) (sym e) ∙ at)) in
      let view_is : (P : View E O → Type 0) → P out.view → P v = λ P p. subst P same p in
      let stays : longer v.seen w.seen ≡ v.seen = longer_stays v.seen w.seen (prefix_length w.seen v.seen (view_is (λ z. IsPrefix w.seen z.seen) (seen_by_holder history origin o callers s out other w at2))) in
      record {
        holder = id;
        view = both_of v w;
        by = set_else (set s.views id (both_of v w)) other id spent_view (λ f. apart (sym f)) ∙ set_here s.views id (both_of v w) (below s.views id v at);
        holds = view_is (λ (y : View E O). y.holding ≡ true) out.holds;
        number = view_is (λ (y : View E O). slice_index s.words 0 ≡ y.number) out.number;
        taken = view_is (λ (y : View E O). 0 < y.number) out.taken;
        count = view_is (λ (y : View E O). slice_index s.words 1 ≡ length y.seen) out.count ∙ ap length (sym stays);
        each = each_set (set s.views id (both_of v w)) other spent_view (λ i y. ¬ (i ≡ id) → IsPrefix y.seen (longer v.seen w.seen) × (y.holding ≡ false)) (λ n. ((longer v.seen w.seen, refl), refl))
            (λ i y n a. each_set s.views id (both_of v w) (λ k z. ¬ (k ≡ id) → IsPrefix z.seen (longer v.seen w.seen) × (z.holding ≡ false)) (λ m. absurd (m refl))
            (λ k z m b u. subst (λ l. IsPrefix z.seen l × (z.holding ≡ false)) (sym stays) (view_is (λ (y' : View E O). IsPrefix z.seen y'.seen × (z.holding ≡ false)) (out.each k z b (λ f. m (f ∙ sym e))))) i y a);
        last = view_is (λ (y : View E O). y.ended ≡ true → get_elem? s.homes 0 ≡ some (some None)) out.last;
      })
      (λ n. record {
        holder = out.holder;
        view = out.view;
        by = set_else (set s.views id (both_of v w)) other out.holder spent_view far ∙ set_else s.views id out.holder (both_of v w) (λ e. n (sym e)) ∙ out.by;
        holds = out.holds;
        number = out.number;
        taken = out.taken;
        count = out.count;
        each = each_set (set s.views id (both_of v w)) other spent_view (λ i y. ¬ (i ≡ out.holder) → IsPrefix y.seen out.view.seen × (y.holding ≡ false)) (λ m. ((out.view.seen, refl), refl))
            (λ i y m a. each_set s.views id (both_of v w) (λ k z. ¬ (k ≡ out.holder) → IsPrefix z.seen out.view.seen × (z.holding ≡ false)) (λ u. (t.3, (out.each id v at n).1)) (λ k z u b. out.each k z b) i y a);
        last = out.last;
      })

  pub joins : (id other : ℕ) (v w : View E O) → 0 < v.number → w.holding ≡ false → Joins (IsLawful history origin o callers) id v other w (both_of v w) spent_view
  joins id other v w pass idle s r at apart there =
      let at2 : get_elem? s.views other ≡ some w = sym (set_else s.views id other (both_of v w) apart) ∙ there in
      let spent : IsSound o callers spent_view = fresh_sound o callers (spent_view {E = E} {O = O}) (inl refl) (omega arith) refl refl refl in
      record {
        two = r.two;
        sound = each_set (set s.views id (both_of v w)) other spent_view (λ i y. IsSound o callers y) spent
            (λ i y n a. each_set s.views id (both_of v w) (λ k z. IsSound o callers z)
            (both_sound v w (common history origin o callers s r id other v w at at2) pass (r.apart id other v w (λ e. apart (sym e)) at at2) (r.sound id v at) (r.sound other w at2)) (λ k z m b. r.sound k z b) i y a);
        apart = joined_apart s r id other v w at at2;
        place = elim r.place [
          | inl h ↦ inl (joined_home s h id other v w at at2)
          | inr out ↦ inr (joined_out s out id other v w at at2 apart idle)
        ];
      }
