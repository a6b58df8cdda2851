-- Each step keeps the law: the opening, take, post, free, look, recall and end.
use Rattle.std.proofs.Common.{◌≡◌, ℕ, ◌<◌, ◌≤◌, ◌==◌, inl, inr, true, false, List, [], ◌∷◌, length, set, slice_index, Option, Some, None, refl, sym, ap, ◌∙◌, subst, arith, length-set, get_or-set_same, ne_eqb}
use Rattle.std.proofs.lemmas.List.{get_or-set_other}
use mathlib.Core.Option.{none, some}
use mathlib.Core.List.{IsPrefix}
use lib.ListN.{get_elem?}
use prog.Atomic.{either}
use Rattle.atomic_table.specs.Table.{State, Me, Step, keeps, takes, gives, Allows, opening}
use Rattle.atomic_table.proofs.Lists.{set_here}
use Rattle.baton.specs.declared.view.View.{View}
use Rattle.baton.specs.Views.{Stands, opened_view, taken_view, busy_view, posted_view, freed_view, looked_view}
use Rattle.baton.specs.Law.{IsSound, IsHome, IsLawful, Takes, Posts, Frees, Looks, Recalls, Ends}
use Rattle.baton.proofs.Lists.{two_sides, prefix_same, prefix_then, single, each_set, below}
use Rattle.baton.proofs.Own.{stands_longer, none_apart, posted_stands, posted_once, posted_apart}
use Rattle.baton.proofs.Lawful.{fresh_sound, sounds, aparts, is_holder, longest, replaced, unturned}

module _ {T E O : Type 0} (history : T → List E) (origin : T → O) where
  pub opens : (callers : ℕ) (value : T) → 0 < callers → IsLawful history origin (origin value) callers (opening (0 ∷ length (history value) ∷ []) (Some value ∷ []) (opened_view 1 callers (history value) (origin value)))
  opens callers value some_caller =
      let w : View E O = opened_view 1 callers (history value) (origin value) in
      record {
        two = refl;
        sound = single w (λ i v. IsSound (origin value) callers v) (fresh_sound (origin value) callers w (inr (refl, refl)) (omega (arith, some_caller)) refl refl refl);
        apart = λ i j x y n a b. none_apart x.mine y.mine (single w (λ k v. v.mine ≡ []) refl i x a);
        place = inl (record {
          value = value;
          from = refl;
          free = refl;
          home = refl;
          count = refl;
          each = single w (λ i v. IsPrefix v.seen (history value) × (v.holding ≡ false)) (prefix_same (history value), refl);
        });
      }

module _ {T E O : Type 0} (history : T → List E) (origin : T → O) (o : O) (callers : ℕ) where
  takes_home : (s : State (Option T) (View E O)) (number id : ℕ) (v : View E O) → IsLawful history origin o callers s → (h : IsHome history origin o s) → get_elem? s.views id ≡ some v → number ≡ v.number → 0 < number → v.ended ≡ false
      → IsLawful history origin o callers (record { words = set s.words 0 number; homes = set s.homes 0 none; views = set s.views id (taken_view v (history h.value)) })
  takes_home s number id v r h at is pos going =
      let each = h.each id v at in
      let k = r.sound id v at in
      let w : View E O = taken_view v (history h.value) in
      record {
        two = length-set s.words 0 number ∙ r.two;
        sound = sounds history origin o callers s r id w (record {
          of = k.of;
          few = k.few;
          note = λ e. absurd (omega (arith, is, pos, e));
          also = prefix_then v.also v.seen (history h.value) k.also each.0;
          stands = stands_longer v.mine v.seen (history h.value) each.0 k.stands;
          once = k.once;
        });
        apart = aparts history origin o callers s r id w (λ j y n a. r.apart id j v y n at a);
        place = inr (record {
          holder = id;
          view = w;
          by = set_here s.views id w (below s.views id v at);
          holds = refl;
          number = get_or-set_same s.words 0 number 0 (omega (arith, r.two)) ∙ is;
          taken = subst (λ (n : ℕ). 0 < n) is pos;
          count = get_or-set_other s.words 0 1 number 0 (omega arith) ∙ h.count;
          each = each_set s.views id w (λ i x. ¬ (i ≡ id) → IsPrefix x.seen (history h.value) × (x.holding ≡ false)) (λ n. absurd (n refl)) (λ i x n a m. h.each i x a);
          last = λ e. two_sides v.ended e going;
        });
      }

  pub takes_allowed : (st : Step (Option T)) (number id : ℕ) (v : View E O) → number ≡ v.number → 0 < number → v.holding ≡ false → v.ended ≡ false → v.callers ≡ callers → v.origin ≡ Some o
      → Allows (IsLawful history origin o callers) 1 id (v, []) 0 (λ n. either (n == 0) number n) (Takes history origin st (v, []))
  takes_allowed st number id v is pos idle going many from s r slots at fits = elim r.place [
    | inl h ↦
        let k = r.sound id v at in (
          taken_view v (history h.value),
          takes 0 (Some h.value),
          h.home,
          rw h.free (takes_home s number id v r h at is pos going),
          rw h.free (h.value, refl, refl, (h.each id v at).0, from ∙ ap Some (sym h.from), stands_longer v.mine v.seen (history h.value) (h.each id v at).0 k.stands),
        )
    | inr out ↦
        let w : View E O = busy_view v (slice_index s.words 0) in
        let k = r.sound id v at in
        let not_free : (slice_index s.words 0 == 0) ≡ false = ne_eqb (slice_index s.words 0) 0 (λ e. let t = out.taken in let n = out.number in omega arith) in
        let most : slice_index s.words 0 ≤ v.callers = rw out.number (rw many ((r.sound out.holder out.view out.by).few)) in (
          w,
          keeps,
          tt,
          rw not_free (unturned history origin o callers s 0 id w [] (replaced history origin o callers s r id v w at (record { of = k.of; few = k.few; note = k.note; also = k.also; stands = k.stands; once = k.once }) refl refl refl refl refl)),
          rw not_free (most, refl, refl),
        )
  ]

  pub posts_allowed : (st : Step (Option T)) (len id : ℕ) (v : View E O) (x : T) → v.holding ≡ true → v.ended ≡ false → len ≡ length (history x) → IsPrefix v.seen (history x)
      → Allows (IsLawful history origin o callers) 1 id (v, (0, Some x) ∷ []) 1 (λ n. len) (Posts history st (v, (0, Some x) ∷ []))
  posts_allowed st len id v x holds going is longer s r slots at fits = elim r.place [
    | inl h ↦ two_sides v.holding holds (h.each id v at).1
    | inr out ↦
        let m = is_holder history origin o callers s id v out at holds in
        let k = r.sound id v at in
        let w : View E O = posted_view v (history x) in
        let view_is : (P : View E O → Type 0) → P out.view → P v = λ P p. subst P m.1 p in
        let within : (j : ℕ) (y : View E O) → ¬ (id ≡ j) → get_elem? s.views j ≡ some y → IsPrefix y.seen v.seen = λ j y n a. view_is (λ (z : View E O). IsPrefix y.seen z.seen) (out.each j y a (λ e. n (m.0 ∙ sym e))).0 in (
          w,
          keeps,
          tt,
          record {
            two = length-set s.words 1 len ∙ r.two;
            sound = sounds history origin o callers s r id w (record {
              of = k.of;
              few = k.few;
              note = λ e. absurd (let t = view_is (λ (y : View E O). 0 < y.number) out.taken in omega (arith, t, e));
              also = prefix_then v.also v.seen (history x) k.also longer;
              stands = posted_stands v.mine v.seen (history x) longer k.stands;
              once = posted_once v.mine v.seen (history x) k.stands k.once;
            });
            apart = aparts history origin o callers s r id w (λ j y n a. posted_apart v.mine v.seen (history x) y.mine y.seen (within j y n a) (r.sound j y a).stands (r.apart id j v y n at a));
            place = inr (record {
              holder = id;
              view = w;
              by = set_here s.views id w (below s.views id v at);
              holds = holds;
              number = get_or-set_other s.words 1 0 len 0 (omega arith) ∙ view_is (λ (y : View E O). slice_index s.words 0 ≡ y.number) out.number;
              taken = view_is (λ (y : View E O). 0 < y.number) out.taken;
              count = get_or-set_same s.words 1 len 0 (omega (arith, r.two)) ∙ is;
              each = each_set s.views id w (λ i y. ¬ (i ≡ id) → IsPrefix y.seen (history x) × (y.holding ≡ false)) (λ n. absurd (n refl))
                  (λ i y n a u. let q = out.each i y a (λ e. n (e ∙ sym m.0)) in (prefix_then y.seen v.seen (history x) (view_is (λ (z : View E O). IsPrefix y.seen z.seen) q.0) longer, q.1));
              last = λ e. two_sides v.ended e going;
            });
          },
          (refl, refl),
        )
  ]

  pub frees_allowed : (st : Step (Option T)) (id : ℕ) (v : View E O) (x : T) → v.holding ≡ true → v.seen ≡ history x → origin x ≡ o
      → Allows (IsLawful history origin o callers) 1 id (v, (0, Some x) ∷ []) 0 (λ n. 0) (Frees st (v, (0, Some x) ∷ []))
  frees_allowed st id v x holds is from s r slots at fits = elim r.place [
    | inl h ↦ two_sides v.holding holds (h.each id v at).1
    | inr out ↦
        let m = is_holder history origin o callers s id v out at holds in
        let k = r.sound id v at in
        let w : View E O = freed_view v in
        let view_is : (P : View E O → Type 0) → P out.view → P v = λ P p. subst P m.1 p in (
          w,
          gives,
          tt,
          record {
            two = length-set s.words 0 0 ∙ r.two;
            sound = sounds history origin o callers s r id w (record { of = k.of; few = k.few; note = λ e. ((k.note e).0, refl); also = k.also; stands = k.stands; once = k.once });
            apart = aparts history origin o callers s r id w (λ j y n a. r.apart id j v y n at a);
            place = inl (record {
              value = x;
              from = from;
              free = get_or-set_same s.words 0 0 0 (omega (arith, r.two));
              home = set_here s.homes 0 (some (Some x)) (omega (arith, slots));
              count = get_or-set_other s.words 0 1 0 0 (omega arith) ∙ view_is (λ (y : View E O). slice_index s.words 1 ≡ length y.seen) out.count ∙ ap length is;
              each = each_set s.views id w (λ i y. IsPrefix y.seen (history x) × (y.holding ≡ false)) (subst (λ h. IsPrefix v.seen h) is (prefix_same v.seen), refl)
                  (λ i y n a. let q = out.each i y a (λ e. n (e ∙ sym m.0)) in (subst (IsPrefix y.seen) is (view_is (λ (z : View E O). IsPrefix y.seen z.seen) q.0), q.1));
            });
          },
          (refl, refl),
        )
  ]

  pub looks_allowed : (slots : ℕ) (st : Step (Option T)) (id : ℕ) (me : Me (Option T) (View E O)) → Allows (IsLawful history origin o callers) slots id me 1 (λ n. n) (Looks st me)
  looks_allowed slots st id me s r homes at fits =
      let w : View E O = looked_view me.0 (slice_index s.words 1) in
      let k = r.sound id me.0 at in (
        w,
        keeps,
        tt,
        unturned history origin o callers s 1 id w me.1 (replaced history origin o callers s r id me.0 w at (record { of = k.of; few = k.few; note = k.note; also = k.also; stands = k.stands; once = k.once }) refl refl refl refl refl),
        (refl, refl, longest history origin o callers s r id me.0 at),
      )

  pub recalls_allowed : (slots : ℕ) (st : Step (Option T)) (id : ℕ) (me : Me (Option T) (View E O)) → Allows (IsLawful history origin o callers) slots id me 0 (λ n. n) (Recalls st me)
  recalls_allowed slots st id me s r homes at fits =
      let k = r.sound id me.0 at in (
        me.0,
        keeps,
        tt,
        unturned history origin o callers s 0 id me.0 me.1 (replaced history origin o callers s r id me.0 me.0 at k refl refl refl refl refl),
        (refl, refl, k.also, k.once),
      )

  -- the holder puts the empty slot back for good
  pub ends_allowed : (st : Step (Option T)) (id : ℕ) (v : View E O) → v.holding ≡ true
      → Allows (IsLawful history origin o callers) 1 id (v, (0, None) ∷ []) 0 (λ n. v.number) (Ends st (v, (0, None) ∷ []))
  ends_allowed st id v holds s r slots at fits = elim r.place [
    | inl h ↦ two_sides v.holding holds (h.each id v at).1
    | inr out ↦
        let m = is_holder history origin o callers s id v out at holds in
        let k = r.sound id v at in
        let w : View E O = record v { ended = true } in
        let view_is : (P : View E O → Type 0) → P out.view → P v = λ P p. subst P m.1 p in (
          w,
          gives,
          tt,
          record {
            two = length-set s.words 0 v.number ∙ r.two;
            sound = sounds history origin o callers s r id w (record { of = k.of; few = k.few; note = k.note; also = k.also; stands = k.stands; once = k.once });
            apart = aparts history origin o callers s r id w (λ j y n a. r.apart id j v y n at a);
            place = inr (record {
              holder = id;
              view = w;
              by = set_here s.views id w (below s.views id v at);
              holds = holds;
              number = get_or-set_same s.words 0 v.number 0 (omega (arith, r.two));
              taken = view_is (λ (y : View E O). 0 < y.number) out.taken;
              count = get_or-set_other s.words 0 1 v.number 0 (omega arith) ∙ view_is (λ (y : View E O). slice_index s.words 1 ≡ length y.seen) out.count;
              each = each_set s.views id w (λ i y. ¬ (i ≡ id) → IsPrefix y.seen v.seen × (y.holding ≡ false)) (λ n. absurd (n refl))
                  (λ i y n a u. view_is (λ (z : View E O). IsPrefix y.seen z.seen × (y.holding ≡ false)) (out.each i y a (λ e. n (e ∙ sym m.0))));
              last = λ e. set_here s.homes 0 (some None) (omega (arith, slots));
            });
          },
          (refl, refl),
        )
  ]

  -- the same for a seat of which these things are known
  pub takes_at : (slots : ℕ) (st : Step (Option T)) (number id : ℕ) (me : Me (Option T) (View E O)) → slots ≡ 1 → me.1 ≡ [] → number ≡ me.0.number → 0 < number → me.0.holding ≡ false → me.0.ended ≡ false → me.0.callers ≡ callers → me.0.origin ≡ Some o
      → Allows (IsLawful history origin o callers) slots id me 0 (λ n. either (n == 0) number n) (Takes history origin st me)
  takes_at slots st number id me one none_held is pos idle going many from =
      let P : ℕ × List (ℕ × Option T) → Type 0 = λ p. Allows (IsLawful history origin o callers) p.0 id (me.0, p.1) 0 (λ n. either (n == 0) number n) (Takes history origin st (me.0, p.1)) in
      subst P (λ i. (sym one i, sym none_held i)) (takes_allowed st number id me.0 is pos idle going many from)

  pub posts_at : (slots : ℕ) (st : Step (Option T)) (len id : ℕ) (me : Me (Option T) (View E O)) (x : T) → slots ≡ 1 → me.1 ≡ (0, Some x) ∷ [] → me.0.holding ≡ true → me.0.ended ≡ false → len ≡ length (history x) → IsPrefix me.0.seen (history x)
      → Allows (IsLawful history origin o callers) slots id me 1 (λ n. len) (Posts history st me)
  posts_at slots st len id me x one held holds going is longer =
      let P : ℕ × List (ℕ × Option T) → Type 0 = λ p. Allows (IsLawful history origin o callers) p.0 id (me.0, p.1) 1 (λ n. len) (Posts history st (me.0, p.1)) in
      subst P (λ i. (sym one i, sym held i)) (posts_allowed st len id me.0 x holds going is longer)

  pub frees_at : (slots : ℕ) (st : Step (Option T)) (id : ℕ) (me : Me (Option T) (View E O)) (x : T) → slots ≡ 1 → me.1 ≡ (0, Some x) ∷ [] → me.0.holding ≡ true → me.0.seen ≡ history x → origin x ≡ o
      → Allows (IsLawful history origin o callers) slots id me 0 (λ n. 0) (Frees st me)
  frees_at slots st id me x one held holds is from =
      let P : ℕ × List (ℕ × Option T) → Type 0 = λ p. Allows (IsLawful history origin o callers) p.0 id (me.0, p.1) 0 (λ n. 0) (Frees st (me.0, p.1)) in
      subst P (λ i. (sym one i, sym held i)) (frees_allowed st id me.0 x holds is from)

  pub ends_at : (slots : ℕ) (st : Step (Option T)) (number id : ℕ) (me : Me (Option T) (View E O)) → slots ≡ 1 → me.1 ≡ (0, None) ∷ [] → me.0.holding ≡ true → number ≡ me.0.number
      → Allows (IsLawful history origin o callers) slots id me 0 (λ n. number) (Ends st me)
  ends_at slots st number id me one held holds is =
      let P : ℕ × List (ℕ × Option T) → Type 0 = λ p. Allows (IsLawful history origin o callers) p.0 id (me.0, p.1) 0 (λ n. number) (Ends st (me.0, p.1)) in
      subst P (λ i. (sym one i, sym held i)) (rw is (ends_allowed st id me.0 holds))

module _ {T E O : Type 0} (history : T → List E) (origin : T → O) where
  -- a take that found 0
  pub taken : (st : Step (Option T)) (me : Me (Option T) (View E O)) (found : ℕ) (me' : Me (Option T) (View E O)) → Takes history origin st me found me' → found ≡ 0
      → (v : T) × (me'.1 ≡ (0, Some v) ∷ me.1) × (me'.0 ≡ taken_view me.0 (history v))
      × IsPrefix me.0.seen (history v) × (me.0.origin ≡ Some (origin v)) × Stands me.0.mine (history v)
  taken st me found me' t e = subst (λ n. Takes history origin st me n me') e t
