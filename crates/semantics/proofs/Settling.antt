-- What comes before a counted instruction, one at a time.
use Rattle.std.proofs.Common.{◌≡◌, ℕ, zero, suc, ◌+◌, List, [], ◌∷◌, drop, Some, true, sym, ap, ◌∙◌, add-one}
use Rattle.std.specs.Prelude.{slice_get, if◌then◌else◌}
use Rattle.semantics.specs.declared.Effect.{Effect}
use Rattle.semantics.specs.Stretches.{Kind, ActiveContext, effect_of_one, uncounted_on, uncounted_one, uncounted, landed, settled}

drop_at : {A : Type 0} (xs : List A) (at : ℕ) (x : A) → slice_get xs at ≡ Some x → drop at xs ≡ x ∷ drop (at + 1) xs
drop_at [] at x h = absurd (cc)
drop_at {A} (y ∷ xs) zero x h = λ i. same i ∷ xs
  where
    same : y ≡ x
    same = cc
drop_at (y ∷ xs) (suc at) x h =
    drop_at xs at x h ∙ ap (λ k. x ∷ drop k xs) (add-one at) ∙ ap (λ k. x ∷ drop k (y ∷ xs)) (sym (add-one (suc at)))

module _ {L R V : Type 0} (kind : Kind L R V) (c : ℕ) (memory : List ℕ) (code : List L) where
  pub settled_at : (x : ActiveContext R V) (l : L) → slice_get code x.kept.at ≡ Some l → settled kind c memory code x ≡ uncounted_one kind c memory (uncounted kind c memory (landed kind c memory code) (drop (x.kept.at + 1) code)) (landed kind c memory code) (kind.numbered l) x
  settled_at x l h = ap (λ ls. uncounted kind c memory (landed kind c memory code) ls x) (drop_at code x.kept.at l h)

  counted_one : (rest jump : ActiveContext R V → ActiveContext R V) (x : ActiveContext R V) (l : L) → (kind.numbered l).counted ≡ true → uncounted_one kind c memory rest jump (kind.numbered l) x ≡ x
  counted_one rest jump x l counts =
      let e : Effect R = effect_of_one kind c memory (kind.numbered l) x in
      ap (λ b. if b then x else uncounted_on kind c memory rest jump x e e.stopped) counts

  -- at a counted one nothing comes first
  pub counted_stays : (x : ActiveContext R V) (l : L) → slice_get code x.kept.at ≡ Some l → (kind.numbered l).counted ≡ true → settled kind c memory code x ≡ x
  counted_stays x l h counts =
      settled_at x l h ∙ counted_one (uncounted kind c memory (landed kind c memory code) (drop (x.kept.at + 1) code)) (landed kind c memory code) x l counts

  -- nor after a jump
  pub counted_lands : (x : ActiveContext R V) (l : L) → slice_get code x.kept.at ≡ Some l → (kind.numbered l).counted ≡ true → landed kind c memory code x ≡ x
  counted_lands x l h counts =
      ap (λ ls. uncounted kind c memory (λ y. y) ls x) (drop_at code x.kept.at l h)
      ∙ counted_one (uncounted kind c memory (λ y. y) (drop (x.kept.at + 1) code)) (λ y. y) x l counts
