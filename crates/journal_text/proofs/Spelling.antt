-- An entry is read from its words, and from no other line.
use Rattle.std.proofs.Common.{◌≡◌, ◌<◌, ◌^◌, ℕ, ◌++◌, Bool, true, false, List, [], ◌∷◌, length, take, drop, refl, sym, ap, ◌∙◌, subst, arith, append_assoc, if◌then◌else◌, decimal, codes, Option, Some, None, option_map, option_and_then, IfSome, IfNone}
use Rattle.std.specs.Str.{bytes_eq}
use Rattle.std.proofs.lemmas.Option.{same_Some}
use Rattle.std.proofs.lemmas.List.{take-append-drop}
use Rattle.std.proofs.lemmas.Slice.Eq.{bytes_eq-Decides}
use Rattle.world.specs.declared.event.Trap.TheVariants.{Divide, Address}
use Rattle.world.specs.declared.event.SegmentEnd.{SegmentEnd}
use Rattle.world.specs.declared.event.SegmentEnd.TheVariants as end
use Rattle.world.specs.declared.event.Entry.{Entry}
use Rattle.world.specs.declared.event.Entry.TheVariants.{Ran, Fed, Unplugged}
use Rattle.journal_text.specs.Entries.{end_word, entry_words, IsFitting, IsNoEntry}
use Rattle.journal_text.specs.Parting.{cut}
use Rattle.journal_text.specs.Reading.{plain_number, byte_number, end_of, both_of, stretch_of, ran_of, fed_of, unplugged_of, after, entry_by, entry_of}
use Rattle.journal_text.proofs.Chains.{chained, mapped_is}
use Rattle.journal_text.proofs.Parting.{cut_is, cut_again}
use Rattle.journal_text.proofs.Numerals.{plain_is, plain_again, byte_is, byte_again, number_lacks}

record Both {A B C : Type 0} (f : A → B → C) (a : Option A) (b : Option B) (y : C) : Type 0 where
  left : A
  right : B
  is_left : a ≡ Some left
  is_right : b ≡ Some right
  gave : f left right ≡ y

both_is : {A B C : Type 0} (f : A → B → C) (a : Option A) (b : Option B) (y : C) → both_of f a b ≡ Some y → Both f a b y
both_is f (Some x) (Some z) y h = record { left = x; right = z; is_left = refl; is_right = refl; gave = same_Some _ _ h }
both_is f (Some x) None y h = absurd (cc)
both_is f None b y h = absurd (cc)

same_word : (word name : List ℕ) → bytes_eq word name ≡ true → word ≡ name
same_word word name h = (bytes_eq-Decides word name).0 h

-- one test of a chain of words
end_by : (word name : List ℕ) (d e : SegmentEnd) (rest : Option SegmentEnd) (b : Bool) → bytes_eq word name ≡ b → name ≡ end_word d → (rest ≡ Some e → word ≡ end_word e) → (if b then Some d else rest) ≡ Some e → word ≡ end_word e
end_by word name d e rest true h n go o = same_word word name h ∙ n ∙ ap end_word (same_Some _ _ o)
end_by word name d e rest false h n go o = go o

end_is : (word : List ℕ) (e : SegmentEnd) → end_of word ≡ Some e → word ≡ end_word e
end_is word e h =
    end_by word (codes "load") end.Load e _ (bytes_eq word (codes "load")) refl refl
    (λ h. end_by word (codes "store") end.Store e _ (bytes_eq word (codes "store")) refl refl
    (λ h. end_by word (codes "yield") end.Yield e _ (bytes_eq word (codes "yield")) refl refl
    (λ h. end_by word (codes "recv") end.Recv e _ (bytes_eq word (codes "recv")) refl refl
    (λ h. end_by word (codes "send") end.Send e _ (bytes_eq word (codes "send")) refl refl
    (λ h. end_by word (codes "halt") end.Halt e _ (bytes_eq word (codes "halt")) refl refl
    (λ h. end_by word (codes "bound") end.Bound e _ (bytes_eq word (codes "bound")) refl refl
    (λ h. end_by word (codes "divide") (end.Trap Divide) e _ (bytes_eq word (codes "divide")) refl refl
    (λ h. end_by word (codes "address") (end.Trap Address) e None (bytes_eq word (codes "address")) refl refl (λ h. absurd (cc)) h) h) h) h) h) h) h) h) h

end_again : (e : SegmentEnd) → end_of (end_word e) ≡ Some e
end_again end.Load = refl
end_again end.Store = refl
end_again end.Yield = refl
end_again end.Recv = refl
end_again end.Send = refl
end_again end.Halt = refl
end_again (end.Trap Divide) = refl
end_again (end.Trap Address) = refl
end_again end.Bound = refl

-- `C N END` without its context
record Stretch (text : List ℕ) (n : ℕ) (e : SegmentEnd) : Type 0 where
  text_is : text ≡ decimal n ++ (32 ∷ end_word e)
  small : n < 2 ^ 32

stretch_is : (text : List ℕ) (s : ℕ × SegmentEnd) → stretch_of text ≡ Some s → Stretch text s.0 s.1
stretch_is text s h =
    let c = chained (λ p. both_of (λ n end. (n, end)) (plain_number p.0) (end_of p.1)) (cut 32 text) s h in
    let b = both_is (λ n end. (n, end)) (plain_number c.value.0) (end_of c.value.1) s c.gave in
    let n = plain_is c.value.0 b.left b.is_left in
    let e = end_is c.value.1 b.right b.is_right in
    let t = (cut_is 32 text c.value.0 c.value.1 c.was).same in
    let made : Stretch text b.left b.right = record { text_is = t ∙ ap (λ x. x ++ (32 ∷ c.value.1)) n.same ∙ ap (λ x. decimal b.left ++ (32 ∷ x)) e; small = n.small } in
    subst (λ s. Stretch text s.0 s.1) b.gave made

pub stretch_again : (n : ℕ) (e : SegmentEnd) → n < 2 ^ 32 → stretch_of (decimal n ++ (32 ∷ end_word e)) ≡ Some (n, e)
stretch_again n e h =
    ap (option_and_then (λ p. both_of (λ n end. (n, end)) (plain_number p.0) (end_of p.1))) (cut_again 32 (decimal n) (end_word e) (number_lacks 32 n (omega arith) h))
    ∙ ap (λ o. both_of (λ n end. (n, end)) o (end_of (end_word e))) (plain_again n h)
    ∙ ap (λ o. both_of (λ n end. (n, end)) (Some n) o) (end_again e)

-- an entry that the text behind a first word spells
record Spells (lead text : List ℕ) (e : Entry) : Type 0 where
  fitting : IsFitting e
  words : entry_words e ≡ lead ++ text

pub run_flat : (r c n e : List ℕ) → (((((r ++ c) ++ 32 ∷ []) ++ n) ++ 32 ∷ []) ++ e) ≡ r ++ (c ++ (32 ∷ (n ++ (32 ∷ e))))
run_flat r c n e = simp append_assoc

pub feed_flat : (f k w : List ℕ) → (((f ++ k) ++ 32 ∷ []) ++ w) ≡ f ++ (k ++ (32 ∷ w))
feed_flat f k w = simp append_assoc

ran_is : (text : List ℕ) (e : Entry) → ran_of text ≡ Some e → Spells (codes "run ") text e
ran_is text e h =
    let c = chained (λ p. both_of (λ c s. Ran c s.0 s.1) (plain_number p.0) (stretch_of p.1)) (cut 32 text) e h in
    let b = both_is (λ c s. Ran c s.0 s.1) (plain_number c.value.0) (stretch_of c.value.1) e c.gave in
    let n = plain_is c.value.0 b.left b.is_left in
    let s = stretch_is c.value.1 b.right b.is_right in
    let t = (cut_is 32 text c.value.0 c.value.1 c.was).same ∙ ap (λ x. x ++ (32 ∷ c.value.1)) n.same ∙ ap (λ x. decimal b.left ++ (32 ∷ x)) s.text_is in
    let made : Spells (codes "run ") text (Ran b.left b.right.0 b.right.1) = record {
      fitting = (n.small, s.small);
      words = run_flat (codes "run ") (decimal b.left) (decimal b.right.0) (end_word b.right.1) ∙ ap (λ x. codes "run " ++ x) (sym t);
    } in
    subst (Spells (codes "run ") text) b.gave made

fed_is : (text : List ℕ) (e : Entry) → fed_of text ≡ Some e → Spells (codes "feed ") text e
fed_is text e h =
    let c = chained (λ p. both_of Fed (byte_number p.0) (plain_number p.1)) (cut 32 text) e h in
    let b = both_is Fed (byte_number c.value.0) (plain_number c.value.1) e c.gave in
    let k = byte_is c.value.0 b.left b.is_left in
    let w = plain_is c.value.1 b.right b.is_right in
    let t = (cut_is 32 text c.value.0 c.value.1 c.was).same ∙ ap (λ x. x ++ (32 ∷ c.value.1)) k.0 ∙ ap (λ x. decimal b.left ++ (32 ∷ x)) w.same in
    let made : Spells (codes "feed ") text (Fed b.left b.right) = record {
      fitting = (k.1, w.small);
      words = feed_flat (codes "feed ") (decimal b.left) (decimal b.right) ∙ ap (λ x. codes "feed " ++ x) (sym t);
    } in
    subst (Spells (codes "feed ") text) b.gave made

unplugged_is : (text : List ℕ) (e : Entry) → unplugged_of text ≡ Some e → Spells (codes "unplug ") text e
unplugged_is text e h =
    let c = mapped_is Unplugged (byte_number text) e h in
    let k = byte_is text c.value c.was in
    let made : Spells (codes "unplug ") text (Unplugged c.value) = record { fitting = k.1; words = ap (λ x. codes "unplug " ++ x) (sym k.0) } in
    subst (Spells (codes "unplug ") text) (same_Some _ _ c.gave) made

after_by : (prefix text rest : List ℕ) (b : Bool) → bytes_eq (take (length prefix) text) prefix ≡ b → (if b then Some (drop (length prefix) text) else None) ≡ Some rest → text ≡ prefix ++ rest
after_by prefix text rest true e h =
    sym (take-append-drop (length prefix) text)
    ∙ ap (λ x. x ++ drop (length prefix) text) (same_word (take (length prefix) text) prefix e)
    ∙ ap (λ x. prefix ++ x) (same_Some _ _ h)
after_by prefix text rest false e h = absurd (cc)

-- a text that begins so
pub after_is : (prefix text rest : List ℕ) → after prefix text ≡ Some rest → text ≡ prefix ++ rest
after_is prefix text rest h = after_by prefix text rest (bytes_eq (take (length prefix) text) prefix) refl h

-- an entry and its line
pub record IsEntry (line : List ℕ) (e : Entry) : Type 0 where
  pub fitting : IsFitting e
  pub words : line ≡ entry_words e

led_by : (lead line rest : List ℕ) (e : Entry) → after lead line ≡ Some rest → Spells lead rest e → IsEntry line e
led_by lead line rest e h s = record { fitting = s.fitting; words = after_is lead line rest h ∙ sym s.words }

entry_by_is : (line : List ℕ) (e : Entry) (a b c : Option (List ℕ)) → after (codes "run ") line ≡ a → after (codes "feed ") line ≡ b → after (codes "unplug ") line ≡ c → entry_by a b c ≡ Some e → IsEntry line e
entry_by_is line e (Some r) b c h i j o = led_by (codes "run ") line r e h (ran_is r e o)
entry_by_is line e None (Some r) c h i j o = led_by (codes "feed ") line r e i (fed_is r e o)
entry_by_is line e None None (Some r) h i j o = led_by (codes "unplug ") line r e j (unplugged_is r e o)
entry_by_is line e None None None h i j o = absurd (cc)

-- what is read as an entry is its line
pub entry_is : (line : List ℕ) (e : Entry) → entry_of line ≡ Some e → IsEntry line e
entry_is line e h = entry_by_is line e (after (codes "run ") line) (after (codes "feed ") line) (after (codes "unplug ") line) refl refl refl h

ran_again : (c n : ℕ) (e : SegmentEnd) → c < 2 ^ 32 → n < 2 ^ 32 → ran_of (decimal c ++ (32 ∷ (decimal n ++ (32 ∷ end_word e)))) ≡ Some (Ran c n e)
ran_again c n e h k =
    ap (option_and_then (λ p. both_of (λ c s. Ran c s.0 s.1) (plain_number p.0) (stretch_of p.1))) (cut_again 32 (decimal c) (decimal n ++ (32 ∷ end_word e)) (number_lacks 32 c (omega arith) h))
    ∙ ap (λ o. both_of (λ c s. Ran c s.0 s.1) o (stretch_of (decimal n ++ (32 ∷ end_word e)))) (plain_again c h)
    ∙ ap (λ o. both_of (λ c s. Ran c s.0 s.1) (Some c) o) (stretch_again n e k)

fed_again : (k w : ℕ) → k < 2 ^ 8 → w < 2 ^ 32 → fed_of (decimal k ++ (32 ∷ decimal w)) ≡ Some (Fed k w)
fed_again k w h i =
    ap (option_and_then (λ p. both_of Fed (byte_number p.0) (plain_number p.1))) (cut_again 32 (decimal k) (decimal w) (number_lacks 32 k (omega arith) (omega arith)))
    ∙ ap (λ o. both_of Fed o (plain_number (decimal w))) (byte_again k h)
    ∙ ap (λ o. both_of Fed (Some k) o) (plain_again w i)

-- an entry is read from its line
pub entry_again : (e : Entry) → IsFitting e → entry_of (entry_words e) ≡ Some e
entry_again (Ran c n e) fit =
    ap entry_of (run_flat (codes "run ") (decimal c) (decimal n) (end_word e)) ∙ ran_again c n e fit.0 fit.1
entry_again (Fed k w) fit = ap entry_of (feed_flat (codes "feed ") (decimal k) (decimal w)) ∙ fed_again k w fit.0 fit.1
entry_again (Unplugged k) fit = ap (option_map Unplugged) (byte_again k fit)

-- a line that is not read is that of no entry
pub no_entry : (line : List ℕ) → entry_of line ≡ None → IsNoEntry line
no_entry line h e fit same = let again = sym (entry_again e fit) ∙ ap entry_of (sym same) ∙ h in absurd (cc)

pub same_entry : (e f : Entry) → IsFitting e → IsFitting f → entry_words e ≡ entry_words f → e ≡ f
same_entry e f x y h = same_Some _ _ (sym (entry_again e x) ∙ ap entry_of h ∙ entry_again f y)

pub some_entry : (line : List ℕ) (o : Option Entry) → o ≡ entry_of line → IfSome o (λ e. IsFitting e × (line ≡ entry_words e))
some_entry line (Some e) h = let r = entry_is line e (sym h) in (r.fitting, r.words)
some_entry line None h = tt

pub none_entry : (line : List ℕ) (o : Option Entry) → o ≡ entry_of line → IfNone o (IsNoEntry line)
none_entry line (Some e) h = tt
none_entry line None h = no_entry line (sym h)
