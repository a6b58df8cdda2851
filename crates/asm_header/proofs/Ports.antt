-- One channel further among those that may have a port.
use Rattle.std.proofs.Common.{◌≡◌, ◌||◌, ◌<◌, ℕ, ◌+◌, List, [], ◌∷◌, Option, Some, None, length, drop, get_or, refl, sym, ap, ◌∙◌, Bool, true, false, nat_eq}
use Rattle.std.specs.List.{list_any, filter_map}
use Rattle.micro_isa.specs.declared.program.Channel.{Channel}
use Rattle.micro_isa.specs.Formed.{port_of}
use Rattle.asm_lines.proofs.Rows.{on}

or_none : (b : Bool) → (b || false) ≡ b
or_none true = refl
or_none false = refl

found_on : {X Y : Type 0} (p : Y → Bool) (h : X → Option Y) (x : X) (xs : List X) → list_any p (filter_map h (x ∷ xs)) ≡ (list_any p (filter_map h (x ∷ [])) || list_any p (filter_map h xs))
found_on p h x xs =
    let go : (o : Option _) → h x ≡ o → list_any p (filter_map h (x ∷ xs)) ≡ (list_any p (filter_map h (x ∷ [])) || list_any p (filter_map h xs)) = elim [
      | None ↦ λ e. rw e refl
      | Some y ↦ λ e. rw e (ap (λ b. b || list_any p (filter_map h xs)) (sym (or_none (p y))))
    ] in go (h x) refl

pub port_on : (port : ℕ) (chs : List Channel) (i : ℕ) (x : Channel) → i < length chs → x ≡ get_or chs i x → list_any (nat_eq port) (filter_map port_of (drop i chs)) ≡ (list_any (nat_eq port) (filter_map port_of (x ∷ [])) || list_any (nat_eq port) (filter_map port_of (drop (i + 1) chs)))
port_on port chs i x lt is = ap (λ l. list_any (nat_eq port) (filter_map port_of l)) (on chs i x lt is) ∙ found_on (nat_eq port) port_of x (drop (i + 1) chs)
