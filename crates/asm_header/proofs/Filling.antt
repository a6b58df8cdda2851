-- Initial words change neither rings nor ports.
use Rattle.std.proofs.Common.{◌≡◌, ◌&&◌, ℕ, zero, suc, ◌+◌, true, List, [], ◌∷◌, Option, Some, None, length, map, refl, sym, ap, arith}
use Rattle.std.specs.Prelude.{sum, slice_get, slice_set}
use Rattle.std.specs.List.{list_all, filter_map}
use Rattle.std.proofs.lemmas.Bool.{true≢false}
use Rattle.std.proofs.lemmas.List.{length-append}
use Rattle.std.proofs.lemmas.List.Sums.{sum_by-cons}
use Rattle.micro_isa.specs.declared.program.Channel.{Channel}
use Rattle.micro_isa.specs.declared.program.Channel.TheVariants as channel
use Rattle.micro_isa.specs.Formed.{has_formed_ring, port_of, initial_count}
use Rattle.asm_header.specs.Headers.{filled, filled_at, replaced}
use Rattle.asm_header.specs.Faults.{is_input}

same_port : (more : List ℕ) (c : Channel) → port_of (filled more c) ≡ port_of c
same_port more (channel.Inner capacity) = refl
same_port more (channel.Input words None) = refl
same_port more (channel.Input words (Some port)) = refl
same_port more (channel.Output port) = refl

same_ring : (more : List ℕ) (c : Channel) → has_formed_ring (filled more c) ≡ has_formed_ring c
same_ring more (channel.Inner capacity) = refl
same_ring more (channel.Input words None) = refl
same_ring more (channel.Input words (Some port)) = refl
same_ring more (channel.Output port) = refl

more_words : (more : List ℕ) (c : Channel) → is_input (Some c) ≡ true → initial_count (filled more c) ≡ initial_count c + length more
more_words more (channel.Input words port) e = length-append words more
more_words more (channel.Inner capacity) e = absurd (true≢false (sym e))
more_words more (channel.Output port) e = absurd (true≢false (sym e))

pub filled_length : (chs : List Channel) (at : ℕ) (more : List ℕ) → length (filled_at chs at more) ≡ length chs
filled_length [] at more = refl
filled_length (c ∷ cs) zero more = refl
filled_length (c ∷ cs) (suc at) more = later (slice_get cs at) (filled_length cs at more)
  where
    later : (o : Option Channel) → length (replaced cs at more o) ≡ length cs → length (replaced (c ∷ cs) (suc at) more o) ≡ length (c ∷ cs)
    later None e = refl
    later (Some x) e = ap suc e

filter_cons : (c : Channel) (xs ys : List Channel) → filter_map port_of xs ≡ filter_map port_of ys → filter_map port_of (c ∷ xs) ≡ filter_map port_of (c ∷ ys)
filter_cons c xs ys e =
    let go : (o : Option ℕ) → port_of c ≡ o → filter_map port_of (c ∷ xs) ≡ filter_map port_of (c ∷ ys) = elim [
      | None ↦ λ is. rw is e
      | Some p ↦ λ is. rw is (ap (λ l. p ∷ l) e)
    ] in go (port_of c) refl

filter_head : (c d : Channel) (xs : List Channel) → port_of c ≡ port_of d → filter_map port_of (c ∷ xs) ≡ filter_map port_of (d ∷ xs)
filter_head c d xs e = rw e refl

pub filled_ports : (chs : List Channel) (at : ℕ) (more : List ℕ) → filter_map port_of (filled_at chs at more) ≡ filter_map port_of chs
filled_ports [] at more = refl
filled_ports (c ∷ cs) zero more = filter_head (filled more c) c cs (same_port more c)
filled_ports (c ∷ cs) (suc at) more = later (slice_get cs at) (filled_ports cs at more)
  where
    later : (o : Option Channel) → filter_map port_of (replaced cs at more o) ≡ filter_map port_of cs → filter_map port_of (replaced (c ∷ cs) (suc at) more o) ≡ filter_map port_of (c ∷ cs)
    later None e = refl
    later (Some x) e = filter_cons c (slice_set cs at (filled more x)) cs e

pub filled_rings : (chs : List Channel) (at : ℕ) (more : List ℕ) → list_all has_formed_ring (filled_at chs at more) ≡ list_all has_formed_ring chs
filled_rings [] at more = refl
filled_rings (c ∷ cs) zero more = ap (λ b. b && list_all has_formed_ring cs) (same_ring more c)
filled_rings (c ∷ cs) (suc at) more = later (slice_get cs at) (filled_rings cs at more)
  where
    later : (o : Option Channel) → list_all has_formed_ring (replaced cs at more o) ≡ list_all has_formed_ring cs → list_all has_formed_ring (replaced (c ∷ cs) (suc at) more o) ≡ list_all has_formed_ring (c ∷ cs)
    later None e = refl
    later (Some x) e = ap (λ b. has_formed_ring c && b) e

pub sum_cons : (x : ℕ) (xs : List ℕ) → sum (x ∷ xs) ≡ x + sum xs
sum_cons x xs = sum_by-cons (λ x. x) x xs

pub filled_count : (chs : List Channel) (at : ℕ) (more : List ℕ) → is_input (slice_get chs at) ≡ true → sum (map initial_count (filled_at chs at more)) ≡ sum (map initial_count chs) + length more
filled_count [] at more is = absurd (true≢false (sym is))
filled_count (c ∷ cs) zero more is = omega (arith, more_words more c is, sum_cons (initial_count (filled more c)) (map initial_count cs), sum_cons (initial_count c) (map initial_count cs))
filled_count (c ∷ cs) (suc at) more is = later (slice_get cs at) is (filled_count cs at more)
  where
    later : (o : Option Channel) → is_input o ≡ true → (is_input o ≡ true → sum (map initial_count (replaced cs at more o)) ≡ sum (map initial_count cs) + length more) → sum (map initial_count (replaced (c ∷ cs) (suc at) more o)) ≡ sum (map initial_count (c ∷ cs)) + length more
    later None is e = absurd (true≢false (sym is))
    later (Some x) is e = omega (arith, e is, sum_cons (initial_count c) (map initial_count (slice_set cs at (filled more x))), sum_cons (initial_count c) (map initial_count cs))
