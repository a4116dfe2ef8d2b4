-- The blocks that are listed are those that the walk passes over.
use Prim.Native.Nat.{ℕ, zero, suc, ◌+◌, ◌-◌, ◌≤◌}
use native.Mathlib.Omega.{arith}
use native.Mathlib.Numerals.{sub-one}
use mathlib.Core.Path.{◌≡◌, refl, sym, ap, ◌∙◌}
use mathlib.Core.List.{List, []}
use lib.Count.{ones}
use lib.ListN.{length, get_or}
use Rattle.std.specs.Prelude.{Option, Some, None}
use Rattle.codec.specs.Refusal.{Refusal, Checked, Err, Ok}
use Rattle.codec.specs.Table.{Row, row, block_count, layouts_of}
use Rattle.codec.specs.Message.{id_of, set_of, blocks_at, block_at, place_after, also, no_id, block_fault, Walked, prepend, walk, parse}
use Rattle.codec.specs.Listing.{no_block, nth_from, listed, nth_block}
use Rattle.codec.specs.Inner.Places.{verdict, set_alone}
use Rattle.codec.specs.Inner.Listed.{Passes, NthPlace, StartsAt, Starts, Lists}
use Rattle.codec.proofs.Outcomes.{by_verdict, chained}
use Rattle.codec.proofs.WalkCases.{Sound, sound}
use Rattle.codec.proofs.FoundLemmas.{parsed, four}

-- ---- one turn of the listing

module _ (m : List ℕ) (at : ℕ) where
  -- a walk that passes over blocks passes over the one at its place, and then over the others
  turn : {C : Type 0} (left : ℕ) (p : Passes m left at) → (left ≡ 0 → ⊥)
      → ((q : Passes m (left - 1) (place_after m at)) → Sound p.layouts p.set m p.came at → prepend (block_at m at) q.walked ≡ p.walked → C) → C
  unfolding walk
  turn zero p n k = absurd (n refl)
  turn (suc left) p n k =
      let came = also (get_or m at 0) p.came in
      chained (block_fault p.layouts p.set m p.came at) _ p.walked p.accepted λ u a e₁.
      chained (walk p.layouts p.set m left came (place_after m at)) _ p.walked e₁ λ w e₂ e₃.
      k (record { layouts = p.layouts; set = p.set; came = came; walked = w; accepted = rw (sub-one (suc left)) e₂ }) (sound p.layouts p.set m p.came at a) (cc)

  module _ (left : ℕ) where
    none_left : (n : ℕ) (p : Passes m left at) → left ≡ 0 → no_block ≡ nth_from p.walked.blocks at n
    unfolding walk
    none_left n p z =
        let e : ◌≡◌ {A = Checked Walked} (Ok (record { blocks = []; end = at })) (Ok p.walked) = rw z at p.accepted in
        let q : ◌≡◌ {A = Walked} (record { blocks = []; end = at }) p.walked = cc in
        ap (λ (w : Walked). nth_from w.blocks at n) q

    pub lists_none : (n : ℕ) → left ≡ 0 → NthPlace m left at n None
    lists_none n z = record { heads = tt; lists = λ p. none_left n p z }

    module _ (some : left ≡ 0 → ⊥) where
      pub head_there : Passes m left at → at + 2 ≤ length m
      head_there p = turn left p some λ q s e. s.two

      pub passes_next : Passes m left at → Passes m (left - 1) (place_after m at)
      passes_next p = turn left p some λ q s e. q

      pub lists_first : (n : ℕ) → n ≡ 0 → Passes m left at → NthPlace m left at n (Some at)
      lists_first n z p = record { heads = head_there p; lists = λ p. turn left p some λ q s e. rw (z, ← e, s.first, s.size) }

      pub lists_next : (n : ℕ) (r : Option ℕ) → (n ≡ 0 → ⊥) → NthPlace m (left - 1) (place_after m at) (n - 1) r → NthPlace m left at n r
      lists_next zero r z h = absurd (z refl)
      lists_next (suc n) r z h = record {
        heads = h.heads;
        lists = λ p.
            turn left p some λ q s e.
            (rw (sub-one (suc n)) at h.lists) q
            ∙ ap (λ (i : ℕ). nth_from q.walked.blocks (at + i) n) (sym s.size)
            ∙ ap (λ (w : Walked). nth_from w.blocks at (suc n)) e;
      }

-- past the last block none is listed
pub lists_past : (m : List ℕ) (left at n : ℕ) → left ≤ n → NthPlace m left at n None
lists_past m zero at n l = lists_none m at zero n refl
lists_past m (suc left) at n l =
    let one : suc left - 1 ≡ left = omega arith in
    lists_next m at (suc left) (λ e. omega (arith, e)) n None (λ e. omega (arith, e)) (rw one (lists_past m left (place_after m at) (n - 1) (omega arith)))

-- ---- a message

module _ (m : List ℕ) where
  abbrev passes : (blocks : List (List ℕ)) → parse m ≡ Ok blocks → Passes m (block_count (row (id_of m)).column (set_of m)) (blocks_at (row (id_of m)).times)
  passes blocks a = let p = parsed m blocks a in record { layouts = layouts_of (row (id_of m)).column; set = set_of m; came = no_id; walked = record { blocks = blocks; end = p.end }; accepted = p.walked }

  -- a message that is refused, or that carries no blocks
  pub starts_refused : {x : Refusal} → parse m ≡ Err x → Starts m None
  unfolding nth_block
  starts_refused e n = rw e

  pub starts_alone : row (id_of m) ≡ set_alone → Starts m None
  unfolding nth_block
  starts_alone e n = go (parse m) refl
    where
      go : (c : Checked (List (List ℕ))) → parse m ≡ c → no_block ≡ listed c (blocks_at (row (id_of m)).times) n
      go (Err x) a = refl
      go (Ok blocks) a = none_left m _ _ n (passes blocks a) (ap (λ (R : Row). block_count R.column (set_of m)) e)

  pub starts : Ok tt ≡ verdict (parse m) → {at : ℕ} → at ≡ blocks_at (row (id_of m)).times → block_count (row (id_of m)).column (set_of m) ≡ ones (set_of m) → Starts m (Some at)
  starts e {at} p c = by_verdict (parse m) e λ blocks a. record { blocks = blocks; accepted = a; place = p; count = c }

  pub lists_refused : (n : ℕ) → Starts m None → Lists m n None
  lists_refused n s = record { heads = tt; lists = s n }

  module _ {at : ℕ} (s : StartsAt m at) where
    pub set_room : 4 ≤ length m
    set_room = four m s.blocks s.accepted

    pub passes_all : Passes m (ones (set_of m)) at
    passes_all = record {
      layouts = layouts_of (row (id_of m)).column;
      set = set_of m;
      came = no_id;
      walked = record { blocks = s.blocks; end = (parsed m s.blocks s.accepted).end };
      accepted = rw (s.place, ← s.count) (parsed m s.blocks s.accepted).walked;
    }

    pub lists_message : (n : ℕ) (r : Option ℕ) → NthPlace m (ones (set_of m)) at n r → Lists m n r
    unfolding nth_block passes_all
    lists_message n r h =
        let here : nth_from s.blocks at n ≡ listed (parse m) (blocks_at (row (id_of m)).times) n = rw (s.accepted, s.place) in
        record { heads = h.heads; lists = h.lists passes_all ∙ here }
