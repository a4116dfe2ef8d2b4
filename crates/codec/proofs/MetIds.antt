-- The number with a bit for each ID met: its bits are the IDs met after each block, and when no block is left it is the set.
use Prim.Native.Nat.{ℕ, zero, suc, ◌-◌, ◌^◌, ◌≤◌, ◌<◌}
use native.Mathlib.Omega.{arith}
use mathlib.Core.Path.{◌≡◌, refl, sym, ap, ◌∙◌, subst}
use mathlib.Core.Logic.{◌⊎◌, inl, inr, ⊎_elim}
use mathlib.Core.Bool.{Bool, true, false, not, ◌&&◌}
use mathlib.Core.List.{List, [], ◌∷◌, ◌++◌}
use lib.Dec.{eqb}
use lib.Count.{ones}
use lib.ListN.{length, get_or}
use borrow.Author.Tests.{eqb-true, eq-eqb, ne_eqb, not-true}
use Rattle.codec.specs.Refusal.{Ok}
use Rattle.codec.specs.Technology.{bit}
use Rattle.codec.specs.Layout.{Layout}
use Rattle.codec.specs.Blocks.{Column, layouts}
use Rattle.codec.specs.Table.{message_of, row}
use Rattle.codec.specs.Message.{set_of, blocks_at, block_at, place_after, no_id, also, block_fault, Walked, prepend, walk}
use Rattle.codec.specs.WellFormed.{Whole, Each, Has, this, later}
use Rattle.codec.specs.Inner.MetIds.{Met, blocks_left}
use Rattle.codec.proofs.Outcomes.{and_true_lem, or_true_lem, or_right, iff_same, chained}
use Rattle.codec.proofs.Bits.{bit_above, bit_ext}
use Rattle.codec.proofs.Counting.{ones_none, ones_more, ones_rest, ones_part, has_some, all_named}
use Rattle.codec.proofs.WalkCases.{sound}
use Rattle.codec.proofs.Walks.{Lies, walked}

-- ---- one block more at the end

has_before : {id : ℕ} (blocks : List (List ℕ)) (b : List ℕ) → Has id blocks → Has id (blocks ++ (b ∷ []))
has_before {id = id} [] b h = elim h [ ]
has_before (c ∷ blocks) b (this e) = this e
has_before (c ∷ blocks) b (later h) = later (has_before blocks b h)

has_last : {id : ℕ} (blocks : List (List ℕ)) (b : List ℕ) → get_or b 0 0 ≡ id → Has id (blocks ++ (b ∷ []))
has_last [] b e = this e
has_last (c ∷ blocks) b e = later (has_last blocks b e)

has_either : {id : ℕ} (blocks : List (List ℕ)) (b : List ℕ) → Has id (blocks ++ (b ∷ [])) → Has id blocks ⊎ (get_or b 0 0 ≡ id)
has_either [] b (this e) = inr e
has_either {id = id} [] b (later h) = elim h [ ]
has_either (c ∷ blocks) b (this e) = inl (this e)
has_either (c ∷ blocks) b (later h) = ⊎_elim (λ r. inl (later r)) (λ e. inr e) (has_either blocks b h)

abbrev append : List ℕ → Walked → Walked
append m w = record { blocks = w.blocks ++ (block_at m w.end ∷ []); end = place_after m w.end }

module _ (layouts : ℕ → Layout) (set : ℕ) (m : List ℕ) where
  -- a block without a fault has none after other IDs either, if its own is not among them
  anew : (came others : ℕ → Bool) (at : ℕ) → block_fault layouts set m came at ≡ Ok tt → others (get_or m at 0) ≡ false → block_fault layouts set m others at ≡ Ok tt
  unfolding block_fault
  anew came others at a f =
      let c : came (get_or m at 0) ≡ others (get_or m at 0) = not-true _ (and_true_lem (bit set (get_or m at 0)) _ (sound layouts set m came at a).comes).1 ∙ sym f in
      rw c at a

  walk_append : (n : ℕ) (came others : ℕ → Bool) (at : ℕ) (w : Walked) → walk layouts set m n came at ≡ Ok w → block_fault layouts set m others w.end ≡ Ok tt
      → came (get_or m w.end 0) ≡ false → (Has (get_or m w.end 0) w.blocks → ⊥) → walk layouts set m (suc n) came at ≡ Ok (append m w)
  unfolding walk
  walk_append zero came others at w e a f n =
      let q : ◌≡◌ {A = Walked} (record { blocks = []; end = at }) w = cc in
      subst (λ (w : Walked). block_fault layouts set m others w.end ≡ Ok tt → came (get_or m w.end 0) ≡ false → walk layouts set m 1 came at ≡ Ok (append m w)) q
      (λ a f. rw (anew others came at a f)) a f
  walk_append (suc n) came others at w e a f h =
      chained (block_fault layouts set m came at) _ w e λ t b e₁.
      chained (walk layouts set m n (also (get_or m at 0) came) (place_after m at)) _ w e₁ λ v e₂ e₃.
      let q : prepend (block_at m at) v ≡ w = cc in
      let s = sound layouts set m came at b in
      subst (λ (w : Walked). block_fault layouts set m others w.end ≡ Ok tt → came (get_or m w.end 0) ≡ false → (Has (get_or m w.end 0) w.blocks → ⊥) → walk layouts set m (suc (suc n)) came at ≡ Ok (append m w)) q
      (λ a f h.
      let other : eqb (get_or m v.end 0) (get_or m at 0) ≡ false = ne_eqb _ _ (λ d. h (this (s.first ∙ sym d))) in
      let ih = walk_append n (also (get_or m at 0) came) others (place_after m at) v e₂ a (rw (other, f)) (λ r. h (later r)) in
      rw (b, ih))
      a f h

  walk_start : (n : ℕ) (came : ℕ → Bool) (at : ℕ) (w : Walked) → walk layouts set m n came at ≡ Ok w → w.end ≤ length m → at ≤ length m
  unfolding walk
  walk_start zero came at w e l = let q : at ≡ w.end = cc in omega arith
  walk_start (suc n) came at w e l = chained (block_fault layouts set m came at) _ w e λ t a d. omega (arith, (sound layouts set m came at a).two)

has_named : (layouts : ℕ → Layout) (set : ℕ) {id : ℕ} (blocks : List (List ℕ)) → Each (Whole layouts set) blocks → Has id blocks → bit set id ≡ true
has_named layouts set {id = id} [] w h = elim h [ ]
has_named layouts set (b ∷ blocks) w (this e) = rw (← e) w.0.named
has_named layouts set (b ∷ blocks) w (later h) = has_named layouts set blocks w.1 h

module _ (k : Column) (m : List ℕ) where
  abbrev start : ℕ
  start = blocks_at (row (message_of k)).times

  -- before the first block
  pub met_none : Met k m start 0
  unfolding walk
  met_none = record {
    walked = record { blocks = []; end = start };
    accepted = rw ones_none;
    place = refl;
    bits = λ id. (λ e. let z : ◌≡◌ {A = ℕ} 0 1 = cc (bit_above 0 0 (omega arith) id (omega arith)) in absurd (omega arith), λ h. absurd (omega (arith, has_some id [] h)));
  }

  module _ {at met : ℕ} (h : Met k m at met) (inside : at ≤ length m) (small : set_of m < 65536) (short : met < 65536) where
    lies : Lies (layouts k) (set_of m) m (ones met) no_id start h.walked.blocks h.walked.end
    lies = walked (layouts k) (set_of m) m (ones met) no_id start h.walked (walk_start (layouts k) (set_of m) m (ones met) no_id start h.walked h.accepted (omega (arith, h.place))) h.accepted

    within : (id : ℕ) → bit met id ≡ true → bit (set_of m) id ≡ true
    within id y = has_named (layouts k) (set_of m) h.walked.blocks lies.whole ((h.bits id).0 y)

    -- how many blocks are left, as the code counts them
    pub met_left : {unmet : ℕ} → unmet < 2 ^ 32 → ((id : ℕ) → bit unmet id ≡ (bit (set_of m) id && not (bit met id))) → ones unmet ≡ blocks_left m met
    met_left {unmet} l e = omega (arith, ones_rest (set_of m) met unmet small short l within e)

    -- when none is left, the IDs met are the set
    pub met_all : blocks_left m met ≡ 0 → met ≡ set_of m
    met_all z =
        let count : length h.walked.blocks ≡ ones (set_of m) = omega (arith, lies.count, ones_part (set_of m) met small short within) in
        bit_ext 16 met (set_of m) short small λ id.
        iff_same (bit met id) (bit (set_of m) id) (within id) (λ y. (h.bits id).1 (all_named (layouts k) (set_of m) small h.walked.blocks lies.whole lies.once count id y))

    -- after each block
    module _ (a : block_fault (layouts k) (set_of m) m (bit met) at ≡ Ok tt) {more : ℕ} (tall : more < 65536) (b : (id : ℕ) → bit more id ≡ also (get_or m at 0) (bit met) id) where
      fresh : bit met (get_or m at 0) ≡ false
      fresh = not-true _ (and_true_lem (bit (set_of m) (get_or m at 0)) _ (sound (layouts k) (set_of m) m (bit met) at a).comes).1

      one_more : ones more ≡ suc (ones met)
      one_more = ones_more met more (get_or m at 0) short tall fresh b

      pub met_fewer : blocks_left m more ≡ blocks_left m met - 1
      met_fewer = omega (arith, one_more)

      pub met_next : Met k m (place_after m at) more
      met_next =
          let w = h.walked in
          let a₁ : block_fault (layouts k) (set_of m) m (bit met) w.end ≡ Ok tt = rw h.place a in
          let s = sound (layouts k) (set_of m) m (bit met) at a in
          let first : get_or (block_at m w.end) 0 0 ≡ get_or m at 0 = rw h.place s.first in
          record {
            walked = append m w;
            accepted = rw one_more (walk_append (layouts k) (set_of m) m (ones met) no_id (bit met) start w h.accepted a₁ refl (rw h.place (λ r. let z : ◌≡◌ {A = ℕ} 0 1 = cc ((h.bits (get_or m at 0)).1 r, fresh) in absurd (omega arith))));
            place = ap (place_after m) h.place;
            bits = λ id. (
              λ e.
                  or_true_lem (eqb id (get_or m at 0)) (bit met id) (sym (b id) ∙ e)
                  (λ y. has_last w.blocks (block_at m w.end) (first ∙ sym (eqb-true id (get_or m at 0) y)))
                  (λ y. has_before w.blocks (block_at m w.end) ((h.bits id).0 y)),
              λ r.
                  b id
                  ∙ ⊎_elim
                  (λ q. or_right (eqb id (get_or m at 0)) ((h.bits id).1 q))
                  (λ e. rw (eq-eqb id (get_or m at 0) (sym e ∙ first)))
                  (has_either w.blocks (block_at m w.end) r),
            );
          }
