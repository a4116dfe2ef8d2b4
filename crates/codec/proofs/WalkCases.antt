-- The cases of one turn of the walk.
use Prim.Native.Nat.{ℕ, zero, suc, ◌+◌, ◌-◌, ◌≤◌, ◌<◌}
use native.Mathlib.Omega.{arith}
use native.Mathlib.Numerals.{sub-one}
use native.Mathlib.Nat.{add-zero}
use mathlib.Core.Path.{◌≡◌, refl, sym, ap, ◌∙◌}
use mathlib.Core.Bool.{Bool, true, not, ◌&&◌}
use mathlib.Core.List.{List}
use lib.Dec.{leb}
use lib.ListN.{length, get_or, drop, set, length-set}
use lib.Seq.{get_or-take, get_or-drop, get_or-set_same}
use borrow.Author.Tests.{le-leb, leb-true}
use Rattle.codec.specs.Refusal.{Refusal, Checked, Err, Ok, and_then, EndsEarly, WrongBlock, BlockTooSmall}
use Rattle.codec.specs.Layout.{Layout, least, fault}
use Rattle.codec.specs.Technology.{bit}
use Rattle.codec.specs.Blocks.{Column, layouts}
use Rattle.codec.specs.Message.{set_of, block_at, place_after, also, block_fault, Walked, prepend, walk}
use Rattle.codec.specs.Inner.MetIds.{blocks_left}
use Rattle.codec.specs.Inner.Places.{fields_fault, id_fault, note, noted, Finds, FindsLeft}
use Rattle.codec.proofs.Laws.{part_length}
use Rattle.codec.proofs.Outcomes.{not_both, demanded, demand_stop}
use Rattle.codec.proofs.Layouts.{least_from}

-- ---- one turn of the walk

abbrev may_come : ℕ → List ℕ → (ℕ → Bool) → ℕ → Bool
may_come set m came at = bit set (get_or m at 0) && not (came (get_or m at 0))

module _ (layouts : ℕ → Layout) (set₀ : ℕ) (m : List ℕ) (came : ℕ → Bool) (at : ℕ) where
  -- what a block without a fault says
  pub record Sound : Type 0 where
    pub two : at + 2 ≤ length m
    pub comes : may_come set₀ m came at ≡ true
    pub enough : least (layouts (get_or m at 0)) 2 ≤ get_or m (at + 1) 0
    pub whole : at + get_or m (at + 1) 0 ≤ length m
    pub fields : fault (layouts (get_or m at 0)) 2 (block_at m at) ≡ Ok tt
    pub size : length (block_at m at) ≡ get_or m (at + 1) 0
    pub first : get_or (block_at m at) 0 0 ≡ get_or m at 0

  pub sound : block_fault layouts set₀ m came at ≡ Ok tt → Sound
  unfolding block_fault
  sound e =
      demanded (leb (at + 2) (length m)) EndsEarly _ tt e λ y₁ e₁.
      demanded (may_come set₀ m came at) WrongBlock _ tt e₁ λ y₂ e₂.
      demanded (leb (least (layouts (get_or m at 0)) 2) (get_or m (at + 1) 0)) BlockTooSmall _ tt e₂ λ y₃ e₃.
      demanded (leb (at + get_or m (at + 1) 0) (length m)) EndsEarly _ tt e₃ λ y₄ e₄.
      let enough = leb-true _ _ y₃ in
      let whole = leb-true _ _ y₄ in
      let some : 0 < get_or m (at + 1) 0 = omega (arith, least_from (layouts (get_or m at 0)) 2) in
      record {
        two = leb-true _ _ y₁;
        comes = y₂;
        enough = enough;
        whole = whole;
        fields = e₄;
        size = part_length at (get_or m (at + 1) 0) m whole;
        first = get_or-take (get_or m (at + 1) 0) (drop at m) 0 0 some ∙ get_or-drop at m 0 0 ∙ ap (λ (i : ℕ). get_or m i 0) (add-zero at);
      }

  -- one turn of the walk, by the IDs that came before
  find_stop : (n : ℕ) {x : Refusal} (found : List ℕ) → (n ≡ 0 → ⊥) → Err x ≡ block_fault layouts set₀ m came at → Finds (walk layouts set₀ m n came at) at found (Err x) found
  unfolding walk
  find_stop zero found n e = absurd (n refl)
  find_stop (suc n) found p e = rw (← e)

  find_next : (n : ℕ) (r : Checked (Unit {0})) (found left : List ℕ) → (n ≡ 0 → ⊥) → Sound → block_fault layouts set₀ m came at ≡ Ok tt
      → Finds (walk layouts set₀ m (n - 1) (also (get_or m at 0) came) (at + get_or m (at + 1) 0)) (at + get_or m (at + 1) 0) (note (get_or m at 0) at found) r left
      → Finds (walk layouts set₀ m n came at) at found r left
  unfolding walk
  find_next zero r found left p s a h = absurd (p refl)
  find_next (suc n) r found left p s a h = rw a (go (walk layouts set₀ m n (also (get_or m at 0) came) (at + get_or m (at + 1) 0)) (rw (sub-one (suc n)) at h))
    where
      go : (c : Checked Walked) → Finds c (at + get_or m (at + 1) 0) (note (get_or m at 0) at found) r left
          → Finds (and_then c λ w. Ok (prepend (block_at m at) w)) at found r left
      go (Err x) h = h
      go (Ok w) h =
          let e : noted (prepend (block_at m at) w).blocks at found ≡ noted w.blocks (at + get_or m (at + 1) 0) (note (get_or m at 0) at found) = λ i. noted w.blocks (at + s.size i) (note (s.first i) at found) in
          (h.0, h.1 ∙ sym e, h.2)

-- ---- one turn of the walk, by the number with a bit for each ID met

module _ (set₀ : ℕ) (m : List ℕ) (at met : ℕ) where
  -- what the head of a block without a fault says
  pub record Headed : Type 0 where
    pub two : at + 2 ≤ length m
    pub comes : may_come set₀ m (bit met) at ≡ true

  pub headed : Ok tt ≡ id_fault set₀ met m at → Headed
  headed e =
      demanded (leb (at + 2) (length m)) EndsEarly _ tt (sym e) λ p b.
      demanded (may_come set₀ m (bit met) at) WrongBlock _ tt b λ q d.
      record { two = leb-true _ _ p; comes = q }

  module _ (k : Column) where
    pub head_stop : {x : Refusal} → Err x ≡ id_fault set₀ met m at → Err x ≡ block_fault (layouts k) set₀ m (bit met) at
    unfolding block_fault
    head_stop e = demand_stop (leb (at + 2) (length m)) EndsEarly _ _ (demand_stop (may_come set₀ m (bit met) at) WrongBlock _ _ not_both) e

    pub head_next : Headed → {r : Checked (Unit {0})} → r ≡ fields_fault (layouts k) m at → r ≡ block_fault (layouts k) set₀ m (bit met) at
    unfolding block_fault
    head_next d e = rw (le-leb (at + 2) (length m) d.two, d.comes) e

module _ (k : Column) (m : List ℕ) (at met : ℕ) (found : List ℕ) (all : blocks_left m met ≡ 0 → met ≡ set_of m) where
  pub turn_none : blocks_left m met ≡ 0 → length found ≡ 5 → FindsLeft k m at met found (Ok tt) (set found 4 at)
  unfolding walk
  turn_none z l = record { finds = rw z (refl, refl, get_or-set_same found 4 at 0 (omega arith)); all = all; size = length-set found 4 at ∙ l }

  module _ (some : blocks_left m met ≡ 0 → ⊥) where
    pub turn_stop : {x : Refusal} → Err x ≡ block_fault (layouts k) (set_of m) m (bit met) at → length found ≡ 5 → FindsLeft k m at met found (Err x) found
    turn_stop e l = record { finds = find_stop (layouts k) (set_of m) m (bit met) at (blocks_left m met) found some e; all = all; size = l }

    pub turn_next : block_fault (layouts k) (set_of m) m (bit met) at ≡ Ok tt → {more : ℕ} → ((id : ℕ) → bit more id ≡ also (get_or m at 0) (bit met) id) → blocks_left m more ≡ blocks_left m met - 1
        → {r : Checked (Unit {0})} {after : List ℕ} → FindsLeft k m (place_after m at) more (note (get_or m at 0) at found) r after → FindsLeft k m at met found r after
    turn_next a {more} b n {r} {after} h = record {
      finds =
          let came : bit more ≡ also (get_or m at 0) (bit met) = λ i id. b id i in
          find_next (layouts k) (set_of m) m (bit met) at (blocks_left m met) r found after some (sound (layouts k) (set_of m) m (bit met) at a) a (rw (came, n) at h.finds);
      all = all;
      size = h.size;
    }
