-- One turn of the walk over the blocks of a column, by what the turn's calls give.
use Prim.Native.Nat.{ℕ, ◌+◌, ◌-◌, ◌≤◌, ◌<◌, ◌^◌}
use native.Mathlib.Omega.{arith}
use native.Mathlib.Nat.{pos_of_ne-zero}
use mathlib.Core.Path.{◌≡◌, sym, ◌∙◌}
use mathlib.Core.Bool.{not, ◌&&◌}
use mathlib.Core.List.{List}
use lib.Count.{ones}
use lib.ListN.{length, get_or, set}
use Rattle.codec.specs.Refusal.{Refusal, Checked, Err, Ok}
use Rattle.codec.specs.Technology.{bit}
use Rattle.codec.specs.Blocks.{Column, layouts}
use Rattle.codec.specs.Message.{set_of, place_after, also, block_fault}
use Rattle.codec.specs.Inner.MetIds.{Met, blocks_left}
use Rattle.codec.specs.Inner.Places.{note, FindsLeft}
use Rattle.codec.proofs.Bits.{bit_under}
use Rattle.codec.proofs.Outcomes.{and_true_lem}
use Rattle.codec.proofs.WalkCases.{Sound, sound, turn_none, turn_stop, turn_next}
use Rattle.codec.proofs.MetIds.{met_left, met_all, met_fewer, met_next}

module _ (k : Column) (m : List ℕ) (at unset met : ℕ) (s : unset ≡ set_of m) (h : Met k m at met) (inside : at ≤ length m) (tall : unset < 65536) (short : met < 65536) where
  small : set_of m < 65536
  small = omega (arith, s)

  all : blocks_left m met ≡ 0 → met ≡ set_of m
  all = met_all _ _ h inside small short

  module _ (unmet : ℕ) (l : unmet < 2 ^ 32) (u : (id : ℕ) → bit unmet id ≡ (bit unset id && not (bit met id))) where
    left : ones unmet ≡ blocks_left m met
    left = met_left _ _ h inside small short l (rw s at u)

    pub none_left : {found : List ℕ} → length found ≡ 5 → ones unmet ≡ 0 → FindsLeft k m at met found (Ok tt) (set found 4 at)
    none_left size z = turn_none _ _ _ _ _ all (sym left ∙ z) size

    module _ (n : ones unmet ≡ 0 → ⊥) where
      some : blocks_left m met ≡ 0 → ⊥
      some z = n (left ∙ z)

      pub stops : {x : Refusal} {found : List ℕ} → Err x ≡ block_fault (layouts k) unset m (bit met) at → length found ≡ 5 → FindsLeft k m at met found (Err x) found
      stops e size = turn_stop _ _ _ _ _ all some (rw s at e) size

      module _ (e : Ok tt ≡ block_fault (layouts k) unset m (bit met) at) where
        whole : block_fault (layouts k) (set_of m) m (bit met) at ≡ Ok tt
        whole = sym (rw s at e)

        here : Sound (layouts k) (set_of m) m (bit met) at
        here = sound (layouts k) (set_of m) m (bit met) at whole

        pub two : at + 2 ≤ length m
        two = here.two

        pub under_16 : get_or m at 0 < 16
        under_16 = bit_under 16 _ small _ (and_true_lem _ _ here.comes).0

        -- and the blocks after it
        module _ {more : ℕ} (r : more < 65536) (o : (id : ℕ) → bit more id ≡ also (get_or m at 0) (bit met) id) where
          fewer : blocks_left m more ≡ blocks_left m met - 1
          fewer = met_fewer _ _ h inside small short whole r o

          pub less : ones unset - ones more < ones unset - ones met
          less = rw s (omega (arith, pos_of_ne-zero some, fewer))

          pub next_inside : place_after m at ≤ length m
          next_inside = here.whole

          pub next_met : Met k m (place_after m at) more
          next_met = met_next _ _ h inside small short whole r o

          pub goes_on : {found : List ℕ} {q : Checked (Unit {0})} {after : List ℕ} → FindsLeft k m (place_after m at) more (note (get_or m at 0) at found) q after → FindsLeft k m at met found q after
          goes_on w = turn_next _ _ _ _ _ all some whole o fewer w
