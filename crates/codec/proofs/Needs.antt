-- 01's "Needs", what the size tests are against, and IDs that no set has a bit for.
use Prim.Native.Nat.{ℕ, ◌+◌, ◌≤◌}
use native.Mathlib.Omega.{arith}
use mathlib.Core.Path.{◌≡◌, refl}
use mathlib.Core.Bool.{false}
use mathlib.Core.List.{List, []}
use lib.ListN.{get_or}
use Rattle.codec.specs.Octets.{Octets}
use Rattle.codec.specs.Layout.{need, least}
use Rattle.codec.specs.Blocks.{uwb_capability, cs_capability, nan_capability, uwb_after_key, uwb_configuration, cs_configuration, nan_after_name, nan_configuration, rssi_block}
use Rattle.codec.specs.Technology.{bit}
use Rattle.codec.specs.Message.{set_of}
use Rattle.codec.proofs.Bits.{bit_above}

module _ (s : List ℕ) where
  pub capability_needs : (need uwb_capability 2 s ≡ 20) × (need cs_capability 2 s ≡ 9) × (need nan_capability 2 s ≡ 6) × (need rssi_block 2 s ≡ 8)
  capability_needs = (refl, refl, refl, refl)

  pub configuration_needs : (need uwb_configuration 2 s ≡ 19 + get_or s 14 0) × (need cs_configuration 2 s ≡ 9) × (need nan_configuration 2 s ≡ 5 + get_or s 2 0)
  configuration_needs = (omega arith, refl, omega arith)

-- The first size test is against the need, 2 for ID 4 to 15 (the empty layout), and against 15 or 3 for blocks with k or n.
pub size_tests : (least uwb_capability 2 ≡ 20) × (least cs_capability 2 ≡ 9) × (least nan_capability 2 ≡ 6) × (least rssi_block 2 ≡ 8)
    × (least uwb_configuration 2 ≡ 15) × (least cs_configuration 2 ≡ 9) × (least nan_configuration 2 ≡ 3) × (least [] 2 ≡ 2)
size_tests = (refl, refl, refl, refl, refl, refl, refl, refl)

-- The second, right after k or n is found allowed, is against 19+k or 5+n: the fields after the key start at 14+1+k, those after the name at 2+1+n.
pub second_size_tests : (k n : ℕ) → (least uwb_after_key (14 + 1 + k) ≡ 19 + k) × (least nan_after_name (2 + 1 + n) ≡ 5 + n)
second_size_tests k n = (omega arith, omega arith)

-- An ID has no bit in the set: always so from 16.
pub none_from_16 : (m : List ℕ) → Octets m → (id : ℕ) → 16 ≤ id → bit (set_of m) id ≡ false
none_from_16 m o id h = bit_above 16 (set_of m) (omega (arith, o 2, o 3)) id h
