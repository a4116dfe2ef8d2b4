-- Sets made of a truth value for each technology.
use Prim.Native.Nat.{ℕ, zero, suc, ◌+◌, ◌*◌, ◌/◌, ◌%◌, ◌^◌, ◌≤◌, ◌<◌}
use native.Mathlib.Omega.{arith}
use native.Mathlib.Nat.{add_comm, pow-suc}
use native.Mathlib.Numerals.{add-one}
use mathlib.Core.Path.{◌≡◌, sym, ap, ◌∙◌}
use mathlib.Core.Bool.{Bool, true, false, cond}
use mathlib.Core.List.{List, [], ◌∷◌, map}
use lib.ListN.{length, get_or}
use lib.Pow.{shr-shr}
use Rattle.codec.specs.Technology.{Technology, uwb, cs, nan, rssi, technologies, bit, names, of_bits, naming}
use Rattle.codec.proofs.Bits.{bit_above}

pub cond_le : (b : Bool) (n : ℕ) → cond b n 0 ≤ n
cond_le true n = omega arith
cond_le false n = omega arith

bits_at : (l : List Bool) (i : ℕ) → bit (of_bits l) i ≡ get_or l i false
bits_at [] i = bit_above 0 0 (omega arith) i (omega arith)
bits_at (b ∷ l) zero = go b
  where
    go : (b : Bool) → bit (cond b 1 0 + 2 * of_bits l) 0 ≡ b
    go true = let e : (1 + 2 * of_bits l) / 1 % 2 ≡ 1 = omega arith in rw e
    go false = let e : (0 + 2 * of_bits l) / 1 % 2 ≡ 0 = omega arith in rw e
bits_at (b ∷ l) (suc i) =
    let n = cond b 1 0 + 2 * of_bits l in
    let h : n / 2 ≡ of_bits l = go b in
    let e : n / 2 ^ suc i ≡ of_bits l / 2 ^ i = ap (λ (k : ℕ). n / 2 ^ k) (sym (add-one i) ∙ add_comm i 1) ∙ sym (shr-shr n 1 i) ∙ ap (λ (k : ℕ). k / 2 ^ i) h in
    rw e (bits_at l i)
  where
    go : (b : Bool) → (cond b 1 0 + 2 * of_bits l) / 2 ≡ of_bits l
    go true = omega arith
    go false = omega arith

pub bits_below : (l : List Bool) → of_bits l < 2 ^ length l
bits_below [] = omega arith
bits_below (b ∷ l) = let k = bits_below l in rw (pow-suc 2 (length l)) (omega (arith, k, cond_le b 1))

pub naming_below : (f : Technology → Bool) → naming f < 16
naming_below f = bits_below (map f technologies)

-- the set of some technologies names these
pub names_naming : (f : Technology → Bool) (t : Technology) → names (naming f) t ≡ f t
names_naming f uwb = bits_at (map f technologies) 0
names_naming f cs = bits_at (map f technologies) 1
names_naming f nan = bits_at (map f technologies) 2
names_naming f rssi = bits_at (map f technologies) 3

-- as the code adds it up
pub added : (u c n r : Bool) → cond u 1 0 + (cond c 2 0 + (cond n 4 0 + cond r 8 0)) ≡ of_bits (u ∷ c ∷ n ∷ r ∷ [])
added u c n r = omega (arith, times 2 c, times 4 n, times 8 r)
  where
    times : (k : ℕ) (b : Bool) → cond b k 0 ≡ k * cond b 1 0
    times k true = omega arith
    times k false = omega arith
