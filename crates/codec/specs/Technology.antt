-- Technologies and sets of them.
use Rattle.std.specs.Prelude.{ℕ, ◌+◌, ◌*◌, ◌/◌, ◌%◌, ◌^◌, Bool, cond, ◌&&◌, List, [], ◌∷◌, map, eqb, length}

-- UWB, CS (channel sounding), Wi-Fi NAN RTT, RSSI
pub data Technology : Type 0 where
  uwb cs nan rssi : Technology

-- their IDs; 4 to 15 are reserved
abbrev pub technology_id : Technology → ℕ
technology_id uwb = 0
technology_id cs = 1
technology_id nan = 2
technology_id rssi = 3

-- all of them, in the order of their IDs from 0 on
abbrev pub technologies : List Technology
technologies = uwb ∷ cs ∷ nan ∷ rssi ∷ []

-- A set is a 16-bit number with bit n for ID n. So UWB with RSSI is 0x09: 000, 001 and 003 print 0x0A, and 01 lets the bit rule decide.
abbrev pub bit : ℕ → ℕ → Bool
bit set id = eqb (set / 2 ^ id % 2) 1

-- a set without reserved bits is below this
abbrev pub set_limit : ℕ
set_limit = 2 ^ length technologies

-- reserved bits are read as zero
abbrev pub known : ℕ → ℕ
known set = set % set_limit

-- a set names a technology if it has its bit
abbrev pub names : ℕ → Technology → Bool
names set t = bit set (technology_id t)

-- the number with these bits, the lowest first
abbrev pub of_bits : List Bool → ℕ
of_bits [] = 0
of_bits (b ∷ bits) = cond b 1 0 + 2 * of_bits bits

-- the set that names the technologies of which f is true: bit n is that of the n-th, whose ID is n
abbrev pub naming : (Technology → Bool) → ℕ
naming f = of_bits (map f technologies)

-- the technologies in both of two sets
abbrev pub in_both : ℕ → ℕ → Technology → Bool
in_both a b t = names a t && names b t
