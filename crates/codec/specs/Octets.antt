-- Lists of octets: their parts, and the numbers in them.
use Rattle.std.specs.Prelude.{ℕ, zero, suc, ◌+◌, ◌*◌, ◌/◌, ◌%◌, ◌<◌, List, [], ◌∷◌, Bool, true, ◌&&◌, eqb, get_or, take, drop}

-- each element is an octet
abbrev pub Octets : List ℕ → Type 0
Octets l = (i : ℕ) → get_or l i 0 < 256

unfoldable pub all_zero : List ℕ → Bool
all_zero [] = true
all_zero (x ∷ l) = eqb x 0 && all_zero l

-- n octets from a place on
abbrev pub part : ℕ → ℕ → List ℕ → List ℕ
part at n s = take n (drop at s)

-- The number whose w octets stand at a place. Numbers are little-endian: 000 and 001 are silent, and 01 follows 003.
abbrev pub of_le : ℕ → ℕ → List ℕ → ℕ
of_le zero at s = 0
of_le (suc zero) at s = get_or s at 0
of_le (suc (suc w)) at s = get_or s at 0 + 256 * of_le (suc w) (at + 1) s

-- the w octets of a number below 256 ^ w
abbrev pub to_le : ℕ → ℕ → List ℕ
to_le zero x = []
to_le (suc zero) x = x ∷ []
to_le (suc (suc w)) x = x % 256 ∷ to_le (suc w) (x / 256)
