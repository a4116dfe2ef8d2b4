-- Text: ASCII, numbers in decimal, octets in hexadecimal.
use Rattle.std.specs.Prelude.{◌≡◌, ℕ, zero, suc, ◌+◌, ◌-◌, ◌*◌, ◌/◌, ◌%◌, ◌<◌, ◌≤◌, cond, List, [], ◌∷◌, ◌++◌, length, nat_lt, slice_index, slice_index_or}
use Prim.Native.Char.{code}
use Prim.Native.String.{String}
use Prim.Native.String.{[] as String·[], ◌∷◌ as ◌String·∷◌}

abbrev pub ascii : String → List ℕ
ascii String·[] = []
ascii (c String·∷ s) = code c ∷ ascii s

-- the digits of a number, the highest first and none of them a leading zero, where it has at most so many
unfoldable pub digits_within : ℕ → ℕ → List ℕ
digits_within zero n = []
digits_within (suc most) n = cond (nat_lt n 10) [] (digits_within most (n / 10)) ++ ((48 + n % 10) ∷ [])

-- a number n has at most n + 1 digits
unfoldable pub decimal : ℕ → List ℕ
decimal n = digits_within (suc n) n

-- the number that digits stand for, after those of another
abbrev pub value_after : ℕ → List ℕ → ℕ
value_after n [] = n
value_after n (d ∷ ds) = value_after (n * 10 + (d - 48)) ds

-- octets that are the numeral of a number: digits, at least one, no leading zero, and they stand for it
pub record Numeral (n : ℕ) (ds : List ℕ) : Type 0 where
  pub digits : (i : ℕ) → i < length ds → (48 ≤ slice_index ds i) × (slice_index ds i ≤ 57)
  pub some : 0 < length ds
  pub leading : slice_index_or ds 0 0 ≡ 48 → ds ≡ 48 ∷ []
  pub value : value_after 0 ds ≡ n

-- two digits for each octet, the higher first
abbrev pub hex_digit : ℕ → ℕ
hex_digit n = cond (nat_lt n 10) (48 + n) (55 + n)

abbrev pub hexadecimal : List ℕ → List ℕ
hexadecimal [] = []
hexadecimal (x ∷ s) = hex_digit (x / 16) ∷ (hex_digit (x % 16) ∷ hexadecimal s)
