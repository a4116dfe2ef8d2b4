-- Layouts: the fields of a block as data, and what a layout means for the octets of a block.
use Rattle.std.specs.Prelude.{ℕ, ◌+◌, ◌-◌, ◌^◌, ◌<◌, ◌≡◌, List, [], ◌∷◌, ◌++◌, Bool, true, false, ◌&&◌, ◌||◌, length, get_or, take, drop, replicate, leb, eqb}
use Prim.Native.String.{String}
use Rattle.codec.specs.Octets.{Octets, all_zero, part, of_le, to_le}
use Rattle.codec.specs.Refusal.{Checked, Ok, demand, BlockTooSmall, NotAllowed}

-- which numbers are allowed
pub data Test : Type 0 where
  any : Test
  one_of : List ℕ → Test
  between : ℕ → ℕ → Test

-- which octets are allowed: any, or those of a country
pub data Spelling : Type 0 where
  free country : Spelling

-- A field, by the name that 01's table gives it.
-- number: so many octets, the lowest first. octets: so many, in wire order.
-- counted: a length octet, then as many octets, kept in an array of that capacity with zeros past them.
pub data Field : Type 0 where
  number : String → (width : ℕ) → Test → Field
  octets : String → (count : ℕ) → Spelling → Field
  counted : String → String → Test → (capacity : ℕ) → Field

abbrev pub Layout : Type 0
Layout = List Field

-- ---- what is allowed

unfoldable pub member : List ℕ → ℕ → Bool
member [] x = false
member (y ∷ l) x = eqb x y || member l x

unfoldable pub inside : ℕ → ℕ → ℕ → Bool
inside low high x = leb low x && leb x high

-- two letters A to Z
unfoldable pub two_letters : ℕ → ℕ → Bool
two_letters x y = inside 65 90 x && inside 65 90 y

-- the two ASCII digits 00: the country is not known
unfoldable pub unknown_country : ℕ → ℕ → Bool
unknown_country x y = eqb x 48 && eqb y 48

abbrev pub test : Test → ℕ → Bool
test any x = true
test (one_of l) x = member l x
test (between low high) x = inside low high x

abbrev pub spelled : Spelling → List ℕ → Bool
spelled free l = true
spelled country l = two_letters (get_or l 0 0) (get_or l 1 0) || unknown_country (get_or l 0 0) (get_or l 1 0)

-- ---- what the fields of a block hold

abbrev pub Values : Layout → Type 0
Values [] = Unit {0}
Values (number x w t ∷ L) = ℕ × Values L
Values (octets x n t ∷ L) = List ℕ × Values L
Values (counted y x t c ∷ L) = ℕ × (List ℕ × Values L)

abbrev pub zeroes : (L : Layout) → Values L
zeroes [] = tt
zeroes (number x w t ∷ L) = (0, zeroes L)
zeroes (octets x n t ∷ L) = (replicate n 0, zeroes L)
zeroes (counted y x t c ∷ L) = (0, (replicate c 0, zeroes L))

abbrev pub allowed : (L : Layout) → Values L → Bool
allowed [] v = true
allowed (number x w t ∷ L) v = test t v.0 && allowed L v.1
allowed (octets x n t ∷ L) v = spelled t v.0 && allowed L v.1
allowed (counted y x t c ∷ L) v = test t v.0 && allowed L v.1.1

-- what the types of the code ensure: numbers of their width, arrays of octets
abbrev pub Typed : (L : Layout) → Values L → Type 0
Typed [] v = Unit {0}
Typed (number x w t ∷ L) v = (v.0 < 256 ^ w) × Typed L v.1
Typed (octets x n t ∷ L) v = (length v.0 ≡ n) × (Octets v.0 × Typed L v.1)
Typed (counted y x t c ∷ L) v = (v.0 < 256) × ((length v.1.0 ≡ c) × (Octets v.1.0 × Typed L v.1.1))

-- octets past a counted length are zero
abbrev pub cleared : (L : Layout) → Values L → Bool
cleared [] v = true
cleared (number x w t ∷ L) v = cleared L v.1
cleared (octets x n t ∷ L) v = cleared L v.1
cleared (counted y x t c ∷ L) v = all_zero (drop v.0 v.1.0) && cleared L v.1.1

-- every field is zero
abbrev pub zeroed : (L : Layout) → Values L → Bool
zeroed [] v = true
zeroed (number x w t ∷ L) v = eqb v.0 0 && zeroed L v.1
zeroed (octets x n t ∷ L) v = all_zero v.0 && zeroed L v.1
zeroed (counted y x t c ∷ L) v = eqb v.0 0 && (all_zero v.1.0 && zeroed L v.1.1)

-- the octets of the fields, every one where its layout has it and nothing more
abbrev pub write : (L : Layout) → Values L → List ℕ
write [] v = []
write (number x w t ∷ L) v = to_le w v.0 ++ write L v.1
write (octets x n t ∷ L) v = v.0 ++ write L v.1
write (counted y x t c ∷ L) v = v.0 ∷ (take v.0 v.1.0 ++ write L v.1.1)

-- ---- the octets of a block s. A place counts from the block's ID octet, so its fields start at place 2.

-- the values of the fields from a place on
abbrev pub value : (L : Layout) → ℕ → List ℕ → Values L
value [] at s = tt
value (number x w t ∷ L) at s = (of_le w at s, value L (at + w) s)
value (octets x n t ∷ L) at s = (part at n s, value L (at + n) s)
value (counted y x t c ∷ L) at s = (get_or s at 0, (part (at + 1) (get_or s at 0) s ++ replicate (c - get_or s at 0) 0, value L (at + 1 + get_or s at 0) s))

-- the place after the last field: 01's need
abbrev pub need : Layout → ℕ → List ℕ → ℕ
need [] at s = at
need (number x w t ∷ L) at s = need L (at + w) s
need (octets x n t ∷ L) at s = need L (at + n) s
need (counted y x t c ∷ L) at s = need L (at + 1 + get_or s at 0) s

-- what the first size test is against: the need, or the place after the first length octet
abbrev pub least : Layout → ℕ → ℕ
least [] at = at
least (number x w t ∷ L) at = least L (at + w)
least (octets x n t ∷ L) at = least L (at + n)
least (counted y x t c ∷ L) at = at + 1

-- the fields in order, the first fault deciding; the second size test comes right after a length is found allowed
abbrev pub fault : Layout → ℕ → List ℕ → Checked (Unit {0})
fault [] at s = Ok tt
fault (number x w t ∷ L) at s = demand (test t (of_le w at s)) NotAllowed (fault L (at + w) s)
fault (octets x n t ∷ L) at s = demand (spelled t (part at n s)) NotAllowed (fault L (at + n) s)
fault (counted y x t c ∷ L) at s =
    demand (test t (get_or s at 0)) NotAllowed
    (demand (leb (least L (at + 1 + get_or s at 0)) (length s)) BlockTooSmall
    (fault L (at + 1 + get_or s at 0) s))
