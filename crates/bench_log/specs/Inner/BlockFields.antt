-- The fields of a block as the code has them, and what differs in a field of two blocks.
use Rattle.std.specs.Prelude.{◌≡◌, ℕ, ◌+◌, ◌*◌, ◌≤◌, Bool, true, false, ◌&&◌, ◌||◌, List, [], ◌∷◌, ◌++◌, length, ◌==◌, slice_index}
use Rattle.codec.specs.Octets.{part, of_le}
use Rattle.codec.specs.Layout.{Layout, number, octets, counted}
use Rattle.bench_log.specs.Text.{ascii}
use Rattle.bench_log.specs.Fields.{amount, string}
use Rattle.bench_log.specs.Comparison.{same, Difference, difference}
use Rattle.bench_log.specs.declared.block.Field.{Field}
use Rattle.bench_log.specs.declared.block.Field.TheVariants.{Number, Octets, Counted}
use Rattle.codec.specs.Layout.{Field as TableField}

-- numbers have 1, 2 or 4 octets
abbrev pub is_width : ℕ → Bool
is_width n = n == 1 || (n == 2 || n == 4)

-- whether a field, and each field of a list, is the one of the layout
abbrev pub is_field : Field → TableField → Bool
is_field (Number x w) (number y v t) = same x.now (ascii y) && (w == v && is_width w)
is_field (Octets x n) (octets y m t) = same x.now (ascii y) && n == m
is_field (Counted x y) (counted u v t c) = same x.now (ascii u) && same y.now (ascii v)
is_field f g = false

abbrev pub are_fields : List Field → Layout → Bool
are_fields [] [] = true
are_fields [] (g ∷ L) = false
are_fields (f ∷ fs) [] = false
are_fields (f ∷ fs) (g ∷ L) = is_field f g && are_fields fs L

-- what differs in a field that begins at places of two blocks, by its name after the technology's
unfoldable pub field_differences : List ℕ → Field → List ℕ → ℕ → List ℕ → ℕ → List Difference
field_differences p (Number x w) l a r b = difference (p ++ x.now) (amount (of_le w a l)) (amount (of_le w b r))
field_differences p (Octets x n) l a r b = difference (p ++ x.now) (string (part a n l)) (string (part b n r))
field_differences p (Counted x y) l a r b =
    let m = slice_index l a in
    let n = slice_index r b in
    difference (p ++ x.now) (amount m) (amount n) ++ difference (p ++ y.now) (string (part (a + 1) m l)) (string (part (b + 1) n r))

-- the place after it
abbrev pub field_end : Field → ℕ → List ℕ → ℕ
field_end (Number x w) at s = at + w
field_end (Octets x n) at s = at + n
field_end (Counted x y) at s = at + 1 + slice_index s at

-- its lines take at most so many octets
abbrev pub field_limit : Field → List ℕ → ℕ → List ℕ → ℕ → ℕ
field_limit (Number x w) l a r b = 82 + length x.now
field_limit (Octets x n) l a r b = 42 + 4 * n + length x.now
field_limit (Counted x y) l a r b = 82 + length x.now + (42 + 2 * slice_index l a + 2 * slice_index r b + length y.now)

abbrev pub HasWidth : Field → Type 0
HasWidth (Number x w) = is_width w ≡ true
HasWidth (Octets x n) = Unit {0}
HasWidth (Counted x y) = Unit {0}

-- what the code needs to compare it
pub record FieldReady (technology : List ℕ) (f : Field) (l : List ℕ) (a : ℕ) (r : List ℕ) (b at : ℕ) (d : List ℕ) : Type 0 where
  pub short : length technology ≤ 5
  pub width : HasWidth f
  pub left : field_end f a l ≤ length l
  pub right : field_end f b r ≤ length r
  pub room : at + field_limit f l a r b ≤ length d
