-- The normal form of a record, and messages in normal form.
use Rattle.std.specs.Prelude.{ℕ, ◌+◌, ◌<◌, ◌≡◌, cond, length, get_or}
use Rattle.std.proofs.Math.Option.{Option, none, some}
use mathlib.Core.List.{List, [], ◌∷◌, ◌++◌, flatten}
use Rattle.codec.specs.Technology.{Technology, technology_id, technologies, set_limit, names}
use Rattle.codec.specs.Layout.{Layout, Values, write, need}
use Rattle.codec.specs.Blocks.{Column, cell}
use Rattle.codec.specs.Table.{row, layouts_of}
use Rattle.codec.specs.Records.{of_record}
use Rattle.codec.specs.WellFormed.{Each, sets, WellFormed}
use Rattle.codec.specs.declared.records.Record.{Record}

-- ---- of a record: version 1, blocks by rising ID, every size exactly the need, no reserved bit

-- a block: its ID, its size, its fields
abbrev pub block : (L : Layout) → ℕ → Values L → List ℕ
block L id v = id ∷ ((2 + length (write L v)) ∷ write L v)

-- the blocks of those of these technologies that are in the set
abbrev pub rising : (k : Column) → ((t : Technology) → Values (cell k t)) → ℕ → List Technology → List (List ℕ)
rising k v set [] = []
rising k v set (t ∷ others) = cond (names set t) (block (cell k t) (technology_id t) (v t) ∷ rising k v set others) (rising k v set others)

-- the blocks of a record's column, if it has one
abbrev pub column_blocks : Option Column → Record → List (List ℕ)
column_blocks none r = []
column_blocks (some k) r = rising k (of_record r k) r.set technologies

abbrev pub blocks_of : Record → List (List ℕ)
blocks_of r = column_blocks (row r.id).column r

unfoldable pub normal : Record → List ℕ
normal r = 1 ∷ (r.id ∷ (sets (row r.id).times r.set ++ flatten (blocks_of r)))

-- ---- of a message, on its octets

abbrev pub Rising : List (List ℕ) → Type 0
Rising [] = Unit {0}
Rising (b ∷ blocks) = Each (λ c. get_or b 0 0 < get_or c 0 0) blocks × Rising blocks

-- a well-formed message of version 1 with no reserved bit, blocks by rising ID, and every size exactly the need
pub record NormalForm (m : List ℕ) : Type 0 where
  pub content : Record
  pub formed : WellFormed m content
  pub first : formed.version ≡ 1
  pub known : formed.set < set_limit
  pub rising : Rising formed.blocks
  pub exact : Each (λ b. length b ≡ need (layouts_of (row formed.id).column (get_or b 0 0)) 2 b) formed.blocks
