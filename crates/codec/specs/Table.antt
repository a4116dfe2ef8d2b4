-- The messages: which IDs and versions are read, and what follows the head of each.
use Rattle.std.specs.Prelude.{ℕ, List, [], ◌∷◌, Bool, ◌&&◌, ◌||◌, cond, ltb, eqb}
use Rattle.std.proofs.Math.Option.{Option, none, some}
use Rattle.std.specs.Int.Count.{ones}
use Rattle.codec.specs.Layout.{Layout, member}
use Rattle.codec.specs.Blocks.{Column, capabilities, configurations, columns, layouts}

-- a message has at most so many octets
abbrev pub message_limit : ℕ
message_limit = 256

-- 0 Capability Request, 1 Capability Response, 2 Configuration, 3 Configuration Response, 6 Stop, 7 Stop Response; 4, 5 and 8 to 255 are reserved
unfoldable pub assigned : ℕ → Bool
unfolding member
assigned id = member (0 ∷ 1 ∷ 2 ∷ 3 ∷ 6 ∷ 7 ∷ []) id

-- version 1 is read for every assigned ID, versions 2 to 255 for IDs 0 and 1 only
unfoldable pub readable : ℕ → ℕ → Bool
readable version id = eqb version 1 || (ltb 1 version && ltb id 2)

-- the message whose blocks are laid out by a column
abbrev pub message_of : Column → ℕ
message_of capabilities = 1
message_of configurations = 2

abbrev pub column_for : List Column → ℕ → Option Column
column_for [] id = none
column_for (k ∷ others) id = cond (eqb id (message_of k)) (some k) (column_for others id)

-- what follows the head: a set, which a Configuration has twice, and the blocks of a column, or none. A reserved ID is refused before
-- its row is asked.
pub record Row : Type 0 where
  pub times : ℕ
  pub column : Option Column

abbrev pub row : ℕ → Row
row id = record { times = cond (eqb id (message_of configurations)) 2 1; column = column_for columns id }

-- as many blocks as the set has one-bits, reserved bits counted
abbrev pub block_count : Option Column → ℕ → ℕ
block_count none set = 0
block_count (some k) set = ones set

-- the layouts of a message's blocks, by their IDs
abbrev pub layouts_of : Option Column → ℕ → Layout
layouts_of none id = []
layouts_of (some k) id = layouts k id

-- the technologies whose blocks a message with this ID and set has in a column
abbrev pub set_in : ℕ → ℕ → Column → ℕ
set_in id set k = cond (eqb id (message_of k)) set 0
