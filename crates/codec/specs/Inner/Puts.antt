-- What the inner functions of the writer keep, and those that lay out a bench log's listing: octets put into the buffer one piece after the other, and how long the blocks are.
use Rattle.std.specs.Prelude.{ℕ, ◌+◌, ◌≤◌, Bool, true, false, ◌||◌, ◌≡◌, List, [], ◌∷◌, ◌++◌, length, take, drop}
use Rattle.codec.specs.Octets.{to_le}
use Rattle.codec.specs.Technology.{Technology, technology_id, technologies, names}
use Rattle.codec.specs.Layout.{Layout, number, octets, counted, Values, zeroed}
use Rattle.codec.specs.Blocks.{uwb_after_key, Column, capabilities, cell}
use Rattle.codec.specs.Records.{StructOf, fields}
use Rattle.codec.specs.Valid.{every}
use Rattle.codec.specs.NormalForm.{block}
use Rattle.codec.specs.declared.uwb.UwbCapability.{UwbCapability}
use Rattle.codec.specs.declared.uwb.UwbConfiguration.{UwbConfiguration}
use Rattle.codec.specs.declared.records.Capability.{Capability}

-- d with octets from a place on
unfoldable pub over : List ℕ → ℕ → List ℕ → List ℕ
over d at ws = take at d ++ (ws ++ drop (at + length ws) d)

-- e is d with ws from a place on, where there is room for them, and next is the place after them
pub record Put (d : List ℕ) (at : ℕ) (ws : List ℕ) (e : List ℕ) (next : ℕ) : Type 0 where
  pub place : next ≡ at + length ws
  pub wrote : e ≡ over d at ws
  pub same : length e ≡ length d
  pub room : at + length ws ≤ length d

-- the octets of a block, if it is there
abbrev pub block_if : Bool → (L : Layout) → ℕ → Values L → List ℕ
block_if true L id v = block L id v
block_if false L id v = []

-- the octets of UWB's sets of channels, preamble indexes and config IDs
abbrev pub set_octets : UwbCapability → List ℕ
set_octets v = to_le 4 v.channels.0 ++ (to_le 4 v.preamble_indexes.0 ++ to_le 4 v.config_ids.0)

-- the octets of the fields between UWB's address and its key length
abbrev pub before_key : UwbConfiguration → List ℕ
before_key v = to_le 4 v.session_id ++ (v.config_id.0 ∷ (v.channel.0 ∷ (v.preamble_index.0 ∷ (to_le 2 v.interval ++ (v.slot ∷ [])))))

-- the fields after UWB's key
abbrev pub after_key : UwbConfiguration → Values uwb_after_key
after_key v = (v.country, (v.role, (v.mode, tt)))

-- the version, the message ID and the set
abbrev pub head : ℕ → ℕ → List ℕ
head id set = 1 ∷ (id ∷ to_le 2 set)

-- the octets of the blocks of those of these technologies that are in the set
abbrev pub chain : (k : Column) (set : ℕ) → ((t : Technology) → Values (cell k t)) → List Technology → List ℕ
chain k set v [] = []
chain k set v (t ∷ others) = block_if (names set t) (cell k t) (technology_id t) (v t) ++ chain k set v others

abbrev pub column_octets : (k : Column) → ℕ → StructOf k → List ℕ
column_octets k set c = chain k set (fields k c) technologies

-- what is counted fits its array
abbrev pub Held : (L : Layout) → Values L → Type 0
Held [] v = Unit {0}
Held (number x w t ∷ L) v = Held L v.1
Held (octets x n t ∷ L) v = Held L v.1
Held (counted y x t c ∷ L) v = (v.0 ≤ c) × Held L v.1.1

-- so do the key and the name of a Configuration
abbrev pub Fits : (k : Column) → StructOf k → Type 0
Fits k c = (t : Technology) → Held (cell k t) (fields k c t)

-- a block's fields, with their layout, are those of a technology in a column
abbrev pub InColumn : (k : Column) → StructOf k → Technology → (L : Layout) → Values L → Type 0
InColumn k c t L v = ◌≡◌ {A = (M : Layout) × Values M} (L, v) (cell k t, fields k c t)

-- the fields of the technologies that a set leaves out of a capability are zero
abbrev pub rest_zero : ℕ → Capability → Bool
rest_zero set c = every technologies (λ t. names set t || zeroed (cell capabilities t) (fields capabilities c t))
