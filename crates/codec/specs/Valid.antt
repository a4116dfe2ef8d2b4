-- Valid records: the ID is assigned, the set has no reserved bit, every field that is used is allowed, and everything else is zero.
use Rattle.std.specs.Prelude.{ℕ, ◌<◌, Bool, true, false, ◌&&◌, List, [], ◌∷◌, ltb}
use Rattle.codec.specs.Technology.{Technology, technologies, set_limit, names}
use Rattle.codec.specs.Layout.{Layout, Values, allowed, Typed, cleared, zeroed}
use Rattle.codec.specs.Blocks.{Column, columns, cell}
use Rattle.codec.specs.Table.{assigned, set_in}
use Rattle.codec.specs.Records.{StructOf, fields, column_in, of_record}
use Rattle.codec.specs.declared.records.Record.{Record}

-- what the types of the code ensure of a record
pub record TypedRecord (r : Record) : Type 0 where
  pub id : r.id < 256
  pub set : r.set < 65536
  pub cells : (k : Column) (t : Technology) → Typed (cell k t) (of_record r k t)

-- the fields of a technology that is present, or absent
abbrev pub valid_fields : (L : Layout) → Bool → Values L → Bool
valid_fields L true v = allowed L v && cleared L v
valid_fields L false v = zeroed L v

abbrev pub every : {A : Type 0} → List A → (A → Bool) → Bool
every [] f = true
every (x ∷ l) f = f x && every l f

-- a column with the blocks of the technologies in a set
unfoldable pub valid_column : (k : Column) → ℕ → StructOf k → Bool
valid_column k set c = every technologies (λ t. valid_fields (cell k t) (names set t) (fields k c t))

unfoldable pub valid : Record → Bool
valid r =
    assigned r.id
    && (ltb r.set set_limit
    && every columns (λ k. valid_column k (set_in r.id r.set k) (column_in r k)))
