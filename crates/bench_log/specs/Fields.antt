-- The fields of a log record, each with its name and its contents, in the order in which two records are compared.
use Rattle.std.specs.Prelude.{ℕ, cond, List, [], ◌∷◌, ◌++◌, map, take}
use Prim.Native.String.{String}
use mathlib.Core.List.{flatten}
use Rattle.std.proofs.Math.Option.{Option, none, some}
use Rattle.std.specs.Prelude.{Err, Ok}
use Rattle.codec.specs.Refusal.{Checked, number_of}
use Rattle.codec.specs.Technology.{Technology, uwb, cs, nan, rssi, technologies, names}
use Rattle.codec.specs.Layout.{Layout, number, octets, counted, Values}
use Rattle.codec.specs.Blocks.{Column, cell}
use Rattle.codec.specs.Table.{row}
use Rattle.codec.specs.Records.{of_record}
use Rattle.codec.specs.declared.records.Record.{Record}
use Rattle.bench_log.specs.LogRecord.{reading_of, direction_of}
use Rattle.bench_log.specs.Text.{ascii}

pub data Contents : Type 0 where
  amount : ℕ → Contents
  string : List ℕ → Contents

pub record LogField : Type 0 where
  pub name : List ℕ
  pub contents : Contents

-- ---- the fields of a block, by the names of 01's table with the technology's before them. Block IDs and sizes are no fields.

abbrev pub technology_name : Technology → String
technology_name uwb = "UWB"
technology_name cs = "CS"
technology_name nan = "NAN"
technology_name rssi = "RSSI"

abbrev pub prefix : Technology → List ℕ
prefix t = ascii (technology_name t) ++ ascii " "

-- of what is counted, a key or a name, the contents are as many octets as its length says
abbrev pub block_fields : List ℕ → (L : Layout) → Values L → List LogField
block_fields p [] v = []
block_fields p (number x w t ∷ L) v = record { name = p ++ ascii x; contents = amount v.0 } ∷ block_fields p L v.1
block_fields p (octets x n t ∷ L) v = record { name = p ++ ascii x; contents = string v.0 } ∷ block_fields p L v.1
block_fields p (counted y x t c ∷ L) v =
    record { name = p ++ ascii y; contents = amount v.0 }
    ∷ (record { name = p ++ ascii x; contents = string (take v.0 v.1.0) }
    ∷ block_fields p L v.1.1)

-- ---- the fields of an accepted message: its ID, which technologies are present, and the fields of their blocks

abbrev pub message_id_name : List ℕ
message_id_name = ascii "message ID"

abbrev pub presence : ℕ → Technology → LogField
presence set t = record { name = prefix t ++ ascii "presence"; contents = amount (cond (names set t) 1 0) }

abbrev pub fields_if : (k : Column) → Record → Technology → List LogField
fields_if k r t = cond (names r.set t) (block_fields (prefix t) (cell k t) (of_record r k t)) []

abbrev pub column_fields : Option Column → Record → List LogField
column_fields none r = []
column_fields (some k) r = flatten (map (fields_if k r) technologies)

unfoldable pub message_fields : Record → List LogField
message_fields r =
    record { name = message_id_name; contents = amount r.id }
    ∷ (map (presence r.set) technologies
    ++ column_fields (row r.id).column r)

-- ---- the fields of a log record: its direction, its refusal number, which is 0 if it is accepted, and then those of the message

abbrev pub direction_name : List ℕ
direction_name = ascii "direction"

abbrev pub refusal_name : List ℕ
refusal_name = ascii "refusal number"

abbrev pub head_fields : (direction refusal : ℕ) → List LogField
head_fields direction refusal =
    record { name = direction_name; contents = amount direction }
    ∷ (record { name = refusal_name; contents = amount refusal }
    ∷ [])

abbrev pub fields_from : ℕ → Checked Record → List LogField
fields_from direction (Err x) = head_fields direction (number_of x)
fields_from direction (Ok r) = head_fields direction 0 ++ message_fields r

abbrev pub fields_of : List ℕ → List LogField
fields_of r = fields_from (direction_of r) (reading_of r)
