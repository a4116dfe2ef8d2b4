-- The records of a bench log: their layout, and what an entry says of one.
use Rattle.std.specs.Prelude.{ℕ, zero, suc, ◌+◌, ◌*◌, ◌/◌, Bool, ◌&&◌, List, [], ◌∷◌, ◌++◌, length, drop, ◌==◌, nat_le, nat_lt, slice_index}
use Rattle.codec.specs.Octets.{all_zero, part, of_le}
use Rattle.std.specs.Prelude.{Err, Ok}
use Rattle.codec.specs.Refusal.{Checked, demand, and_then}
use Rattle.codec.specs.declared.refusal.Refusal.TheVariants.{BrokenRecord}
use Rattle.codec.specs.Table.{message_limit}
use Rattle.codec.specs.Message.{reading}
use Rattle.codec.specs.declared.records.Record.{Record}
use Rattle.bench_log.specs.declared.entry.Accepted.{Accepted}
use Rattle.bench_log.specs.declared.entry.Entry.{Entry}
use Rattle.bench_log.specs.declared.layout.Parts.{Parts}

-- ---- the layout, for messages of at most so many octets: direction (0 to the tag, 1 from it), zero, length in two octets, low first, the
-- message, zeros to the end

abbrev pub length_in : List ℕ → ℕ
length_in r = of_le 2 2 r

abbrev pub message_in : List ℕ → List ℕ
message_in r = part 4 (length_in r) r

unfoldable pub keeps_layout : ℕ → List ℕ → Bool
keeps_layout limit r =
    (length r == 4 + limit)
    && (nat_lt (slice_index r 0) 2
    && (slice_index r 1 == 0
    && (nat_le (length_in r) limit
    && all_zero (drop (4 + length_in r) r))))

-- ---- a record taken apart: direction and message, or 13 if it breaks the layout

pub record Held : Type 0 where
  pub direction : ℕ
  pub message : List ℕ

unfoldable pub taken_apart : ℕ → List ℕ → Checked Held
taken_apart limit r = demand (keeps_layout limit r) BrokenRecord (Ok (record { direction = slice_index r 0; message = message_in r }))

-- as the code returns it: the message, which follows the four octets, by its length
abbrev pub parts_of : Checked Held → Checked Parts
parts_of (Err x) = Err x
parts_of (Ok h) = Ok (record { direction = h.direction; length = length h.message })

-- ---- the records of a log

abbrev pub record_size : ℕ
record_size = 4 + message_limit

-- the first n records of a log, in order
abbrev pub records_in : ℕ → List ℕ → List (List ℕ)
records_in zero log = []
records_in (suc n) log = records_in n log ++ (part (n * record_size) record_size log ∷ [])

abbrev pub whole_records : List ℕ → List (List ℕ)
whole_records log = records_in (length log / record_size) log

-- ---- what is said of a record: 13 if it breaks the layout, and else what the reader says of its message

unfoldable pub reading_of : List ℕ → Checked Record
reading_of r = and_then (taken_apart message_limit r) λ h. reading h.message

-- a broken record is taken for one to the tag
abbrev pub direction_in : Checked Held → ℕ
direction_in (Err x) = 0
direction_in (Ok h) = h.direction

abbrev pub direction_of : List ℕ → ℕ
direction_of r = direction_in (taken_apart message_limit r)

-- ID and set, or the refusal
abbrev pub listed : Checked Record → Checked Accepted
listed (Err x) = Err x
listed (Ok r) = Ok (record { id = r.id; set = r.set })

unfoldable pub entry_of : List ℕ → Entry
entry_of r = record { direction = direction_of r; message = listed (reading_of r) }
