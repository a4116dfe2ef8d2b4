-- The listing of a log: a line for each record, and the last line.
use Rattle.std.specs.Prelude.{◌≡◌, ℕ, ◌*◌, ◌/◌, ◌%◌, ◌<◌, min, cond, List, ◌++◌, length, take, drop, ◌==◌}
use Prim.Native.String.{String}
use Rattle.std.specs.Prelude.{Err, Ok}
use Rattle.codec.specs.Refusal.{Checked, number_of}
use Rattle.codec.specs.Writing.{fitting, LaysOut}
use Rattle.codec.specs.declared.records.Written.{Written}
use Rattle.bench_log.specs.LogRecord.{record_size, records_in, whole_records, entry_of}
use Rattle.bench_log.specs.Totals.{totals, counted}
use Rattle.bench_log.specs.Items.{texts_from, Tells}
use Rattle.bench_log.specs.Text.{ascii, decimal}
use Rattle.bench_log.specs.declared.entry.Accepted.{Accepted}
use Rattle.bench_log.specs.declared.entry.Entry.{Entry}
use Rattle.bench_log.specs.declared.totals.Totals.{Totals}
use Rattle.bench_log.specs.declared.listing.Listed.{Listed}

-- ---- the text of a line

-- `i` to the tag, `t` from it, between spaces
abbrev pub letter : ℕ → List ℕ
letter direction = cond (direction == 0) (ascii " i ") (ascii " t ")

-- a word and a number
abbrev pub field : String → ℕ → List ℕ
field word n = ascii word ++ decimal n

-- ID and set, or the refusal's number
abbrev pub verdict : Checked Accepted → List ℕ
verdict (Err x) = field "refused " (number_of x)
verdict (Ok m) = decimal m.id ++ field " " m.set

-- what a line says after the number
abbrev pub entry_text : Entry → List ℕ
entry_text e = letter e.direction ++ (verdict e.message ++ ascii "\n")

unfoldable pub line : ℕ → Entry → List ℕ
line n e = decimal n ++ entry_text e

-- `tail` is the number of octets of a partial last record
unfoldable pub last_line : Totals → ℕ → List ℕ
last_line t tail =
    field "records " t.records
    ++ (field " accepted " t.accepted
    ++ (field " refused " t.refused
    ++ (field " tail " tail
    ++ ascii "\n")))

-- ---- of a whole log

abbrev pub listing : List ℕ → List ℕ
listing log = texts_from (λ n r. line n (entry_of r)) 0 (whole_records log) ++ last_line (totals (whole_records log)) (length log % record_size)

-- ---- piece by piece

-- the line of the record that comes after those that are counted, and the totals with it
abbrev pub next_line : Totals → List ℕ → List ℕ
next_line t r = line t.records (entry_of r)

abbrev pub next_totals : Totals → List ℕ → Totals
next_totals t r = counted t (entry_of r)

-- no line is longer
abbrev pub line_limit : ℕ
line_limit = 35

-- the records of a piece that are listed: all, or as many as the buffer has room for
abbrev pub listable : List ℕ → List ℕ → ℕ
listable piece d = min (length piece / record_size) (length d / line_limit)

-- what listing a piece does
abbrev pub Lists : List ℕ → Totals → List ℕ → Listed → List ℕ → Type 0
Lists piece t d r e = Tells next_line next_totals (records_in (listable piece d) piece) t d r.totals r.length e

-- Calls that list what is left of a log, from some totals on, and what they lay out, in order: `list` on any piece of it, and
-- then calls on what that left; or, where less than a record is left, `last_line` in a buffer that has room for it.
pub data Run : Totals → List ℕ → List ℕ → Type 0 where
  piece : {t : Totals} {text d e : List ℕ} (p rest : List ℕ) (r : Listed) → Lists p t d r e
      → Run r.totals (drop (listable p d * record_size) p ++ rest) text → Run t (p ++ rest) (take r.length e ++ text)
  end : {t : Totals} {tail d e : List ℕ} {a : Written} → length tail < record_size → LaysOut (fitting (last_line t (length tail)) (length d)) d a e
      → a.refusal ≡ 0 → Run t tail (take a.length e)
