-- Writing a record into a lent buffer.
use Rattle.std.specs.Prelude.{ℕ, ◌≡◌, List, ◌++◌, leb, length, take, drop}
use Rattle.codec.specs.Refusal.{Checked, Err, Ok, demand, number_of, BufferTooShort, NotValid}
use Rattle.codec.specs.Valid.{TypedRecord, valid}
use Rattle.codec.specs.NormalForm.{normal}
use Rattle.codec.specs.declared.records.Record.{Record}
use Rattle.codec.specs.declared.records.Written.{Written}

-- octets for a buffer of so many
abbrev pub fitting : List ℕ → ℕ → Checked (List ℕ)
fitting w n = demand (leb (length w) n) BufferTooShort (Ok w)

-- what is to be written into a buffer of n octets: the record is tested first, then the buffer
unfoldable pub writing : Record → ℕ → Checked (List ℕ)
writing r n = demand (valid r) NotValid (fitting (normal r) n)

-- the answer: a refusal's number and 0 octets, or 0 and how many octets were written
abbrev pub written : Checked (List ℕ) → Written
written (Err x) = record { refusal = number_of x; length = 0 }
written (Ok w) = record { refusal = 0; length = length w }

-- the buffer afterwards: untouched, or with the octets at its start
abbrev pub buffer : Checked (List ℕ) → List ℕ → List ℕ
buffer (Err x) d = d
buffer (Ok w) d = w ++ drop (length w) d

-- what a call that leads to `o` does: its answer, and the buffer before and after
pub record LaysOut (o : Checked (List ℕ)) (d : List ℕ) (answer : Written) (e : List ℕ) : Type 0 where
  pub answers : answer ≡ written o
  pub leaves : e ≡ buffer o d

-- what the writer does with a record
abbrev pub Writes : Record → List ℕ → Written → List ℕ → Type 0
Writes r d answer e = LaysOut (writing r (length d)) d answer e

-- what a call of `write` does, whose record is one that the types of the code allow
pub record WritesTyped (r : Record) (d : List ℕ) (answer : Written) (e : List ℕ) : Type 0 where
  pub typed : TypedRecord r
  pub writes : Writes r d answer e

-- the octets that a call wrote
abbrev pub octets_written : Written → List ℕ → List ℕ
octets_written answer e = take answer.length e
