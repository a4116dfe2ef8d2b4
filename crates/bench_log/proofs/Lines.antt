-- Laws of lines: how long they are, and laying them out.
use Rattle.std.proofs.Common.{◌≡◌, ℕ, ◌+◌, ◌-◌, ◌*◌, ◌<◌, eqb, List, length, subst, arith, length-append, le-leb}
use borrow.Author.Tests.{lt-leb}
use Rattle.codec.proofs.Outcomes.{by_bool}
use Rattle.codec.specs.Refusal.{number_of}
use Rattle.codec.specs.declared.refusal.Refusal.TheVariants.{BufferTooShort}
use Rattle.codec.specs.Writing.{fitting, LaysOut}
use Rattle.codec.specs.Inner.Puts.{over, Put}
use Rattle.bench_log.specs.Text.{decimal}
use Rattle.codec.specs.Octets.{part}
use Rattle.bench_log.specs.LogRecord.{record_size, records_in, entry_of}
use Rattle.bench_log.specs.Items.{Tells}
use Rattle.bench_log.specs.Totals.{counted}
use Rattle.bench_log.specs.Listing.{letter, line, last_line, listable, next_line, next_totals, Lists}
use Rattle.bench_log.specs.declared.entry.Entry.{Entry}
use Rattle.bench_log.specs.declared.totals.Totals.{Totals}
use Rattle.bench_log.specs.Inner.Items.{SoFar}
use Rattle.bench_log.proofs.Items.{one_told, all_told}
use Rattle.bench_log.proofs.Records.{next_record}

pub last_line_length : (t : Totals) (tail : ℕ) → length (last_line t tail)
    ≡ 34 + length (decimal t.records) + length (decimal t.accepted) + length (decimal t.refused) + length (decimal tail)
unfolding last_line
last_line_length t tail = simp length-append (omega arith)

pub letter_length : (direction : ℕ) → length (letter direction) ≡ 3
letter_length direction = by_bool (eqb direction 0) (λ z. rw z) (λ z. rw z)

-- one record more is listed, as the code takes it
pub one_listed : (piece : List ℕ) (i : ℕ) {t u v : Totals} {d b f : List ℕ} {n p : ℕ} (e : Entry) → SoFar next_line next_totals (records_in i piece) t d 0 u b n
    → e ≡ entry_of (part (i * record_size) (i * record_size + record_size - i * record_size) piece) → v ≡ counted u e → Put b n (line u.records e) f p
    → SoFar next_line next_totals (records_in (i + 1) piece) t d 0 v f p
one_listed piece i {t} {u} {v} {d} {b} {f} {n} {p} e l q c w =
    subst (λ (rs : List (List ℕ)). SoFar next_line next_totals rs t d 0 v f p) (next_record i piece)
    (one_told next_line next_totals (part (i * record_size) (i * record_size + record_size - i * record_size) piece) l (rw q at c) (rw q at w))

pub all_listed : (piece : List ℕ) (i : ℕ) {t u : Totals} {d e : List ℕ} {n : ℕ} → i ≡ listable piece d → SoFar next_line next_totals (records_in i piece) t d 0 u e n
    → Lists piece t d (record { totals = u; length = n }) e
all_listed piece i {t} {u} {d} {e} {n} k l = subst (λ (i : ℕ). Tells next_line next_totals (records_in i piece) t d u n e) k (all_told next_line next_totals l)

-- a buffer that is too short, and one that is not
pub lays_none : (w d : List ℕ) → length d < length w → LaysOut (fitting w (length d)) d (record { refusal = number_of BufferTooShort; length = 0 }) d
lays_none w d h = record { answers = rw (lt-leb _ _ h); leaves = rw (lt-leb _ _ h) }

pub lays : {w d e : List ℕ} {n : ℕ} → Put d 0 w e n → LaysOut (fitting w (length d)) d (record { refusal = 0; length = n }) e
unfolding over
lays {w} {d} {e} {n} p =
    let z : 0 + length w ≡ length w = omega arith in
    let t = le-leb (length w) (length d) (rw z at p.room) in
    record { answers = rw (t, ← z, p.place); leaves = rw t (rw z at p.wrote) }
