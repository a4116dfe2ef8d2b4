-- What any run of calls lays out, piece by piece, is the listing of the whole log.
use Rattle.std.proofs.Common.{◌≡◌, ℕ, ◌*◌, ◌/◌, ◌%◌, ◌^◌, ◌<◌, ◌≤◌, leb, List, ◌++◌, length, take, drop, sym, refl, ap, ◌∙◌, append_assoc, arith, length-append, length-drop, take_at}
use native.Mathlib.Nat.{min-le_left}
use Rattle.codec.proofs.Outcomes.{by_bool}
use Rattle.codec.specs.Writing.{fitting, LaysOut}
use Rattle.codec.specs.declared.records.Written.{Written}
use Rattle.bench_log.specs.LogRecord.{record_size, records_in, whole_records, entry_of}
use Rattle.bench_log.specs.Items.{counters_after, texts_after}
use Rattle.bench_log.specs.Totals.{no_records}
use Rattle.bench_log.specs.Listing.{line, last_line, listing, next_line, next_totals, line_limit, listable, Run, piece, end}
use Rattle.bench_log.specs.declared.totals.Totals.{Totals}
use Rattle.bench_log.proofs.Records.{records_length, left}
use Rattle.bench_log.proofs.Items.{counters_append, texts_append, all_numbered, told_text}
use Rattle.bench_log.proofs.Counting.{one_more_record, counting}

-- ---- what one call lays out

pub line_laid : {d e : List ℕ} {a : Written} (w : List ℕ) → LaysOut (fitting w (length d)) d a e → a.refusal ≡ 0 → take a.length e ≡ w
line_laid {d} {e} {a} w l z =
    by_bool (leb (length w) (length d))
    (λ t. rw (rw t at l.leaves, rw t at l.answers) (take_at w (drop (length w) d) (length w) refl))
    (λ t. let q : a.refusal ≡ 11 = ap (λ (x : Written). x.refusal) (rw t at l.answers) in absurd (omega arith))

-- ---- what is left of a log

after : {t : Totals} {log text : List ℕ} → Run t log text
    → text ≡ texts_after next_line next_totals t (whole_records log) ++ last_line (counters_after next_totals t (whole_records log)) (length log % record_size)
after (piece {t} {text} {d} p rest r l run) =
    let k = listable p d in
    let x = records_in k p in
    let q = drop (k * record_size) p ++ rest in
    let h : k * record_size ≤ length p = omega (arith, min-le_left (length p / record_size) (length d / line_limit)) in
    let n : length (p ++ rest) % record_size ≡ length q % record_size = simp (length-append, length-drop) (omega arith) in
    rw (left k p rest h, texts_append next_line next_totals t x (whole_records q), counters_append next_totals t x (whole_records q), n, ← l.counts, told_text next_line next_totals l)
    (ap (λ (y : List ℕ). texts_after next_line next_totals t x ++ y) (after run) ∙ sym (append_assoc (texts_after next_line next_totals t x) _ _))
after (end {t} {tail} h o z) =
    let n : length tail / record_size ≡ 0 = omega arith in
    let m : length tail % record_size ≡ length tail = omega arith in
    line_laid (last_line t (length tail)) o z ∙ rw (n, m)

pub by_pieces : {log text : List ℕ} → Run no_records log text → length log < record_size * 2 ^ 64 → text ≡ listing log
by_pieces {log} run h =
    let n = records_length (length log / record_size) log in
    after run ∙ rw (all_numbered next_line next_totals (λ t. t.records) one_more_record (λ k r. line k (entry_of r)) (λ t r. refl) no_records (whole_records log) (omega arith), counting (whole_records log) (omega arith))
