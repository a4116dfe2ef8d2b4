-- The records of a log in two parts, the first of whole records.
use Rattle.std.proofs.Common.{◌≡◌, ℕ, zero, suc, ◌+◌, ◌-◌, ◌*◌, ◌/◌, ◌≤◌, List, [], ◌∷◌, ◌++◌, length, take, drop, refl, append_assoc, append-nil, add-one, arith, length-append, length-drop, drop-drop}
use lib.Seq.{take-append-le, drop-append-le}
use Rattle.codec.specs.Octets.{part}
use Rattle.bench_log.specs.LogRecord.{record_size, records_in, whole_records}

pub records_length : (n : ℕ) (log : List ℕ) → length (records_in n log) ≡ n
records_length zero log = refl
records_length (suc n) log = simp length-append (omega (arith, records_length n log))

records_first : (m : ℕ) (a b : List ℕ) → m * record_size ≤ length a → records_in m (a ++ b) ≡ records_in m a
records_first zero a b h = refl
records_first (suc m) a b h =
    let d : drop (m * record_size) (a ++ b) ≡ drop (m * record_size) a ++ b = drop-append-le (m * record_size) a b (omega arith) in
    let t : take record_size (drop (m * record_size) a ++ b) ≡ take record_size (drop (m * record_size) a) = take-append-le record_size (drop (m * record_size) a) b (simp length-drop (omega arith)) in
    rw (records_first m a b (omega arith), d, t)

-- some records, and then others
pub records_split : (m k : ℕ) (log : List ℕ) → records_in (m + k) log ≡ records_in m log ++ records_in k (drop (m * record_size) log)
records_split m zero log = let z : m + 0 ≡ m = omega arith in rw (z, append-nil (records_in m log))
records_split m (suc k) log =
    let n : m + suc k ≡ suc (m + k) = omega arith in
    let at : (m + k) * record_size ≡ m * record_size + k * record_size = omega arith in
    rw (n, records_split m k log, at, ← drop-drop (k * record_size) (m * record_size) log) (append_assoc (records_in m log) (records_in k (drop (m * record_size) log)) _)

-- what is left of a log after records of a piece
pub left : (k : ℕ) (p rest : List ℕ) → k * record_size ≤ length p
    → whole_records (p ++ rest) ≡ records_in k p ++ whole_records (drop (k * record_size) p ++ rest)
left k p rest h =
    let n : length (p ++ rest) / record_size ≡ k + length (drop (k * record_size) p ++ rest) / record_size = simp (length-append, length-drop) (omega arith) in
    rw (n, records_split k (length (drop (k * record_size) p ++ rest) / record_size) (p ++ rest), records_first k p rest h, drop-append-le (k * record_size) p rest h)

-- one record more, as the code takes it
pub next_record : (i : ℕ) (log : List ℕ) → records_in i log ++ (part (i * record_size) (i * record_size + record_size - i * record_size) log ∷ []) ≡ records_in (i + 1) log
next_record i log = let s : i * record_size + record_size - i * record_size ≡ record_size = omega arith in rw (add-one, s)
