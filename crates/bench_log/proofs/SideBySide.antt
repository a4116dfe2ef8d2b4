-- What any run of calls lays out, piece by piece, is the comparison of the two whole logs.
use Rattle.std.proofs.Common.{◌≡◌, ℕ, ◌-◌, ◌*◌, ◌/◌, ◌%◌, ◌^◌, ◌<◌, ◌≤◌, Bool, true, List, [], ◌∷◌, ◌++◌, length, drop, sym, refl, ap, ◌∙◌, append_assoc, arith, length-append, length-drop}
use native.Mathlib.Nat.{min-le_left}
use Rattle.bench_log.specs.LogRecord.{record_size, records_in, whole_records}
use Rattle.bench_log.specs.Items.{how_many, counters_after, texts_after, tally}
use Rattle.bench_log.specs.Comparison.{Position, positions, position_lines, kind_of, is_kind, is_pair, kinds, sum_line, comparison, no_positions, counted, next_lines, next_kinds, position_limit, tellable, left_of, Run, pieces, end}
use Rattle.bench_log.specs.declared.kinds.Kind.TheVariants.{SameOctets, SameReading, Different, OnlyLeft, OnlyRight}
use Rattle.bench_log.specs.declared.kinds.Kinds.{Kinds}
use Rattle.bench_log.proofs.Items.{all_counted, counters_append, counted_all, texts_append, all_numbered, told_text}
use Rattle.bench_log.proofs.Records.{records_length}
use Rattle.bench_log.proofs.Records.{left as records-left}
use Rattle.bench_log.proofs.Whole.{line_laid}
use Rattle.bench_log.proofs.Positions.{positions_append}

none_whole : (log : List ℕ) → length log < record_size → whole_records log ≡ []
none_whole log h = let n : length log / record_size ≡ 0 = omega arith in rw n

same_rest : (k : ℕ) (p rest : List ℕ) → k * record_size ≤ length p → length (p ++ rest) % record_size ≡ length (drop (k * record_size) p ++ rest) % record_size
same_rest k p rest h = simp (length-append, length-drop) (omega arith)

-- ---- what is left of two logs

abbrev Says : Kinds → List Position → (left right text : List ℕ) → Type 0
Says k ps l r text = text ≡ texts_after next_lines next_kinds k ps ++ sum_line (counters_after next_kinds k ps) (length l % record_size) (length r % record_size)

-- positions that a call lays out, and those that are left
laid_then : (k : Kinds) (ps qs : List Position) (m n : ℕ) {said text : List ℕ} {after : Kinds} → said ≡ texts_after next_lines next_kinds k ps → after ≡ counters_after next_kinds k ps
    → text ≡ texts_after next_lines next_kinds after qs ++ sum_line (counters_after next_kinds after qs) m n
    → said ++ text ≡ texts_after next_lines next_kinds k (ps ++ qs) ++ sum_line (counters_after next_kinds k (ps ++ qs)) m n
laid_then k ps qs m n {said} {text} {after} s a t =
    rw (texts_append next_lines next_kinds k ps qs, counters_append next_kinds k ps qs, ← a, ← s)
    (ap (λ (y : List ℕ). said ++ y) t ∙ sym (append_assoc said _ _))

after : {k : Kinds} {l r text : List ℕ} → Run k l r text → Says k (positions (whole_records l) (whole_records r)) l r text
after (pieces {k} {text} {d} {e} p q l r c h g i run) =
    let m = tellable p d in
    let n = tellable q d in
    let x : m * record_size ≤ length p = omega (arith, min-le_left (length p / record_size) (length d / position_limit)) in
    let y : n * record_size ≤ length q = omega (arith, min-le_left (length q / record_size) (length d / position_limit)) in
    let u = records_length m p in
    let v = records_length n q in
    rw (
      records-left m p l x,
      records-left n q r y,
      positions_append (records_in m p) (records_in n q) (whole_records (left_of p l d)) (whole_records (left_of q r d)) (λ z. none_whole (left_of p l d) (g (omega (arith, u, v)))) (λ z. none_whole (left_of q r d) (i (omega (arith, u, v)))),
      same_rest m p l x,
      same_rest n q r y,
    )
    (laid_then k (positions (records_in m p) (records_in n q)) _ _ _ (told_text next_lines next_kinds h) h.counts (after run))
after (end {k} {l} {r} x y o z) =
    let m : length l % record_size ≡ length l = omega arith in
    let n : length r % record_size ≡ length r = omega arith in
    line_laid (sum_line k (length l) (length r)) o z ∙ rw (none_whole l x, none_whole r y, m, n)

-- ---- the whole logs

-- there are not more positions than the longer log has records
positions_most : (xs ys : List (List ℕ)) (m : ℕ) → length xs ≤ m → length ys ≤ m → length (positions xs ys) ≤ m
positions_most [] [] m h k = omega arith
positions_most [] (y ∷ ys) m h k = omega (arith, positions_most [] ys (m - 1) (omega arith) (omega (arith, k)))
positions_most (x ∷ xs) [] m h k = omega (arith, positions_most xs [] (m - 1) (omega (arith, h)) (omega arith))
positions_most (x ∷ xs) (y ∷ ys) m h k = omega (arith, positions_most xs ys (m - 1) (omega (arith, h)) (omega (arith, k)))

from_zero : (ps : List Position) → length ps < 2 ^ 64 → (counter : Kinds → ℕ) (P : Position → Bool) → counter no_positions ≡ 0
    → ((k : Kinds) (p : Position) → counter (next_kinds k p) ≡ tally (P p) (counter k)) → counter (counters_after next_kinds no_positions ps) ≡ how_many P ps
from_zero ps h counter P z e = omega (arith, z, counted_all next_kinds counter P e no_positions ps (omega (arith, z)))

counting : (ps : List Position) → length ps < 2 ^ 64 → counters_after next_kinds no_positions ps ≡ kinds ps
unfolding counted
counting ps h = λ i. record {
  positions = (from_zero ps h (λ k. k.positions) (λ p. true) refl (λ k p. refl) ∙ all_counted ps) i;
  pairs = from_zero ps h (λ k. k.pairs) (λ p. is_pair (kind_of p)) refl (λ k p. refl) i;
  same_octets = from_zero ps h (λ k. k.same_octets) (λ p. is_kind SameOctets (kind_of p)) refl (λ k p. refl) i;
  same_reading = from_zero ps h (λ k. k.same_reading) (λ p. is_kind SameReading (kind_of p)) refl (λ k p. refl) i;
  different = from_zero ps h (λ k. k.different) (λ p. is_kind Different (kind_of p)) refl (λ k p. refl) i;
  only_left = from_zero ps h (λ k. k.only_left) (λ p. is_kind OnlyLeft (kind_of p)) refl (λ k p. refl) i;
  only_right = from_zero ps h (λ k. k.only_right) (λ p. is_kind OnlyRight (kind_of p)) refl (λ k p. refl) i;
}

pub side_by_side : {l r text : List ℕ} → Run no_positions l r text → length l < record_size * 2 ^ 64 → length r < record_size * 2 ^ 64 → text ≡ comparison l r
unfolding counted
side_by_side {l} {r} run x y =
    let ps = positions (whole_records l) (whole_records r) in
    let a : length (whole_records l) ≤ 2 ^ 64 - 1 = omega (arith, records_length (length l / record_size) l) in
    let b : length (whole_records r) ≤ 2 ^ 64 - 1 = omega (arith, records_length (length r / record_size) r) in
    let n : length ps < 2 ^ 64 = omega (arith, positions_most (whole_records l) (whole_records r) (2 ^ 64 - 1) a b) in
    after run ∙ rw (all_numbered next_lines next_kinds (λ k. k.positions) (λ k p. refl) position_lines (λ k p. refl) no_positions ps (omega arith), counting ps n)
