-- What is seen of a log record, and what is shown of two.
use Rattle.std.proofs.Common.{◌≡◌, ℕ, ◌+◌, ◌-◌, ◌≤◌, true, false, eqb, List, [], ◌∷◌, ◌++◌, map, length, refl, ◌∙◌, append-nil, arith, length-append, eqb-true}
use mathlib.Core.List.{flatten}
use borrow.Author.Tests.{eqb-false}
use Rattle.std.specs.Prelude.{Err, Ok}
use Rattle.codec.specs.Refusal.{Checked, number_of}
use Rattle.codec.specs.declared.refusal.Refusal.{Refusal}
use Rattle.codec.specs.Octets.{Octets, part}
use Rattle.codec.specs.Table.{message_limit}
use Rattle.codec.specs.Records.{answer}
use Rattle.codec.specs.Message.{reading}
use Rattle.codec.specs.Inner.Places.{record_at}
use Rattle.codec.specs.Inner.Puts.{Put}
use Rattle.codec.specs.declared.records.Record.{Record}
use Rattle.codec.proofs.Outcomes.{by_bool}
use Rattle.codec.proofs.Puts.{put_then}
use Rattle.codec.proofs.Laws.{octets_part}
use Rattle.bench_log.specs.LogRecord.{taken_apart, parts_of, reading_of, direction_of}
use Rattle.bench_log.specs.Text.{ascii, decimal}
use Rattle.bench_log.specs.Comparison.{same, Difference, difference, shown, is_same_reading, shown_contents, difference_line, difference_lines, pair_lines, pair_kind}
use Rattle.bench_log.specs.Inner.Pairs.{direction_difference, head_differences, refusal_in, Finds, Holds, SeesMessage, Sees}
use Rattle.bench_log.specs.Inner.Differences.{read_differences, MessagesReady, messages_limit}
use Rattle.bench_log.specs.declared.kinds.Kind.TheVariants.{SameReading, Different}
use Rattle.bench_log.specs.declared.layout.Parts.{Parts}
use Rattle.bench_log.specs.declared.found.Found.{Found}
use Rattle.bench_log.specs.declared.pair.Seen.{Seen}
use Rattle.bench_log.proofs.Entries.{apart, broken}
use Rattle.bench_log.proofs.Shown.{shown_from, shown_left, shown_right, shown_ids, shown_messages}
use Rattle.bench_log.proofs.Differences.{lines_append}
use Rattle.bench_log.proofs.Readings.{same_exactly}

-- ---- what is seen of a record

module _ (r : List ℕ) where
  pub sees_broken : (x : Refusal) → Err x ≡ parts_of (taken_apart message_limit r) → Sees r (record { direction = 0; message = Err x })
  unfolding reading_of
  sees_broken x e = let b = broken message_limit r x e in record { direction = rw b; message = rw b }

  pub sees_found : (p : Parts) → Ok p ≡ parts_of (taken_apart message_limit r) → (c : Checked Found) → Finds (part 4 (4 + p.length - 4) r) c
      → Sees r (record { direction = p.direction; message = c })
  unfolding reading_of
  sees_found p e c f = record { direction = rw h; message = go c f }
    where
      h : taken_apart message_limit r ≡ Ok (record { direction = p.direction; message = part 4 p.length r })
      h = (apart message_limit r p e).holds

      n : 4 + p.length - 4 ≡ p.length
      n = omega arith

      read : reading_of r ≡ reading (part 4 (4 + p.length - 4) r)
      read = rw (h, n)

      go : (c : Checked Found) → Finds (part 4 (4 + p.length - 4) r) c → SeesMessage r c
      go (Err x) f = read ∙ f
      go (Ok g) f = record { size = 4 + p.length - 4; message = f.0; placed = rw f.0 f.1; read = rw f.0 read }

-- ---- what is shown of two

both_accepted : (dl dr : ℕ) (a b : Record) → shown_from dl (Ok a) dr (Ok b) ≡ direction_difference dl dr ++ read_differences a b
unfolding read_differences
both_accepted dl dr a b =
    by_bool (eqb a.id b.id)
    (λ y. shown_messages dl dr a b (eqb-true a.id b.id y) ∙ rw y)
    (λ n. shown_ids dl dr a b (eqb-false a.id b.id n) ∙ rw n)

-- the number of the refusal, where there is one
refusal_seen : (r : List ℕ) (c : Checked Found) → SeesMessage r c → (answer (reading_of r)).refusal ≡ refusal_in c
refusal_seen r (Err x) f = rw f
refusal_seen r (Ok p) f = rw (f.read ∙ f.placed.reads)

module _ {l r : List ℕ} {s t : Seen} (x : Sees l s) (y : Sees r t) where
  abbrev heads : List Difference
  heads = head_differences s.direction t.direction (refusal_in s.message) (refusal_in t.message)

  pub left_refused : {n : Refusal} → s.message ≡ Err n → shown l r ≡ heads
  left_refused {n} e =
      let f : reading_of l ≡ Err n = rw e at x.message in
      rw (x.direction, y.direction, e, f, ← refusal_seen r t.message y.message) (shown_left (direction_of l) (direction_of r) n (reading_of r))

  pub right_refused : {n : Refusal} → t.message ≡ Err n → shown l r ≡ heads
  right_refused {n} e =
      let f : reading_of r ≡ Err n = rw e at y.message in
      rw (x.direction, y.direction, e, f, ← refusal_seen l s.message x.message) (go (reading_of l))
    where
      go : (c : Checked Record) → shown_from (direction_of l) c (direction_of r) (Err n) ≡ head_differences (direction_of l) (direction_of r) (answer c).refusal (number_of n)
      go (Err m) = shown_left (direction_of l) (direction_of r) m (Err n)
      go (Ok a) = shown_right (direction_of l) (direction_of r) a n

  module _ {f g : Found} (i : s.message ≡ Ok f) (j : t.message ≡ Ok g) where
    left : Holds l f
    left = rw i at x.message

    right : Holds r g
    right = rw j at y.message

    pub messages_ready : {d : List ℕ} {at : ℕ} → Octets l → Octets r → at + messages_limit ≤ length d → MessagesReady f.message.now f.places g.message.now g.places at d
    messages_ready o p room = record {
      left = left.placed;
      right = right.placed;
      octets = (rw left.message (octets_part 4 left.size l o), rw right.message (octets_part 4 right.size r p));
      room = room;
    }

    shown_read : shown l r ≡ direction_difference s.direction t.direction ++ read_differences (record_at f.message.now f.places) (record_at g.message.now g.places)
    shown_read =
        rw (left.read ∙ left.placed.reads, right.read ∙ right.placed.reads, x.direction, y.direction)
        (both_accepted (direction_of l) (direction_of r) (record_at f.message.now f.places) (record_at g.message.now g.places))

    pub put_read : (n : ℕ) {d e h : List ℕ} {at p q : ℕ} → Put d at (difference_lines n heads) e p
        → Put e p (difference_lines n (read_differences (record_at f.message.now f.places) (record_at g.message.now g.places))) h q → Put d at (difference_lines n (shown l r)) h q
    unfolding difference
    put_read n a b =
        let head : heads ≡ direction_difference s.direction t.direction = rw (i, j) (append-nil (direction_difference s.direction t.direction)) in
        rw (shown_read, lines_append n (direction_difference s.direction t.direction) (read_differences (record_at f.message.now f.places) (record_at g.message.now g.places))) (put_then (rw head at a) b)

-- ---- what is said of a pair

-- lines that take no octet are none
nothing : (n : ℕ) (ds : List Difference) → length (difference_lines n ds) ≡ 0 → ds ≡ []
unfolding difference_lines flatten difference_line
nothing n [] e = refl
nothing n (d ∷ ds) e = absurd (omega (arith, e, length-append (difference_line n d) (flatten (map (difference_line n) ds)), length-append (decimal n) (ascii " " ++ (d.name ++ (ascii ": left " ++ (shown_contents d.left ++ (ascii ", right " ++ (shown_contents d.right ++ ascii "\n"))))))))

module _ (n : ℕ) (l r : List ℕ) {d e : List ℕ} {at p : ℕ} (other : same l r ≡ false) (o : Octets l × Octets r) (put : Put d at (difference_lines n (shown l r)) e p) where
  -- nothing was laid out
  said_same : p ≡ at → (shown l r ≡ []) × (is_same_reading l r ≡ true)
  said_same z = let x = nothing n (shown l r) (omega (arith, put.place)) in (x, (same_exactly l r o.0 o.1).1 x)

  pub put_same : {f : List ℕ} {q : ℕ} → p ≡ at → Put e at (decimal n ++ ascii " same reading\n") f q → Put d at (pair_lines n l r) f q × (SameReading ≡ pair_kind l r)
  unfolding difference_lines flatten
  put_same {f} {q} z w =
      let s = said_same z in
      (rw (other, s.1) (put_then (rw (s.0, z) at put) w), rw (other, s.1))

  pub put_different : (p ≡ at → ⊥) → Put d at (pair_lines n l r) e p × (Different ≡ pair_kind l r)
  unfolding difference_lines flatten
  put_different z =
      let s : is_same_reading l r ≡ false = by_bool (is_same_reading l r) (λ y. absurd (z (put.place ∙ rw ((same_exactly l r o.0 o.1).0 y) (omega arith)))) (λ y. y) in
      (rw (other, s) put, rw (other, s))
