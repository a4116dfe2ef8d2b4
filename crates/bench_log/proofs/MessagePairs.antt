-- What differs in two accepted messages, by the places of their blocks.
use Rattle.std.proofs.Common.{◌≡◌, ℕ, ◌+◌, ◌≤◌, true, List, [], ◌∷◌, ◌++◌, map, length, get_or, drop, sym, refl, ap, ◌∙◌, append-nil, arith, eq-eqb, ne_eqb, leb-true}
use mathlib.Core.List.{flatten}
use Rattle.codec.specs.Octets.{Octets}
use Rattle.codec.specs.Technology.{Technology, uwb, cs, nan, rssi, technology_id, technologies, known, names}
use Rattle.codec.specs.Layout.{value}
use Rattle.codec.specs.Blocks.{Column, capabilities, configurations, cell}
use Rattle.codec.specs.Table.{message_of, Row}
use Rattle.codec.specs.Records.{StructOf, fields, column_in, of_record}
use Rattle.codec.specs.Message.{id_of, set_of}
use Rattle.codec.specs.Inner.Places.{Roomy, fields_at, column_at, column_found, record_at, Placed}
use Rattle.codec.specs.Inner.Puts.{Put}
use Rattle.codec.proofs.Outcomes.{by_bool, and_true_lem}
use Rattle.codec.proofs.Bits.{bit_low}
use Rattle.codec.proofs.Cells.{technology_below, fields_make}
use Rattle.codec.proofs.Rows.{column_there, other_alone}
use Rattle.codec.proofs.Layouts.{fields_there}
use Rattle.codec.proofs.Puts.{put_then}
use Rattle.codec.specs.declared.records.Record.{Record}
use Rattle.bench_log.specs.Fields.{message_id_name, amount}
use Rattle.bench_log.specs.Comparison.{Difference, difference, difference_lines}
use Rattle.bench_log.specs.Inner.Differences.{section_differences, presence_difference, block_at, lines_limit, section_limit, section_in, SectionsReady, read_differences, messages_limit, MessagesReady}
use Rattle.bench_log.proofs.Differences.{lines_append}

column_in_lem : (m places : List ℕ) (k : Column) → column_in (record_at m places) k ≡ column_found m places k
column_in_lem m places capabilities = refl
column_in_lem m places configurations = refl

-- the blocks of a column at places of a message
module _ {m places : List ℕ} (l : Placed m places) (o : Octets m) (k : Column) (h : id_of m ≡ message_of k) (t : Technology) (n : names (known (set_of m)) t ≡ true) where
  block_there : Roomy (cell k t) 2 (drop (get_or places (technology_id t) 0) m)
  block_there = l.there o k h t (sym (bit_low 4 (set_of m) (technology_id t) (technology_below t)) ∙ n)

  column_is : column_found m places k ≡ column_at k m places
  column_is = rw (eq-eqb (id_of m) (message_of k) h)

  fields_are : of_record (record_at m places) k t ≡ value (cell k t) 2 (drop (get_or places (technology_id t) 0) m)
  fields_are =
      ap (λ (c : StructOf k). fields k c t) (column_in_lem m places k ∙ column_is)
      ∙ fields_make k (λ t. fields_at (cell k t) m (get_or places (technology_id t) 0)) t
      ∙ fields_there (cell k t) m (get_or places (technology_id t) 0) block_there

-- how many octets the lines of a column take
abbrev column_limit : Column → ℕ
column_limit k = section_limit k uwb + (section_limit k cs + (section_limit k nan + section_limit k rssi))

column_limit_lem : (k : Column) → column_limit k ≤ 1944
unfolding section_limit lines_limit
column_limit_lem capabilities = leb-true (column_limit capabilities) 1944 refl
column_limit_lem configurations = leb-true (column_limit configurations) 1944 refl

-- two messages of which the blocks are laid out by a column, or which have no blocks
module _ {l places r others d : List ℕ} {at : ℕ} (h : MessagesReady l places r others at d) (same : id_of l ≡ id_of r) where
  abbrev a : Record
  a = record_at l places

  abbrev b : Record
  b = record_at r others

  abbrev s : ℕ
  s = known (set_of l)

  abbrev u : ℕ
  u = known (set_of r)

  module _ (k : Column) (e : id_of l ≡ message_of k) where
    section_is : (t : Technology) → section_differences a b k t ≡ section_in k s u l places r others t
    unfolding section_in block_at
    section_is t =
        by_bool (names s t)
        (λ y. by_bool (names u t)
        (λ z. rw (y, z, fields_are h.left h.octets.0 k e t y, fields_are h.right h.octets.1 k (sym same ∙ e) t z))
        (λ z. rw (y, z)))
        (λ y. rw y)

    each_is : (ts : List Technology) → flatten (map (section_differences a b k) ts) ≡ flatten (map (section_in k s u l places r others) ts)
    unfolding flatten
    each_is [] = refl
    each_is (t ∷ ts) = rw (section_is t, each_is ts)

    pub sections_ready : {f : List ℕ} {p : ℕ} → p + messages_limit ≤ length f + 360 → SectionsReady k s u l places r others p f
    sections_ready g = record {
      left = λ t y. block_there h.left h.octets.0 k e t (and_true_lem (names s t) (names u t) y).0;
      right = λ t y. block_there h.right h.octets.1 k (sym same ∙ e) t (and_true_lem (names s t) (names u t) y).1;
      room = omega (arith, g, column_limit_lem k);
    }

    with_blocks : read_differences a b ≡ flatten (map (presence_difference s u) technologies) ++ flatten (map (section_in k s u l places r others) technologies)
    unfolding read_differences
    with_blocks = rw (eq-eqb (id_of l) (id_of r) same, column_there (id_of l) k (eq-eqb (id_of l) (message_of k) e)) (ap (λ (x : List Difference). flatten (map (presence_difference s u) technologies) ++ x) (each_is technologies))

  without_blocks_lem : (id_of l ≡ 1 → ⊥) → (id_of l ≡ 2 → ⊥) → read_differences a b ≡ flatten (map (presence_difference s u) technologies)
  unfolding read_differences
  without_blocks_lem x y = rw (eq-eqb (id_of l) (id_of r) same, ap (λ (R : Row). R.column) (other_alone (id_of l) x y)) (append-nil (flatten (map (presence_difference s u) technologies)))

-- ---- laid out

-- unequal IDs
pub put_ids : (n : ℕ) (l places r others : List ℕ) {d e : List ℕ} {at x y q : ℕ} → (id_of l ≡ id_of r → ⊥) → x ≡ id_of l → y ≡ id_of r
    → Put d at (difference_lines n (difference message_id_name (amount x) (amount y))) e q × (q ≤ at + 77 + 0 + 10)
    → Put d at (difference_lines n (read_differences (record_at l places) (record_at r others))) e q × (q ≤ at + messages_limit)
unfolding read_differences
put_ids n l places r others ne ex ey p = rw (ne_eqb (id_of l) (id_of r) ne, ← ex, ← ey) (p.0, omega (arith, p.1))

module _ {l places r others d : List ℕ} {at : ℕ} (h : MessagesReady l places r others at d) (same : id_of l ≡ id_of r) where
  pub put_sectioned : (n : ℕ) {x y p q : ℕ} {e f : List ℕ} (k : Column) → id_of l ≡ message_of k → x ≡ known (set_of l) → y ≡ known (set_of r)
      → Put d at (difference_lines n (flatten (map (presence_difference x y) technologies))) e p × (p ≤ at + 360)
      → Put e p (difference_lines n (flatten (map (section_in k x y l places r others) technologies))) f q × (q ≤ p + column_limit k)
      → Put d at (difference_lines n (read_differences (record_at l places) (record_at r others))) f q × (q ≤ at + messages_limit)
  put_sectioned n {x} {y} k i ex ey a b = (
    rw (with_blocks h same k i, ← ex, ← ey, lines_append n (flatten (map (presence_difference x y) technologies)) (flatten (map (section_in k x y l places r others) technologies))) (put_then a.0 b.0),
    omega (arith, a.1, b.1, column_limit_lem k),
  )

  pub put_plain : (n : ℕ) {x y p : ℕ} {e : List ℕ} → (id_of l ≡ 1 → ⊥) → (id_of l ≡ 2 → ⊥) → x ≡ known (set_of l) → y ≡ known (set_of r)
      → Put d at (difference_lines n (flatten (map (presence_difference x y) technologies))) e p × (p ≤ at + 360)
      → Put d at (difference_lines n (read_differences (record_at l places) (record_at r others))) e p × (p ≤ at + messages_limit)
  put_plain n i j ex ey a = (rw (without_blocks_lem h same i j, ← ex, ← ey) a.0, omega (arith, a.1))
