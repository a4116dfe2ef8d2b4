-- The comparison of two logs by position: what is said of a pair of records, the lines, and the text for two whole logs.
use Rattle.std.specs.Prelude.{◌≡◌, ℕ, ◌*◌, ◌/◌, ◌%◌, ◌<◌, min, Bool, true, false, cond, ◌&&◌, ◌⊎◌, List, [], ◌∷◌, ◌++◌, map, length, take, drop, ◌==◌}
use Prim.Native.String.{String}
use mathlib.Core.List.{flatten, Memᴰ}
use Rattle.std.proofs.Math.Option.{Option, none, some}
use Rattle.std.specs.Prelude.{Err, Ok}
use Rattle.codec.specs.Refusal.{Checked}
use Rattle.codec.specs.Records.{answer}
use Rattle.codec.specs.NormalForm.{normal}
use Rattle.codec.specs.Writing.{fitting, LaysOut}
use Rattle.codec.specs.declared.records.Record.{Record}
use Rattle.codec.specs.declared.records.Written.{Written}
use Rattle.bench_log.specs.LogRecord.{record_size, records_in, whole_records, reading_of, direction_of, entry_of}
use Rattle.bench_log.specs.Items.{texts_from, how_many, tally, Tells}
use Rattle.bench_log.specs.Text.{ascii, decimal, hexadecimal}
use Rattle.bench_log.specs.Listing.{field, entry_text}
use Rattle.bench_log.specs.Fields.{Contents, amount, string, LogField, message_id_name, fields_of, direction_name, refusal_name}
use Rattle.bench_log.specs.declared.kinds.Kind.{Kind}
use Rattle.bench_log.specs.declared.kinds.Kind.TheVariants.{SameOctets, SameReading, Different, OnlyLeft, OnlyRight}
use Rattle.bench_log.specs.declared.kinds.Kinds.{Kinds}
use Rattle.bench_log.specs.declared.comparison.Compared.{Compared}

abbrev pub same : List ℕ → List ℕ → Bool
same [] [] = true
same [] (y ∷ ys) = false
same (x ∷ xs) [] = false
same (x ∷ xs) (y ∷ ys) = x == y && same xs ys

-- ---- the fields that both have and that differ, in order, with both contents

pub record Difference : Type 0 where
  pub name : List ℕ
  pub left : Contents
  pub right : Contents

abbrev pub alike : Contents → Contents → Bool
alike (amount x) (amount y) = x == y
alike (string x) (string y) = same x y
alike (amount x) (string y) = false
alike (string x) (amount y) = false

-- what a list of fields holds under a name
unfoldable pub contents_in : List LogField → List ℕ → Option Contents
contents_in [] x = none
contents_in (f ∷ fs) x = cond (same f.name x) (some f.contents) (contents_in fs x)

unfoldable pub difference : List ℕ → Contents → Contents → List Difference
difference name x y = cond (alike x y) [] (record { name = name; left = x; right = y } ∷ [])

abbrev pub against : LogField → Option Contents → List Difference
against f none = []
against f (some y) = difference f.name f.contents y

unfoldable pub differing : List LogField → List LogField → List Difference
differing [] gs = []
differing (f ∷ fs) gs = against f (contents_in gs f.name) ++ differing fs gs

-- up to and with the one of this name
unfoldable pub up_to : List ℕ → List Difference → List Difference
up_to x [] = []
up_to x (d ∷ ds) = d ∷ cond (same d.name x) [] (up_to x ds)

-- none after unequal IDs
abbrev pub shown : List ℕ → List ℕ → List Difference
shown l r = up_to message_id_name (differing (fields_of l) (fields_of r))

-- In words: a field is shown with both contents exactly if both records have it, the contents are not equal, and it is one of the first
-- three or the IDs are equal.
abbrev pub first_names : List (List ℕ)
first_names = direction_name ∷ refusal_name ∷ message_id_name ∷ []

pub record Differs (l r : List ℕ) (d : Difference) : Type 0 where
  pub in_left : contents_in (fields_of l) d.name ≡ some d.left
  pub in_right : contents_in (fields_of r) d.name ≡ some d.right
  pub unequal : d.left ≡ d.right → ⊥
  pub reached : Memᴰ d.name first_names ⊎ (contents_in (fields_of l) message_id_name ≡ contents_in (fields_of r) message_id_name)

-- ---- what is said of a pair

-- a refused message has no normal form
abbrev pub normal_form_of : Checked Record → List ℕ
normal_form_of (Err x) = []
normal_form_of (Ok r) = normal r

-- directions, normal forms and refusal numbers are equal
unfoldable pub is_same_reading : List ℕ → List ℕ → Bool
is_same_reading l r =
    (direction_of l == direction_of r)
    && (same (normal_form_of (reading_of l)) (normal_form_of (reading_of r))
    && (answer (reading_of l)).refusal == (answer (reading_of r)).refusal)

-- ---- lines

abbrev pub shown_contents : Contents → List ℕ
shown_contents (amount x) = decimal x
shown_contents (string s) = hexadecimal s

unfoldable pub difference_line : ℕ → Difference → List ℕ
difference_line n d =
    decimal n ++ (ascii " " ++ (d.name
    ++ (ascii ": left " ++ (shown_contents d.left
    ++ (ascii ", right " ++ (shown_contents d.right ++ ascii "\n"))))))

unfoldable pub difference_lines : ℕ → List Difference → List ℕ
difference_lines n ds = flatten (map (difference_line n) ds)

abbrev pub pair_lines : ℕ → List ℕ → List ℕ → List ℕ
pair_lines n l r =
    cond (same l r) (decimal n ++ ascii " same octets\n")
    (cond (is_same_reading l r) (decimal n ++ ascii " same reading\n")
    (difference_lines n (shown l r)))

-- of a record that only one log has: after the number and the words comes what the listing says after the number
abbrev pub only_line : ℕ → String → List ℕ → List ℕ
only_line n words r = decimal n ++ (ascii words ++ entry_text (entry_of r))

-- ---- positions: a pair of records, or a record that only one log has

pub data Position : Type 0 where
  both : (left right : List ℕ) → Position
  only_left only_right : List ℕ → Position

abbrev pub positions : List (List ℕ) → List (List ℕ) → List Position
positions [] [] = []
positions [] (r ∷ rs) = only_right r ∷ positions [] rs
positions (l ∷ ls) [] = only_left l ∷ positions ls []
positions (l ∷ ls) (r ∷ rs) = both l r ∷ positions ls rs

abbrev pub position_lines : ℕ → Position → List ℕ
position_lines n (both l r) = pair_lines n l r
position_lines n (only_left r) = only_line n " only left:" r
position_lines n (only_right r) = only_line n " only right:" r

-- ---- the kind of a position, and how many positions are of each kind

abbrev pub pair_kind : List ℕ → List ℕ → Kind
pair_kind l r = cond (same l r) SameOctets (cond (is_same_reading l r) SameReading Different)

abbrev pub kind_of : Position → Kind
kind_of (both l r) = pair_kind l r
kind_of (only_left r) = OnlyLeft
kind_of (only_right r) = OnlyRight

abbrev pub is_kind : Kind → Kind → Bool
is_kind SameOctets SameOctets = true
is_kind SameReading SameReading = true
is_kind Different Different = true
is_kind OnlyLeft OnlyLeft = true
is_kind OnlyRight OnlyRight = true
is_kind k m = false

abbrev pub is_pair : Kind → Bool
is_pair OnlyLeft = false
is_pair OnlyRight = false
is_pair k = true

abbrev pub kinds : List Position → Kinds
kinds ps = record {
  positions = length ps;
  pairs = how_many (λ p. is_pair (kind_of p)) ps;
  same_octets = how_many (λ p. is_kind SameOctets (kind_of p)) ps;
  same_reading = how_many (λ p. is_kind SameReading (kind_of p)) ps;
  different = how_many (λ p. is_kind Different (kind_of p)) ps;
  only_left = how_many (λ p. is_kind OnlyLeft (kind_of p)) ps;
  only_right = how_many (λ p. is_kind OnlyRight (kind_of p)) ps;
}

-- ---- of two whole logs

-- what the last line says of the pairs
unfoldable pub pairs_text : Kinds → List ℕ
pairs_text k =
    field "pairs " k.pairs
    ++ (field " same octets " k.same_octets
    ++ (field " same reading " k.same_reading
    ++ field " different " k.different))

-- and of the rest: `left` and `right` are the numbers of octets of partial last records, which are left out
unfoldable pub rest_text : Kinds → (left right : ℕ) → List ℕ
rest_text k left right =
    field " only left " k.only_left
    ++ (field " only right " k.only_right
    ++ (field " left tail " left
    ++ (field " right tail " right
    ++ ascii "\n")))

unfoldable pub sum_line : Kinds → (left right : ℕ) → List ℕ
sum_line k left right = pairs_text k ++ rest_text k left right

abbrev pub comparison : (left right : List ℕ) → List ℕ
comparison left right =
    let ps = positions (whole_records left) (whole_records right) in
    texts_from position_lines 0 ps ++ sum_line (kinds ps) (length left % record_size) (length right % record_size)

-- ---- piece by piece

abbrev pub no_positions : Kinds
no_positions = record { positions = 0; pairs = 0; same_octets = 0; same_reading = 0; different = 0; only_left = 0; only_right = 0 }

-- with one position of this kind more
unfoldable pub counted : Kinds → Kind → Kinds
counted k kind = record {
  positions = tally true k.positions;
  pairs = tally (is_pair kind) k.pairs;
  same_octets = tally (is_kind SameOctets kind) k.same_octets;
  same_reading = tally (is_kind SameReading kind) k.same_reading;
  different = tally (is_kind Different kind) k.different;
  only_left = tally (is_kind OnlyLeft kind) k.only_left;
  only_right = tally (is_kind OnlyRight kind) k.only_right;
}

-- the lines of the position that comes after those that are counted, and the counters with it
abbrev pub next_lines : Kinds → Position → List ℕ
next_lines k p = position_lines k.positions p

abbrev pub next_kinds : Kinds → Position → Kinds
next_kinds k p = counted k (kind_of p)

-- the lines of no position take more octets
abbrev pub position_limit : ℕ
position_limit = 2560

-- the records of a piece that are told: all, or as many as the buffer has room for
abbrev pub tellable : (piece d : List ℕ) → ℕ
tellable piece d = min (length piece / record_size) (length d / position_limit)

-- what comparing two pieces does
abbrev pub Compares : (left right : List ℕ) → Kinds → List ℕ → Compared → List ℕ → Type 0
Compares left right k d r e =
    Tells next_lines next_kinds (positions (records_in (tellable left d) left) (records_in (tellable right d) right)) k d r.kinds r.length e

-- what is left of a log that begins with a piece
abbrev pub left_of : (piece rest d : List ℕ) → List ℕ
left_of piece rest d = drop (tellable piece d * record_size) piece ++ rest

-- Calls that compare what is left of two logs, from some counters on, and what they lay out, in order: `compare` on any pieces of both, if
-- the log of which fewer records are told has no more; or, where less than a record is left of both, `sum_line` in a buffer that has
-- room for it.
pub data Run : Kinds → (left right text : List ℕ) → Type 0 where
  pieces : {k : Kinds} {text d e : List ℕ} (p q l r : List ℕ) (c : Compared) → Compares p q k d c e
      → (tellable p d < tellable q d → length (left_of p l d) < record_size) → (tellable q d < tellable p d → length (left_of q r d) < record_size)
      → Run c.kinds (left_of p l d) (left_of q r d) text → Run k (p ++ l) (q ++ r) (take c.length e ++ text)
  end : {k : Kinds} {l r d e : List ℕ} {a : Written} → length l < record_size → length r < record_size
      → LaysOut (fitting (sum_line k (length l) (length r)) (length d)) d a e → a.refusal ≡ 0 → Run k l r (take a.length e)
