-- What differs in two accepted messages with the same ID, and what the code that lays it out needs.
use Rattle.std.specs.Prelude.{◌≡◌, ℕ, ◌+◌, ◌*◌, ◌≤◌, true, cond, ◌&&◌, List, [], ◌∷◌, ◌++◌, map, length, take, drop, ◌==◌, slice_index}
use mathlib.Core.List.{flatten}
use Rattle.std.proofs.Math.Option.{Option, none, some}
use Rattle.codec.specs.Octets.{Octets}
use Rattle.codec.specs.Technology.{Technology, uwb, cs, nan, rssi, technology_id, technologies, names, in_both}
use Rattle.codec.specs.Layout.{Layout, number, octets, counted, Values, value}
use Rattle.codec.specs.Blocks.{Column, capabilities, configurations, cell}
use Rattle.codec.specs.Records.{of_record}
use Rattle.codec.specs.Table.{row}
use Rattle.codec.specs.Inner.Places.{Roomy, Placed}
use Rattle.codec.specs.declared.records.Record.{Record}
use Rattle.bench_log.specs.Text.{ascii}
use Rattle.bench_log.specs.Fields.{amount, string, prefix, message_id_name, presence}
use Rattle.bench_log.specs.Comparison.{Difference, difference}
use Rattle.bench_log.specs.declared.block.Column.{Column as CodeColumn}
use Rattle.bench_log.specs.declared.block.Column.TheVariants.{Capabilities, Configurations}

-- the fields of two blocks that differ
abbrev pub block_differences : List ℕ → (L : Layout) → Values L → Values L → List Difference
block_differences p [] v w = []
block_differences p (number x n t ∷ L) v w = difference (p ++ ascii x) (amount v.0) (amount w.0) ++ block_differences p L v.1 w.1
block_differences p (octets x n t ∷ L) v w = difference (p ++ ascii x) (string v.0) (string w.0) ++ block_differences p L v.1 w.1
block_differences p (counted y x t c ∷ L) v w =
    difference (p ++ ascii y) (amount v.0) (amount w.0)
    ++ (difference (p ++ ascii x) (string (take v.0 v.1.0)) (string (take w.0 w.1.0))
    ++ block_differences p L v.1.1 w.1.1)

-- the presence of a technology in two sets
abbrev pub presence_difference : ℕ → ℕ → Technology → List Difference
presence_difference s u t = difference (presence s t).name (presence s t).contents (presence u t).contents

module _ (a b : Record) where
  -- the fields of blocks that both have and that differ
  abbrev pub section_differences : Column → Technology → List Difference
  section_differences k t = cond (names a.set t && names b.set t) (block_differences (prefix t) (cell k t) (of_record a k t) (of_record b k t)) []

  abbrev pub column_differences : Option Column → List Difference
  column_differences none = []
  column_differences (some k) = flatten (map (section_differences k) technologies)

  -- what differs after the ID
  abbrev pub message_differences : Option Column → List Difference
  message_differences c = flatten (map (presence_difference a.set b.set) technologies) ++ column_differences c

-- ---- as the code takes it

abbrev pub column_by : CodeColumn → Column
column_by Capabilities = capabilities
column_by Configurations = configurations

unfoldable pub technology_by : (id : ℕ) → Technology
technology_by id = cond (id == 0) uwb (cond (id == 1) cs (cond (id == 2) nan rssi))

-- what differs in two blocks of a technology, of which the lines take at most so many octets
unfoldable pub block_at : Column → Technology → List ℕ → List ℕ → List Difference
block_at k t l r = block_differences (prefix t) (cell k t) (value (cell k t) 2 l) (value (cell k t) 2 r)

unfoldable pub lines_limit : Layout → ℕ
lines_limit [] = 0
lines_limit (number x w t ∷ L) = 82 + length (ascii x) + lines_limit L
lines_limit (octets x n t ∷ L) = 42 + 4 * n + length (ascii x) + lines_limit L
lines_limit (counted x y t c ∷ L) = 82 + length (ascii x) + (42 + 4 * c + length (ascii y)) + lines_limit L

unfoldable pub section_limit : Column → Technology → ℕ
section_limit k t = lines_limit (cell k t)

pub record BlockReady (k : Column) (t : Technology) (l r : List ℕ) (at : ℕ) (d : List ℕ) : Type 0 where
  pub left : Roomy (cell k t) 2 l
  pub right : Roomy (cell k t) 2 r
  pub room : at + section_limit k t ≤ length d

-- the same at places of two messages, if it is in both of their sets
unfoldable pub section_in : Column → (setLeft setRight : ℕ) → List ℕ → List ℕ → List ℕ → List ℕ → Technology → List Difference
section_in k s u l places r others t = cond (in_both s u t) (block_at k t (drop (slice_index places (technology_id t)) l) (drop (slice_index others (technology_id t)) r)) []

abbrev pub SectionThere : Column → Technology → (setLeft setRight : ℕ) → List ℕ → List ℕ → Type 0
SectionThere k t s u m places = in_both s u t ≡ true → Roomy (cell k t) 2 (drop (slice_index places (technology_id t)) m)

pub record SectionReady (k : Column) (t : Technology) (s u : ℕ) (l places r others : List ℕ) (at : ℕ) (d : List ℕ) : Type 0 where
  pub left : SectionThere k t s u l places
  pub right : SectionThere k t s u r others
  pub room : at + section_limit k t ≤ length d

pub record SectionsReady (k : Column) (s u : ℕ) (l places r others : List ℕ) (at : ℕ) (d : List ℕ) : Type 0 where
  pub left : (t : Technology) → SectionThere k t s u l places
  pub right : (t : Technology) → SectionThere k t s u r others
  pub room : at + (section_limit k uwb + (section_limit k cs + (section_limit k nan + section_limit k rssi))) ≤ length d

-- ---- two accepted messages, with the places of their blocks

-- the ID is compared first
unfoldable pub read_differences : Record → Record → List Difference
read_differences a b = cond (a.id == b.id) (message_differences a b (row a.id).column) (difference message_id_name (amount a.id) (amount b.id))

-- their lines take at most so many octets
abbrev pub messages_limit : ℕ
messages_limit = 2304

pub record MessagesReady (l places r others : List ℕ) (at : ℕ) (d : List ℕ) : Type 0 where
  pub left : Placed l places
  pub right : Placed r others
  pub octets : Octets l × Octets r
  pub room : at + messages_limit ≤ length d
