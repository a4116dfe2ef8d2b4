-- What the functions keep that find the blocks of a message, read at their places and list them.
use Rattle.std.specs.Prelude.{ℕ, ◌+◌, ◌≤◌, ◌≡◌, List, [], ◌∷◌, Bool, true, false, ◌&&◌, not, cond, leb, ltb, eqb, length, get_or, set, drop, replicate}
use Rattle.std.proofs.Math.Option.{Option, none, some}
use Rattle.codec.specs.Octets.{Octets}
use Rattle.codec.specs.Refusal.{Checked, Err, Ok, demand, TooLong, EndsEarly, ReservedId, WrongBlock, BlockTooSmall}
use Rattle.codec.specs.Technology.{Technology, uwb, cs, nan, rssi, technology_id, technologies, bit, known, names}
use Rattle.codec.specs.Layout.{Layout, number, octets, counted, Values, zeroes, value, least, fault}
use Rattle.codec.specs.Blocks.{Column, capabilities, configurations, cell, layouts}
use Rattle.codec.specs.Table.{message_limit, assigned, message_of, Row}
use Rattle.codec.specs.Records.{StructOf, make, blank}
use Rattle.codec.specs.Message.{Walked, walk, id_of, set_of, block_at, reading}
use Rattle.codec.specs.Inner.MetIds.{blocks_left}
use Rattle.codec.specs.declared.records.Configuration.{Configuration}
use Rattle.codec.specs.declared.records.Record.{Record}
use Rattle.codec.specs.declared.records.Heard.{Heard}

-- whether checks refuse, without what they find
abbrev pub verdict : {A : Type 0} → Checked A → Checked (Unit {0})
verdict (Err x) = Err x
verdict (Ok a) = Ok tt

-- whether octets reach past the last field of a block, and what is counted fits its array: as a test, and as what the reading of each
-- field rests on
abbrev pub roomy : Layout → ℕ → List ℕ → Bool
roomy [] at s = leb at (length s)
roomy (number x w t ∷ L) at s = roomy L (at + w) s
roomy (octets x n t ∷ L) at s = roomy L (at + n) s
roomy (counted y x t c ∷ L) at s = leb (get_or s at 0) c && roomy L (at + 1 + get_or s at 0) s

abbrev pub Roomy : Layout → ℕ → List ℕ → Type 0
Roomy [] at s = at ≤ length s
Roomy (number x w t ∷ L) at s = Roomy L (at + w) s
Roomy (octets x n t ∷ L) at s = Roomy L (at + n) s
Roomy (counted y x t c ∷ L) at s = (get_or s at 0 ≤ c) × Roomy L (at + 1 + get_or s at 0) s

-- ---- the head of a message, before its version

abbrev pub head_fault : List ℕ → Checked (Unit {0})
head_fault m =
    demand (leb (length m) message_limit) TooLong
    (demand (leb 2 (length m)) EndsEarly
    (demand (assigned (id_of m)) ReservedId
    (Ok tt)))

-- ---- one block

-- its head: both octets there, and the ID has a bit in the set and was not met
abbrev pub id_fault : ℕ → ℕ → List ℕ → ℕ → Checked (Unit {0})
id_fault set met m at =
    let id = get_or m at 0 in
    demand (leb (at + 2) (length m)) EndsEarly (demand (bit set id && not (bit met id)) WrongBlock (Ok tt))

-- its size, and then what is next
abbrev pub sized : ℕ → List ℕ → ℕ → Checked (Unit {0}) → Checked (Unit {0})
sized least m at next = demand (leb least (get_or m (at + 1) 0)) BlockTooSmall (demand (leb (at + get_or m (at + 1) 0) (length m)) EndsEarly next)

abbrev pub size_fault : ℕ → List ℕ → ℕ → Checked (Unit {0})
size_fault least m at = sized least m at (Ok tt)

-- its size and its fields, by a layout
abbrev pub layout_fault : Layout → List ℕ → ℕ → Checked (Unit {0})
layout_fault L m at = sized (least L 2) m at (fault L 2 (block_at m at))

-- by the layout of its ID
abbrev pub fields_fault : (ℕ → Layout) → List ℕ → ℕ → Checked (Unit {0})
fields_fault layouts m at = layout_fault (layouts (get_or m at 0)) m at

-- ---- five numbers: the place of each known technology's block, and the place after the last block

-- the place of a block that is absent, past the end of every message
abbrev pub no_place : ℕ
no_place = 65535

abbrev pub no_places : List ℕ
no_places = replicate 5 no_place

abbrev pub note : ℕ → ℕ → List ℕ → List ℕ
note id at found = cond (ltb id (length technologies)) (set found id at) found

-- blocks that lie one after the other from a place on
abbrev pub noted : List (List ℕ) → ℕ → List ℕ → List ℕ
noted [] at found = set found 4 at
noted (b ∷ blocks) at found = noted blocks (at + length b) (note (get_or b 0 0) at found)

-- what the walk gives and leaves: the first fault, or the places and the end
abbrev pub Finds : Checked Walked → ℕ → List ℕ → Checked (Unit {0}) → List ℕ → Type 0
Finds (Err x) at found r left = r ≡ Err x
Finds (Ok w) at found r left = (r ≡ Ok tt) × (left ≡ noted w.blocks at found) × (get_or left 4 0 ≡ w.end)

-- of the blocks that are left from a place on, after those whose IDs were met; when none is left, those met are the set
pub record FindsLeft (k : Column) (m : List ℕ) (at met : ℕ) (found : List ℕ) (r : Checked (Unit {0})) (after : List ℕ) : Type 0 where
  pub finds : Finds (walk (layouts k) (set_of m) m (blocks_left m met) (bit met) at) at found r after
  pub all : blocks_left m met ≡ 0 → met ≡ set_of m
  pub size : length after ≡ 5

-- a message that carries a set alone, and one with blocks
abbrev pub set_alone : Row
set_alone = record { times = 1; column = none }

abbrev pub carries_blocks : Option Column → Bool
carries_blocks none = false
carries_blocks (some k) = true

-- the first fault, and the places where there is none and they are kept
pub record Judged (kept : Bool) (c : Checked (List (List ℕ))) (at : ℕ) (found : List ℕ) (r : Checked (Unit {0})) (left : List ℕ) : Type 0 where
  pub judges : r ≡ verdict c
  pub places : kept ≡ true → (blocks : List (List ℕ)) → c ≡ Ok blocks → left ≡ noted blocks at found
  pub size : length left ≡ 5

-- ---- the record that the places give

-- the fields as if a block began at a place; zero where the message ends before them, or a key or name is longer than its array
abbrev pub fields_at : (L : Layout) → List ℕ → ℕ → Values L
fields_at L m at = cond (roomy L 2 (drop at m)) (value L 2 (drop at m)) (zeroes L)

abbrev pub column_at : (k : Column) → List ℕ → List ℕ → StructOf k
column_at k m found = make k (λ t. fields_at (cell k t) m (get_or found (technology_id t) 0))

-- the column of the message's blocks, or zeros
abbrev pub column_found : List ℕ → List ℕ → (k : Column) → StructOf k
column_found m found k = cond (eqb (id_of m) (message_of k)) (column_at k m found) (blank k)

abbrev pub record_at : List ℕ → List ℕ → Record
record_at m found = record {
  id = id_of m;
  set = known (set_of m);
  capability = column_found m found capabilities;
  configuration = column_found m found configurations;
}

-- places that give the record of a message, where each technology that is named has a whole block
pub record Placed (m places : List ℕ) : Type 0 where
  pub four : 4 ≤ length m
  pub reads : reading m ≡ Ok (record_at m places)
  pub there : Octets m → (k : Column) → id_of m ≡ message_of k → (t : Technology) → names (set_of m) t ≡ true
      → Roomy (cell k t) 2 (drop (get_or places (technology_id t) 0) m)

-- what is found in a message: the refusal that its reading is, or such places
abbrev pub Located : List ℕ → Checked (List ℕ) → Type 0
Located m (Err x) = reading m ≡ Err x
Located m (Ok places) = Placed m places

-- ---- what a tag hears of a message: ID and set, and the places of a Configuration's blocks

abbrev pub place_in : Heard → Technology → ℕ
place_in h uwb = h.uwb
place_in h cs = h.cs
place_in h nan = h.nan
place_in h rssi = h.rssi

-- the settings at those places
abbrev pub settings_at : Heard → List ℕ → Configuration
settings_at h m = make configurations (λ t. fields_at (cell configurations t) m (place_in h t))

-- of a message that is read as a record
pub record HearsOf (r : Record) (m : List ℕ) (h : Heard) : Type 0 where
  pub id : h.id ≡ r.id
  pub set : h.set ≡ r.set
  pub settings : h.id ≡ message_of configurations → settings_at h m ≡ r.configuration

-- of a message that is read so, or refused
abbrev pub Hears : Checked Record → List ℕ → Checked Heard → Type 0
Hears (Err x) m h = h ≡ Err x
Hears (Ok r) m (Err x) = ⊥
Hears (Ok r) m (Ok h) = HearsOf r m h
