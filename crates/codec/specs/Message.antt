-- Messages: the head, the blocks, the end of the message, and the order of checks.
use Rattle.std.specs.Prelude.{ℕ, zero, suc, ◌+◌, ◌*◌, ◌≡◌, List, [], ◌∷◌, Bool, true, false, ◌&&◌, ◌||◌, not, cond, leb, ltb, eqb, length, get_or}
use Rattle.codec.specs.Octets.{Octets, part, of_le}
use Rattle.codec.specs.Refusal.{Checked, Ok, demand, and_then, TooLong, EndsEarly, ReservedId, WrongVersion, SetsDiffer, BlockTooSmall, WrongBlock, LeftOver}
use Rattle.codec.specs.Technology.{technology_id, bit, known, names}
use Rattle.codec.specs.Layout.{Layout, Values, zeroes, value, least, fault}
use Rattle.codec.specs.Blocks.{cell}
use Rattle.codec.specs.Table.{message_limit, assigned, readable, Row, row, block_count, layouts_of, set_in}
use Rattle.codec.specs.Records.{to_record, answer}
use Rattle.codec.specs.declared.records.Record.{Record}
use Rattle.codec.specs.declared.records.Reading.{Reading}

-- ---- the head

abbrev pub version_of : List ℕ → ℕ
version_of m = get_or m 0 0

abbrev pub id_of : List ℕ → ℕ
id_of m = get_or m 1 0

-- ---- the set, which comes so many times

abbrev pub set_of : List ℕ → ℕ
set_of m = of_le 2 2 m

-- each further one is the first, on all 16 bits
abbrev pub sets_agree : ℕ → List ℕ → Bool
sets_agree zero m = true
sets_agree (suc zero) m = true
sets_agree (suc (suc n)) m = sets_agree (suc n) m && eqb (set_of m) (of_le 2 (2 + 2 * suc n) m)

-- the place after the sets, where the blocks start
abbrev pub blocks_at : ℕ → ℕ
blocks_at times = 2 + 2 * times

-- ---- a block starts with its ID and its size, the size counting these two octets

abbrev pub block_at : List ℕ → ℕ → List ℕ
block_at m at = part at (get_or m (at + 1) 0) m

-- the place after it, by its size
abbrev pub place_after : List ℕ → ℕ → ℕ
place_after m at = at + get_or m (at + 1) 0

-- which IDs came before
abbrev pub no_id : ℕ → Bool
no_id id = false

abbrev pub also : ℕ → (ℕ → Bool) → ℕ → Bool
also new came id = eqb id new || came id

-- the blocks as they lie, and the place after the last
pub record Walked : Type 0 where
  pub blocks : List (List ℕ)
  pub end : ℕ

abbrev pub prepend : List ℕ → Walked → Walked
prepend b w = record { blocks = b ∷ w.blocks; end = w.end }

module _ (layouts : ℕ → Layout) (set : ℕ) (m : List ℕ) where
  -- In a block: both head octets there, ID, size, block whole, fields in order. `came` tells which IDs came before.
  -- A block with ID 4 to 15 has the empty layout, so that it is passed over by its size.
  unfoldable pub block_fault : (ℕ → Bool) → ℕ → Checked (Unit {0})
  block_fault came at =
      let id = get_or m at 0 in
      let size = get_or m (at + 1) 0 in
      demand (leb (at + 2) (length m)) EndsEarly
      (demand (bit set id && not (came id)) WrongBlock
      (demand (leb (least (layouts id) 2) size) BlockTooSmall
      (demand (leb (at + size) (length m)) EndsEarly
      (fault (layouts id) 2 (block_at m at)))))

  -- n blocks from a place on
  unfoldable pub walk : ℕ → (ℕ → Bool) → ℕ → Checked Walked
  walk zero came at = Ok (record { blocks = []; end = at })
  walk (suc n) came at =
      and_then (block_fault came at) λ _.
      and_then (walk n (also (get_or m at 0) came) (place_after m at)) λ w.
      Ok (prepend (block_at m at) w)

-- End of the message: version 1 allows no octet more. In the versions above it octets after the known part are ignored.
unfoldable pub end_fault : List ℕ → ℕ → Checked (Unit {0})
end_fault m end = demand (not (eqb (version_of m) 1 && ltb end (length m))) LeftOver (Ok tt)

-- n blocks from a place on, and after the last the rule for the end of the message
unfoldable pub blocks_from : (ℕ → Layout) → List ℕ → ℕ → ℕ → Checked (List (List ℕ))
blocks_from layouts m n at =
    and_then (walk layouts (set_of m) m n no_id at) λ w.
    and_then (end_fault m w.end) λ _.
    Ok w.blocks

-- ---- the order of checks: the blocks of a message that none of them refuses

-- what follows the head
unfoldable pub after_head : Row → List ℕ → Checked (List (List ℕ))
after_head R m =
    demand (leb (blocks_at R.times) (length m)) EndsEarly
    (demand (sets_agree R.times m) SetsDiffer
    (blocks_from (layouts_of R.column) m (block_count R.column (set_of m)) (blocks_at R.times)))

-- the version, then what follows the head
unfoldable pub body : List ℕ → Checked (List (List ℕ))
body m = demand (readable (version_of m) (id_of m)) WrongVersion (after_head (row (id_of m)) m)

unfoldable pub parse : List ℕ → Checked (List (List ℕ))
parse m =
    demand (leb (length m) message_limit) TooLong
    (demand (leb 2 (length m)) EndsEarly
    (demand (assigned (id_of m)) ReservedId
    (body m)))

-- ---- the record

-- the fields of the block with this ID, zero where there is none
abbrev pub fields_in : (L : Layout) → ℕ → List (List ℕ) → Values L
fields_in L id [] = zeroes L
fields_in L id (b ∷ blocks) = cond (eqb (get_or b 0 0) id) (value L 2 b) (fields_in L id blocks)

-- zero in the other column, and for a technology that the set does not name; of one that it names, an accepted message has a block
abbrev pub record_of : (id set : ℕ) → List (List ℕ) → Record
record_of id set blocks = to_record id (known set) (λ k t. cond (names (set_in id set k) t) (fields_in (cell k t) (technology_id t) blocks) (zeroes (cell k t)))

unfoldable pub reading : List ℕ → Checked Record
reading m = and_then (parse m) λ blocks. Ok (record_of (id_of m) (set_of m) blocks)

-- the contract of `read`: m is octets, as its type ensures, and the answer is that of `reading`
pub record Reads (m : List ℕ) (a : Reading) : Type 0 where
  pub octets : Octets m
  pub answers : a ≡ answer (reading m)
