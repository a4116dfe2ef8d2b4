-- What the functions keep that list the blocks of a message: a place, and how many blocks are left from it on.
use Rattle.std.specs.Prelude.{ℕ, ◌+◌, ◌≤◌, ◌≡◌, List, Bool, length, get_or, Option, Some, None, IfSome}
use Rattle.std.specs.Int.Count.{ones}
use Rattle.codec.specs.Refusal.{Ok}
use Rattle.codec.specs.Layout.{Layout}
use Rattle.codec.specs.Table.{row, block_count}
use Rattle.codec.specs.Message.{Walked, walk, id_of, set_of, blocks_at, parse}
use Rattle.codec.specs.Listing.{no_block, nth_from, nth_block}
use Rattle.codec.specs.declared.records.Block.{Block}

-- the block at a place, or none
abbrev pub listed_at : List ℕ → Option ℕ → Block
listed_at m None = no_block
listed_at m (Some at) = record { place = at; id = get_or m at 0; size = get_or m (at + 1) 0 }

-- a place, if any, has a block's two head octets
abbrev pub Heads : List ℕ → Option ℕ → Type 0
Heads m place = IfSome place λ at. at + 2 ≤ length m

-- the walk passes over as many blocks
pub record Passes (m : List ℕ) (left at : ℕ) : Type 0 where
  pub layouts : ℕ → Layout
  pub set : ℕ
  pub came : ℕ → Bool
  pub walked : Walked
  pub accepted : walk layouts set m left came at ≡ Ok walked

-- the place of the n-th of them
pub record NthPlace (m : List ℕ) (left at n : ℕ) (r : Option ℕ) : Type 0 where
  pub heads : Heads m r
  pub lists : (p : Passes m left at) → listed_at m r ≡ nth_from p.walked.blocks at n

-- the place of the first block of a message with blocks that is not refused; of other messages none is listed
pub record StartsAt (m : List ℕ) (at : ℕ) : Type 0 where
  pub blocks : List (List ℕ)
  pub accepted : parse m ≡ Ok blocks
  pub place : at ≡ blocks_at (row (id_of m)).times
  pub count : block_count (row (id_of m)).column (set_of m) ≡ ones (set_of m)

abbrev pub Starts : List ℕ → Option ℕ → Type 0
Starts m None = (n : ℕ) → no_block ≡ nth_block m n
Starts m (Some at) = StartsAt m at

-- the place of the n-th block of a message
pub record Lists (m : List ℕ) (n : ℕ) (r : Option ℕ) : Type 0 where
  pub heads : Heads m r
  pub lists : listed_at m r ≡ nth_block m n
