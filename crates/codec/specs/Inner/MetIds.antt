-- What the walk keeps of the IDs: one number with a bit for each ID met.
use Rattle.std.specs.Prelude.{ℕ, ◌-◌, ◌≡◌, List, ◌↔◌, true}
use Rattle.std.specs.Int.Count.{ones}
use Rattle.codec.specs.Refusal.{Ok}
use Rattle.codec.specs.Technology.{bit}
use Rattle.codec.specs.Blocks.{Column, layouts}
use Rattle.codec.specs.Table.{message_of, row}
use Rattle.codec.specs.Message.{set_of, blocks_at, no_id, Walked, walk}
use Rattle.codec.specs.WellFormed.{Has}

-- The walk over a message's blocks stands at a place. The blocks before it, as many as `met` has bits, are accepted and end there, and
-- the bits of `met` are exactly their IDs.
pub record Met (k : Column) (m : List ℕ) (at met : ℕ) : Type 0 where
  pub walked : Walked
  pub accepted : walk (layouts k) (set_of m) m (ones met) no_id (blocks_at (row (message_of k)).times) ≡ Ok walked
  pub place : walked.end ≡ at
  pub bits : (id : ℕ) → (bit met id ≡ true) ↔ Has id walked.blocks

-- how many blocks are left
abbrev pub blocks_left : List ℕ → ℕ → ℕ
blocks_left m met = ones (set_of m) - ones met
