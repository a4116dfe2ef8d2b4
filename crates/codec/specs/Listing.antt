-- The blocks of a message one by one, for diagnosis: place, ID and size.
use Rattle.std.specs.Prelude.{ℕ, zero, suc, ◌+◌, List, [], ◌∷◌, length, get_or}
use Rattle.codec.specs.Refusal.{Checked, Err, Ok}
use Rattle.codec.specs.Table.{row}
use Rattle.codec.specs.Message.{id_of, blocks_at, parse}
use Rattle.codec.specs.declared.records.Block.{Block}

-- no block stands at place 0
abbrev pub no_block : Block
no_block = record { place = 0; id = 0; size = 0 }

-- the n-th, from 0, of blocks that lie one after the other from a place on
abbrev pub nth_from : List (List ℕ) → ℕ → ℕ → Block
nth_from [] at n = no_block
nth_from (b ∷ blocks) at zero = record { place = at; id = get_or b 0 0; size = length b }
nth_from (b ∷ blocks) at (suc n) = nth_from blocks (at + length b) n

-- of the blocks that checks accept; none where they refuse
abbrev pub listed : Checked (List (List ℕ)) → ℕ → ℕ → Block
listed (Err x) at n = no_block
listed (Ok blocks) at n = nth_from blocks at n

-- of a message: none if the reader refuses it, or if it carries no blocks
unfoldable pub nth_block : List ℕ → ℕ → Block
nth_block m n = listed (parse m) (blocks_at (row (id_of m)).times) n
