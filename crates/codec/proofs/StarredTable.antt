-- The starred messages of 01: one statement over the table, of what `read` returns by its contract.
use Prim.Native.Nat.{ℕ}
use mathlib.Core.Path.{refl}
use lib.Count.{ones}
use Rattle.codec.specs.Layout.{member, inside}
use Rattle.codec.specs.Table.{assigned, readable}
use Rattle.codec.specs.Message.{block_fault, walk, end_fault, blocks_from, after_head, body, parse, reading}
use Rattle.codec.specs.WellFormed.{Each}
use Rattle.codec.specs.Starred.{starred, Right}

pub starred_right : (a b c d e f : ℕ) → Each Right (starred a b c d e f)
unfolding reading parse body after_head blocks_from walk block_fault end_fault assigned readable member inside ones
starred_right a b c d e f = (refl, (refl, (refl, (refl, (refl, (refl, (refl, (refl, (refl, (refl, (refl, (refl, (refl, (refl, (refl, tt)))))))))))))))
