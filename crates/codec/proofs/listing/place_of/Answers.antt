use Rattle.codec.proofs.Listed.{set_room, passes_all, lists_past, lists_message}
use lib.Count.{ones}
use Rattle.codec.specs.Message.{set_of}
use Rattle.codec.proofs.listing.place_of.Goals as goal

pub u16_at-left-requires : goal.u16_at-left-requires
u16_at-left-requires c = set_room _ c.in_ok-first.ensures

pub returns-then-left-n : goal.returns-then-left-n
returns-then-left-n c = lists_message _ c.in_ok-first.ensures c.args.n _ (lists_past c.args.m.now (ones (set_of c.args.m.now)) _ c.args.n (rw c.u16_at-left.ensures at c.if-left-n.true))

pub nth_place-requires : goal.nth_place-requires
nth_place-requires c = (rw c.u16_at-left.ensures (passes_all _ c.in_ok-first.ensures), c.if-left-n.false)

pub returns : goal.returns
returns c = lists_message _ c.in_ok-first.ensures _ _ (rw c.u16_at-left.ensures at c.nth_place.ensures)
