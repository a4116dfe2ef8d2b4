use Rattle.codec.specs.Technology.{uwb, cs, nan, rssi, technologies}
use Rattle.codec.specs.Inner.Puts.{chain}
use Rattle.codec.specs.Records.{fields}
use Rattle.codec.proofs.Puts.{Room, room_others, in_held, in_room, in_put, put_then, put_last}
use Rattle.codec.proofs.writer.put_blocks.Goals as goal

pub put_block-cs-requires : goal.put_block-cs-requires
put_block-cs-requires g c = let k = g.C.Column.column in
    let x = g.C.Column.kept c.args.c.now in
    let n = c.args.set in
    let all : Room c.args.out.now c.args.at (chain k n (fields k x) technologies) = record { fits = c.requires.0 } in
    (in_room k x n uwb c.uwb.ensures c.has.ensures _ all, in_held k x n uwb c.uwb.ensures c.requires.1)

pub put_block-nan-requires : goal.put_block-nan-requires
put_block-nan-requires g c = let k = g.C.Column.column in
    let x = g.C.Column.kept c.args.c.now in
    let n = c.args.set in
    let all : Room c.args.out.now c.args.at (chain k n (fields k x) technologies) = record { fits = c.requires.0 } in
    let after_uwb = room_others all (in_put k x n uwb c.uwb.ensures c.has.ensures c.put_block-cs.ensures) in
    (in_room k x n cs c.cs.ensures c.has-2.ensures _ after_uwb, in_held k x n cs c.cs.ensures c.requires.1)

pub put_block-rssi-requires : goal.put_block-rssi-requires
put_block-rssi-requires g c = let k = g.C.Column.column in
    let x = g.C.Column.kept c.args.c.now in
    let n = c.args.set in
    let all : Room c.args.out.now c.args.at (chain k n (fields k x) technologies) = record { fits = c.requires.0 } in
    let after_uwb = room_others all (in_put k x n uwb c.uwb.ensures c.has.ensures c.put_block-cs.ensures) in
    let after_cs = room_others after_uwb (in_put k x n cs c.cs.ensures c.has-2.ensures c.put_block-nan.ensures) in
    (in_room k x n nan c.nan.ensures c.has-3.ensures _ after_cs, in_held k x n nan c.nan.ensures c.requires.1)

pub put_block-requires : goal.put_block-requires
put_block-requires g c = let k = g.C.Column.column in
    let x = g.C.Column.kept c.args.c.now in
    let n = c.args.set in
    let all : Room c.args.out.now c.args.at (chain k n (fields k x) technologies) = record { fits = c.requires.0 } in
    let after_uwb = room_others all (in_put k x n uwb c.uwb.ensures c.has.ensures c.put_block-cs.ensures) in
    let after_cs = room_others after_uwb (in_put k x n cs c.cs.ensures c.has-2.ensures c.put_block-nan.ensures) in
    let after_nan = room_others after_cs (in_put k x n nan c.nan.ensures c.has-3.ensures c.put_block-rssi.ensures) in
    (in_room k x n rssi c.rssi.ensures c.has-4.ensures _ after_nan, tt)

pub returns : goal.returns
returns g c = let k = g.C.Column.column in
    let x = g.C.Column.kept c.args.c.now in
    let n = c.args.set in
    put_then (in_put k x n uwb c.uwb.ensures c.has.ensures c.put_block-cs.ensures)
    (put_then (in_put k x n cs c.cs.ensures c.has-2.ensures c.put_block-nan.ensures)
    (put_then (in_put k x n nan c.nan.ensures c.has-3.ensures c.put_block-rssi.ensures)
    (put_last (in_put k x n rssi c.rssi.ensures c.has-4.ensures c.put_block.ensures))))
