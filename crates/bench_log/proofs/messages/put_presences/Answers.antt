use Rattle.bench_log.specs.Inner.Differences.{presence_difference}
use Rattle.bench_log.proofs.Differences.{put_four}
use Rattle.bench_log.proofs.BlockPairs.{by_zero, by_one, by_two, by_three}
use Rattle.std.proofs.Common.{arith}
use Rattle.bench_log.proofs.messages.put_presences.Goals as goal

pub returns : goal.returns
returns c =
    let p = rw by_zero at c.put_presence-cs.ensures in
    let q = rw by_one at c.put_presence-nan.ensures in
    let r = rw by_two at c.put_presence-rssi.ensures in
    let o = rw by_three at c.put_presence.ensures in
    (put_four _ (presence_difference c.args.left c.args.right) p.text q.text r.text o.text, omega (arith, p.limit, q.limit, r.limit, o.limit))
