use Rattle.codec.proofs.Puts.{put_then}
use Rattle.bench_log.specs.Inner.Pairs.{direction_difference}
use Rattle.bench_log.proofs.Differences.{lines_append}
use Rattle.std.proofs.Common.{arith}
use Rattle.bench_log.proofs.pair.put_heads.Goals as goal

pub returns : goal.returns
returns c =
    let e = c.of_record-heading.ensures in
    let p = rw (e.0, e.1, c.from.ensures, c.from-2.ensures) at c.put_numbers-next.ensures in
    let q = rw (e.0, e.1, c.from-3.ensures, c.from-4.ensures, c.refusal.ensures, c.refusal-2.ensures) at c.put_numbers.ensures in
    (rw (lines_append c.args.number (direction_difference _ _) _) (put_then p.text q.text), omega (arith, p.limit, q.limit))
