use Rattle.bench_log.proofs.Items.{none_told}
use Rattle.bench_log.proofs.Lines.{one_listed, all_listed}
use Rattle.std.proofs.Common.{arith}
use Rattle.bench_log.proofs.listing.list.Goals as goal

pub loop-i-init : goal.loop-i-init
loop-i-init c = (omega arith, none_told _ _ _ _ _ (omega arith))

pub loop-i-preserved : goal.loop-i-preserved
loop-i-preserved c = (omega (arith, c.put_line-length.ensures.1), one_listed c.args.piece.now c.loop-i.i _ c.loop-i.invariant.1 c.entry_of-e.ensures c.counted-totals.ensures c.put_line-length.ensures.0)

pub returns : goal.returns
returns c = all_listed c.args.piece.now c.loop-i.i (omega (arith, c.min-count.ensures)) c.loop-i.invariant.1
