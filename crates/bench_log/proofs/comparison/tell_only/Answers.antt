use Rattle.bench_log.proofs.Items.{none_told}
use Rattle.bench_log.proofs.Positions.{one_only}
use Rattle.std.proofs.Common.{◌≡◌, arith}
use Rattle.bench_log.proofs.comparison.tell_only.Goals as goal

pub loop-i-init : goal.loop-i-init
loop-i-init c = (omega arith, none_told _ _ _ _ _ (omega arith))

pub loop-i-preserved : goal.loop-i-preserved
loop-i-preserved c = (
  omega (arith, c.put_only-length.ensures.1),
  one_only c.args.side c.args.piece.now c.loop-i.i _ c.loop-i.invariant.1 c.entry_of-e.ensures c.kind-kind.ensures c.put_only-length.ensures.0 c.counted-kinds.ensures,
)

pub returns : goal.returns
returns c = let e : c.loop-i.i ≡ c.args.count = omega arith in
    (rw e at c.loop-i.invariant.1, rw e at c.loop-i.invariant.0)
