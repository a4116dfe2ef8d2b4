use Rattle.bench_log.proofs.Positions.{more_there, more_room, all_compared}
use Rattle.bench_log.specs.LogRecord.{record_size}
use Rattle.bench_log.specs.Comparison.{position_limit}
use Rattle.std.proofs.Common.{◌/◌, length, arith}
use native.Mathlib.Nat.{min-le_right}
use Rattle.bench_log.proofs.comparison.compare.Goals as goal

pub tell_only-requires : goal.tell_only-requires
tell_only-requires c = (
  more_there c.args.right.now _ _ _ c.min-b.ensures (omega (arith, c.min-pairs.ensures, min-le_right c.min-a.result c.min-b.result)),
  omega (
    arith,
    more_room c.min-a.result c.min-b.result (length c.args.out.now) c.min-pairs.ensures (omega (arith, c.min-a.ensures, min-le_right (length c.args.left.now / record_size) (length c.args.out.now / position_limit))) (omega (arith, c.min-b.ensures, min-le_right (length c.args.right.now / record_size) (length c.args.out.now / position_limit))) c.tell_pairs-paired.ensures.1 c.tell_only-told.ensures.1,
    c.tell_pairs-paired.ensures.0.texts.same,
    c.tell_only-told.ensures.0.texts.same,
  ),
)

pub returns : goal.returns
returns c = all_compared c.args.left.now c.args.right.now _ _ _ c.min-a.ensures c.min-b.ensures c.min-pairs.ensures c.tell_pairs-paired.ensures.0 c.tell_only-told.ensures.0 c.tell_only.ensures.0
