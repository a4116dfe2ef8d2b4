use Rattle.bench_log.proofs.Entries.{apart}
use Rattle.bench_log.proofs.RecordPairs.{sees_broken, sees_found}
use Rattle.codec.specs.Table.{message_limit}
use Rattle.std.proofs.Common.{arith}
use Rattle.bench_log.proofs.pair.Seen.of.Goals as goal

pub returns-in-Err : goal.returns-in-Err
returns-in-Err c = sees_broken _ _ c.in-Err.ensures

pub overflow_add-parts : goal.overflow_add-parts
overflow_add-parts c = omega (arith, (apart message_limit _ _ c.in-Ok.ensures).fits)

pub slice_bounds-find-end : goal.slice_bounds-find-end
slice_bounds-find-end c = let w = apart message_limit _ _ c.in-Ok.ensures in omega (arith, w.fits, w.size)

pub returns-in-Ok : goal.returns-in-Ok
returns-in-Ok c = sees_found _ _ c.in-Ok.ensures _ c.find.ensures
