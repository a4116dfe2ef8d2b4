use Rattle.bench_log.specs.LogRecord.{records_in}
use Rattle.bench_log.specs.Comparison.{next_lines, next_kinds, position_limit}
use Rattle.bench_log.specs.Inner.Items.{SoFar}
use Rattle.bench_log.specs.Inner.Pairs.{only_on}
use Rattle.std.proofs.Common.{◌+◌, ◌*◌, ◌≤◌, map}
use Rattle.bench_log.proofs.comparison.tell_only.Given as goal

abbrev pub invariant-loop-i : goal.invariant-loop-i
invariant-loop-i l = (l.length ≤ l.initial.length + l.i * position_limit) × SoFar next_lines next_kinds (map (only_on l.side) (records_in l.i l.piece)) l.initial.kinds l.fn.out l.initial.length l.kinds l.out l.length
