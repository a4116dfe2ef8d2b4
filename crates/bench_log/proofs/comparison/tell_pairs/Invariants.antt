use Rattle.bench_log.specs.LogRecord.{records_in}
use Rattle.bench_log.specs.Comparison.{positions, next_lines, next_kinds, position_limit}
use Rattle.bench_log.specs.Inner.Items.{SoFar}
use Rattle.std.proofs.Common.{◌*◌, ◌≤◌}
use Rattle.bench_log.proofs.comparison.tell_pairs.Given as goal

abbrev pub invariant-loop-i : goal.invariant-loop-i
invariant-loop-i l = (l.length ≤ l.i * position_limit) × SoFar next_lines next_kinds (positions (records_in l.i l.left) (records_in l.i l.right)) l.initial.kinds l.fn.out 0 l.kinds l.out l.length
