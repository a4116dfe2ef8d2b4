use Rattle.bench_log.specs.LogRecord.{records_in}
use Rattle.bench_log.specs.Listing.{line_limit, next_line, next_totals}
use Rattle.bench_log.specs.Inner.Items.{SoFar}
use Rattle.std.proofs.Common.{◌*◌, ◌≤◌}
use Rattle.bench_log.proofs.listing.list.Given as goal

abbrev pub invariant-loop-i : goal.invariant-loop-i
invariant-loop-i l = (l.length ≤ l.i * line_limit) × SoFar next_line next_totals (records_in l.i l.piece) l.initial.totals l.fn.out 0 l.totals l.out l.length
