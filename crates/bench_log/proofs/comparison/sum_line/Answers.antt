use Rattle.bench_log.specs.Comparison.{sum_line}
use Rattle.bench_log.proofs.Lines.{lays, lays_none}
use Rattle.bench_log.proofs.Positions.{sum_line_length, put_sum}
use Rattle.std.proofs.Common.{arith}
use Rattle.bench_log.proofs.comparison.sum_line.Goals as goal

pub returns-then-out-pairs_length : goal.returns-then-out-pairs_length
returns-then-out-pairs_length c = let a = c.args in rw c.from.ensures (lays_none (sum_line a.kinds a.left a.right) _ (omega (arith, sum_line_length a.kinds a.left a.right, c.pairs_length.ensures.0, c.rest_length.ensures.0)))

pub returns : goal.returns
returns c = let a = c.args in lays (put_sum a.kinds a.left a.right c.put_pairs-rest.ensures c.put_rest-length.ensures)
