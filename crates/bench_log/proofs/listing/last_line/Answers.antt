use Rattle.bench_log.proofs.Lines.{lays}
use Rattle.bench_log.proofs.listing.last_line.Goals as goal

pub returns : goal.returns
returns c = lays c.put_last_line-length.ensures
