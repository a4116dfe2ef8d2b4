use Rattle.codec.proofs.Puts.{put_then}
use Rattle.bench_log.specs.Listing.{line}
use Rattle.std.proofs.Common.{arith}
use Rattle.bench_log.proofs.listing.put_line.Goals as goal

pub returns : goal.returns
unfolding line
returns c = (put_then c.put_number-letter.ensures.0 c.put_entry.ensures.0, omega arith)
