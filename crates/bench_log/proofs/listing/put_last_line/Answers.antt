use Rattle.codec.proofs.Puts.{put_then}
use Rattle.bench_log.specs.Listing.{last_line}
use Rattle.bench_log.proofs.listing.put_last_line.Goals as goal

pub returns : goal.returns
unfolding last_line
returns c = put_then c.put_field-accepted.ensures (put_then c.put_field-refused.ensures (put_then c.put_field-partial.ensures (put_then c.put_field-end.ensures c.put.ensures)))
