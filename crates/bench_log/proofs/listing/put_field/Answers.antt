use Rattle.codec.proofs.Puts.{put_then}
use Rattle.bench_log.proofs.listing.put_field.Goals as goal

pub returns : goal.returns
returns c = put_then c.put_text-number.ensures c.put_decimal.ensures
