use Rattle.codec.proofs.Puts.{put_then}
use Rattle.bench_log.specs.Comparison.{pairs_text}
use Rattle.bench_log.proofs.comparison.put_pairs.Goals as goal

pub returns : goal.returns
unfolding pairs_text
returns c = put_then c.put_field-octets.ensures (put_then c.put_field-reading.ensures (put_then c.put_field-different.ensures c.put_field.ensures))
