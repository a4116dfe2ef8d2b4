use Rattle.codec.proofs.Puts.{put_then}
use Rattle.bench_log.specs.Comparison.{rest_text}
use Rattle.bench_log.proofs.comparison.put_rest.Goals as goal

pub returns : goal.returns
unfolding rest_text
returns c = put_then c.put_field-only_right.ensures (put_then c.put_field-left_tail.ensures (put_then c.put_field-right_tail.ensures (put_then c.put_field-end.ensures c.put.ensures)))
