use Rattle.codec.proofs.Puts.{put_then}
use Rattle.bench_log.proofs.difference.Heading.put_name.Goals as goal

pub returns-clause-text : goal.returns-clause-text
returns-clause-text c = put_then c.put_number-space.ensures.0 (put_then c.put-first.ensures (put_then c.put_text-second.ensures (put_then c.put_text-word.ensures c.put_text.ensures)))
