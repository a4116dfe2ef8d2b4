use Rattle.codec.proofs.Puts.{put_then}
use Rattle.std.proofs.Common.{arith}
use Rattle.bench_log.proofs.comparison.put_only.Goals as goal

pub returns : goal.returns
returns c = (rw (← c.words.ensures.0) (put_then c.put_number-words.ensures.0 (put_then c.put_text-entry.ensures c.put_entry.ensures.0)), omega (arith, c.words.ensures.1))
