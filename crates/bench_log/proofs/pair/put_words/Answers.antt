use Rattle.codec.proofs.Puts.{put_then}
use Rattle.std.proofs.Common.{arith}
use Rattle.bench_log.proofs.pair.put_words.Goals as goal

pub returns : goal.returns
returns c = (put_then c.put_number-next.ensures.0 c.put_text.ensures, omega arith)
