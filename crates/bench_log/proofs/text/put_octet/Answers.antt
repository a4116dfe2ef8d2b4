use Rattle.codec.proofs.Puts.{put_then}
use Rattle.bench_log.proofs.text.put_octet.Goals as goal

pub returns : goal.returns
returns c = rw (← c.hex_digit.ensures, ← c.hex_digit-2.ensures) (put_then c.put-low.ensures c.put.ensures)
