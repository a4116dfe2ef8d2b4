use Rattle.codec.proofs.Puts.{put_then}
use Rattle.bench_log.proofs.Lines.{letter_length}
use Rattle.std.proofs.Common.{arith}
use Rattle.bench_log.proofs.listing.put_entry.Goals as goal

pub put_verdict-end-requires : goal.put_verdict-end-requires
put_verdict-end-requires c = omega (arith, letter_length c.args.e.direction)

pub put-requires : goal.put-requires
put-requires c = omega (arith, letter_length c.args.e.direction, c.put_verdict-end.ensures.1)

pub returns : goal.returns
returns c = (put_then c.put_letter-verdict.ensures (put_then c.put_verdict-end.ensures.0 c.put.ensures), omega (arith, letter_length c.args.e.direction, c.put_verdict-end.ensures.1))
