use Rattle.std.proofs.Common.{arith, take_all}
use Rattle.codec.proofs.Puts.{put_none}
use Rattle.bench_log.proofs.Differences.{put_next_octet}
use Rattle.bench_log.proofs.text.put_hexadecimal.Goals as goal

pub loop-octet-init : goal.loop-octet-init
loop-octet-init c = (omega arith, put_none _ _ (omega arith))

pub loop-octet-preserved : goal.loop-octet-preserved
loop-octet-preserved c = (omega arith, put_next_octet c.loop-octet.octet-index c.args.octets.now (omega arith) c.loop-octet.invariant.1 c.put_octet-next.ensures)

pub returns : goal.returns
returns c = (rw (← take_all c.loop-octet.octet-index c.args.octets.now (omega arith)) c.loop-octet.invariant.1, omega arith)
