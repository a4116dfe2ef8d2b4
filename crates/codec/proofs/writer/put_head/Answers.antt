use Rattle.codec.proofs.Puts.{put_then}
use Rattle.codec.proofs.writer.put_head.Goals as goal

pub returns : goal.returns
returns c = put_then c.put-next.ensures (put_then c.put-first.ensures c.put_u16.ensures)
