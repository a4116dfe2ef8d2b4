use Rattle.codec.proofs.Puts.{put_then}
use Rattle.codec.proofs.uwb.put_before_key.Goals as goal

pub returns : goal.returns
returns c = put_then c.put_u32-config_id.ensures (put_then c.put-channel.ensures (put_then c.put-preamble_index.ensures (put_then c.put-interval.ensures (put_then c.put_u16-slot.ensures c.put.ensures))))
