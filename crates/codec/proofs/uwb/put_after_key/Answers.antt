use Rattle.codec.proofs.Puts.{put_then, put_last}
use Rattle.codec.proofs.uwb.put_after_key.Goals as goal

pub returns : goal.returns
returns c = (put_then c.put_octets-role.ensures.0 (put_then c.put-mode.ensures (put_last c.put.ensures)), c.put_octets-role.ensures.1)
