use Rattle.codec.proofs.Puts.{put_then, put_last}
use Rattle.codec.proofs.uwb.UwbCapabilityFields.put_fields.Goals as goal

pub returns : goal.returns
returns c = put_then c.put_octets-channels.ensures.0 (put_then c.put_sets-interval.ensures (put_then c.put_u16-slot.ensures (put_then c.put-roles.ensures (put_last c.put.ensures))))
