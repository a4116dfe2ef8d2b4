use Rattle.codec.proofs.Puts.{put_then, put_last}
use Rattle.codec.proofs.nan.NanCapabilityFields.put_fields.Goals as goal

pub returns : goal.returns
returns c = put_then c.put-periodic.ensures (put_then c.put-bandwidth.ensures (put_then c.put-chains.ensures (put_last c.put.ensures)))
