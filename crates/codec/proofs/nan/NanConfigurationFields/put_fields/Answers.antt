use Rattle.codec.proofs.Puts.{put_then, put_last}
use Rattle.codec.proofs.nan.NanConfigurationFields.put_fields.Goals as goal

pub returns : goal.returns
returns c = put_then c.put-octets.ensures (put_then c.put_first-role.ensures.0 (put_then c.put-periodic.ensures (put_last c.put.ensures)))
