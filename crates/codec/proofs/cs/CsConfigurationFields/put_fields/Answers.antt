use Rattle.codec.proofs.Puts.{put_then, put_last}
use Rattle.codec.proofs.cs.CsConfigurationFields.put_fields.Goals as goal

pub returns : goal.returns
returns c = put_then c.put-address.ensures (put_last c.put_octets.ensures.0)
