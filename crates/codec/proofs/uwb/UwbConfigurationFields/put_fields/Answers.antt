use native.Mathlib.Omega.{arith}
use Rattle.std.proofs.Common.{rules}
use Rattle.codec.proofs.Pieces.{uwb_written}
use Rattle.codec.proofs.Puts.{put_then}
use Rattle.codec.proofs.uwb.UwbConfigurationFields.put_fields.Goals as goal

pub put_first-country-requires : goal.put_first-country-requires
put_first-country-requires c = (omega arith, (c.requires.1.0, omega (arith, c.requires.0, uwb_written c.args.self.now (search rules) (search rules) (search rules) c.requires.1.0, c.put_octets-session_id.ensures.0.place, c.put_octets-session_id.ensures.0.same, c.put_before_key-key_length.ensures.place, c.put_before_key-key_length.ensures.same, c.put-octets.ensures.place, c.put-octets.ensures.same)))

pub returns : goal.returns
returns c = put_then c.put_octets-session_id.ensures.0 (put_then c.put_before_key-key_length.ensures (put_then c.put-octets.ensures (put_then c.put_first-country.ensures.0 c.put_after_key.ensures.0)))
