use Rattle.codec.proofs.Puts.{put_then}
use Rattle.codec.proofs.uwb.put_sets.Goals as goal

pub returns : goal.returns
returns c = put_then c.put_u32-preamble_indexes.ensures (put_then c.put_u32-config_ids.ensures c.put_u32.ensures)
