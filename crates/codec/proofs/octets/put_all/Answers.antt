use Rattle.codec.proofs.Puts.{put_part}
use Rattle.codec.proofs.octets.put_all.Goals as goal

pub returns : goal.returns
returns c = put_part c.args.out.now c.args.s.now _ c.args.at c.requires c.copy_from_slice.ensures.after
