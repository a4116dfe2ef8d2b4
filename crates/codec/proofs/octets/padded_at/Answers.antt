use Rattle.codec.proofs.Laws.{copied}
use Rattle.codec.proofs.octets.padded_at.Goals as goal

pub returns : goal.returns
returns g c = copied c.args.s.now _ c.args.at c.args.n _ c.copy_from_slice.ensures.after
