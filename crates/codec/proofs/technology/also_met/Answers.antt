use Rattle.codec.proofs.Bits.{bit_more}
use Rattle.codec.proofs.technology.also_met.Goals as goal

pub returns : goal.returns
returns c = bit_more c.args.met c.args.new c.requires
