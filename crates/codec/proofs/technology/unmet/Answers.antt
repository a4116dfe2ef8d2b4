use Rattle.codec.proofs.Bits.{bit_unmet}
use native.Mathlib.Omega.{arith}
use Rattle.codec.proofs.technology.unmet.Goals as goal

pub returns : goal.returns
returns c = bit_unmet c.args.set c.args.met (omega arith) (omega arith)
