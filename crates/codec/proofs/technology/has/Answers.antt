use Rattle.codec.proofs.Bits.{bit_above}
use mathlib.Core.Path.{sym}
use borrow.Author.Rules.{rules}
use Rattle.codec.proofs.technology.has.Goals as goal

pub returns : goal.returns
returns c = sym (bit_above 16 c.args.set (search rules) c.args.id c.if-id-lt16.false)
