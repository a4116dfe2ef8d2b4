use Rattle.codec.proofs.Bits.{bit_above}
use mathlib.Core.Path.{sym}
use native.Mathlib.Omega.{arith}
use borrow.Author.Tests.{lt-leb}
use borrow.Author.Rules.{rules}
use Rattle.codec.proofs.technology.has_bit.Goals as goal

pub returns : goal.returns
returns c = (sym (bit_above 32 c.args.bits (search rules) c.args.n c.if-n-lt32.false), rw (lt-leb c.args.n 31 (omega (arith, c.if-n-lt32.false))))
