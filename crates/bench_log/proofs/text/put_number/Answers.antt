use Rattle.bench_log.proofs.Decimals.{few_digits}
use Rattle.std.proofs.Common.{arith}
use Rattle.bench_log.proofs.text.put_number.Goals as goal

pub put_decimal-requires : goal.put_decimal-requires
put_decimal-requires c = omega (arith, few_digits 19 c.args.n (omega arith))

pub returns : goal.returns
returns c = (c.put_decimal.ensures, omega (arith, few_digits 19 c.args.n (omega arith)))
