use Rattle.codec.proofs.Puts.{put_then}
use Rattle.bench_log.proofs.Decimals.{few_digits}
use Rattle.std.proofs.Common.{arith}
use Rattle.bench_log.proofs.listing.put_verdict.Goals as goal

pub put_decimal-set-requires : goal.put_decimal-set-requires
put_decimal-set-requires c = omega (arith, few_digits 2 c.from.result (omega arith))

pub put_field-requires : goal.put_field-requires
put_field-requires c = omega (arith, few_digits 2 c.from.result (omega arith), few_digits 4 c.from-in-Ok.result (omega arith))

pub put_field-requires-in-Err : goal.put_field-requires-in-Err
put_field-requires-in-Err c = omega (arith, few_digits 2 c.from-in-Err-2.result (omega arith))

pub returns-in-Ok : goal.returns-in-Ok
returns-in-Ok c = rw (c.in-Ok.is, ← c.from.ensures, ← c.from-in-Ok.ensures) (put_then c.put_decimal-set.ensures c.put_field.ensures, omega (arith, few_digits 2 c.from.result (omega arith), few_digits 4 c.from-in-Ok.result (omega arith)))

pub returns-in-Err : goal.returns-in-Err
returns-in-Err c = rw (c.in-Err.is, ← c.from-in-Err.ensures, ← c.from-in-Err-2.ensures) (c.put_field-in-Err.ensures, omega (arith, few_digits 2 c.from-in-Err-2.result (omega arith)))
