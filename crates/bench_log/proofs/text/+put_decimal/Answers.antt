use Rattle.codec.proofs.Puts.{put_then}
use Rattle.bench_log.proofs.Decimals.{one_digit, more_digits}
use Rattle.std.proofs.Common.{length, ap, arith, length-append}
use Rattle.bench_log.proofs.text.+put_decimal.Goals as goal

pub put-requires : goal.put-requires
put-requires t c = omega (arith, c.requires, ap length (one_digit c.args.n (omega arith)))

pub returns-then-n-lt10 : goal.returns-then-n-lt10
returns-then-n-lt10 t c = rw (one_digit c.args.n (omega arith)) c.put.ensures

pub put_decimal-last-requires : goal.put_decimal-last-requires
put_decimal-last-requires t c = let e = simp length-append at (ap length (more_digits c.args.n (omega arith))) in
    (omega (arith, c.requires), omega (arith, c.requires))

pub put-requires-2 : goal.put-requires-2
put-requires-2 t c = let e = simp length-append at (ap length (more_digits c.args.n (omega arith))) in
    omega (arith, c.requires, c.put_decimal-last.ensures.place, c.put_decimal-last.ensures.same)

pub returns : goal.returns
returns t c = rw (more_digits c.args.n (omega arith)) (put_then c.put_decimal-last.ensures c.put-2.ensures)
