use Rattle.bench_log.proofs.Decimals.{one_digit, more_digits, few_digits}
use Rattle.bench_log.specs.Text.{decimal}
use Rattle.std.proofs.Common.{◌≡◌, ◌+◌, length, arith, length-append}
use Rattle.bench_log.proofs.text.+decimal_length.Goals as goal

pub returns-then-n-lt10 : goal.returns-then-n-lt10
returns-then-n-lt10 t c = (rw (one_digit c.args.n (omega arith)), omega arith)

pub returns : goal.returns
returns t c = let n = c.args.n in
    let e : c.decimal_length.result + 1 ≡ length (decimal n) = rw (more_digits n (omega arith)) (simp length-append (omega (arith, c.decimal_length.ensures.0))) in
    (e, omega (arith, e, few_digits 19 n (omega arith)))
