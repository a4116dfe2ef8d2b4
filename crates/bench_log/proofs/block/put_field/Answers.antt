use Rattle.std.proofs.Common.{◌≡◌, ◌+◌, ◌-◌, arith}
use Rattle.bench_log.specs.Inner.BlockFields.{field_differences}
use Rattle.bench_log.proofs.block.put_field.Goals as goal

pub returns-in-Number-clause-text : goal.returns-in-Number-clause-text
unfolding field_differences
returns-in-Number-clause-text c = rw (c.in-Number.is, ← c.number_at-x.ensures, ← c.number_at-y.ensures) c.put_numbers.ensures.text

pub returns-in-Octets-clause-text : goal.returns-in-Octets-clause-text
unfolding field_differences
returns-in-Octets-clause-text c =
    let n = c.in-Octets.count in
    let a : c.args.from.left + n - c.args.from.left ≡ n = omega arith in
    let b : c.args.from.right + n - c.args.from.right ≡ n = omega arith in
    rw c.in-Octets.is (rw (a, b) at c.put_strings.ensures.text)

pub put_counted-requires : goal.put_counted-requires
put_counted-requires c = rw c.in-Counted.is at c.requires

pub returns-in-Counted : goal.returns-in-Counted
returns-in-Counted c = rw c.in-Counted.is c.put_counted.ensures
