use Rattle.std.proofs.Common.{◌≡◌, ◌+◌, ◌-◌, arith, get_or}
use Rattle.codec.proofs.Puts.{put_then}
use Rattle.bench_log.specs.Comparison.{difference}
use Rattle.bench_log.specs.Fields.{amount}
use Rattle.bench_log.specs.Inner.BlockFields.{field_differences}
use Rattle.bench_log.proofs.Differences.{lines_append}
use Rattle.bench_log.proofs.block.put_counted.Goals as goal

pub returns-clause-text : goal.returns-clause-text
unfolding field_differences
returns-clause-text c =
    let s = c.args in
    let m = get_or s.left.now s.from.left 0 in
    let n = get_or s.right.now s.from.right 0 in
    let a : s.from.left + 1 + m - (s.from.left + 1) ≡ m = omega arith in
    let b : s.from.right + 1 + n - (s.from.right + 1) ≡ n = omega arith in
    rw (lines_append s.heading.number (difference _ (amount m) (amount n)) _)
    (put_then (rw (c.from.ensures, c.from-2.ensures) at c.put_numbers-next.ensures.text) (rw (c.from-3.ensures, c.from-4.ensures, a, b) at c.put_strings.ensures.text))
