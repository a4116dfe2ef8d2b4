use Rattle.codec.proofs.Puts.{put_then}
use Rattle.bench_log.specs.Fields.{amount}
use Rattle.bench_log.proofs.Differences.{put_alike, put_unlike}
use Rattle.std.proofs.Common.{arith, eq-eqb, ne_eqb}
use Rattle.bench_log.proofs.difference.Heading.put_numbers.Goals as goal

pub returns-then-left-right-clause-text : goal.returns-then-left-right-clause-text
returns-then-left-right-clause-text c = put_alike _ (amount _) (amount _) _ _ _ (eq-eqb _ _ (omega arith)) (omega arith)

pub returns-clause-text : goal.returns-clause-text
returns-clause-text c =
    put_unlike _ (amount _) (amount _) c.args.self.technology.now c.args.name.now (ne_eqb _ _ (λ e. omega (arith, e))) c.put_name-first.ensures.text
    (put_then c.put_number-word.ensures.0 (put_then c.put_text-second.ensures (put_then c.put_number-end.ensures.0 c.put.ensures)))
