use Rattle.std.proofs.Common.{refl, arith}
use Rattle.bench_log.proofs.BlockPairs.{is_uwb, is_cs, is_nan, is_rssi}
use Rattle.bench_log.proofs.difference.prefix.Goals as goal

pub returns-in-0 : goal.returns-in-0
returns-in-0 c = rw (is_uwb c.in-0.is) refl

pub returns-in-1 : goal.returns-in-1
returns-in-1 c = rw (is_cs c.in-1.is) refl

pub returns-in-2 : goal.returns-in-2
returns-in-2 c = rw (is_nan c.in-2.is) refl

pub returns-in_default : goal.returns-in_default
returns-in_default c = rw (is_rssi {id = c.args.id} (λ e. omega arith) (λ e. omega arith) (λ e. omega arith)) refl
