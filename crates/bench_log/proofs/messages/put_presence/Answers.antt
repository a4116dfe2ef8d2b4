use Rattle.bench_log.specs.Inner.Differences.{technology_by}
use Rattle.bench_log.proofs.BlockPairs.{prefix_short, id_by}
use Rattle.std.proofs.Common.{arith}
use Rattle.bench_log.proofs.messages.put_presence.Goals as goal

pub put_numbers-requires : goal.put_numbers-requires
put_numbers-requires c = rw c.of_block-heading.ensures.words (omega (arith, c.requires.1, prefix_short (technology_by c.args.id)))

pub returns-clause-text : goal.returns-clause-text
returns-clause-text c =
    rw (id_by c.args.id c.requires.0, ← c.of_block-heading.ensures.words, ← c.of_block-heading.ensures.number, ← c.presence.ensures, ← c.presence-2.ensures) c.put_numbers.ensures.text

pub returns-clause-limit : goal.returns-clause-limit
returns-clause-limit c = omega (arith, rw c.of_block-heading.ensures.words at c.put_numbers.ensures.limit, prefix_short (technology_by c.args.id))
