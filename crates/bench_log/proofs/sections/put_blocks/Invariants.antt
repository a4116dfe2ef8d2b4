use Rattle.codec.specs.Blocks.{cell}
use Rattle.bench_log.specs.Inner.Differences.{column_by, technology_by}
use Rattle.bench_log.proofs.BlockPairs.{Walking}
use Rattle.std.proofs.Common.{drop}
use Rattle.bench_log.proofs.sections.put_blocks.Given as goal

abbrev pub invariant-loop-field : goal.invariant-loop-field
invariant-loop-field l =
    Walking l.heading.technology.now (cell (column_by l.fn.column) (technology_by l.id)) (drop l.field-index l.fields) l.left l.right l.heading.number l.at l.fn.out l.out l.reached.out l.reached.left l.reached.right
