use Rattle.bench_log.proofs.BlockPairs.{section_none, section_left, section_right, section_ready, section_put}
use Rattle.bench_log.proofs.sections.put_section.Goals as goal

pub returns-then-not-both_have : goal.returns-then-not-both_have
returns-then-not-both_have c = section_none _ _ c.requires.0 c.requires.1 c.both_have.ensures _ c.if-not-both_have.true

pub block-requires : goal.block-requires
block-requires c = (c.requires.0, section_left _ _ c.requires.0 c.requires.1 c.both_have.ensures c.if-not-both_have.false)

pub block-requires-2 : goal.block-requires-2
block-requires-2 c = (c.requires.0, section_right _ _ c.requires.0 c.requires.1 c.both_have.ensures c.if-not-both_have.false)

pub put_blocks-requires : goal.put_blocks-requires
put_blocks-requires c = rw (c.block.ensures, c.block-2.ensures) (section_ready _ _ c.requires.0 c.requires.1 c.both_have.ensures c.if-not-both_have.false)

pub returns : goal.returns
returns c = section_put _ _ c.requires.0 c.requires.1 c.both_have.ensures c.if-not-both_have.false _ (rw (← c.block.ensures, ← c.block-2.ensures) c.put_blocks.ensures)
