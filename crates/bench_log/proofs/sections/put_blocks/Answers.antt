use Rattle.std.proofs.lemmas.List.{drop_all}
use Rattle.bench_log.specs.Inner.Differences.{technology_by, block_at, section_limit}
use Rattle.bench_log.proofs.BlockPairs.{prefix_short, at_start, at_end, at_field, field_ready, step}
use Rattle.bench_log.proofs.sections.put_blocks.Goals as goal

pub loop-field-init : goal.loop-field-init
unfolding section_limit
loop-field-init c = at_start c.fields_of-fields.result.now c.fields_of-fields.ensures c.requires.left c.requires.right c.requires.room

pub put_field-reached-requires : goal.put_field-reached-requires
put_field-reached-requires c =
    field_ready (rw c.of_block-heading.ensures.words (prefix_short (technology_by c.args.id))) (at_field c.fields_of-fields.result.now c.loop-field.field-index _ c.loop-field-test.true c.loop-field.invariant)

pub loop-field-preserved : goal.loop-field-preserved
loop-field-preserved c = let p = c.put_field-reached.ensures in
    step (rw c.of_block-heading.ensures.words (prefix_short (technology_by c.args.id))) (at_field c.fields_of-fields.result.now c.loop-field.field-index _ c.loop-field-test.true c.loop-field.invariant) p.text p.limit p.read.0 p.read.1

pub returns : goal.returns
unfolding block_at section_limit
returns c = rw (← c.of_block-heading.ensures.words, ← c.of_block-heading.ensures.number) (at_end (drop_all c.loop-field.field-index c.fields_of-fields.result.now c.loop-field-test.false) c.loop-field.invariant)
