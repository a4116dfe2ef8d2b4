use Rattle.codec.proofs.Puts.{put_then, put_block, put_absent}
use Rattle.codec.proofs.writer.put_block.Goals as goal

pub returns-then-not-present : goal.returns-then-not-present
returns-then-not-present g c = put_absent c.args.present c.args.out.now c.args.at g.F.Fields.layout c.args.id (g.F.Fields.values c.args.block.now) c.if-not-present.true c.requires.0

pub returns : goal.returns
returns g c = put_block c.args.present g.F.Fields.layout c.args.id c.size.result (g.F.Fields.values c.args.block.now) c.if-not-present.false c.size.ensures (put_then c.put-size.ensures (put_then c.put-fields.ensures c.put_fields.ensures))
