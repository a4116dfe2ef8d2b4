use Rattle.codec.proofs.ValidCases.{set_assigned}
use Rattle.codec.proofs.writer.write_set.Goals as goal

pub write_without_blocks-requires : goal.write_without_blocks-requires
write_without_blocks-requires c = rw c.message_id.ensures (set_assigned c.args.message)
