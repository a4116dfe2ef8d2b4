use Rattle.codec.proofs.Pieces.{uncounted, put_response, normal_response, not_valid_lem, too_short, was_written}
use Rattle.codec.proofs.Puts.{put_then}
use Rattle.codec.specs.Records.{response, only}
use native.Mathlib.Omega.{arith}
use mathlib.Core.Path.{sym, ap, ◌∙◌}
use lib.ListN.{length}
use Rattle.codec.proofs.writer.write_capability_response.Goals as goal

pub returns-then-not-valid_only : goal.returns-then-not-valid_only
returns-then-not-valid_only c = rw c.refused.ensures (not_valid_lem (response c.args.set (only c.args.set c.args.c.now)) c.args.out.now (sym c.valid_only.ensures ∙ c.if-not-valid_only.true))

pub size_blocks-length-requires : goal.size_blocks-length-requires
size_blocks-length-requires c = uncounted c.args.c.now

pub returns-then-out-length : goal.returns-then-out-length
returns-then-out-length c = rw c.refused-then-out-length.ensures
    (too_short (response c.args.set (only c.args.set c.args.c.now)) c.args.out.now (sym c.valid_only.ensures ∙ c.if-not-valid_only.false) (omega (arith, ap length (normal_response c.args.set c.args.c.now), c.size_blocks-length.ensures.0, c.if-out-length.true)))

pub put_blocks-requires : goal.put_blocks-requires
put_blocks-requires c = (omega (arith, c.size_blocks-length.ensures.0, c.if-out-length.false, c.put_head-blocks.ensures.place, c.put_head-blocks.ensures.same), uncounted c.args.c.now)

pub returns : goal.returns
returns c = let k = ap length (normal_response c.args.set c.args.c.now) in
    was_written (response c.args.set (only c.args.set c.args.c.now)) c.args.out.now (sym c.valid_only.ensures ∙ c.if-not-valid_only.false) (omega (arith, k, c.size_blocks-length.ensures.0, c.if-out-length.false)) _ (omega (arith, k, c.size_blocks-length.ensures.0))
    (put_response c.args.set c.args.c.now (put_then c.put_head-blocks.ensures c.put_blocks.ensures))
