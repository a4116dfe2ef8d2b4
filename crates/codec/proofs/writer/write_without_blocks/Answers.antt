use Rattle.codec.proofs.Pieces.{normal_bare, put_bare, not_valid_lem, too_short, was_written}
use Rattle.codec.proofs.ValidCases.{bare_valid}
use Rattle.codec.specs.Records.{without_blocks}
use native.Mathlib.Omega.{arith}
use mathlib.Core.Path.{◌∙◌, ap}
use borrow.Author.Tests.{lt-ltb, le-ltb}
use lib.ListN.{length}
use Rattle.codec.proofs.writer.write_without_blocks.Goals as goal

pub returns-then-set-ge-SET_LIMIT : goal.returns-then-set-ge-SET_LIMIT
returns-then-set-ge-SET_LIMIT c = rw c.refused.ensures (not_valid_lem (without_blocks c.args.id c.args.set) c.args.out.now (bare_valid c.args.id c.args.set c.requires.0 c.requires.1 ∙ le-ltb c.args.set 16 c.if-set-ge-SET_LIMIT.true))

pub returns-then-out-lt4 : goal.returns-then-out-lt4
returns-then-out-lt4 c = rw c.refused-then-out-lt4.ensures (too_short (without_blocks c.args.id c.args.set) c.args.out.now (bare_valid c.args.id c.args.set c.requires.0 c.requires.1 ∙ lt-ltb c.args.set 16 c.if-set-ge-SET_LIMIT.false) (omega (arith, ap length (normal_bare c.args.id c.args.set c.requires.1), c.if-out-lt4.true)))

pub returns : goal.returns
returns c = let k = normal_bare c.args.id c.args.set c.requires.1 in
    was_written (without_blocks c.args.id c.args.set) c.args.out.now (bare_valid c.args.id c.args.set c.requires.0 c.requires.1 ∙ lt-ltb c.args.set 16 c.if-set-ge-SET_LIMIT.false) (omega (arith, ap length k, c.if-out-lt4.false)) 4 (omega (arith, ap length k)) (put_bare c.args.id c.args.set c.requires.1 c.put_head.ensures)
