use Rattle.codec.proofs.Pieces.{fit, normal_settings, put_settings, not_valid_lem, too_short, was_written}
use Rattle.codec.proofs.ValidCases.{settings_valid}
use Rattle.codec.proofs.Outcomes.{and_true_lem}
use Rattle.codec.proofs.Puts.{put_then}
use Rattle.codec.specs.Inner.Puts.{Fits}
use Rattle.codec.specs.Blocks.{configurations}
use Rattle.codec.specs.Records.{settings_record}
use Rattle.codec.specs.Valid.{valid, valid_column}
use Rattle.codec.specs.declared.records.Configuration.{Configuration}
use Prim.Native.Nat.{ℕ}
use native.Mathlib.Omega.{arith}
use mathlib.Core.Bool.{Bool, true, ◌&&◌}
use mathlib.Core.Path.{◌≡◌, sym, ap, ◌∙◌}
use lib.Dec.{ltb}
use lib.ListN.{length}
use Rattle.codec.proofs.writer.write_configuration.Goals as goal

-- what the test says of the record
tested : (set : ℕ) (x : Configuration) {v r : Bool} → v ≡ valid_column configurations set x → (ltb set 16 && v) ≡ r → valid (settings_record set x) ≡ r
tested set x e h = settings_valid set x ∙ (rw e at h)

fits : (set : ℕ) (x : Configuration) {v : Bool} → v ≡ valid_column configurations set x → (ltb set 16 && v) ≡ true → Fits configurations x
fits set x {v} e h = fit configurations set x (sym e ∙ (and_true_lem (ltb set 16) v h).1)

pub returns-then-not-set-valid_column : goal.returns-then-not-set-valid_column
returns-then-not-set-valid_column c = rw c.refused.ensures (not_valid_lem (settings_record c.args.set c.args.c.now) c.args.out.now (tested c.args.set c.args.c.now c.valid_column.ensures c.if-not-set-valid_column.true))

pub size_blocks-length-requires : goal.size_blocks-length-requires
size_blocks-length-requires c = fits c.args.set c.args.c.now c.valid_column.ensures c.if-not-set-valid_column.false

pub returns-then-out-length : goal.returns-then-out-length
returns-then-out-length c = rw c.refused-then-out-length.ensures (too_short (settings_record c.args.set c.args.c.now) c.args.out.now (tested c.args.set c.args.c.now c.valid_column.ensures c.if-not-set-valid_column.false) (omega (arith, ap length (normal_settings c.args.set c.args.c.now), c.size_blocks-length.ensures.0, c.if-out-length.true)))

pub put_blocks-requires : goal.put_blocks-requires
put_blocks-requires c =
    (omega (arith, c.size_blocks-length.ensures.0, c.if-out-length.false, c.put_head-again.ensures.place, c.put_head-again.ensures.same, c.put_u16-blocks.ensures.place, c.put_u16-blocks.ensures.same), fits c.args.set c.args.c.now c.valid_column.ensures c.if-not-set-valid_column.false)

pub returns : goal.returns
returns c = let k = ap length (normal_settings c.args.set c.args.c.now) in
    was_written (settings_record c.args.set c.args.c.now) c.args.out.now (tested c.args.set c.args.c.now c.valid_column.ensures c.if-not-set-valid_column.false) (omega (arith, k, c.size_blocks-length.ensures.0, c.if-out-length.false)) _ (omega (arith, k, c.size_blocks-length.ensures.0))
    (put_settings c.args.set c.args.c.now (put_then c.put_head-again.ensures (put_then c.put_u16-blocks.ensures c.put_blocks.ensures)))
