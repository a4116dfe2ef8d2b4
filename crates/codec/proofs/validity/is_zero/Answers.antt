use mathlib.Core.Path.{◌∙◌}
use Rattle.codec.specs.Technology.{Technology, uwb, cs, nan, rssi}
use Rattle.codec.specs.Blocks.{cell}
use Rattle.codec.specs.Layout.{zeroed}
use Rattle.codec.specs.Records.{fields}
use Rattle.codec.specs.Valid.{valid_column}
use Rattle.codec.proofs.Every.{every_technology}
use Rattle.codec.proofs.Puts.{in_zero}
use Rattle.codec.proofs.validity.is_zero.Goals as goal

pub returns : goal.returns
unfolding valid_column
returns g c = let k = g.C.Column.column in
    let x = g.C.Column.kept c.args.c.now in
    every_technology (λ (t : Technology). zeroed (cell k t) (fields k x t))
    (c.is_zero.ensures ∙ in_zero k x 0 uwb c.uwb.ensures)
    (c.is_zero-2.ensures ∙ in_zero k x 0 cs c.cs.ensures)
    (c.is_zero-3.ensures ∙ in_zero k x 0 nan c.nan.ensures)
    (c.is_zero-4.ensures ∙ in_zero k x 0 rssi c.rssi.ensures)
