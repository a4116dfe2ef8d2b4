use mathlib.Core.Path.{◌∙◌}
use Rattle.codec.specs.Technology.{Technology, uwb, cs, nan, rssi, names}
use Rattle.codec.specs.Blocks.{cell}
use Rattle.codec.specs.Records.{fields}
use Rattle.codec.specs.Valid.{valid_column, valid_fields}
use Rattle.codec.proofs.Every.{every_technology}
use Rattle.codec.proofs.Puts.{in_valid}
use Rattle.codec.proofs.validity.valid_column.Goals as goal

pub returns : goal.returns
unfolding valid_column
returns g c = let k = g.C.Column.column in
    let x = g.C.Column.kept c.args.c.now in
    let n = c.args.set in
    every_technology (λ (t : Technology). valid_fields (cell k t) (names n t) (fields k x t))
    (c.valid_block-uwb.ensures ∙ in_valid k x n uwb c.uwb.ensures c.has.ensures)
    (c.valid_block-cs.ensures ∙ in_valid k x n cs c.cs.ensures c.has-2.ensures)
    (c.valid_block-nan.ensures ∙ in_valid k x n nan c.nan.ensures c.has-3.ensures)
    (c.valid_block-rssi.ensures ∙ in_valid k x n rssi c.rssi.ensures c.has-4.ensures)
