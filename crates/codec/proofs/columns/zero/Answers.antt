use mathlib.Core.Path.{ap, ◌∙◌}
use Rattle.codec.specs.Technology.{Technology, uwb, cs, nan, rssi}
use Rattle.codec.specs.Layout.{zeroes}
use Rattle.codec.specs.Blocks.{cell}
use Rattle.codec.specs.Records.{of_rssi}
use Rattle.codec.proofs.Cells.{made_of}
use Rattle.codec.proofs.Puts.{in_made}
use Rattle.codec.proofs.columns.zero.Goals as goal

pub returns : goal.returns
returns g c = let k = g.C.Column.column in
    let x = g.C.Column.kept c.of.result in
    made_of k x (λ (t : Technology). zeroes (cell k t))
    (in_made k x 0 uwb c.of.ensures.uwb zeroes (ap g.C.Uwb.Fields.values c.zero.ensures ∙ g.met.C.Uwb.Fields.keeps _))
    (in_made k x 0 cs c.of.ensures.cs zeroes (ap g.C.Cs.Fields.values c.zero-2.ensures ∙ g.met.C.Cs.Fields.keeps _))
    (in_made k x 0 nan c.of.ensures.nan zeroes (ap g.C.Nan.Fields.values c.zero-3.ensures ∙ g.met.C.Nan.Fields.keeps _))
    (in_made k x 0 rssi c.of.ensures.rssi zeroes (ap of_rssi c.zero-4.ensures))
