use mathlib.Core.Path.{ap, ◌∙◌}
use lib.ListN.{get_or}
use Rattle.codec.specs.Technology.{Technology, uwb, cs, nan, rssi, technology_id}
use Rattle.codec.specs.Layout.{Layout}
use Rattle.codec.specs.Blocks.{cell, rssi_block}
use Rattle.codec.specs.Records.{of_rssi}
use Rattle.codec.specs.Inner.Places.{fields_at}
use Rattle.codec.proofs.Cells.{made_of}
use Rattle.codec.proofs.Puts.{in_made}
use Rattle.codec.proofs.columns.column_at.Goals as goal

pub returns : goal.returns
returns g c = let k = g.C.Column.column in
    let x = g.C.Column.kept c.of.result in
    let m = c.args.m.now in
    let p = c.args.places.now in
    made_of k x (λ (t : Technology). fields_at (cell k t) m (get_or p (technology_id t) 0))
    (in_made k x 0 uwb c.of.ensures.uwb (λ (M : Layout). fields_at M m (get_or p 0 0)) (ap g.C.Uwb.Fields.values c.fields_at-uwb.ensures ∙ g.met.C.Uwb.Fields.keeps _ ∙ ap (fields_at g.C.Uwb.Fields.layout m) c.from-4.ensures))
    (in_made k x 0 cs c.of.ensures.cs (λ (M : Layout). fields_at M m (get_or p 1 0)) (ap g.C.Cs.Fields.values c.fields_at-cs.ensures ∙ g.met.C.Cs.Fields.keeps _ ∙ ap (fields_at g.C.Cs.Fields.layout m) c.from.ensures))
    (in_made k x 0 nan c.of.ensures.nan (λ (M : Layout). fields_at M m (get_or p 2 0)) (ap g.C.Nan.Fields.values c.fields_at-nan.ensures ∙ g.met.C.Nan.Fields.keeps _ ∙ ap (fields_at g.C.Nan.Fields.layout m) c.from-3.ensures))
    (in_made k x 0 rssi c.of.ensures.rssi (λ (M : Layout). fields_at M m (get_or p 3 0)) (ap of_rssi c.fields_at-rssi.ensures ∙ ap (fields_at rssi_block m) c.from-2.ensures))
