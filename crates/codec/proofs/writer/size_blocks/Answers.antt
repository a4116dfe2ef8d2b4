use native.Mathlib.Omega.{arith}
use mathlib.Core.Path.{◌∙◌}
use lib.ListN.{length-append}
use Rattle.codec.specs.Technology.{uwb, cs, nan, rssi}
use Rattle.codec.proofs.Puts.{in_held, in_size}
use Rattle.codec.proofs.writer.size_blocks.Goals as goal

pub size_if-uwb-requires : goal.size_if-uwb-requires
size_if-uwb-requires g c = in_held g.C.Column.column (g.C.Column.kept c.args.c.now) c.args.set uwb c.uwb.ensures c.requires

pub size_if-cs-requires : goal.size_if-cs-requires
size_if-cs-requires g c = in_held g.C.Column.column (g.C.Column.kept c.args.c.now) c.args.set cs c.cs.ensures c.requires

pub size_if-nan-requires : goal.size_if-nan-requires
size_if-nan-requires g c = in_held g.C.Column.column (g.C.Column.kept c.args.c.now) c.args.set nan c.nan.ensures c.requires

pub returns : goal.returns
returns g c = let k = g.C.Column.column in
    let x = g.C.Column.kept c.args.c.now in
    let n = c.args.set in (
      simp length-append (omega (arith, c.size_if-uwb.ensures.0 ∙ in_size k x n uwb c.uwb.ensures c.has.ensures, c.size_if-cs.ensures.0 ∙ in_size k x n cs c.cs.ensures c.has-2.ensures, c.size_if-nan.ensures.0 ∙ in_size k x n nan c.nan.ensures c.has-3.ensures, c.size_if-rssi.ensures.0 ∙ in_size k x n rssi c.rssi.ensures c.has-4.ensures)),
      omega (arith, c.size_if-uwb.ensures.1, c.size_if-cs.ensures.1, c.size_if-nan.ensures.1, c.size_if-rssi.ensures.1),
    )
