use mathlib.Core.Path.{sym, ◌∙◌}
use Rattle.codec.proofs.Layouts.{is_roomy, roomy_place, slice_roomy}
use Rattle.codec.proofs.places.fields_at.Goals as goal

pub slice_bounds-read-count : goal.slice_bounds-read-count
slice_bounds-read-count g c = roomy_place g.F.Fields.layout c.args.m.now c.args.at (sym c.has_room.ensures ∙ c.if-not-has_room.false)

pub slice_bounds-read-start : goal.slice_bounds-read-start
slice_bounds-read-start g c = roomy_place g.F.Fields.layout c.args.m.now c.args.at (sym c.has_room.ensures ∙ c.if-not-has_room.false)

pub read-requires : goal.read-requires
read-requires g c = slice_roomy g.F.Fields.layout c.args.m.now c.args.at (is_roomy g.F.Fields.layout 2 _ (sym c.has_room.ensures ∙ c.if-not-has_room.false))
