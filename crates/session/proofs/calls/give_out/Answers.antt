use mathlib.Core.Path.{◌∙◌}
use Rattle.session.proofs.Steps.{given}
use Rattle.session.proofs.calls.give_out.Goals as goal

pub returns : goal.returns
returns c = let s = c.args.s.now in
    let g = c.give.ensures ∙ rw c.set_if.ensures.0 in
    rw c.after.ensures (given s c.args.wanted c.common-blocks.ensures g c.requires c.write_capability_response-w.ensures)
