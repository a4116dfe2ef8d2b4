use mathlib.Core.Path.{◌∙◌}
use Rattle.session.specs.Rules.{halt}
use Rattle.session.specs.Session.{on_session}
use Rattle.session.proofs.Steps.{ended_set, settled, now_halted}
use Rattle.session.proofs.stop.halt.Goals as goal

pub returns : goal.returns
returns c = let s = c.args.s.now in
    let k = rw (c.has.ensures, c.is_ranging.ensures, c.has-2.ensures, c.is_ranging-2.ensures, c.has-3.ensures, c.is_ranging-3.ensures) at c.set_naming-those.ensures ∙ ended_set s.profile c.args.set s in
    now_halted s c.args.set (rw (c.after-answer.ensures, k) (settled (halt on_session s.profile c.args.set s) (rw k at c.deliver-w.ensures))) c.stop.ensures
