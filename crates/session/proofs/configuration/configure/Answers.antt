use Rattle.codec.specs.Inner.Places.{settings_at}
use Rattle.session.specs.Rules.{eligible, set_by, configure}
use Rattle.session.specs.Session.{on_session}
use Rattle.session.proofs.Steps.{settled, now_configured}
use Rattle.session.proofs.configuration.configure.Goals as goal

pub returns : goal.returns
unfolding set_by eligible
returns c = let s = c.args.s.now in
    let h = c.args.heard.now in
    let x = settings_at h c.args.octets.now in
    let k = rw (c.eligible-uwb.ensures, c.is_barred.ensures, c.eligible-cs.ensures, c.eligible-nan.ensures, c.eligible-rssi.ensures) at c.set_naming-those.ensures in
    now_configured s h.set x (rw (c.after-answer.ensures, k) (settled (configure on_session s.profile h.set x s) (rw k at c.deliver-w.ensures))) c.put.ensures
