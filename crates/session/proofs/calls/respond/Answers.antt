use native.Mathlib.Omega.{arith}
use mathlib.Core.Path.{ap}
use Rattle.session.specs.Rules.{request, configuration, stop, kind_of}
use Rattle.session.proofs.Steps.{not_heard, a_message, another}
use Rattle.session.proofs.calls.respond.Goals as goal

pub returns-in-Err : goal.returns-in-Err
returns-in-Err c = rw c.refused.ensures (not_heard c.args.s.now c.args.octets.now c.args.out.now c.in-Err.refusal (rw c.in-Err.is at c.hear.ensures))

pub returns-in-0 : goal.returns-in-0
returns-in-0 c = a_message c.args.s.now c.args.octets.now c.args.out.now c.in-Ok.heard (rw c.in-Ok.is at c.hear.ensures) {k = request} (ap kind_of c.in-0.is) c.give_out.ensures

pub returns-in-2 : goal.returns-in-2
returns-in-2 c = a_message c.args.s.now c.args.octets.now c.args.out.now c.in-Ok.heard (rw c.in-Ok.is at c.hear.ensures) {k = configuration} (ap kind_of c.in-2.is) c.configure.ensures

pub returns-in-6 : goal.returns-in-6
returns-in-6 c = a_message c.args.s.now c.args.octets.now c.args.out.now c.in-Ok.heard (rw c.in-Ok.is at c.hear.ensures) {k = stop} (ap kind_of c.in-6.is) c.halt.ensures

pub returns-in_default : goal.returns-in_default
returns-in_default c = rw c.refused-in_default.ensures (another c.args.s.now c.args.octets.now c.args.out.now c.in-Ok.heard (rw c.in-Ok.is at c.hear.ensures) (λ e. omega arith) (λ e. omega arith) (λ e. omega arith))
