use Rattle.session.specs.Rules.{advertisement}
use Rattle.session.proofs.Steps.{invalid, advertised}
use mathlib.Core.Path.{◌∙◌, sym}
use Rattle.session.proofs.calls.advertise.Goals as goal

pub returns-then-is_valid : goal.returns-then-is_valid
returns-then-is_valid c = advertised c.args.s c.args.out.now (sym c.is_valid.ensures ∙ c.if-is_valid.true) c.give_out-answer.ensures

pub returns-else-is_valid : goal.returns-else-is_valid
returns-else-is_valid c = rw c.refused-answer.ensures (invalid c.args.s (record { said = advertisement; lent = c.args.out.now }) (sym c.is_valid.ensures ∙ c.if-is_valid.false))
