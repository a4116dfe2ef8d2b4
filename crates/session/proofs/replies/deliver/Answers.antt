use mathlib.Core.Path.{sym, ◌∙◌}
use Rattle.session.proofs.Steps.{set_delivered}
use Rattle.session.proofs.replies.deliver.Goals as goal

pub returns : goal.returns
returns c = rw (sym c.replies_explicitly.ensures ∙ c.if-not-replies_explicitly.false) (set_delivered c.args.message c.requires c.write_set.ensures)
