use Rattle.codec.proofs.MessageCases.{body_unread, body_short, set_end}
use Rattle.codec.specs.Inner.Places.{verdict, set_alone}
use mathlib.Core.Path.{sym, ap, ◌∙◌}
use Rattle.codec.proofs.checks.set_fault.Goals as goal

pub returns-then-not-readable : goal.returns-then-not-readable
returns-then-not-readable c = ap verdict (sym (body_unread _ (cc)))

pub returns-then-m-lt4 : goal.returns-then-m-lt4
returns-then-m-lt4 c = ap verdict (sym (body_short _ (cc) set_alone c.requires.1 c.if-m-lt4.true))

pub returns : goal.returns
returns c = c.end_fault.ensures ∙ set_end _ (cc) c.requires.1 c.if-m-lt4.false
