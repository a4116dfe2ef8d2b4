use Rattle.codec.proofs.MessageCases.{judged_refused, body_unread, body_short, body_sets, body_stop, body_end}
use Rattle.codec.proofs.Outcomes.{raised}
use Rattle.codec.proofs.MetIds.{met_none}
use Rattle.codec.proofs.Rows.{column_of, room_after, sets_one, sets_two}
use Rattle.codec.specs.Table.{row}
use mathlib.Core.Path.{sym, ap, ◌∙◌}
use native.Mathlib.Omega.{arith}
use Rattle.codec.proofs.checks.blocks_fault.Goals as goal

pub returns-then-not-readable : goal.returns-then-not-readable
returns-then-not-readable g c = judged_refused (body_unread _ (cc)) c.requires.3

pub returns-then-m-first : goal.returns-then-m-first
returns-then-m-first g c = judged_refused (body_short _ (cc) _ (ap row c.requires.2) (rw c.blocks_at-first.ensures at c.if-m-first.true)) c.requires.3

pub u16_at-set-requires : goal.u16_at-set-requires
u16_at-set-requires g c = omega (arith, room_after g.C.Column.column, c.blocks_at-first.ensures, c.if-m-first.false)

pub u16_at-requires : goal.u16_at-requires
u16_at-requires g c = omega (arith, room_after g.C.Column.column, c.blocks_at-first.ensures, c.if-m-first.false)

pub returns-then-set-u16_at : goal.returns-then-set-u16_at
returns-then-set-u16_at g c =
    judged_refused (body_sets _ (cc) _ (ap row c.requires.2) (rw c.blocks_at-first.ensures at c.if-m-first.false)
    (sets_two g.C.Column.column _ (λ e. c.if-set-u16_at.true (c.u16_at-set.ensures ∙ e ∙ sym (rw c.blocks_at-first.ensures at c.u16_at.ensures))))) c.requires.3

pub walk-requires : goal.walk-requires
walk-requires g c = (c.requires.1, c.if-m-first.false, c.requires.3, c.u16_at-set.ensures, rw c.blocks_at-first.ensures (met_none g.C.Column.column _))

pub returns-in_err-outcome : goal.returns-in_err-outcome
returns-in_err-outcome g c =
    rw (raised _ c.from_residual.ensures.1)
    (body_stop _ (cc) _ (ap row c.requires.2) (rw c.blocks_at-first.ensures at c.if-m-first.false)
    (sets_one g.C.Column.column _ (sym c.u16_at-set.ensures ∙ c.if-set-u16_at.false ∙ (rw c.blocks_at-first.ensures at c.u16_at.ensures)))
    g.C.Column.column (column_of g.C.Column.column) (rw c.blocks_at-first.ensures at c.walk.ensures) c.in_err-outcome.was)

pub returns : goal.returns
returns g c =
    body_end _ (cc) _ (ap row c.requires.2) (rw c.blocks_at-first.ensures at c.if-m-first.false)
    (sets_one g.C.Column.column _ (sym c.u16_at-set.ensures ∙ c.if-set-u16_at.false ∙ (rw c.blocks_at-first.ensures at c.u16_at.ensures)))
    g.C.Column.column (column_of g.C.Column.column) (rw c.blocks_at-first.ensures at c.walk.ensures) c.in_ok-outcome.was
    (rw c.from.ensures at c.end_fault.ensures)
