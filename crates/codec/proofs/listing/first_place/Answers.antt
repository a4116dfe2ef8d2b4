use Rattle.codec.proofs.Outcomes.{ok_none, ok_some}
use Rattle.codec.proofs.MessageCases.{head_stop, opened}
use Rattle.codec.proofs.Rows.{other_alone}
use Rattle.codec.proofs.Listed.{starts_refused, starts_alone}
use mathlib.Core.Path.{sym, ◌∙◌}
use native.Mathlib.Omega.{arith}
use Rattle.codec.proofs.listing.first_place.Goals as goal

pub returns-in_err-ok : goal.returns-in_err-ok
returns-in_err-ok c = rw c.from_residual.ensures (ok_none _ (sym c.ok.ensures.value ∙ c.in_err-ok.was) λ x e. starts_refused _ (head_stop _ (e ∙ c.head_fault.ensures)))

pub first_in-requires : goal.first_in-requires
first_in-requires c = let o = opened _ (ok_some _ (sym c.ok.ensures.value ∙ c.in_ok-ok.was) ∙ c.head_fault.ensures) in (o.two, o.limit, c.in-1.is, o.rest)

pub first_in-requires-in-2 : goal.first_in-requires-in-2
first_in-requires-in-2 c = let o = opened _ (ok_some _ (sym c.ok.ensures.value ∙ c.in_ok-ok.was) ∙ c.head_fault.ensures) in (o.two, o.limit, c.in-2.is, o.rest)

pub returns-in_default : goal.returns-in_default
returns-in_default c = starts_alone _ (other_alone _ (λ e. omega arith) (λ e. omega arith))
