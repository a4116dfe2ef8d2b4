use Rattle.codec.proofs.Outcomes.{raised}
use Rattle.codec.proofs.WalkCases.{headed, head_stop, head_next}
use Rattle.codec.proofs.walk.turn_fault.Goals as goal

pub fault-requires : goal.fault-requires
fault-requires g c = (headed _ _ _ _ c.in_ok-id_fault.ensures).two

pub returns-in_err-id_fault : goal.returns-in_err-id_fault
returns-in_err-id_fault g c = rw (raised _ c.from_residual.ensures.1) (head_stop _ _ _ _ g.C.Column.column c.in_err-id_fault.ensures)

pub returns : goal.returns
returns g c = head_next _ _ _ _ g.C.Column.column (headed _ _ _ _ c.in_ok-id_fault.ensures) c.fault.ensures
