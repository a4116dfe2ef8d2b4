use Rattle.codec.proofs.Outcomes.{raised}
use Rattle.codec.proofs.FoundLemmas.{located, located_refused}
use Rattle.codec.proofs.reader.find.Goals as goal

pub returns-in_err-message_fault : goal.returns-in_err-message_fault
returns-in_err-message_fault c = rw (raised _ c.from_residual.ensures.1) (located_refused _ c.in_err-message_fault.ensures)

pub returns : goal.returns
returns c = located _ c.in_ok-message_fault.ensures
