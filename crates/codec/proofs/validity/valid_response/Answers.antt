use mathlib.Core.Path.{sym}
use Rattle.codec.proofs.ValidCases.{response_valid}
use Rattle.codec.proofs.validity.valid_response.Goals as goal

pub returns : goal.returns
returns c = rw c.valid_column.ensures (sym (response_valid c.args.set c.args.c.now))
