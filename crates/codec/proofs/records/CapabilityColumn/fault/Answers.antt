use mathlib.Core.Path.{refl}
use Rattle.codec.specs.Blocks.{capabilities}
use Rattle.codec.proofs.records.CapabilityColumn.fault.Goals as goal

pub returns : goal.returns
returns c = c.fault_by_id.ensures capabilities refl refl refl
