use mathlib.Core.Path.{refl}
use Rattle.codec.specs.Blocks.{configurations}
use Rattle.codec.proofs.records.ConfigurationColumn.fault.Goals as goal

pub returns : goal.returns
returns c = c.fault_by_id.ensures configurations refl refl refl
