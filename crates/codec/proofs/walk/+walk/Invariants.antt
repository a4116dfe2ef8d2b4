use Rattle.std.proofs.Common.{◌-◌}
use Rattle.std.specs.Int.Count.{ones}
use Rattle.codec.proofs.walk.+walk.Given as goal

abbrev pub decreases-walk : goal.decreases-walk
decreases-walk g l = ones l.set - ones l.met
