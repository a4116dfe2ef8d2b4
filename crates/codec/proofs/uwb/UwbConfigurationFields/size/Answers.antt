use Rattle.std.proofs.Common.{rules}
use Rattle.codec.proofs.Pieces.{uwb_written}
use Rattle.codec.proofs.uwb.UwbConfigurationFields.size.Goals as goal

pub returns : goal.returns
returns c = uwb_written c.args.self.now (search rules) (search rules) (search rules) c.requires.0
