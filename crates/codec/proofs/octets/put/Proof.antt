use Rattle.codec.proofs.Puts.{put_one}
use borrow.Author.Rules.{rules}
use Rattle.codec.proofs.octets.put.Statement.{statement}
use Rattle.codec.proofs.octets.put.Tie as tie

returns : tie.Need-returns
returns c = put_one c.args.out.now c.args.at c.args.x c.requires

pub put_spec : {M : Type 1} → statement M
put_spec = tie.close (tie.spec (search rules) (search rules) (search rules) returns)
