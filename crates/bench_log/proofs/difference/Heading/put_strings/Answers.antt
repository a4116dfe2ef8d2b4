use Rattle.codec.proofs.Puts.{put_then}
use Rattle.bench_log.specs.Fields.{string}
use Rattle.bench_log.proofs.Differences.{put_alike, put_unlike}
use Rattle.std.proofs.Common.{sym, ◌∙◌, arith}
use Rattle.bench_log.proofs.difference.Heading.put_strings.Goals as goal

pub returns-then-same-clause-text : goal.returns-then-same-clause-text
returns-then-same-clause-text c = put_alike _ (string _) (string _) _ _ _ (sym c.same.ensures ∙ c.if-same.true) (omega arith)

pub returns-clause-text : goal.returns-clause-text
returns-clause-text c =
    put_unlike _ (string _) (string _) c.args.self.technology.now c.args.name.now (sym c.same.ensures ∙ c.if-same.false) c.put_name-first.ensures.text
    (put_then c.put_hexadecimal-word.ensures.0 (put_then c.put_text-second.ensures (put_then c.put_hexadecimal-end.ensures.0 c.put.ensures)))
