use Rattle.bench_log.proofs.RecordPairs.{put_same, put_different}
use Rattle.std.proofs.Common.{sym, ◌∙◌, arith}
use Rattle.bench_log.proofs.pair.put_pair.Goals as goal

pub returns-then-same : goal.returns-then-same
returns-then-same c = let y = sym c.same.ensures ∙ c.if-same.true in (rw y c.put_words-end.ensures.0, omega (arith, c.put_words-end.ensures.1), rw y)

pub returns-then-next-at : goal.returns-then-next-at
returns-then-next-at c = let p = put_same _ c.args.left.now c.args.right.now (sym c.same.ensures ∙ c.if-same.false) c.put_differences-next.ensures.0 c.put_differences-next.ensures.1.0 c.if-next-at.true c.put_words-end-then-next-at.ensures.0 in
    (p.0, omega (arith, c.put_words-end-then-next-at.ensures.1), p.1)

pub returns : goal.returns
returns c = let p = put_different _ c.args.left.now c.args.right.now (sym c.same.ensures ∙ c.if-same.false) c.put_differences-next.ensures.0 c.put_differences-next.ensures.1.0 c.if-next-at.false in
    (p.0, omega (arith, c.put_differences-next.ensures.1.1), p.1)
