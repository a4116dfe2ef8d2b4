use Rattle.bench_log.proofs.Entries.{parts_broken, parts_kept, kept}
use Rattle.std.proofs.Common.{sym, ◌∙◌, arith}
use Rattle.bench_log.proofs.layout.take_apart.Goals as goal

pub returns-then-not-keeps_layout : goal.returns-then-not-keeps_layout
returns-then-not-keeps_layout c = parts_broken _ _ (sym c.keeps_layout.ensures ∙ c.if-not-keeps_layout.true)

pub bounds-octets-0 : goal.bounds-octets-0
bounds-octets-0 c = omega (arith, (kept _ _ (sym c.keeps_layout.ensures ∙ c.if-not-keeps_layout.false)).0)

pub length_in-requires : goal.length_in-requires
length_in-requires c = omega (arith, (kept _ _ (sym c.keeps_layout.ensures ∙ c.if-not-keeps_layout.false)).0)

pub returns : goal.returns
returns c = rw c.length_in.ensures (parts_kept _ _ (sym c.keeps_layout.ensures ∙ c.if-not-keeps_layout.false))
