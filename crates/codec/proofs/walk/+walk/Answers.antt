use native.Mathlib.Omega.{arith}
use Rattle.codec.proofs.WalkTurns.{none_left, stops, two, under_16, less, next_inside, next_met, goes_on}
use Rattle.codec.proofs.walk.+walk.Goals as goal

pub returns-then-left-eq0 : goal.returns-then-left-eq0
returns-then-left-eq0 g t c = none_left g.C.Column.column _ _ _ _ c.requires.3 c.requires.4 c.requires.1 (omega arith) (omega arith) _ (omega arith) c.unmet-left.ensures c.requires.2 c.if-left-eq0.true

pub returns-in-Err : goal.returns-in-Err
returns-in-Err g t c = stops g.C.Column.column _ _ _ _ c.requires.3 c.requires.4 c.requires.1 (omega arith) (omega arith) _ (omega arith) c.unmet-left.ensures c.if-left-eq0.false c.in-Err.ensures c.requires.2

pub bounds-m-at : goal.bounds-m-at
bounds-m-at g t c = omega (arith, two g.C.Column.column _ _ _ _ c.requires.3 c.requires.4 c.requires.1 (omega arith) (omega arith) _ (omega arith) c.unmet-left.ensures c.if-left-eq0.false c.in-Ok.ensures)

pub also_met-more-requires : goal.also_met-more-requires
also_met-more-requires g t c = under_16 g.C.Column.column _ _ _ _ c.requires.3 c.requires.4 c.requires.1 (omega arith) (omega arith) _ (omega arith) c.unmet-left.ensures c.if-left-eq0.false c.in-Ok.ensures

pub pass-next-requires : goal.pass-next-requires
pass-next-requires g t c = (two g.C.Column.column _ _ _ _ c.requires.3 c.requires.4 c.requires.1 (omega arith) (omega arith) _ (omega arith) c.unmet-left.ensures c.if-left-eq0.false c.in-Ok.ensures, c.requires.0, c.requires.2)

pub walk-requires : goal.walk-requires
walk-requires g t c κs within =
    let l = less g.C.Column.column _ _ _ _ c.requires.3 c.requires.4 c.requires.1 (omega arith) (omega arith) _ (omega arith) c.unmet-left.ensures c.if-left-eq0.false c.in-Ok.ensures (omega arith) c.also_met-more.ensures in
    let i = next_inside g.C.Column.column _ _ _ _ c.requires.3 c.requires.4 c.requires.1 (omega arith) (omega arith) _ (omega arith) c.unmet-left.ensures c.if-left-eq0.false c.in-Ok.ensures (omega arith) c.also_met-more.ensures in
    let n = next_met g.C.Column.column _ _ _ _ c.requires.3 c.requires.4 c.requires.1 (omega arith) (omega arith) _ (omega arith) c.unmet-left.ensures c.if-left-eq0.false c.in-Ok.ensures (omega arith) c.also_met-more.ensures in
    (rw c.decreases at l, (within.0, (within.1.0, (within.1.1.0, (within.1.1.1, (c.requires.0, rw c.pass-next.ensures.0 i, c.pass-next.ensures.2, c.requires.3, rw c.pass-next.ensures.0 n))))))

pub returns-in-Ok : goal.returns-in-Ok
returns-in-Ok g t c = goes_on g.C.Column.column _ _ _ _ c.requires.3 c.requires.4 c.requires.1 (omega arith) (omega arith) _ (omega arith) c.unmet-left.ensures c.if-left-eq0.false c.in-Ok.ensures (omega arith) c.also_met-more.ensures
    (rw (c.pass-next.ensures.0, c.pass-next.ensures.1) at c.walk.ensures)
