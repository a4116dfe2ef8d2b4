use Rattle.bench_log.specs.Inner.Differences.{column_by, section_in}
use Rattle.bench_log.proofs.Differences.{put_four}
use Rattle.bench_log.proofs.BlockPairs.{by_zero, by_one, by_two, by_three, section_of}
use Rattle.std.proofs.Common.{arith}
use Rattle.bench_log.proofs.messages.put_sections.Goals as goal

pub put_section-p-requires : goal.put_section-p-requires
put_section-p-requires c = (omega arith, section_of _ _ _ 0 by_zero c.requires (omega (arith, c.requires.room)))

pub put_section-q-requires : goal.put_section-q-requires
put_section-q-requires c = (omega arith, section_of _ _ _ 1 by_one c.requires (omega (arith, c.requires.room, (rw by_zero at c.put_section-p.ensures).1)))

pub put_section-r-requires : goal.put_section-r-requires
put_section-r-requires c = (omega arith, section_of _ _ _ 2 by_two c.requires (omega (arith, c.requires.room, (rw by_zero at c.put_section-p.ensures).1, (rw by_one at c.put_section-q.ensures).1)))

pub put_section-requires : goal.put_section-requires
put_section-requires c = (omega arith, section_of _ _ _ 3 by_three c.requires (omega (arith, c.requires.room, (rw by_zero at c.put_section-p.ensures).1, (rw by_one at c.put_section-q.ensures).1, (rw by_two at c.put_section-r.ensures).1)))

pub returns : goal.returns
returns c = let s = c.args in
    let p = rw by_zero at c.put_section-p.ensures in
    let q = rw by_one at c.put_section-q.ensures in
    let r = rw by_two at c.put_section-r.ensures in
    let o = rw by_three at c.put_section.ensures in
    (put_four _ (section_in (column_by s.column) s.left.now.set s.right.now.set s.left.now.message.now s.left.now.places s.right.now.message.now s.right.now.places) p.0 q.0 r.0 o.0, omega (arith, p.1, q.1, r.1, o.1))
