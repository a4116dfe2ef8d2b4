use Rattle.bench_log.proofs.Entries.{apart, entry_broken, entry_listed}
use Rattle.codec.specs.Table.{message_limit}
use Rattle.std.proofs.Common.{◌≡◌, ◌+◌, ◌-◌, arith}
use Rattle.bench_log.proofs.entry.entry_of.Goals as goal

pub overflow_add-parts : goal.overflow_add-parts
overflow_add-parts c = omega (arith, (apart message_limit _ _ c.in-Ok.ensures).fits)

pub slice_bounds-listed-end : goal.slice_bounds-listed-end
slice_bounds-listed-end c = let w = apart message_limit _ _ c.in-Ok.ensures in omega (arith, w.fits, w.size)

pub returns-in-Err : goal.returns-in-Err
returns-in-Err c = entry_broken _ _ c.in-Err.ensures

pub returns-in-Ok : goal.returns-in-Ok
returns-in-Ok c = let n : 4 + c.in-Ok.parts.length - 4 ≡ c.in-Ok.parts.length = omega arith in
    entry_listed _ _ c.in-Ok.ensures (rw n at c.listed.ensures)
