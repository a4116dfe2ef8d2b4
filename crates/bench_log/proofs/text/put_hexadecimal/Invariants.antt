use Rattle.std.proofs.Common.{◌≡◌, ◌+◌, ◌*◌, take}
use Rattle.codec.specs.Inner.Puts.{Put}
use Rattle.bench_log.specs.Text.{hexadecimal}
use Rattle.bench_log.proofs.text.put_hexadecimal.Given as goal

abbrev pub invariant-loop-octet : goal.invariant-loop-octet
invariant-loop-octet l = (l.next ≡ l.at + 2 * l.octet-index) × Put l.fn.out l.at (hexadecimal (take l.octet-index l.octets)) l.out l.next
