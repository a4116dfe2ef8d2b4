use Rattle.std.proofs.Common.{rules, ◌≡◌, ◌/◌, length, bit_or, fold}
use Rattle.std.specs.Int.{w16, w32, from_le_bytes}
use Rattle.std.specs.Simd.{first_chunks}
use native.Mathlib.Omega.{arith}
use Rattle.codec.proofs.Laws.{fours_zero, twos_zero, zero_together}
use Rattle.codec.proofs.octets.all_zero.Goals as goal

pub returns : goal.returns
returns c = let s = c.args.s.now in
    let r = c.as_chunks.result.1.now in
    let k = length s / 4 in
    let j = length r / 2 in
    let first : c.fold-first.result ≡ fold (λ any four. bit_or any (from_le_bytes w32 four)) 0 (first_chunks 4 k s) = search rules in
    let second : c.fold-second.result ≡ fold (λ any two. bit_or any (from_le_bytes w16 two)) 0 (first_chunks 2 j r) = search rules in
    let last : c.fold.result ≡ fold bit_or 0 c.as_chunks-2.result.1.now = search rules in
    rw (first, second, last, zero_together c.as_chunks-2.result.1.now 0, c.as_chunks-2.ensures.back, twos_zero j r (omega arith), c.as_chunks.ensures.back) (fours_zero k s (omega arith))
