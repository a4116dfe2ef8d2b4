use Rattle.codec.proofs.Listed.{head_there, passes_next, lists_first, lists_next}
use native.Mathlib.Omega.{arith}
use Rattle.codec.proofs.listing.+nth_place.Goals as goal

pub returns-then-n-eq0 : goal.returns-then-n-eq0
returns-then-n-eq0 t c = lists_first _ _ _ (λ e. omega (arith, c.requires.1)) _ c.if-n-eq0.true c.requires.0

pub next_place-requires : goal.next_place-requires
next_place-requires t c = head_there _ _ _ (λ e. omega (arith, c.requires.1)) c.requires.0

pub nth_place-requires : goal.nth_place-requires
nth_place-requires t c = (omega (arith, c.requires.1), (rw c.next_place.ensures (passes_next _ _ _ (λ e. omega (arith, c.requires.1)) c.requires.0), omega (arith, c.requires.1)))

pub returns : goal.returns
returns t c = lists_next _ _ _ (λ e. omega (arith, c.requires.1)) _ _ c.if-n-eq0.false (rw c.next_place.ensures at c.nth_place.ensures)
