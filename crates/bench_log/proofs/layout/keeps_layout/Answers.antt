use Rattle.bench_log.specs.LogRecord.{length_in}
use Rattle.bench_log.proofs.Entries.{wrong_size, wrong_zero, wrong_length, zeros_past}
use Rattle.codec.specs.Octets.{all_zero}
use Rattle.std.proofs.Common.{◌≡◌, ◌+◌, ◌-◌, length, drop, sym, ap, ◌∙◌, arith, length-drop, take_all}
use Rattle.bench_log.proofs.layout.keeps_layout.Goals as goal

pub returns-then-octets-lt4 : goal.returns-then-octets-lt4
returns-then-octets-lt4 c = wrong_size _ _ (λ e. omega (arith, c.if-octets-lt4.true, e))

pub returns-then-octets-limit : goal.returns-then-octets-limit
returns-then-octets-limit c = wrong_size _ _ (λ e. c.if-octets-limit.true (omega (arith, e)))

pub returns-then-octets-ne0 : goal.returns-then-octets-ne0
returns-then-octets-ne0 c = wrong_zero _ _ (omega arith) (omega arith) c.if-octets-ne0.true

pub returns-then-limit-length : goal.returns-then-limit-length
returns-then-limit-length c = wrong_length _ _ (omega arith) (omega arith) c.if-octets-ne0.false (omega (arith, c.length_in-length.ensures, c.if-limit-length.true))

pub returns : goal.returns
returns c = let s = c.args.octets.now in
    let j = c.length_in-length.result in
    let e : length_in s ≡ j = sym c.length_in-length.ensures in
    c.all_zero.ensures ∙ ap all_zero (take_all (length s - (4 + j)) (drop (4 + j) s) (simp length-drop (omega arith)) ∙ rw e)
    ∙ zeros_past _ s (omega arith) (omega arith) c.if-octets-ne0.false (omega (arith, e, c.if-limit-length.false))
