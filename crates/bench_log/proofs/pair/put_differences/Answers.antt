use Rattle.bench_log.proofs.RecordPairs.{left_refused, right_refused, messages_ready, put_read}
use Rattle.std.proofs.Common.{arith}
use Rattle.bench_log.proofs.pair.put_differences.Goals as goal

pub returns-in_default : goal.returns-in_default
returns-in_default c = (
  (λ i. omega (arith, c.type_inv.left i), λ i. omega (arith, c.type_inv.right i)),
  (rw (left_refused c.of-l.ensures c.of-r.ensures c.in_default.is) c.put_heads-next.ensures.0, omega (arith, c.put_heads-next.ensures.1)),
)

pub returns-in_default-message : goal.returns-in_default-message
returns-in_default-message c = (
  (λ i. omega (arith, c.type_inv.left i), λ i. omega (arith, c.type_inv.right i)),
  (rw (right_refused c.of-l.ensures c.of-r.ensures c.in_default-message.is) c.put_heads-next.ensures.0, omega (arith, c.put_heads-next.ensures.1)),
)

pub put_messages-requires : goal.put_messages-requires
put_messages-requires c =
    messages_ready c.of-l.ensures c.of-r.ensures c.in-Ok.is c.in-Ok-message.is (λ i. omega (arith, c.type_inv.left i)) (λ i. omega (arith, c.type_inv.right i))
    (omega (arith, c.requires, c.put_heads-next.ensures.1, c.put_heads-next.ensures.0.same))

pub returns : goal.returns
returns c = (
  (λ i. omega (arith, c.type_inv.left i), λ i. omega (arith, c.type_inv.right i)),
  (put_read c.of-l.ensures c.of-r.ensures c.in-Ok.is c.in-Ok-message.is _ c.put_heads-next.ensures.0 c.put_messages.ensures.0, omega (arith, c.put_heads-next.ensures.1, c.put_messages.ensures.1)),
)
