use Rattle.codec.proofs.MessageCases.{low_assigned, six_or_seven, not_assigned}
use mathlib.Core.Path.{sym}
use native.Mathlib.Omega.{arith}
use Rattle.codec.proofs.message.assigned.Goals as goal

pub returns-in-4-to-5 : goal.returns-in-4-to-5
returns-in-4-to-5 c = sym (not_assigned _ (λ e. omega arith) (λ e. omega arith) (λ e. omega arith) (λ e. omega arith) (λ e. omega arith) (λ e. omega arith))

pub returns-in-4-to-5-2 : goal.returns-in-4-to-5-2
returns-in-4-to-5-2 c = sym (not_assigned _ (λ e. omega arith) (λ e. omega arith) (λ e. omega arith) (λ e. omega arith) (λ e. omega arith) (λ e. omega arith))

pub returns-in-0-to-3 : goal.returns-in-0-to-3
returns-in-0-to-3 c = sym (low_assigned _ (omega arith))

pub returns-in-0-to-3-2 : goal.returns-in-0-to-3-2
returns-in-0-to-3-2 c = sym (six_or_seven _ (omega arith) (omega arith))
