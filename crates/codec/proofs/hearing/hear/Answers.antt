use Rattle.codec.specs.Table.{Row}
use Rattle.codec.specs.Message.{id_of, body, reading}
use Rattle.codec.specs.Inner.Places.{verdict, head_fault, no_places, carries_blocks, Judged, Placed}
use Rattle.codec.specs.Refusal.{Refusal, Err, Ok}
use Rattle.codec.proofs.Outcomes.{raised, verdict_refused}
use Rattle.codec.proofs.MessageCases.{judged_alone, judged_as, head_stop, opened}
use Rattle.codec.proofs.Rows.{other_alone}
use Rattle.codec.proofs.FoundLemmas.{located, reads_refused}
use Rattle.codec.proofs.HeardLemmas.{refused_heard, heard_alone, heard_settings}
use Prim.Native.Nat.{ℕ}
use mathlib.Core.Bool.{true}
use mathlib.Core.List.{List}
use mathlib.Core.Path.{◌≡◌, refl, sym, ap, ◌∙◌}
use Rattle.codec.proofs.hearing.hear.Goals as goal

-- what is found, by the kind of message
module _ (m : List ℕ) (e : Ok tt ≡ head_fault m) where
  -- a message that is refused after its head
  refused : {x : Refusal} → Err x ≡ verdict (body m) → reading m ≡ Err x
  refused b = reads_refused _ (sym (opened _ e).rest ∙ verdict_refused _ b)

  configuration : {places : List ℕ} → id_of m ≡ 2 → Judged true (body m) 6 no_places (Ok tt) places → Placed m places
  configuration i j = located _ (rw i (judged_as j (opened _ e).rest))

  response : {places : List ℕ} → id_of m ≡ 1 → Judged true (body m) 4 no_places (Ok tt) places → Placed m places
  response i j = located _ (rw i (judged_as j (opened _ e).rest))

  alone : (id_of m ≡ 1 → ⊥) → (id_of m ≡ 2 → ⊥) → Ok tt ≡ verdict (body m) → Placed m no_places
  alone i j b = located _ (judged_alone (ap (λ (R : Row). carries_blocks R.column) (other_alone _ i j)) (b ∙ ap verdict (opened _ e).rest) refl)

pub returns-in_err-head_fault : goal.returns-in_err-head_fault
returns-in_err-head_fault c = rw (raised _ c.from_residual.ensures.1) (refused_heard _ (reads_refused _ (head_stop _ c.in_err-head_fault.ensures)))

pub returns-in_err-blocks_fault : goal.returns-in_err-blocks_fault
returns-in_err-blocks_fault c = rw (raised _ c.from_residual-in_err-blocks_fault.ensures.1) (refused_heard _ (refused _ c.in_ok-head_fault.ensures c.in_err-blocks_fault.ensures.judges))

pub u16_at-requires : goal.u16_at-requires
u16_at-requires c = (configuration _ c.in_ok-head_fault.ensures c.if-id-eq-CONFIGURATION.true c.in_ok-blocks_fault.ensures).four

pub returns-then-id-eq-CONFIGURATION : goal.returns-then-id-eq-CONFIGURATION
returns-then-id-eq-CONFIGURATION c = rw (c.heard_at.ensures, c.u16_at.ensures) (heard_settings (configuration _ c.in_ok-head_fault.ensures c.if-id-eq-CONFIGURATION.true c.in_ok-blocks_fault.ensures) c.if-id-eq-CONFIGURATION.true)

pub returns-in_err-blocks_fault-2 : goal.returns-in_err-blocks_fault-2
returns-in_err-blocks_fault-2 c = rw (raised _ c.from_residual-in_err-blocks_fault-2.ensures.1) (refused_heard _ (refused _ c.in_ok-head_fault.ensures c.in_err-blocks_fault-2.ensures.judges))

pub u16_at-requires-then-id-eq-CAPABILITY_RESPONSE : goal.u16_at-requires-then-id-eq-CAPABILITY_RESPONSE
u16_at-requires-then-id-eq-CAPABILITY_RESPONSE c = (response _ c.in_ok-head_fault.ensures c.if-id-eq-CAPABILITY_RESPONSE.true c.in_ok-blocks_fault-2.ensures).four

pub returns-then-id-eq-CAPABILITY_RESPONSE : goal.returns-then-id-eq-CAPABILITY_RESPONSE
returns-then-id-eq-CAPABILITY_RESPONSE c = rw (c.heard.ensures, c.u16_at-then-id-eq-CAPABILITY_RESPONSE.ensures)
    (heard_alone (response _ c.in_ok-head_fault.ensures c.if-id-eq-CAPABILITY_RESPONSE.true c.in_ok-blocks_fault-2.ensures) c.if-id-eq-CONFIGURATION.false)

pub returns-in_err-set_fault : goal.returns-in_err-set_fault
returns-in_err-set_fault c = rw (raised _ c.from_residual-in_err-set_fault.ensures.1) (refused_heard _ (refused _ c.in_ok-head_fault.ensures c.in_err-set_fault.ensures))

pub u16_at-requires-2 : goal.u16_at-requires-2
u16_at-requires-2 c = (alone _ c.in_ok-head_fault.ensures c.if-id-eq-CAPABILITY_RESPONSE.false c.if-id-eq-CONFIGURATION.false c.in_ok-set_fault.ensures).four

pub returns : goal.returns
returns c = rw (c.heard-2.ensures, c.u16_at-2.ensures) (heard_alone (alone _ c.in_ok-head_fault.ensures c.if-id-eq-CAPABILITY_RESPONSE.false c.if-id-eq-CONFIGURATION.false c.in_ok-set_fault.ensures) c.if-id-eq-CONFIGURATION.false)
