use Rattle.codec.proofs.Rows.{other_alone}
use Rattle.codec.proofs.Pieces.{not_valid_lem, as_response, as_settings, as_bare}
use Rattle.codec.proofs.ValidCases.{rest_used, capability_used, configuration_used}
use Rattle.codec.proofs.Outcomes.{and_true_lem}
use Rattle.codec.proofs.Types.{record_typed}
use Rattle.codec.specs.Table.{assigned}
use mathlib.Core.Path.{sym, ◌∙◌}
use Rattle.codec.proofs.writer.write.Goals as goal

pub returns-then-not-rest-is_zero : goal.returns-then-not-rest-is_zero
returns-then-not-rest-is_zero c = record { typed = record_typed c.args.value _ c.well_formed.0; writes = rw c.refused.ensures (not_valid_lem c.args.value c.args.out.now (rest_used _ c.if-value-eq-CAPABILITY_RESPONSE.true (rw (c.rest_zero-rest.ensures, c.is_zero.ensures) at c.if-not-rest-is_zero.true))) }

pub returns-then-value-eq-CAPABILITY_RESPONSE : goal.returns-then-value-eq-CAPABILITY_RESPONSE
returns-then-value-eq-CAPABILITY_RESPONSE c = record { typed = record_typed c.args.value _ c.well_formed.0; writes = as_response c.args.value c.args.out.now c.if-value-eq-CAPABILITY_RESPONSE.true (rw (c.rest_zero-rest.ensures, c.is_zero.ensures) at c.if-not-rest-is_zero.false) c.write_capability_response.ensures }

pub returns-then-not-is_zero : goal.returns-then-not-is_zero
returns-then-not-is_zero c = record { typed = record_typed c.args.value _ c.well_formed.0; writes = rw c.refused-then-not-is_zero.ensures (not_valid_lem c.args.value c.args.out.now (capability_used _ c.if-value-eq-CAPABILITY_RESPONSE.false (sym c.is_zero-2.ensures ∙ c.if-not-is_zero.true))) }

pub returns-then-value-eq-CONFIGURATION : goal.returns-then-value-eq-CONFIGURATION
returns-then-value-eq-CONFIGURATION c = record { typed = record_typed c.args.value _ c.well_formed.0; writes = as_settings c.args.value c.args.out.now c.if-value-eq-CAPABILITY_RESPONSE.false (sym c.is_zero-2.ensures ∙ c.if-not-is_zero.false) c.if-value-eq-CONFIGURATION.true c.write_configuration.ensures }

pub returns-then-not-assigned-is_zero : goal.returns-then-not-assigned-is_zero
returns-then-not-assigned-is_zero c = record { typed = record_typed c.args.value _ c.well_formed.0; writes = rw c.refused-then-not-assigned-is_zero.ensures (not_valid_lem c.args.value c.args.out.now (configuration_used _ c.if-value-eq-CAPABILITY_RESPONSE.false (sym c.is_zero-2.ensures ∙ c.if-not-is_zero.false) (other_alone _ c.if-value-eq-CAPABILITY_RESPONSE.false c.if-value-eq-CONFIGURATION.false) (rw (c.assigned.ensures, c.is_zero-3.ensures) at c.if-not-assigned-is_zero.true))) }

pub returns : goal.returns
returns c = record { typed = record_typed c.args.value _ c.well_formed.0; writes = as_bare c.args.value c.args.out.now c.if-value-eq-CAPABILITY_RESPONSE.false (sym c.is_zero-2.ensures ∙ c.if-not-is_zero.false) (other_alone _ c.if-value-eq-CAPABILITY_RESPONSE.false c.if-value-eq-CONFIGURATION.false) (rw (c.assigned.ensures, c.is_zero-3.ensures) at c.if-not-assigned-is_zero.false) c.write_without_blocks.ensures }

pub write_without_blocks-requires : goal.write_without_blocks-requires
write_without_blocks-requires c = ((and_true_lem (assigned c.args.value.id) _ (rw (c.assigned.ensures) at c.if-not-assigned-is_zero.false)).0, other_alone _ c.if-value-eq-CAPABILITY_RESPONSE.false c.if-value-eq-CONFIGURATION.false)
