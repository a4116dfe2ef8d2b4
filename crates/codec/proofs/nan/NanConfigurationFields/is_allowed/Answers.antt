use native.Mathlib.Omega.{arith}
use mathlib.Core.Path.{refl, sym, ◌∙◌}
use Rattle.codec.proofs.Layouts.{bounded_le}
use Rattle.codec.specs.Layout.{between}
use Rattle.codec.proofs.nan.NanConfigurationFields.is_allowed.Goals as goal

pub zero_from-requires : goal.zero_from-requires
zero_from-requires c = omega (arith, bounded_le (between 1 64) 64 _ refl (sym c.inside.ensures ∙ c.if-not-inside.false))
