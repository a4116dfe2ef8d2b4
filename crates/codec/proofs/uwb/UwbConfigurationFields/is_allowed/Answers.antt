use native.Mathlib.Omega.{arith}
use Rattle.codec.proofs.Layouts.{bounded_le}
use Rattle.codec.specs.Layout.{one_of}
use mathlib.Core.List.{[], ◌∷◌}
use mathlib.Core.Path.{refl, sym, ◌∙◌}
use mathlib.Core.Bool.{and-true, and_assoc}
use Rattle.codec.proofs.uwb.UwbConfigurationFields.is_allowed.Goals as goal

pub zero_from-requires : goal.zero_from-requires
zero_from-requires c = omega (arith, bounded_le (one_of (8 ∷ 16 ∷ 32 ∷ [])) 32 _ refl (sym c.allowed_key_length.ensures ∙ c.if-not-allowed_key_length.false))

pub returns : goal.returns
returns c = rw (c.allowed_interval.ensures, c.inside-3.ensures, c.allowed_country.ensures, c.inside.ensures, c.inside-2.ensures, c.zero_from.ensures)
    (simp (sym c.allowed_key_length.ensures ∙ c.if-not-allowed_key_length.false, and-true, and_assoc))
