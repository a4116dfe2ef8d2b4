use mathlib.Core.Path.{◌≡◌, sym, ◌∙◌}
use mathlib.Core.Bool.{not, ◌&&◌, ◌||◌, true, and-true, or-true}
use Prim.Native.Nat.{ℕ}
use lib.Dec.{ltb}
use Rattle.codec.specs.Technology.{uwb, nan, technologies, set_limit, names}
use Rattle.codec.specs.Blocks.{uwb_capability, nan_capability}
use Rattle.codec.specs.Records.{of_uwb_capability, of_nan_capability}
use Rattle.codec.specs.Valid.{valid_fields, every}
use Rattle.codec.specs.declared.records.Capability.{Capability}
use Rattle.codec.proofs.ValidCases.{used_fields, only_valid}
use Rattle.codec.proofs.validity.valid_only.Goals as goal

-- the fields of CS and RSSI are always allowed
used : (set : ℕ) (c : Capability)
    → (ltb set set_limit && ((not (names set uwb) || valid_fields uwb_capability true (of_uwb_capability c.uwb)) && (not (names set nan) || valid_fields nan_capability true (of_nan_capability c.nan)))) ≡ (ltb set set_limit && every technologies (used_fields set c))
used set c = simp (and-true, or-true)

pub returns : goal.returns
returns c = let a = c.args in rw (c.is_allowed.ensures, c.is_allowed-2.ensures, c.has.ensures, c.has-2.ensures) (used a.set a.c.now ∙ sym (only_valid a.set a.c.now))
