-- The starred messages of 01's "Messages to check", in its order, with what the reader returns for each.
use Rattle.std.specs.Prelude.{ℕ, ◌≡◌, List, [], ◌∷◌}
use Rattle.codec.specs.Blocks.{capabilities, configurations}
use Rattle.codec.specs.Records.{blank, without_blocks, accepted, refused, answer}
use Rattle.codec.specs.Message.{reading}
use Rattle.codec.specs.declared.records.Record.{Record}
use Rattle.codec.specs.declared.records.Reading.{Reading}

pub record Example : Type 0 where
  pub message : List ℕ
  pub gives : Reading

abbrev example : List ℕ → Reading → Example
example m a = record { message = m; gives = a }

-- UWB is bit 0, RSSI bit 3
abbrev uwb_and_rssi : ℕ
uwb_and_rssi = 9

-- a Configuration of CS alone
abbrev cs_alone : ℕ → List ℕ → Record
cs_alone level address = record {
  id = 2;
  set = 2;
  capability = blank capabilities;
  configuration = record {
    uwb = (blank configurations).uwb;
    cs = record { security_level = level; address = address };
    nan = (blank configurations).nan;
    rssi = (blank configurations).rssi;
  };
}

-- "and six octets": any six
abbrev pub starred : ℕ → ℕ → ℕ → ℕ → ℕ → ℕ → List Example
starred a b c d e f =
    example [] (refused 2)
    ∷ example (0x01 ∷ []) (refused 2)
    ∷ example (0x01 ∷ 0x00 ∷ 0x09 ∷ []) (refused 2)
    ∷ example (0x01 ∷ 0x00 ∷ 0x09 ∷ 0x00 ∷ []) (accepted (without_blocks 0 uwb_and_rssi))
    ∷ example (0x01 ∷ 0x00 ∷ 0x09 ∷ 0x00 ∷ 0x00 ∷ []) (refused 9)
    ∷ example (0x03 ∷ 0x00 ∷ 0x19 ∷ 0x00 ∷ 0xAA ∷ []) (accepted (without_blocks 0 uwb_and_rssi))
    ∷ example (0x00 ∷ 0x06 ∷ 0x01 ∷ 0x00 ∷ []) (refused 4)
    ∷ example (0x03 ∷ 0x06 ∷ 0x01 ∷ 0x00 ∷ []) (refused 4)
    ∷ example (0x01 ∷ 0x02 ∷ 0x02 ∷ 0x00 ∷ 0x0A ∷ 0x00 ∷ []) (refused 5)
    ∷ example (0x01 ∷ 0x02 ∷ 0x00 ∷ 0x00 ∷ 0x00 ∷ 0x00 ∷ []) (accepted (without_blocks 2 0))
    ∷ example (0x01 ∷ 0x01 ∷ 0x08 ∷ 0x00 ∷ 0x03 ∷ 0x07 ∷ 0xA1 ∷ 0xA2 ∷ 0xA3 ∷ 0xA4 ∷ 0xA5 ∷ []) (refused 6)
    ∷ example (0x01 ∷ 0x01 ∷ 0x08 ∷ 0x00 ∷ 0x03 ∷ 0x08 ∷ 0xA1 ∷ []) (refused 2)
    ∷ example (0x01 ∷ 0x01 ∷ 0x08 ∷ 0x00 ∷ 0x00 ∷ 0x14 ∷ []) (refused 7)
    ∷ example (0x01 ∷ 0x02 ∷ 0x02 ∷ 0x00 ∷ 0x02 ∷ 0x00 ∷ 0x01 ∷ 0x09 ∷ 0x05 ∷ a ∷ b ∷ c ∷ d ∷ e ∷ f ∷ []) (refused 8)
    ∷ example (0x01 ∷ 0x02 ∷ 0x02 ∷ 0x00 ∷ 0x02 ∷ 0x00 ∷ 0x01 ∷ 0x09 ∷ 0x04 ∷ a ∷ b ∷ c ∷ d ∷ e ∷ f ∷ []) (accepted (cs_alone 4 (a ∷ b ∷ c ∷ d ∷ e ∷ f ∷ [])))
    ∷ []

-- what the reader returns is what the row says
abbrev pub Right : Example → Type 0
Right r = answer (reading r.message) ≡ r.gives
