-- What the tag does with each technology, and which settings lie within a profile.
use Rattle.std.specs.Prelude.{ℕ, ◌-◌, Bool, true, false, not, ◌&&◌, ◌||◌, eqb, leb}
use Rattle.codec.specs.Technology.{Technology, uwb, cs, nan, rssi, bit}
use Rattle.codec.specs.Records.{CapabilityOf, Settings}
use Rattle.codec.specs.declared.uwb.Channel.{Channel}
use Rattle.codec.specs.declared.uwb.Channels.{Channels}
use Rattle.codec.specs.declared.uwb.PreambleIndex.{PreambleIndex}
use Rattle.codec.specs.declared.uwb.PreambleIndexes.{PreambleIndexes}
use Rattle.codec.specs.declared.uwb.ConfigId.{ConfigId}
use Rattle.codec.specs.declared.uwb.ConfigIds.{ConfigIds}

-- CS is never ranging at the tag
abbrev pub ranges : Technology → Bool
ranges uwb = true
ranges cs = false
ranges nan = true
ranges rssi = true

-- a Stop that ends its ranging bars it until its capabilities are given out again: UWB alone
abbrev pub bars : Technology → Bool
bars uwb = true
bars cs = false
bars nan = false
bars rssi = false

-- ---- within the profile

-- at most 31 with its bit
abbrev pub has_config_id : ConfigIds → ConfigId → Bool
has_config_id ids x = leb x.0 31 && bit ids.0 x.0

abbrev pub has_channel : Channels → Channel → Bool
has_channel channels x = leb x.0 31 && bit channels.0 x.0

-- 1 to 32 with its bit, which for preamble index n is bit n - 1
abbrev pub has_preamble_index : PreambleIndexes → PreambleIndex → Bool
has_preamble_index indexes x = leb 1 x.0 && (leb x.0 32 && bit indexes.0 (x.0 - 1))

-- role 1 or 2 with role bit 0x1 or 0x2
abbrev pub has_role : ℕ → ℕ → Bool
has_role roles role = (eqb role 1 && bit roles 0) || (eqb role 2 && bit roles 1)

-- the settings of a technology lie within what the profile says of it
abbrev pub within_profile : (t : Technology) → CapabilityOf t → Settings t → Bool
within_profile uwb k x =
    has_config_id k.config_ids x.config_id
    && (has_channel k.channels x.channel
    && (has_preamble_index k.preamble_indexes x.preamble_index
    && (leb k.shortest_interval x.interval
    && (leb k.shortest_slot x.slot
    && has_role k.roles x.role))))
within_profile cs k x = bit k.security_types x.security_level
within_profile nan k x = not (eqb x.periodic 1) || eqb k.periodic 1
within_profile rssi k x = true
