-- Records: the structs of the code as columns of 01's table. A record does not hold the version.
use Rattle.std.specs.Prelude.{ℕ, cond}
use Rattle.codec.specs.Technology.{Technology, uwb, cs, nan, rssi, names}
use Rattle.codec.specs.Layout.{Values, zeroes}
use Rattle.codec.specs.Blocks.{uwb_capability, cs_capability, nan_capability, uwb_configuration, cs_configuration, nan_configuration, rssi_block, Column, capabilities, configurations, cell}
use Rattle.codec.specs.Table.{message_of}
use Rattle.codec.specs.Refusal.{Checked, Err, Ok, number_of}
use Rattle.codec.specs.declared.uwb.UwbCapability.{UwbCapability}
use Rattle.codec.specs.declared.uwb.UwbConfiguration.{UwbConfiguration}
use Rattle.codec.specs.declared.cs.CsCapability.{CsCapability}
use Rattle.codec.specs.declared.cs.CsConfiguration.{CsConfiguration}
use Rattle.codec.specs.declared.nan.NanCapability.{NanCapability}
use Rattle.codec.specs.declared.nan.NanConfiguration.{NanConfiguration}
use Rattle.codec.specs.declared.rssi.Rssi.{Rssi}
use Rattle.codec.specs.declared.records.Capability.{Capability}
use Rattle.codec.specs.declared.records.Configuration.{Configuration}
use Rattle.codec.specs.declared.records.Record.{Record}
use Rattle.codec.specs.declared.records.SetMessage.{SetMessage}
use Rattle.codec.specs.declared.records.Reading.{Reading}

-- ---- a block's fields as the struct of the code that holds them

abbrev pub to_uwb_capability : Values uwb_capability → UwbCapability
to_uwb_capability v = record {
  address = v.0;
  channels = record { 0 = v.1.0 };
  preamble_indexes = record { 0 = v.1.1.0 };
  config_ids = record { 0 = v.1.1.1.0 };
  shortest_interval = v.1.1.1.1.0;
  shortest_slot = v.1.1.1.1.1.0;
  roles = v.1.1.1.1.1.1.0;
}

abbrev pub to_cs_capability : Values cs_capability → CsCapability
to_cs_capability v = record { security_types = v.0; address = v.1.0 }

abbrev pub to_nan_capability : Values nan_capability → NanCapability
to_nan_capability v = record { features = v.0; periodic = v.1.0; bandwidth = v.1.1.0; receive_chains = v.1.1.1.0 }

abbrev pub to_uwb_configuration : Values uwb_configuration → UwbConfiguration
to_uwb_configuration v = record {
  address = v.0;
  session_id = v.1.0;
  config_id = record { 0 = v.1.1.0 };
  channel = record { 0 = v.1.1.1.0 };
  preamble_index = record { 0 = v.1.1.1.1.0 };
  interval = v.1.1.1.1.1.0;
  slot = v.1.1.1.1.1.1.0;
  key_length = v.1.1.1.1.1.1.1.0;
  key = v.1.1.1.1.1.1.1.1.0;
  country = v.1.1.1.1.1.1.1.1.1.0;
  role = v.1.1.1.1.1.1.1.1.1.1.0;
  mode = v.1.1.1.1.1.1.1.1.1.1.1.0;
}

abbrev pub to_cs_configuration : Values cs_configuration → CsConfiguration
to_cs_configuration v = record { security_level = v.0; address = v.1.0 }

abbrev pub to_nan_configuration : Values nan_configuration → NanConfiguration
to_nan_configuration v = record { name_length = v.0; name = v.1.0; role = v.1.1.0; periodic = v.1.1.1.0 }

abbrev pub to_rssi : Values rssi_block → Rssi
to_rssi v = record { address = v.0 }

-- ---- and back

abbrev pub of_uwb_capability : UwbCapability → Values uwb_capability
of_uwb_capability r = (r.address, (r.channels.0, (r.preamble_indexes.0, (r.config_ids.0, (r.shortest_interval, (r.shortest_slot, (r.roles, tt)))))))

abbrev pub of_cs_capability : CsCapability → Values cs_capability
of_cs_capability r = (r.security_types, (r.address, tt))

abbrev pub of_nan_capability : NanCapability → Values nan_capability
of_nan_capability r = (r.features, (r.periodic, (r.bandwidth, (r.receive_chains, tt))))

abbrev pub of_uwb_configuration : UwbConfiguration → Values uwb_configuration
of_uwb_configuration r = (r.address, (r.session_id, (r.config_id.0, (r.channel.0, (r.preamble_index.0, (r.interval, (r.slot, (r.key_length, (r.key, (r.country, (r.role, (r.mode, tt))))))))))))

abbrev pub of_cs_configuration : CsConfiguration → Values cs_configuration
of_cs_configuration r = (r.security_level, (r.address, tt))

abbrev pub of_nan_configuration : NanConfiguration → Values nan_configuration
of_nan_configuration r = (r.name_length, (r.name, (r.role, (r.periodic, tt))))

abbrev pub of_rssi : Rssi → Values rssi_block
of_rssi r = (r.address, tt)

-- ---- a column: the struct of the code that holds it, and the fields of each technology in it

abbrev pub StructOf : Column → Type 0
StructOf capabilities = Capability
StructOf configurations = Configuration

abbrev pub make : (k : Column) → ((t : Technology) → Values (cell k t)) → StructOf k
make capabilities v = record { uwb = to_uwb_capability (v uwb); cs = to_cs_capability (v cs); nan = to_nan_capability (v nan); rssi = to_rssi (v rssi) }
make configurations v = record { uwb = to_uwb_configuration (v uwb); cs = to_cs_configuration (v cs); nan = to_nan_configuration (v nan); rssi = to_rssi (v rssi) }

abbrev pub fields : (k : Column) → StructOf k → (t : Technology) → Values (cell k t)
fields capabilities c uwb = of_uwb_capability c.uwb
fields capabilities c cs = of_cs_capability c.cs
fields capabilities c nan = of_nan_capability c.nan
fields capabilities c rssi = of_rssi c.rssi
fields configurations c uwb = of_uwb_configuration c.uwb
fields configurations c cs = of_cs_configuration c.cs
fields configurations c nan = of_nan_configuration c.nan
fields configurations c rssi = of_rssi c.rssi

-- all fields zero
abbrev pub blank : (k : Column) → StructOf k
blank k = make k (λ t. zeroes (cell k t))

-- ---- what a technology's block says in message 1, and in message 2

abbrev pub CapabilityOf : Technology → Type 0
CapabilityOf uwb = UwbCapability
CapabilityOf cs = CsCapability
CapabilityOf nan = NanCapability
CapabilityOf rssi = Rssi

abbrev pub capability_in : Capability → (t : Technology) → CapabilityOf t
capability_in k uwb = k.uwb
capability_in k cs = k.cs
capability_in k nan = k.nan
capability_in k rssi = k.rssi

-- settings are all fields of the technology's block in message 2
abbrev pub Settings : Technology → Type 0
Settings uwb = UwbConfiguration
Settings cs = CsConfiguration
Settings nan = NanConfiguration
Settings rssi = Rssi

abbrev pub settings_in : Configuration → (t : Technology) → Settings t
settings_in c uwb = c.uwb
settings_in c cs = c.cs
settings_in c nan = c.nan
settings_in c rssi = c.rssi

-- ---- records

-- with the fields of every technology in every column
abbrev pub to_record : (id set : ℕ) → ((k : Column) (t : Technology) → Values (cell k t)) → Record
to_record id set v = record { id = id; set = set; capability = make capabilities (v capabilities); configuration = make configurations (v configurations) }

abbrev pub column_in : Record → (k : Column) → StructOf k
column_in r capabilities = r.capability
column_in r configurations = r.configuration

abbrev pub of_record : Record → (k : Column) (t : Technology) → Values (cell k t)
of_record r k t = fields k (column_in r k) t

-- ---- of one message

abbrev pub without_blocks : ℕ → ℕ → Record
without_blocks id set = record { id = id; set = set; capability = blank capabilities; configuration = blank configurations }

abbrev pub zero_record : Record
zero_record = without_blocks 0 0

-- a Capability Response with these blocks
abbrev pub response : ℕ → Capability → Record
response set c = record { id = message_of capabilities; set = set; capability = c; configuration = blank configurations }

-- those that a set names, and all other fields zero
abbrev pub only : ℕ → Capability → Capability
only set c = make capabilities (λ t. cond (names set t) (fields capabilities c t) (zeroes (cell capabilities t)))

-- a Configuration with these blocks
abbrev pub settings_record : ℕ → Configuration → Record
settings_record set c = record { id = message_of configurations; set = set; capability = blank capabilities; configuration = c }

-- a message that carries a set and nothing else
abbrev pub message_id : SetMessage → ℕ
message_id SetMessage.Request = 0
message_id SetMessage.ConfigurationResponse = 3
message_id SetMessage.Stop = 6
message_id SetMessage.StopResponse = 7

abbrev pub set_record : SetMessage → ℕ → Record
set_record message set = without_blocks (message_id message) set

-- ---- what the reader returns: a refusal's number and the all-zero record, or 0 and the record

abbrev pub accepted : Record → Reading
accepted r = record { refusal = 0; value = r }

abbrev pub refused : ℕ → Reading
refused n = record { refusal = n; value = zero_record }

abbrev pub answer : Checked Record → Reading
answer (Err x) = refused (number_of x)
answer (Ok r) = accepted r
