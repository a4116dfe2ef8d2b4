-- The blocks: 01's table, column by column, by its names, with the octets of each field.
use Rattle.std.specs.Prelude.{ℕ, List, [], ◌∷◌, cond, eqb}
use Rattle.codec.specs.Technology.{Technology, uwb, cs, nan, rssi, technology_id, technologies}
use Rattle.codec.specs.Layout.{Test, any, one_of, between, free, country, number, octets, counted, Layout}

-- ---- what both columns allow

abbrev pub interval : Test
interval = one_of (96 ∷ 120 ∷ 240 ∷ 600 ∷ [])

abbrev pub slot : Test
slot = between 1 2

abbrev pub periodic : Test
periodic = between 0 1

-- ---- what UWB's configuration allows besides

abbrev pub allowed_key_length : Test
allowed_key_length = one_of (8 ∷ 16 ∷ 32 ∷ [])

-- ---- capability: message 1. 003 decides that these parts belong to the Response and not to the Request.

-- Needs 20.
abbrev pub uwb_capability : Layout
uwb_capability =
    octets "address" 2 free  -- 2-3
    ∷ number "channels" 4 any  -- 4-7
    ∷ number "preamble indexes" 4 any  -- 8-11
    ∷ number "config IDs" 4 any  -- 12-15
    ∷ number "shortest interval" 2 interval  -- 16-17, ms
    ∷ number "shortest slot" 1 slot  -- 18, ms
    ∷ number "roles" 1 any  -- 19
    ∷ []

-- Needs 9.
abbrev pub cs_capability : Layout
cs_capability =
    number "security types" 1 any  -- 2
    ∷ octets "address" 6 free  -- 3-8
    ∷ []

-- Needs 6.
abbrev pub nan_capability : Layout
nan_capability =
    number "features" 1 any  -- 2
    ∷ number "periodic" 1 periodic  -- 3
    ∷ number "bandwidth" 1 any  -- 4
    ∷ number "receive chains" 1 any  -- 5
    ∷ []

-- ---- configuration: message 2

-- the fields after the key
abbrev pub uwb_after_key : Layout
uwb_after_key =
    octets "country" 2 country  -- 2 octets
    ∷ number "role" 1 (between 1 2)  -- 1 octet
    ∷ number "mode" 1 (between 1 2)  -- 1 octet
    ∷ []

-- Needs 19+k.
abbrev pub uwb_configuration : Layout
uwb_configuration =
    octets "address" 2 free  -- 2-3
    ∷ number "session ID" 4 any  -- 4-7
    ∷ number "config ID" 1 any  -- 8
    ∷ number "channel" 1 any  -- 9
    ∷ number "preamble index" 1 any  -- 10
    ∷ number "interval" 2 interval  -- 11-12, ms
    ∷ number "slot" 1 slot  -- 13, ms
    ∷ counted "key length" "key" allowed_key_length 32  -- 14, and k octets
    ∷ uwb_after_key

-- Needs 9.
abbrev pub cs_configuration : Layout
cs_configuration =
    number "security level" 1 (between 0 4)  -- 2
    ∷ octets "address" 6 free  -- 3-8
    ∷ []

-- the fields after the name
abbrev pub nan_after_name : Layout
nan_after_name =
    number "role" 1 (between 0 1)  -- 1 octet
    ∷ number "periodic" 1 periodic  -- 1 octet
    ∷ []

-- Needs 5+n.
abbrev pub nan_configuration : Layout
nan_configuration =
    counted "name length" "name" (between 1 64) 64  -- 2, and n octets
    ∷ nan_after_name

-- ---- both: RSSI's two blocks are alike

-- Needs 8.
abbrev pub rssi_block : Layout
rssi_block = octets "address" 6 free ∷ []  -- 2-7

-- ---- the table: a column for each message with blocks, and in it a cell for each technology

pub data Column : Type 0 where
  capabilities configurations : Column

abbrev pub columns : List Column
columns = capabilities ∷ configurations ∷ []

abbrev pub cell : Column → Technology → Layout
cell capabilities uwb = uwb_capability
cell capabilities cs = cs_capability
cell capabilities nan = nan_capability
cell capabilities rssi = rssi_block
cell configurations uwb = uwb_configuration
cell configurations cs = cs_configuration
cell configurations nan = nan_configuration
cell configurations rssi = rssi_block

-- the layout of a block by its ID, of these technologies; a block with another ID has no field that is read
abbrev pub layout_for : Column → List Technology → ℕ → Layout
layout_for k [] id = []
layout_for k (t ∷ others) id = cond (eqb id (technology_id t)) (cell k t) (layout_for k others id)

abbrev pub layouts : Column → ℕ → Layout
layouts k = layout_for k technologies
