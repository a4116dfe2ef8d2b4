-- What the types of the code ensure of a record that is a parameter: numbers of their width, and arrays of octets of their length.
use Prim.Native.Nat.{ℕ, zero, suc}
use native.Mathlib.Omega.{arith}
use mathlib.Core.Path.{◌≡◌}
use mathlib.Core.List.{List, [], ◌∷◌}
use lib.ListN.{length}
use mir.Val.{Val}
use denote.Laws.{Is}
use denote.Array.{Array, each}
use denote.Builtin.{u8}
use denote.Shadow.{shadow}
use denote.Struct.Laws.{owed}
use Rattle.codec.specs.Octets.{Octets}
use Rattle.codec.specs.Technology.{Technology, uwb, cs, nan, rssi}
use Rattle.codec.specs.Layout.{Typed}
use Rattle.codec.specs.Blocks.{uwb_capability, cs_capability, nan_capability, uwb_configuration, cs_configuration, nan_configuration, rssi_block, Column, capabilities, configurations, cell}
use Rattle.codec.specs.Records.{of_uwb_capability, of_cs_capability, of_nan_capability, of_uwb_configuration, of_cs_configuration, of_nan_configuration, of_rssi, fields, of_record}
use Rattle.codec.specs.Valid.{TypedRecord}
use Rattle.codec.specs.declared.uwb.UwbCapability.{UwbCapability}
use Rattle.codec.specs.declared.uwb.UwbConfiguration.{UwbConfiguration}
use Rattle.codec.specs.declared.cs.CsCapability.{CsCapability}
use Rattle.codec.specs.declared.cs.CsConfiguration.{CsConfiguration}
use Rattle.codec.specs.declared.nan.NanCapability.{NanCapability}
use Rattle.codec.specs.declared.nan.NanConfiguration.{NanConfiguration}
use Rattle.codec.specs.declared.rssi.Rssi.{Rssi}
use Rattle.codec.specs.declared.records.Capability.{Capability}
use Rattle.codec.specs.declared.records.Configuration.{Configuration}
use Rattle.codec.specs.declared.records.Record.{Record}
use Rattle.codec.specs.contracts.uwb.UwbCapability as UC
use Rattle.codec.proofs.uwb.UwbCapability.TheLaws as UC'
use Rattle.codec.specs.contracts.uwb.UwbConfiguration as US
use Rattle.codec.proofs.uwb.UwbConfiguration.TheLaws as US'
use Rattle.codec.specs.contracts.cs.CsCapability as CC
use Rattle.codec.proofs.cs.CsCapability.TheLaws as CC'
use Rattle.codec.specs.contracts.cs.CsConfiguration as CS
use Rattle.codec.proofs.cs.CsConfiguration.TheLaws as CS'
use Rattle.codec.specs.contracts.nan.NanCapability as NC
use Rattle.codec.proofs.nan.NanCapability.TheLaws as NC'
use Rattle.codec.specs.contracts.nan.NanConfiguration as NS
use Rattle.codec.proofs.nan.NanConfiguration.TheLaws as NS'
use Rattle.codec.specs.contracts.rssi.Rssi as R
use Rattle.codec.proofs.rssi.Rssi.TheLaws as R'
use Rattle.codec.specs.contracts.records.Capability as C
use Rattle.codec.proofs.records.Capability.TheLaws as C'
use Rattle.codec.specs.contracts.records.Configuration as S
use Rattle.codec.proofs.records.Configuration.TheLaws as S'
use Rattle.codec.specs.contracts.records.Record as T
use Rattle.codec.proofs.records.Record.TheLaws as T'

each_octet : (l : List ℕ) (us : List Val) → shadow (each ℕ u8.own_val l us) → Octets l
each_octet [] us h i = omega arith
each_octet (x ∷ l) [] h i = absurd h
each_octet (x ∷ l) (u ∷ us) h zero = omega (arith, h.0.1)
each_octet (x ∷ l) (u ∷ us) h (suc i) = each_octet l us h.1 i

-- a field that is an array
array : (n : ℕ) (l : List ℕ) (vs : List Val) → Is (Array u8 n) l vs → (length l ≡ n) × Octets l
array n l vs h = (h.1.0.1, each_octet l h.0 h.1.1)

module _ (vs : List Val) where
  uwb_capability_lem : (x : UwbCapability) → Is UC.the_row x vs → Typed uwb_capability (of_uwb_capability x)
  uwb_capability_lem x h =
      let o = owed UC.the_type UC'.the_laws x vs h in
      let a = array 2 x.address _ o.0 in
      let p = o.1.1.1.1 in
      (a.0, (a.1, (omega (arith, o.1.0.1.1.0.1), (omega (arith, o.1.1.0.1.1.0.1), (omega (arith, o.1.1.1.0.1.1.0.1), (omega (arith, p.0.1), (omega (arith, p.1.0.1), (omega (arith, p.1.1.0.1), tt))))))))

  cs_capability_lem : (x : CsCapability) → Is CC.the_row x vs → Typed cs_capability (of_cs_capability x)
  cs_capability_lem x h =
      let o = owed CC.the_type CC'.the_laws x vs h in
      let a = array 6 x.address _ o.1.0 in
      (omega (arith, o.0.1), (a.0, (a.1, tt)))

  nan_capability_lem : (x : NanCapability) → Is NC.the_row x vs → Typed nan_capability (of_nan_capability x)
  nan_capability_lem x h =
      let o = owed NC.the_type NC'.the_laws x vs h in
      (omega (arith, o.0.1), (omega (arith, o.1.0.1), (omega (arith, o.1.1.0.1), (omega (arith, o.1.1.1.0.1), tt))))

  rssi_block_lem : (x : Rssi) → Is R.the_row x vs → Typed rssi_block (of_rssi x)
  rssi_block_lem x h = let a = array 6 x.address _ (owed R.the_type R'.the_laws x vs h).0 in (a.0, (a.1, tt))

  pub uwb_configuration_lem : (x : UwbConfiguration) → Is US.the_row x vs → Typed uwb_configuration (of_uwb_configuration x)
  uwb_configuration_lem x h =
      let o = owed US.the_type US'.the_laws x vs h in
      let a = array 2 x.address _ o.0 in
      let p = o.1.1.1.1.1 in
      let k = array 32 x.key _ p.1.1.1.0 in
      let q = p.1.1.1.1 in
      let c = array 2 x.country _ q.0 in
      (a.0, (a.1, (omega (arith, o.1.0.1), (omega (arith, o.1.1.0.1.1.0.1), (omega (arith, o.1.1.1.0.1.1.0.1), (omega (arith, o.1.1.1.1.0.1.1.0.1), (omega (arith, p.0.1), (omega (arith, p.1.0.1), (omega (arith, p.1.1.0.1), (k.0, (k.1, (c.0, (c.1, (omega (arith, q.1.0.1), (omega (arith, q.1.1.0.1), tt)))))))))))))))

  cs_configuration_lem : (x : CsConfiguration) → Is CS.the_row x vs → Typed cs_configuration (of_cs_configuration x)
  cs_configuration_lem x h =
      let o = owed CS.the_type CS'.the_laws x vs h in
      let a = array 6 x.address _ o.1.0 in
      (omega (arith, o.0.1), (a.0, (a.1, tt)))

  nan_configuration_lem : (x : NanConfiguration) → Is NS.the_row x vs → Typed nan_configuration (of_nan_configuration x)
  nan_configuration_lem x h =
      let o = owed NS.the_type NS'.the_laws x vs h in
      let a = array 64 x.name _ o.1.0 in
      (omega (arith, o.0.1), (a.0, (a.1, (omega (arith, o.1.1.0.1), (omega (arith, o.1.1.1.0.1), tt)))))

pub capability_typed : (x : Capability) (vs : List Val) → Is C.the_row x vs → (t : Technology) → Typed (cell capabilities t) (fields capabilities x t)
capability_typed x vs h uwb = uwb_capability_lem _ x.uwb (owed C.the_type C'.the_laws x vs h).0
capability_typed x vs h cs = cs_capability_lem _ x.cs (owed C.the_type C'.the_laws x vs h).1.0
capability_typed x vs h nan = nan_capability_lem _ x.nan (owed C.the_type C'.the_laws x vs h).1.1.0
capability_typed x vs h rssi = rssi_block_lem _ x.rssi (owed C.the_type C'.the_laws x vs h).1.1.1.0

pub configuration_typed : (x : Configuration) (vs : List Val) → Is S.the_row x vs → (t : Technology) → Typed (cell configurations t) (fields configurations x t)
configuration_typed x vs h uwb = uwb_configuration_lem _ x.uwb (owed S.the_type S'.the_laws x vs h).0
configuration_typed x vs h cs = cs_configuration_lem _ x.cs (owed S.the_type S'.the_laws x vs h).1.0
configuration_typed x vs h nan = nan_configuration_lem _ x.nan (owed S.the_type S'.the_laws x vs h).1.1.0
configuration_typed x vs h rssi = rssi_block_lem _ x.rssi (owed S.the_type S'.the_laws x vs h).1.1.1.0

pub record_typed : (r : Record) (vs : List Val) → Is T.the_row r vs → TypedRecord r
record_typed r vs h =
    let o = owed T.the_type T'.the_laws r vs h in
    record { id = omega (arith, o.0.1); set = omega (arith, o.1.0.1); cells = cells (capability_typed r.capability _ o.1.1.0) (configuration_typed r.configuration _ o.1.1.1.0) }
  where
    cells : ((t : Technology) → Typed (cell capabilities t) (fields capabilities r.capability t)) → ((t : Technology) → Typed (cell configurations t) (fields configurations r.configuration t))
        → (k : Column) (t : Technology) → Typed (cell k t) (of_record r k t)
    cells a b capabilities = a
    cells a b configurations = b
