-- The pieces of a message that is written: the blocks of a column, and the head before them.
use Prim.Native.Nat.{ℕ, ◌+◌, ◌≤◌, ◌<◌}
use native.Mathlib.Omega.{arith}
use mathlib.Core.Path.{◌≡◌, refl, sym, ap, ◌∙◌}
use mathlib.Core.Option.{Option}
use mathlib.Core.Bool.{Bool, true, false, ◌&&◌, cond, and-true as with-true}
use mathlib.Core.List.{List, [], ◌∷◌, ◌++◌, flatten}
use lib.Dec.{eqb}
use lib.ListN.{length, length-append}
use lib.Seq.{length-take-le}
use borrow.Author.Tests.{eqb-true, eq-eqb, lt-leb, le-leb}
use Rattle.codec.specs.Refusal.{number_of, BufferTooShort, NotValid}
use Rattle.codec.specs.Octets.{to_le, all_zero}
use Rattle.codec.specs.Technology.{Technology, uwb, cs, nan, rssi, technology_id, technologies, names}
use Rattle.codec.specs.Layout.{Layout, number, octets, counted, test, spelled, Values, zeroes, allowed, cleared, zeroed, write}
use Rattle.codec.specs.Blocks.{uwb_configuration, Column, capabilities, configurations, cell}
use Rattle.codec.specs.Table.{assigned, message_of, Row, row}
use Rattle.codec.specs.Inner.Places.{set_alone}
use Rattle.codec.specs.Records.{of_uwb_configuration, StructOf, fields, column_in, of_record, response, only, settings_record, without_blocks, message_id, set_record}
use Rattle.codec.specs.Valid.{valid_fields, valid_column, valid}
use Rattle.codec.specs.WellFormed.{sets}
use Rattle.codec.specs.NormalForm.{block, rising, column_blocks, normal}
use Rattle.codec.specs.Writing.{writing, Writes}
use Rattle.codec.specs.Inner.Puts.{over, Put, block_if, head, chain, column_octets, Held, Fits, rest_zero}
use Rattle.codec.specs.declared.uwb.UwbConfiguration.{UwbConfiguration}
use Rattle.codec.specs.declared.records.Capability.{Capability}
use Rattle.codec.specs.declared.records.Configuration.{Configuration}
use Rattle.codec.specs.declared.records.Record.{Record}
use Rattle.codec.specs.declared.records.SetMessage.{SetMessage}
use Rattle.codec.specs.declared.records.Written.{Written}
use Rattle.codec.proofs.Outcomes.{and_true_lem}
use Rattle.codec.proofs.Layouts.{fits, bounded, bounded_le}
use Rattle.codec.proofs.Every.{a_technology, every_at}
use Rattle.codec.proofs.Cells.{cell_fits, fields_make}
use Rattle.codec.proofs.Rows.{column_there}
use Rattle.codec.proofs.ValidCases.{set_assigned, only_of, settings_of, bare_valid, bare_of}

-- the octets of UWB's settings
pub uwb_written : (v : UwbConfiguration) → length v.address ≡ 2 → length v.key ≡ 32 → length v.country ≡ 2 → v.key_length ≤ 32 → 19 + v.key_length ≡ 2 + length (write uwb_configuration (of_uwb_configuration v))
uwb_written v a k o h = simp length-append (omega (arith, a, o, length-take-le v.key_length v.key (omega (arith, k, h))))

-- ---- the normal form by message

rising_octets : (k : Column) (v : (t : Technology) → Values (cell k t)) (set : ℕ) (ts : List Technology) → flatten (rising k v set ts) ≡ chain k set v ts
unfolding flatten
rising_octets k v set [] = refl
rising_octets k v set (t ∷ others) = go (names set t) (rising_octets k v set others)
  where
    go : (b : Bool) → flatten (rising k v set others) ≡ chain k set v others
        → flatten (cond b (block (cell k t) (technology_id t) (v t) ∷ rising k v set others) (rising k v set others)) ≡ block_if b (cell k t) (technology_id t) (v t) ++ chain k set v others
    go true e = ap (λ (l : List ℕ). block (cell k t) (technology_id t) (v t) ++ l) e
    go false e = e

module _ (r : Record) where
  -- a message with the blocks of a column
  pub normal_column : (k : Column) → r.id ≡ message_of k → normal r ≡ 1 ∷ (message_of k ∷ (sets (row (message_of k)).times r.set ++ column_octets k r.set (column_in r k)))
  unfolding normal
  normal_column k h =
      let there = column_there (message_of k) k (eq-eqb (message_of k) (message_of k) refl) in
      ap (λ (id : ℕ). 1 ∷ (id ∷ (sets (row id).times r.set ++ flatten (column_blocks (row id).column r)))) h
      ∙ ap (λ (l : List ℕ). 1 ∷ (message_of k ∷ (sets (row (message_of k)).times r.set ++ l))) (ap (λ (c : Option Column). flatten (column_blocks c r)) there ∙ rising_octets k (of_record r k) r.set technologies)

  normal_alone : row r.id ≡ set_alone → normal r ≡ head r.id r.set
  unfolding normal flatten
  normal_alone e = ap (λ (R : Row). 1 ∷ (r.id ∷ (sets R.times r.set ++ flatten (column_blocks R.column r)))) e

-- the blocks that a set names are those of what it leaves of a capability
only_octets : (set : ℕ) (c : Capability) → column_octets capabilities set (only set c) ≡ column_octets capabilities set c
only_octets set c = same technologies
  where
    kept : (b : Bool) (L : Layout) (id : ℕ) (v : Values L) → block_if b L id (cond b v (zeroes L)) ≡ block_if b L id v
    kept true L id v = refl
    kept false L id v = refl

    same : (ts : List Technology) → chain capabilities set (fields capabilities (only set c)) ts ≡ chain capabilities set (fields capabilities c) ts
    same [] = refl
    same (t ∷ others) =
        let e = ap (λ (w : Values (cell capabilities t)). block_if (names set t) (cell capabilities t) (technology_id t) w) (fields_make capabilities (λ t. cond (names set t) (fields capabilities c t) (zeroes (cell capabilities t))) t)
        ∙ kept (names set t) (cell capabilities t) (technology_id t) (fields capabilities c t) in
        let rest = same others in
        λ i. e i ++ rest i

pub normal_response : (set : ℕ) (c : Capability) → normal (response set (only set c)) ≡ head 1 set ++ column_octets capabilities set c
normal_response set c = normal_column (response set (only set c)) capabilities refl ∙ ap (λ (l : List ℕ). head 1 set ++ l) (only_octets set c)

pub put_response : (set : ℕ) (c : Capability) {d e : List ℕ} {next : ℕ} → Put d 0 (head 1 set ++ column_octets capabilities set c) e next → Put d 0 (normal (response set (only set c))) e next
put_response set c p = rw (normal_response set c) p

pub normal_settings : (set : ℕ) (c : Configuration) → normal (settings_record set c) ≡ head 2 set ++ (to_le 2 set ++ column_octets configurations set c)
normal_settings set c = normal_column (settings_record set c) configurations refl

pub put_settings : (set : ℕ) (c : Configuration) {d e : List ℕ} {next : ℕ} → Put d 0 (head 2 set ++ (to_le 2 set ++ column_octets configurations set c)) e next → Put d 0 (normal (settings_record set c)) e next
put_settings set c p = rw (normal_settings set c) p

pub normal_bare : (id set : ℕ) → row id ≡ set_alone → normal (without_blocks id set) ≡ head id set
normal_bare id set e = normal_alone (without_blocks id set) e

pub normal_set : (message : SetMessage) (set : ℕ) → normal (set_record message set) ≡ head (message_id message) set
normal_set message set = let a = set_assigned message in normal_bare (message_id message) set a.1

pub put_bare : (id set : ℕ) → row id ≡ set_alone → {d e : List ℕ} {next : ℕ} → Put d 0 (head id set) e next → Put d 0 (normal (without_blocks id set)) e next
put_bare id set h p = rw (normal_bare id set h) p

-- ---- the counted octets of a valid record fit their arrays

held_allowed : (L : Layout) → fits L ≡ true → (v : Values L) → allowed L v ≡ true → Held L v
held_allowed [] f v a = tt
held_allowed (number x w t ∷ L) f v a = held_allowed L f v.1 (and_true_lem (test t v.0) (allowed L v.1) a).1
held_allowed (octets x n t ∷ L) f v a = held_allowed L f v.1 (and_true_lem (spelled t v.0) (allowed L v.1) a).1
held_allowed (counted y x t c ∷ L) f v a =
    let g = and_true_lem (bounded t c) (fits L) f in
    let p = and_true_lem (test t v.0) (allowed L v.1.1) a in
    (bounded_le t c v.0 g.0 p.0, held_allowed L g.1 v.1.1 p.1)

held_zeroed : (L : Layout) (v : Values L) → zeroed L v ≡ true → Held L v
held_zeroed [] v a = tt
held_zeroed (number x w t ∷ L) v a = held_zeroed L v.1 (and_true_lem (eqb v.0 0) (zeroed L v.1) a).1
held_zeroed (octets x n t ∷ L) v a = held_zeroed L v.1 (and_true_lem (all_zero v.0) (zeroed L v.1) a).1
held_zeroed (counted y x t c ∷ L) v a =
    let p = and_true_lem (eqb v.0 0) (all_zero v.1.0 && zeroed L v.1.1) a in
    (omega (arith, eqb-true v.0 0 p.0), held_zeroed L v.1.1 (and_true_lem (all_zero v.1.0) (zeroed L v.1.1) p.1).1)

held : (L : Layout) → fits L ≡ true → (present : Bool) (v : Values L) → valid_fields L present v ≡ true → Held L v
held L f true v e = held_allowed L f v (and_true_lem (allowed L v) (cleared L v) e).0
held L f false v e = held_zeroed L v e

pub fit : (k : Column) (set : ℕ) (c : StructOf k) → valid_column k set c ≡ true → Fits k c
unfolding valid_column
fit k set c e t = held (cell k t) (cell_fits k t) (names set t) (fields k c t) (every_at (λ t. valid_fields (cell k t) (names set t) (fields k c t)) t e (a_technology t))

-- a capability counts nothing
pub uncounted : (c : Capability) → Fits capabilities c
uncounted c uwb = tt
uncounted c cs = tt
uncounted c nan = tt
uncounted c rssi = tt

-- ---- the writer's answers

module _ (r : Record) (d : List ℕ) where
  pub not_valid_lem : valid r ≡ false → Writes r d (record { refusal = number_of NotValid; length = 0 }) d
  unfolding writing
  not_valid_lem h = record { answers = rw h; leaves = rw h }

  pub too_short : valid r ≡ true → length d < length (normal r) → Writes r d (record { refusal = number_of BufferTooShort; length = 0 }) d
  unfolding writing
  too_short h l = let b = lt-leb (length (normal r)) (length d) l in record { answers = rw (h, b); leaves = rw (h, b) }

  pub was_written : valid r ≡ true → length (normal r) ≤ length d → (n : ℕ) → n ≡ length (normal r) → {e : List ℕ} {next : ℕ} → Put d 0 (normal r) e next → Writes r d (record { refusal = 0; length = n }) e
  unfolding writing over
  was_written h l n k p =
      let b = le-leb (length (normal r)) (length d) l in
      let z : 0 + length (normal r) ≡ length (normal r) = omega arith in
      record { answers = rw (h, b, k); leaves = rw (h, b) (rw z at p.wrote) }

  -- a record that is as valid as another and has the same octets
  alike : (t : Record) → valid r ≡ valid t → normal r ≡ normal t → {a : Written} {e : List ℕ} → Writes t d a e → Writes r d a e
  unfolding writing
  alike t v n w = rw (v, n) w

  module _ {a : Written} {e : List ℕ} where
    pub as_response : r.id ≡ 1 → (rest_zero r.set r.capability && valid_column configurations 0 r.configuration) ≡ true → Writes (response r.set (only r.set r.capability)) d a e → Writes r d a e
    as_response h z = alike (response r.set (only r.set r.capability)) (only_of r h ∙ rw z (with-true (valid (response r.set (only r.set r.capability))))) (normal_column r capabilities h ∙ sym (normal_response r.set r.capability))

    module _ (n : r.id ≡ 1 → ⊥) (z : valid_column capabilities 0 r.capability ≡ true) where
      pub as_settings : r.id ≡ 2 → Writes (settings_record r.set r.configuration) d a e → Writes r d a e
      as_settings h = alike (settings_record r.set r.configuration) (settings_of r n z h) (normal_column r configurations h ∙ sym (normal_settings r.set r.configuration))

      pub as_bare : row r.id ≡ set_alone → (assigned r.id && valid_column configurations 0 r.configuration) ≡ true → Writes (without_blocks r.id r.set) d a e → Writes r d a e
      as_bare m t =
          let s = (and_true_lem (assigned r.id) _ t).0 in
          alike (without_blocks r.id r.set) (bare_of r n z m ∙ rw t (sym (bare_valid r.id r.set s m))) (normal_alone r m ∙ sym (normal_bare r.id r.set m))
