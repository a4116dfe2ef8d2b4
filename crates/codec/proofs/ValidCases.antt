-- A record's validity, test by test.
use Prim.Native.Nat.{ℕ}
use mathlib.Core.Path.{◌≡◌, refl, sym, ap, fun_ext, ◌∙◌}
use mathlib.Core.Bool.{Bool, true, false, cond, not, ◌&&◌, ◌||◌, and-true, and-false, and_assoc}
use lib.Dec.{ltb}
use borrow.Author.Tests.{ne_eqb}
use Rattle.codec.specs.Octets.{all_zero}
use Rattle.codec.specs.Technology.{Technology, technologies, set_limit, names}
use Rattle.codec.specs.Layout.{Layout, Values, zeroes, zeroed}
use Rattle.codec.specs.Blocks.{Column, capabilities, configurations, cell}
use Rattle.codec.specs.Table.{assigned, row}
use Rattle.codec.specs.Records.{blank, fields, response, only, settings_record, without_blocks, message_id, set_record}
use Rattle.codec.specs.Valid.{valid_fields, every, valid_column, valid}
use Rattle.codec.specs.Inner.Puts.{rest_zero}
use Rattle.codec.specs.Inner.Places.{set_alone}
use Rattle.codec.specs.declared.records.Capability.{Capability}
use Rattle.codec.specs.declared.records.Configuration.{Configuration}
use Rattle.codec.specs.declared.records.Record.{Record}
use Rattle.codec.specs.declared.records.SetMessage.{SetMessage}
use Rattle.codec.proofs.FieldLaws.{zeroed_zeroes}
use Rattle.codec.proofs.Every.{every_both}
use Rattle.codec.proofs.Cells.{fields_make}
use Rattle.codec.proofs.Rows.{alone_not}

-- nothing is present, and all fields are zero
blank_valid : (k : Column) → valid_column k 0 (blank k) ≡ true
unfolding valid_column all_zero
blank_valid capabilities = refl
blank_valid configurations = refl

pub response_valid : (set : ℕ) (c : Capability) → valid (response set c) ≡ (ltb set set_limit && valid_column capabilities set c)
unfolding valid assigned
response_valid set c = rw (blank_valid configurations, and-true (valid_column capabilities set c))

-- fields that the set leaves out are zero, and those that it names are allowed
abbrev pub used_fields : ℕ → Capability → Technology → Bool
used_fields set c t = not (names set t) || valid_fields (cell capabilities t) true (fields capabilities c t)

pub only_valid : (set : ℕ) (c : Capability) → valid (response set (only set c)) ≡ (ltb set set_limit && every technologies (used_fields set c))
unfolding valid_column
only_valid set c = response_valid set (only set c) ∙ ap (λ (f : Technology → Bool). ltb set set_limit && every technologies f) (fun_ext one)
  where
    go : (L : Layout) (b : Bool) (v : Values L) → valid_fields L b (cond b v (zeroes L)) ≡ (not b || valid_fields L true v)
    go L true v = refl
    go L false v = zeroed_zeroes L

    one : (t : Technology) → valid_fields (cell capabilities t) (names set t) (fields capabilities (only set c) t) ≡ used_fields set c t
    one t = rw (fields_make capabilities (λ t. cond (names set t) (fields capabilities c t) (zeroes (cell capabilities t))) t) (go (cell capabilities t) (names set t) (fields capabilities c t))

pub settings_valid : (set : ℕ) (c : Configuration) → valid (settings_record set c) ≡ (ltb set set_limit && valid_column configurations set c)
unfolding valid assigned
settings_valid set c = rw (blank_valid capabilities, and-true (valid_column configurations set c))

pub bare_valid : (id set : ℕ) → assigned id ≡ true → row id ≡ set_alone → valid (without_blocks id set) ≡ ltb set set_limit
unfolding valid
bare_valid id set a e = rw (a, alone_not id e capabilities, alone_not id e configurations, blank_valid capabilities, blank_valid configurations, and-true (ltb set set_limit))

pub set_assigned : (message : SetMessage) → (assigned (message_id message) ≡ true) × (row (message_id message) ≡ set_alone)
unfolding assigned
set_assigned SetMessage.Request = (refl, refl)
set_assigned SetMessage.ConfigurationResponse = (refl, refl)
set_assigned SetMessage.Stop = (refl, refl)
set_assigned SetMessage.StopResponse = (refl, refl)

pub set_valid : (message : SetMessage) (set : ℕ) → valid (set_record message set) ≡ ltb set set_limit
set_valid message set = let a = set_assigned message in bare_valid (message_id message) set a.0 a.1

-- ---- a record's validity, with what its message does not use told apart

-- a capability: what is used is allowed, and the rest is zero
used_and_rest : (set : ℕ) (c : Capability) → valid_column capabilities set c ≡ (every technologies (used_fields set c) && rest_zero set c)
unfolding valid_column
used_and_rest set c =
    ap (every technologies) (fun_ext λ t. go (cell capabilities t) (names set t) (fields capabilities c t))
    ∙ every_both (used_fields set c) (λ t. names set t || zeroed (cell capabilities t) (fields capabilities c t)) technologies
  where
    go : (L : Layout) (b : Bool) (v : Values L) → valid_fields L b v ≡ ((not b || valid_fields L true v) && (b || zeroed L v))
    go L true v = sym (and-true (valid_fields L true v))
    go L false v = refl

module _ (r : Record) where
  -- a Capability Response
  pub response_of : r.id ≡ 1 → valid r ≡ (valid (response r.set r.capability) && valid_column configurations 0 r.configuration)
  unfolding valid assigned
  response_of h = rw (h, blank_valid configurations, and-true (valid_column capabilities r.set r.capability), and-true (valid_column configurations 0 r.configuration)) (sym (and_assoc (ltb r.set set_limit) (valid_column capabilities r.set r.capability) (valid_column configurations 0 r.configuration)))

  pub only_of : r.id ≡ 1 → valid r ≡ (valid (response r.set (only r.set r.capability)) && (rest_zero r.set r.capability && valid_column configurations 0 r.configuration))
  only_of h = response_of h ∙ rw (response_valid r.set r.capability, only_valid r.set r.capability, used_and_rest r.set r.capability) (go (ltb r.set set_limit) _ _ _)
    where
      go : (l p z v : Bool) → ((l && (p && z)) && v) ≡ ((l && p) && (z && v))
      go false p z v = refl
      go true false z v = refl
      go true true z v = refl

  pub rest_used : r.id ≡ 1 → (rest_zero r.set r.capability && valid_column configurations 0 r.configuration) ≡ false → valid r ≡ false
  rest_used h e = only_of h ∙ rw e (and-false (valid (response r.set (only r.set r.capability))))

  module _ (n : r.id ≡ 1 → ⊥) where
    pub capability_used : valid_column capabilities 0 r.capability ≡ false → valid r ≡ false
    unfolding valid
    capability_used e = rw (ne_eqb r.id 1 n, e, and-false (ltb r.set set_limit)) (and-false (assigned r.id))

    module _ (z : valid_column capabilities 0 r.capability ≡ true) where
      pub settings_of : r.id ≡ 2 → valid r ≡ valid (settings_record r.set r.configuration)
      unfolding valid assigned
      settings_of h = rw (h, z, blank_valid capabilities)

      pub bare_of : row r.id ≡ set_alone → valid r ≡ ((assigned r.id && valid_column configurations 0 r.configuration) && ltb r.set set_limit)
      unfolding valid
      bare_of m = rw (ne_eqb r.id 1 n, alone_not r.id m configurations, z, and-true (valid_column configurations 0 r.configuration)) (go (assigned r.id) (ltb r.set set_limit) _)
        where
          go : (a l v : Bool) → (a && (l && v)) ≡ ((a && v) && l)
          go false l v = refl
          go true false false = refl
          go true false true = refl
          go true true false = refl
          go true true true = refl

      pub configuration_used : row r.id ≡ set_alone → (assigned r.id && valid_column configurations 0 r.configuration) ≡ false → valid r ≡ false
      configuration_used m e = bare_of m ∙ rw e
