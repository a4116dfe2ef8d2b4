-- Well-formed messages, with no order of checks and no refusal: how the octets lie, and what the record says.
use Rattle.std.specs.Prelude.{ℕ, zero, suc, ◌≤◌, ◌<◌, ◌≡◌, ◌⊎◌, true, length, get_or}
use mathlib.Core.List.{List, [], ◌∷◌, ◌++◌, flatten}
use Rattle.codec.specs.Octets.{to_le}
use Rattle.codec.specs.Layout.{Layout, allowed, value, need}
use Rattle.codec.specs.Technology.{bit}
use Rattle.codec.specs.Table.{message_limit, assigned, row, block_count, layouts_of}
use Rattle.codec.specs.Message.{record_of}
use Rattle.codec.specs.declared.records.Record.{Record}

-- A whole block of a set: its ID has a bit in the set, its size is the number of its octets, these are at least as many as
-- its layout needs (2 for ID 4 to 15), and every field is allowed.
pub record Whole (layouts : ℕ → Layout) (set : ℕ) (block : List ℕ) : Type 0 where
  pub named : bit set (get_or block 0 0) ≡ true
  pub size : get_or block 1 0 ≡ length block
  pub enough : need (layouts (get_or block 0 0)) 2 block ≤ length block
  pub fields : allowed (layouts (get_or block 0 0)) (value (layouts (get_or block 0 0)) 2 block) ≡ true

abbrev pub Each : {A : Type 0} → (A → Type 0) → List A → Type 0
Each P [] = Unit {0}
Each P (x ∷ l) = P x × Each P l

-- no ID comes twice
abbrev pub Once : List (List ℕ) → Type 0
Once [] = Unit {0}
Once (b ∷ blocks) = Each (λ c. get_or c 0 0 ≡ get_or b 0 0 → ⊥) blocks × Once blocks

-- a block with this ID is among the blocks
pub data Has (id : ℕ) : List (List ℕ) → Type 0 where
  this : {b : List ℕ} {blocks : List (List ℕ)} → get_or b 0 0 ≡ id → Has id (b ∷ blocks)
  later : {b : List ℕ} {blocks : List (List ℕ)} → Has id blocks → Has id (b ∷ blocks)

-- the set, so many times
abbrev pub sets : ℕ → ℕ → List ℕ
sets zero set = []
sets (suc n) set = to_le 2 set ++ sets n set

pub record WellFormed (m : List ℕ) (r : Record) : Type 0 where
  pub version : ℕ
  pub id : ℕ
  pub set : ℕ
  pub blocks : List (List ℕ)
  pub rest : List ℕ
  -- how the octets lie
  pub octets : m ≡ version ∷ id ∷ (sets (row id).times set ++ (flatten blocks ++ rest))
  pub limit : length m ≤ message_limit
  -- the head
  pub id_assigned : assigned id ≡ true
  pub readable : (version ≡ 1) ⊎ ((1 < version) × (id < 2))
  -- the blocks, in any order
  pub count : length blocks ≡ block_count (row id).column set
  pub whole : Each (Whole (layouts_of (row id).column) set) blocks
  pub once : Once blocks
  -- the end of the message
  pub ends : version ≡ 1 → rest ≡ []
  -- the record
  pub says : r ≡ record_of id set blocks
