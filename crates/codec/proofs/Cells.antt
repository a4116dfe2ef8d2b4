-- The cells of the table: a law of each layout is a law of each cell, and a record keeps the fields of every cell.
use Prim.Native.Nat.{ℕ, ◌≤◌, ◌<◌}
use native.Mathlib.Omega.{arith}
use mathlib.Core.Path.{◌≡◌, refl, sym, ap, ◌∙◌, fun_ext}
use mathlib.Core.Bool.{true}
use mathlib.Core.List.{List, []}
use lib.ListN.{get_or}
use borrow.Author.Tests.{ne_eqb}
use Rattle.codec.specs.Refusal.{Checked}
use Rattle.codec.specs.Inner.Places.{size_fault, layout_fault, fields_fault}
use Rattle.codec.specs.Technology.{Technology, uwb, cs, nan, rssi, technology_id}
use Rattle.codec.specs.Layout.{Layout, Values}
use Rattle.codec.specs.Blocks.{uwb_capability, cs_capability, nan_capability, rssi_block, uwb_configuration, cs_configuration, nan_configuration, Column, capabilities, configurations, cell, layouts}
use Rattle.codec.specs.Records.{StructOf, to_uwb_capability, to_cs_capability, to_nan_capability, to_uwb_configuration, to_cs_configuration, to_nan_configuration, to_rssi, make, fields, to_record, of_record}
use Rattle.codec.specs.declared.records.Record.{Record}
use Rattle.codec.proofs.Layouts.{fits, most}

-- a law of the layouts
by_cell : (P : Layout → Type 0) → P uwb_capability → P cs_capability → P nan_capability → P uwb_configuration → P cs_configuration → P nan_configuration → P rssi_block → (k : Column) (t : Technology) → P (cell k t)
by_cell P uc cc₁ nc us cs₁ ns rs capabilities uwb = uc
by_cell P uc cc₁ nc us cs₁ ns rs capabilities cs = cc₁
by_cell P uc cc₁ nc us cs₁ ns rs capabilities nan = nc
by_cell P uc cc₁ nc us cs₁ ns rs capabilities rssi = rs
by_cell P uc cc₁ nc us cs₁ ns rs configurations uwb = us
by_cell P uc cc₁ nc us cs₁ ns rs configurations cs = cs₁
by_cell P uc cc₁ nc us cs₁ ns rs configurations nan = ns
by_cell P uc cc₁ nc us cs₁ ns rs configurations rssi = rs

pub cell_fits : (k : Column) (t : Technology) → fits (cell k t) ≡ true
cell_fits = by_cell (λ L. fits L ≡ true) refl refl refl refl refl refl refl

pub cell_short : (k : Column) (t : Technology) → most (cell k t) ≤ 100
cell_short = by_cell (λ L. most L ≤ 100) (omega arith) (omega arith) (omega arith) (omega arith) (omega arith) (omega arith) (omega arith)

-- ---- layouts by ID

pub layout_of : (k : Column) (t : Technology) → layouts k (technology_id t) ≡ cell k t
layout_of k uwb = refl
layout_of k cs = refl
layout_of k nan = refl
layout_of k rssi = refl

pub no_layout : (k : Column) (id : ℕ) → 4 ≤ id → layouts k id ≡ []
no_layout k id h = rw (ne_eqb id 0 (λ e. omega arith), ne_eqb id 1 (λ e. omega arith), ne_eqb id 2 (λ e. omega arith), ne_eqb id 3 (λ e. omega arith))

-- RSSI's two blocks are alike
pub rssi_cell : (k : Column) → rssi_block ≡ cell k rssi
rssi_cell capabilities = refl
rssi_cell configurations = refl

-- the first fault of a block whose ID is a technology's, and of any other block
module _ (k : Column) (m : List ℕ) (at : ℕ) {r : Checked (Unit {0})} where
  pub fault_of : (t : Technology) {L : Layout} → get_or m at 0 ≡ technology_id t → L ≡ cell k t → r ≡ layout_fault L m at → r ≡ fields_fault (layouts k) m at
  fault_of t i l e = e ∙ ap (λ (L : Layout). layout_fault L m at) (l ∙ sym (layout_of k t) ∙ ap (layouts k) (sym i))

  pub fault_past : 4 ≤ get_or m at 0 → r ≡ size_fault 2 m at → r ≡ fields_fault (layouts k) m at
  fault_past h e = e ∙ ap (λ (L : Layout). layout_fault L m at) (sym (no_layout k (get_or m at 0) h))

pub technology_below : (t : Technology) → technology_id t < 4
technology_below uwb = omega arith
technology_below cs = omega arith
technology_below nan = omega arith
technology_below rssi = omega arith

-- ---- a record keeps the fields of every cell

pub fields_make : (k : Column) (f : (t : Technology) → Values (cell k t)) (t : Technology) → fields k (make k f) t ≡ f t
fields_make capabilities f uwb = refl
fields_make capabilities f cs = refl
fields_make capabilities f nan = refl
fields_make capabilities f rssi = refl
fields_make configurations f uwb = refl
fields_make configurations f cs = refl
fields_make configurations f nan = refl
fields_make configurations f rssi = refl

-- a struct with these fields, technology by technology
pub made_of : (k : Column) (c : StructOf k) (f : (t : Technology) → Values (cell k t)) → fields k c uwb ≡ f uwb → fields k c cs ≡ f cs → fields k c nan ≡ f nan → fields k c rssi ≡ f rssi → c ≡ make k f
made_of capabilities c f u s n r = λ i. record { uwb = to_uwb_capability (u i); cs = to_cs_capability (s i); nan = to_nan_capability (n i); rssi = to_rssi (r i) }
made_of configurations c f u s n r = λ i. record { uwb = to_uwb_configuration (u i); cs = to_cs_configuration (s i); nan = to_nan_configuration (n i); rssi = to_rssi (r i) }

pub cell_here : (id set : ℕ) (f : (k : Column) (t : Technology) → Values (cell k t)) (k : Column) (t : Technology) → of_record (to_record id set f) k t ≡ f k t
cell_here id set f capabilities t = fields_make capabilities (f capabilities) t
cell_here id set f configurations t = fields_make configurations (f configurations) t

-- and nothing else
pub record_is : (r : Record) (set : ℕ) (f : (k : Column) (t : Technology) → Values (cell k t)) → r.set ≡ set → ((k : Column) (t : Technology) → of_record r k t ≡ f k t) → r ≡ to_record r.id set f
record_is r set f e h =
    let q : of_record r ≡ f = fun_ext (λ k. fun_ext (h k)) in
    λ i. to_record r.id (e i) (q i)
