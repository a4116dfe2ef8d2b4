-- Blocks by rising ID: what is written of a column is whole, in normal form and read back.
use Prim.Native.Nat.{ℕ, ◌+◌, ◌≤◌, ◌<◌}
use native.Mathlib.Omega.{arith}
use mathlib.Core.Logic.{◌↔◌}
use mathlib.Core.Path.{◌≡◌, refl, sym, ap, ◌∙◌}
use mathlib.Core.Bool.{Bool, true, false, cond}
use mathlib.Core.List.{List, [], ◌∷◌, append-nil, flatten}
use lib.Dec.{eqb}
use lib.ListN.{length, get_or, length-append}
use borrow.Author.Tests.{eq-eqb, ne_eqb}
use Rattle.codec.specs.Octets.{Octets}
use Rattle.codec.specs.Technology.{Technology, technology_id, technologies, bit, names}
use Rattle.codec.specs.Layout.{Layout, Values, zeroes, allowed, Typed, cleared, write, value, need}
use Rattle.codec.specs.Blocks.{Column, capabilities, cell}
use Rattle.codec.specs.Message.{fields_in}
use Rattle.codec.specs.WellFormed.{Each, Once, Has, this, later}
use Rattle.codec.specs.NormalForm.{block, rising, blocks_of, Rising}
use Rattle.codec.specs.Records.{fields, response}
use Rattle.codec.specs.declared.records.Capability.{Capability}
use Rattle.codec.proofs.Layouts.{most, write_most}
use Rattle.codec.proofs.FieldLaws.{octets_none, octets_cons, octets_append, octets_write, back}
use Rattle.codec.proofs.Counting.{one}
use Rattle.codec.proofs.Every.{Among, first, further, a_technology, each_at}
use Rattle.codec.proofs.Cells.{cell_fits, cell_short, technology_below}

pub rising_once : (blocks : List (List ℕ)) → Rising blocks → Once blocks
rising_once [] h = tt
rising_once (b ∷ blocks) h = (apart blocks h.0, rising_once blocks h.1)
  where
    apart : (blocks : List (List ℕ)) → Each (λ c. get_or b 0 0 < get_or c 0 0) blocks → Each (λ c. get_or c 0 0 ≡ get_or b 0 0 → ⊥) blocks
    apart [] h = tt
    apart (c ∷ blocks) h = ((λ e. omega (arith, h.0)), apart blocks h.1)

-- ---- technologies by rising ID

abbrev pub Ascending : List Technology → Type 0
Ascending [] = Unit {0}
Ascending (t ∷ others) = Each (λ u. technology_id t < technology_id u) others × Ascending others

pub ascending : Ascending technologies
ascending = ((omega arith, (omega arith, (omega arith, tt))), ((omega arith, (omega arith, tt)), ((omega arith, tt), (tt, tt))))

-- the most octets that their blocks take
abbrev pub total : Column → List Technology → ℕ
total k [] = 0
total k (t ∷ others) = 2 + most (cell k t) + total k others

module _ (k : Column) (v : (t : Technology) → Values (cell k t)) (set : ℕ) where
  abbrev pub BlockOf : Technology → List ℕ
  BlockOf t = block (cell k t) (technology_id t) (v t)

  abbrev Rest : List Technology → List (List ℕ)
  Rest others = rising k v set others

  -- of each block that is written
  pub rising_each : (P : List ℕ → Type 0) (ts : List Technology) → ((t : Technology) → Among t ts → names set t ≡ true → P (BlockOf t)) → Each P (Rest ts)
  rising_each P [] h = tt
  rising_each P (t ∷ others) h = go (names set t) (h t first) (rising_each P others (λ u a. h u (further a)))
    where
      go : (b : Bool) → (b ≡ true → P (BlockOf t)) → Each P (Rest others) → Each P (cond b (BlockOf t ∷ Rest others) (Rest others))
      go true p r = (p refl, r)
      go false p r = r

  pub rising_rises : (ts : List Technology) → Ascending ts → Rising (Rest ts)
  rising_rises [] a = tt
  rising_rises (t ∷ others) a = go (names set t) (rising_rises others a.1) (rising_each (λ c. technology_id t < get_or c 0 0) others (λ u m e. each_at (λ w. technology_id t < technology_id w) u a.0 m))
    where
      go : (b : Bool) → Rising (Rest others) → Each (λ c. technology_id t < get_or c 0 0) (Rest others) → Rising (cond b (BlockOf t ∷ Rest others) (Rest others))
      go true r e = (e, r)
      go false r e = r

  abbrev tally : List Technology → ℕ
  tally [] = 0
  tally (t ∷ others) = one (names set t) + tally others

  pub rising_count : (ts : List Technology) → length (Rest ts) ≡ tally ts
  rising_count [] = refl
  rising_count (t ∷ others) = go (names set t) (rising_count others)
    where
      go : (b : Bool) → length (Rest others) ≡ tally others → length (cond b (BlockOf t ∷ Rest others) (Rest others)) ≡ one b + tally others
      go true e = omega arith
      go false e = omega arith

  -- no block of another ID is found
  rising_apart : (L : Layout) (id : ℕ) (ts : List Technology) → Each (λ u. id < technology_id u) ts → fields_in L id (Rest ts) ≡ zeroes L
  rising_apart L id [] h = refl
  rising_apart L id (t ∷ others) h = go (names set t) (rising_apart L id others h.1)
    where
      go : (b : Bool) → fields_in L id (Rest others) ≡ zeroes L → fields_in L id (cond b (BlockOf t ∷ Rest others) (Rest others)) ≡ zeroes L
      go true e = rw (ne_eqb (technology_id t) id (λ d. omega (arith, h.0))) e
      go false e = e

  abbrev Found : Technology → List (List ℕ) → Type 0
  Found t blocks = fields_in (cell k t) (technology_id t) blocks ≡ cond (names set t) (value (cell k t) 2 (BlockOf t)) (zeroes (cell k t))

  pub rising_fields : (t : Technology) {ts : List Technology} → Ascending ts → Among t ts → Found t (Rest ts)
  rising_fields t a (first {l = others}) = go (names set t) (rising_apart (cell k t) (technology_id t) others a.0)
    where
      go : (b : Bool) → fields_in (cell k t) (technology_id t) (Rest others) ≡ zeroes (cell k t)
          → fields_in (cell k t) (technology_id t) (cond b (BlockOf t ∷ Rest others) (Rest others)) ≡ cond b (value (cell k t) 2 (BlockOf t)) (zeroes (cell k t))
      go true e = rw (eq-eqb (technology_id t) (technology_id t) refl)
      go false e = e
  rising_fields t a (further {y = u} {l = others} m) = go (names set u) (ne_eqb (technology_id u) (technology_id t) (λ e. omega (arith, each_at (λ w. technology_id u < technology_id w) t a.0 m))) (rising_fields t a.1 m)
    where
      go : (b : Bool) → eqb (technology_id u) (technology_id t) ≡ false → Found t (Rest others) → Found t (cond b (BlockOf u ∷ Rest others) (Rest others))
      go true d e = rw d e
      go false d e = e

  -- a block of an ID is written only if the set names its technology, and then always
  pub rising_named : (id : ℕ) (ts : List Technology) → Has id (Rest ts) → (u : Technology) × ((technology_id u ≡ id) × (names set u ≡ true))
  rising_named id [] h = elim h [ ]
  rising_named id (t ∷ others) h = go (names set t) refl h (rising_named id others)
    where
      go : (b : Bool) → names set t ≡ b → Has id (cond b (BlockOf t ∷ Rest others) (Rest others)) → (Has id (Rest others) → (u : Technology) × ((technology_id u ≡ id) × (names set u ≡ true))) → (u : Technology) × ((technology_id u ≡ id) × (names set u ≡ true))
      go true e (this q) k = (t, (q, e))
      go true e (later h) k = k h
      go false e h k = k h

  pub named_rising : (t : Technology) {ts : List Technology} → Among t ts → names set t ≡ true → Has (technology_id t) (Rest ts)
  named_rising t (first {l = others}) n = rw n (this refl)
  named_rising t (further {y = u} {l = others} m) n = go (names set u) (named_rising t m n)
    where
      go : (b : Bool) → Has (technology_id t) (Rest others) → Has (technology_id t) (cond b (BlockOf u ∷ Rest others) (Rest others))
      go true h = later h
      go false h = h

  module _ (T : (t : Technology) → Typed (cell k t) (v t)) where
    pub rising_size : (ts : List Technology) → length (flatten (Rest ts)) ≤ total k ts
    unfolding flatten
    rising_size [] = omega arith
    rising_size (t ∷ others) = go (names set t) (rising_size others) (write_most (cell k t) (v t) (T t))
      where
        go : (b : Bool) → length (flatten (Rest others)) ≤ total k others → length (write (cell k t) (v t)) ≤ most (cell k t)
            → length (flatten (cond b (BlockOf t ∷ Rest others) (Rest others))) ≤ 2 + most (cell k t) + total k others
        go true h w = simp length-append (omega arith)
        go false h w = omega arith

    pub octets_rising : (ts : List Technology) → Octets (flatten (Rest ts))
    unfolding flatten
    octets_rising [] = octets_none
    octets_rising (t ∷ others) = go (names set t) (octets_rising others)
      where
        W : List ℕ
        W = write (cell k t) (v t)

        go : (b : Bool) → Octets (flatten (Rest others)) → Octets (flatten (cond b (BlockOf t ∷ Rest others) (Rest others)))
        go true o =
            octets_append (BlockOf t) (flatten (Rest others))
            (octets_cons (technology_id t) ((2 + length W) ∷ W) (omega (arith, technology_below t)) (octets_cons (2 + length W) W (omega (arith, write_most (cell k t) (v t) (T t), cell_short k t)) (octets_write (cell k t) (v t) (T t))))
            o
        go false o = o

    -- what is written of a block is read back
    pub block_back : (t : Technology) → allowed (cell k t) (v t) ≡ true → cleared (cell k t) (v t) ≡ true → (value (cell k t) 2 (BlockOf t) ≡ v t) × (need (cell k t) 2 (BlockOf t) ≡ length (BlockOf t))
    block_back t a c =
        let L = cell k t in
        let b = back L (cell_fits k t) 2 (v t) (BlockOf t) [] (omega arith) (T t) a c (sym (append-nil (write L (v t)))) in
        (b.0, b.1 ∙ omega arith)

-- the blocks of a Capability Response are those of the technologies in its set
pub response_has : (set : ℕ) (c : Capability) (t : Technology) → Has (technology_id t) (blocks_of (response set c)) ↔ (names set t ≡ true)
response_has set c t =
    let v = fields capabilities c in (
      λ h. let n = rising_named capabilities v set (technology_id t) technologies h in ap (bit set) (sym n.1.0) ∙ n.1.1,
      named_rising capabilities v set t (a_technology t),
    )
