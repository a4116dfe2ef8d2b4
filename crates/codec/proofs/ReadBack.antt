-- The normal form of a valid record is well formed with that record, fits the message limit and is in normal form; so reading it gives the record back.
use Prim.Native.Nat.{ℕ, zero, suc, ◌≤◌, ◌<◌}
use native.Mathlib.Omega.{arith}
use native.Mathlib.Nat.{mod-eq_of_lt}
use mathlib.Core.Logic.{inl}
use mathlib.Core.Path.{◌≡◌, refl, sym, ap, ◌∙◌}
use mathlib.Core.Option.{Option, none, some}
use mathlib.Core.Bool.{true, cond}
use mathlib.Core.List.{List, [], ◌∷◌, ◌++◌, append-nil, flatten}
use lib.Dec.{ltb, eqb}
use lib.ListN.{length, get_or, length-append}
use borrow.Author.Tests.{eq-eqb, ltb-true, lt-ltb}
use Rattle.codec.specs.Octets.{Octets, to_le}
use Rattle.codec.specs.Technology.{Technology, technology_id, technologies, set_limit, known, names}
use Rattle.codec.specs.Layout.{zeroes, allowed, cleared, value, need}
use Rattle.codec.specs.Blocks.{Column, capabilities, configurations, columns, cell, layouts}
use Rattle.codec.specs.Table.{message_limit, assigned, message_of, row, block_count, layouts_of, set_in}
use Rattle.codec.specs.Records.{column_in, of_record}
use Rattle.codec.specs.Message.{fields_in}
use Rattle.codec.specs.WellFormed.{Whole, Each, sets, WellFormed}
use Rattle.codec.specs.Valid.{TypedRecord, valid_fields, valid_column, valid}
use Rattle.codec.specs.NormalForm.{column_blocks, blocks_of, normal, Rising, NormalForm}
use Rattle.codec.specs.declared.records.Record.{Record}
use Rattle.codec.proofs.Outcomes.{by_bool, and_true_lem}
use Rattle.codec.proofs.FieldLaws.{octets_none, octets_cons, octets_append, octets_le, zeroed_only}
use Rattle.codec.proofs.Counting.{count_under}
use Rattle.codec.proofs.Every.{a_technology, a_column, every_at, every_all}
use Rattle.codec.proofs.Cells.{layout_of, record_is}
use Rattle.codec.proofs.Risings.{rising_once, ascending, total, BlockOf, rising_each, rising_rises, rising_count, rising_fields, rising_size, octets_rising, block_back}
use Rattle.codec.proofs.Rows.{Carries, column, carries, column_there, times_two, named_there}

octets_sets : (times set : ℕ) → set < 65536 → Octets (sets times set)
octets_sets zero set h = octets_none
octets_sets (suc n) set h = octets_append (to_le 2 set) (sets n set) (octets_le 2 set h) (octets_sets n set h)

sets_short : (times set : ℕ) → times ≤ 2 → length (sets times set) ≤ 4
sets_short zero set h = omega arith
sets_short (suc zero) set h = omega arith
sets_short (suc (suc zero)) set h = omega arith
sets_short (suc (suc (suc n))) set h = absurd (omega arith)

-- 01's largest column takes 137 octets
column_short : (k : Column) → total k technologies ≤ 137
column_short capabilities = omega arith
column_short configurations = omega arith

-- what `valid` says, one by one
pub record Validity (r : Record) : Type 0 where
  pub id_assigned : assigned r.id ≡ true
  pub set : r.set < set_limit
  pub cells : (k : Column) (t : Technology) → valid_fields (cell k t) (names (set_in r.id r.set k) t) (of_record r k t) ≡ true

pub passes : (r : Record) → valid r ≡ true → Validity r
unfolding valid valid_column
passes r e =
    let a = and_true_lem (assigned r.id) _ e in
    let b = and_true_lem (ltb r.set set_limit) _ a.1 in
    record {
      id_assigned = a.0;
      set = ltb-true _ _ b.0;
      cells = λ k t. every_at (λ t. valid_fields (cell k t) (names (set_in r.id r.set k) t) (of_record r k t)) t (every_at (λ k. valid_column k (set_in r.id r.set k) (column_in r k)) k b.1 (a_column k)) (a_technology t);
    }

pub is_valid : (r : Record) → Validity r → valid r ≡ true
unfolding valid valid_column
is_valid r p =
    rw (
      p.id_assigned,
      lt-ltb r.set set_limit p.set,
      every_all (λ k. valid_column k (set_in r.id r.set k) (column_in r k)) columns (λ k. every_all (λ t. valid_fields (cell k t) (names (set_in r.id r.set k) t) (of_record r k t)) technologies (p.cells k)),
    )

module _ (r : Record) (T : TypedRecord r) (ok : valid r ≡ true) where
  -- a technology whose block is written
  module _ (k : Column) (t : Technology) (y : eqb r.id (message_of k) ≡ true) (n : names r.set t ≡ true) where
    fields_ok : (allowed (cell k t) (of_record r k t) ≡ true) × (cleared (cell k t) (of_record r k t) ≡ true)
    fields_ok = let e : valid_fields (cell k t) true (of_record r k t) ≡ true = rw (y, n) at ((passes r ok).cells k t) in and_true_lem (allowed (cell k t) (of_record r k t)) (cleared (cell k t) (of_record r k t)) e

    its_back : (value (cell k t) 2 (BlockOf k (of_record r k) r.set t) ≡ of_record r k t) × (need (cell k t) 2 (BlockOf k (of_record r k) r.set t) ≡ length (BlockOf k (of_record r k) r.set t))
    its_back = block_back k (of_record r k) r.set (T.cells k) t fields_ok.0 fields_ok.1

    its_whole : Whole (layouts k) r.set (BlockOf k (of_record r k) r.set t)
    its_whole = record { named = n; size = omega arith; enough = rw (layout_of k t) (omega (arith, its_back.1)); fields = rw (layout_of k t, its_back.0) fields_ok.0 }

    its_exact : length (BlockOf k (of_record r k) r.set t) ≡ need (layouts k (technology_id t)) 2 (BlockOf k (of_record r k) r.set t)
    its_exact = rw (layout_of k t) (sym its_back.1)

  -- what the blocks that are written keep
  record Good (c : Option Column) : Type 0 where
    whole : Each (Whole (layouts_of c) r.set) (column_blocks c r)
    exact : Each (λ b. length b ≡ need (layouts_of c (get_or b 0 0)) 2 b) (column_blocks c r)
    rises : Rising (column_blocks c r)
    count : length (column_blocks c r) ≡ block_count c r.set
    size : length (flatten (column_blocks c r)) ≤ 137
    octets : Octets (flatten (column_blocks c r))

  good : (c : Option Column) → Carries r.id c → Good c
  unfolding flatten
  good none h = record { whole = tt; exact = tt; rises = tt; count = refl; size = omega arith; octets = octets_none }
  good (some k) (column _ e) =
      let v = of_record r k in
      let y = eq-eqb r.id (message_of k) e in
      record {
        whole = rising_each k v r.set (Whole (layouts k) r.set) technologies (λ t u n. its_whole k t y n);
        exact = rising_each k v r.set (λ b. length b ≡ need (layouts k (get_or b 0 0)) 2 b) technologies (λ t u n. its_exact k t y n);
        rises = rising_rises k v r.set technologies ascending;
        count = rising_count k v r.set technologies ∙ sym (count_under 4 r.set (passes r ok).set);
        size = omega (arith, rising_size k v r.set (T.cells k) technologies, column_short k);
        octets = octets_rising k v r.set (T.cells k) technologies;
      }

  blocks_good : Good (row r.id).column
  blocks_good = good (row r.id).column (carries r.id)

  -- every field of the record is read back, or is zero
  fields_back : (k : Column) (t : Technology) → of_record r k t ≡ cond (names (set_in r.id r.set k) t) (fields_in (cell k t) (technology_id t) (blocks_of r)) (zeroes (cell k t))
  fields_back k t =
      by_bool (names (set_in r.id r.set k) t)
      (λ h. rw h (named_there r.id r.set k t h λ y n.
      let b : blocks_of r ≡ column_blocks (some k) r = ap (λ (c : Option Column). column_blocks c r) (column_there r.id k y) in
      rw b (sym (rising_fields k (of_record r k) r.set t ascending (a_technology t) ∙ rw n (its_back k t y n).0))))
      (λ h. rw h (zeroed_only (cell k t) (of_record r k t) (T.cells k t) (rw h at ((passes r ok).cells k t))))

  -- it fits the message limit
  normal_fits : length (normal r) ≤ message_limit
  unfolding normal
  normal_fits = short (sets (row r.id).times r.set) (flatten (blocks_of r)) (sets_short (row r.id).times r.set (times_two r.id)) blocks_good.size
    where
      short : (a b : List ℕ) → length a ≤ 4 → length b ≤ 137 → suc (suc (length (a ++ b))) ≤ message_limit
      short a b h k = omega (arith, length-append a b)

  pub normal_octets : Octets (normal r)
  unfolding normal
  normal_octets =
      let S = sets (row r.id).times r.set in
      let B = flatten (blocks_of r) in
      octets_cons 1 (r.id ∷ (S ++ B)) (omega arith) (octets_cons r.id (S ++ B) T.id (octets_append S B (octets_sets (row r.id).times r.set T.set) blocks_good.octets))

  pub normal_formed : WellFormed (normal r) r
  unfolding normal
  normal_formed = record {
    version = 1;
    id = r.id;
    set = r.set;
    blocks = blocks_of r;
    rest = [];
    octets = ap (λ (l : List ℕ). 1 ∷ (r.id ∷ (sets (row r.id).times r.set ++ l))) (sym (append-nil (flatten (blocks_of r))));
    limit = normal_fits;
    id_assigned = (passes r ok).id_assigned;
    readable = inl refl;
    count = blocks_good.count;
    whole = blocks_good.whole;
    once = rising_once (blocks_of r) blocks_good.rises;
    ends = λ e. refl;
    says = record_is r (known r.set) _ (sym (mod-eq_of_lt (passes r ok).set)) fields_back;
  }

  pub normal_normal : NormalForm (normal r)
  unfolding normal_formed
  normal_normal = record { content = r; formed = normal_formed; first = refl; known = (passes r ok).set; rising = blocks_good.rises; exact = blocks_good.exact }
