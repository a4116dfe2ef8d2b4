-- The fields that are shown of a pair: those of the head, and of two accepted messages the ID, or where the IDs are equal what follows it.
use Rattle.std.proofs.Common.{◌≡◌, ℕ, false, ◌&&◌, List, [], ◌∷◌, ◌++◌, map, take, sym, refl, ap, ◌∙◌, append_assoc, append-nil, eq-eqb, ne_eqb}
use mathlib.Core.List.{flatten}
use mathlib.Core.Option.{Option, none, some}
use Rattle.std.specs.Prelude.{Err, Ok}
use Rattle.codec.specs.Refusal.{Checked, number_of}
use Rattle.codec.specs.declared.refusal.Refusal.{Refusal}
use Rattle.codec.specs.Technology.{Technology, uwb, cs, nan, rssi, technologies, names}
use Rattle.codec.specs.Layout.{Layout, number, octets, counted, Values}
use Rattle.codec.specs.Blocks.{Column, cell}
use Rattle.codec.specs.Table.{row}
use Rattle.codec.specs.Records.{of_record, answer}
use Rattle.codec.specs.WellFormed.{Each}
use Rattle.codec.specs.declared.records.Record.{Record}
use Rattle.codec.proofs.Outcomes.{by_bool}
use Rattle.bench_log.specs.Text.{ascii}
use Rattle.bench_log.specs.Fields.{Contents, amount, string, LogField, prefix, block_fields, message_id_name, presence, fields_if, column_fields, message_fields, head_fields, fields_from, direction_name, refusal_name}
use Rattle.bench_log.specs.Comparison.{same, alike, Difference, contents_in, difference, differing, up_to}
use Rattle.bench_log.specs.Inner.Pairs.{direction_difference, head_differences}
use Rattle.bench_log.specs.Inner.Differences.{block_differences, section_differences, column_differences, presence_difference, message_differences}
use Rattle.bench_log.proofs.Aligned.{messages_differ}

-- ---- no field of a technology has the name of the ID, or of a field of the head

not_id : (t : Technology) (y : List ℕ) → same (prefix t ++ y) message_id_name ≡ false
not_id uwb y = refl
not_id cs y = refl
not_id nan y = refl
not_id rssi y = refl

not_head : (t : Technology) (y : List ℕ) (direction refusal : ℕ) → contents_in (head_fields direction refusal) (prefix t ++ y) ≡ none
unfolding contents_in
not_head uwb y d n = refl
not_head cs y d n = refl
not_head nan y d n = refl
not_head rssi y d n = refl

-- ---- what differs after equal IDs is not cut

abbrev Kept : List Difference → Type 0
Kept ds = (es : List Difference) → up_to message_id_name (ds ++ es) ≡ ds ++ up_to message_id_name es

kept_none : Kept []
kept_none es = refl

kept_one : (name : List ℕ) (l r : Contents) → same name message_id_name ≡ false → Kept (difference name l r)
unfolding up_to difference
kept_one name l r e es = by_bool (alike l r) (λ y. rw y) (λ n. rw (n, e))

kept_both : (ds fs : List Difference) → Kept ds → Kept fs → Kept (ds ++ fs)
kept_both ds fs h k es = rw (append_assoc ds fs es, h (fs ++ es), k es) (sym (append_assoc ds fs (up_to message_id_name es)))

kept_each : (f : Technology → List Difference) → ((t : Technology) → Kept (f t)) → (ts : List Technology) → Kept (flatten (map f ts))
unfolding flatten
kept_each f h [] = kept_none
kept_each f h (t ∷ ts) = kept_both (f t) (flatten (map f ts)) (h t) (kept_each f h ts)

module _ (t : Technology) where
  kept_field : (x : List ℕ) (l r : Contents) (ds : List Difference) → Kept ds → Kept (difference (prefix t ++ x) l r ++ ds)
  kept_field x l r ds h = kept_both (difference (prefix t ++ x) l r) ds (kept_one (prefix t ++ x) l r (not_id t x)) h

  kept_block : (L : Layout) (v w : Values L) → Kept (block_differences (prefix t) L v w)
  kept_block [] v w = kept_none
  kept_block (number x n k ∷ L) v w = kept_field (ascii x) (amount v.0) (amount w.0) (block_differences (prefix t) L v.1 w.1) (kept_block L v.1 w.1)
  kept_block (octets x n k ∷ L) v w = kept_field (ascii x) (string v.0) (string w.0) (block_differences (prefix t) L v.1 w.1) (kept_block L v.1 w.1)
  kept_block (counted y x k c ∷ L) v w =
      let l = string (take v.0 v.1.0) in
      let r = string (take w.0 w.1.0) in
      let rest = block_differences (prefix t) L v.1.1 w.1.1 in
      kept_field (ascii y) (amount v.0) (amount w.0) (difference (prefix t ++ ascii x) l r ++ rest) (kept_field (ascii x) l r rest (kept_block L v.1.1 w.1.1))

module _ (a b : Record) where
  kept_section : (k : Column) (t : Technology) → Kept (section_differences a b k t)
  kept_section k t es =
      by_bool (names a.set t && names b.set t)
      (λ y. rw y (kept_block t (cell k t) (of_record a k t) (of_record b k t) es))
      (λ n. rw n)

  kept_column : (c : Option Column) → Kept (column_differences a b c)
  kept_column none = kept_none
  kept_column (some k) = kept_each (section_differences a b k) (kept_section k) technologies

  kept_message : (c : Option Column) → Kept (message_differences a b c)
  kept_message c =
      kept_both (flatten (map (presence_difference a.set b.set) technologies)) (column_differences a b c)
      (kept_each (presence_difference a.set b.set) (λ t. kept_one (presence a.set t).name (presence a.set t).contents (presence b.set t).contents (not_id t (ascii "presence"))) technologies)
      (kept_column c)

-- ---- a refused record meets nothing but the head of the other

alone : (fs gs : List LogField) → Each (λ f. contents_in gs f.name ≡ none) fs → differing fs gs ≡ []
unfolding differing
alone [] gs h = refl
alone (f ∷ fs) gs h = rw (h.0, alone fs gs h.1)

module _ (P : LogField → Type 0) where
  each_append : (fs gs : List LogField) → Each P fs → Each P gs → Each P (fs ++ gs)
  each_append [] gs h k = k
  each_append (f ∷ fs) gs h k = (h.0, each_append fs gs h.1 k)

  each_flat : (f : Technology → List LogField) → ((t : Technology) → Each P (f t)) → (ts : List Technology) → Each P (flatten (map f ts))
  unfolding flatten
  each_flat f h [] = tt
  each_flat f h (t ∷ ts) = each_append (f t) (flatten (map f ts)) (h t) (each_flat f h ts)

module _ (direction refusal : ℕ) where
  abbrev Apart : LogField → Type 0
  Apart f = contents_in (head_fields direction refusal) f.name ≡ none

  apart_block : (t : Technology) (L : Layout) (v : Values L) → Each Apart (block_fields (prefix t) L v)
  apart_block t [] v = tt
  apart_block t (number x n k ∷ L) v = (not_head t (ascii x) direction refusal, apart_block t L v.1)
  apart_block t (octets x n k ∷ L) v = (not_head t (ascii x) direction refusal, apart_block t L v.1)
  apart_block t (counted y x k c ∷ L) v = (not_head t (ascii y) direction refusal, (not_head t (ascii x) direction refusal, apart_block t L v.1.1))

  apart_section : (a : Record) (k : Column) (t : Technology) → Each Apart (fields_if k a t)
  apart_section a k t = by_bool (names a.set t) (λ y. rw y (apart_block t (cell k t) (of_record a k t))) (λ n. rw n tt)

  apart_column : (a : Record) (c : Option Column) → Each Apart (column_fields c a)
  apart_column a none = tt
  apart_column a (some k) = each_flat Apart (fields_if k a) (apart_section a k) technologies

  apart_message : (a : Record) → Each Apart (message_fields a)
  unfolding message_fields contents_in
  apart_message a =
      let p = ascii "presence" in
      (refl, (not_head uwb p direction refusal, (not_head cs p direction refusal, (not_head nan p direction refusal, (not_head rssi p direction refusal, apart_column a (row a.id).column)))))

-- ---- what is shown

abbrev pub shown_from : ℕ → Checked Record → ℕ → Checked Record → List Difference
shown_from dl l dr r = up_to message_id_name (differing (fields_from dl l) (fields_from dr r))

module _ (dl dr : ℕ) where
  kept_direction : Kept (direction_difference dl dr)
  kept_direction = kept_one direction_name (amount dl) (amount dr) refl

  kept_head : (n m : ℕ) → Kept (head_differences dl dr n m)
  kept_head n m = kept_both (direction_difference dl dr) (difference refusal_name (amount n) (amount m)) kept_direction (kept_one refusal_name (amount n) (amount m) refl)

  -- the left one is refused, or the right one
  head_left : (n m : ℕ) (fs : List LogField) → differing (head_fields dl n) (head_fields dr m ++ fs) ≡ head_differences dl dr n m
  unfolding differing contents_in
  head_left n m fs = rw (append-nil (difference refusal_name (amount n) (amount m)))

  head_right : (n m : ℕ) (fs : List LogField) → Each (Apart dr m) fs → differing (head_fields dl n ++ fs) (head_fields dr m) ≡ head_differences dl dr n m
  unfolding differing contents_in
  head_right n m fs h = rw (alone fs (head_fields dr m) h, append-nil (difference refusal_name (amount n) (amount m)))

  uncut : (n m : ℕ) (ds : List Difference) → ds ≡ head_differences dl dr n m → up_to message_id_name ds ≡ head_differences dl dr n m
  unfolding up_to
  uncut n m ds e = rw (e, ← append-nil (head_differences dl dr n m)) (kept_head n m [])

  pub differ_left : (x : Refusal) (r : Checked Record) → differing (fields_from dl (Err x)) (fields_from dr r) ≡ head_differences dl dr (number_of x) (answer r).refusal
  differ_left x (Err y) = head_left (number_of x) (number_of y) []
  differ_left x (Ok b) = head_left (number_of x) 0 (message_fields b)

  pub differ_right : (a : Record) (y : Refusal) → differing (fields_from dl (Ok a)) (fields_from dr (Err y)) ≡ head_differences dl dr 0 (number_of y)
  differ_right a y = head_right 0 (number_of y) (message_fields a) (apart_message dr (number_of y) a)

  pub shown_left : (x : Refusal) (r : Checked Record) → shown_from dl (Err x) dr r ≡ head_differences dl dr (number_of x) (answer r).refusal
  shown_left x r = uncut (number_of x) (answer r).refusal _ (differ_left x r)

  pub shown_right : (a : Record) (y : Refusal) → shown_from dl (Ok a) dr (Err y) ≡ head_differences dl dr 0 (number_of y)
  shown_right a y = uncut 0 (number_of y) _ (differ_right a y)

  -- both are accepted
  module _ (a b : Record) where
    abbrev id_difference : List Difference
    id_difference = difference message_id_name (amount a.id) (amount b.id)

    -- the ID, if it differs, is the last
    id_last : (ds : List Difference) → (a.id ≡ b.id → ⊥) → up_to message_id_name (id_difference ++ ds) ≡ id_difference
    unfolding up_to difference
    id_last ds n = rw (ne_eqb a.id b.id n)

    pub shown_ids : (a.id ≡ b.id → ⊥) → shown_from dl (Ok a) dr (Ok b) ≡ direction_difference dl dr ++ id_difference
    unfolding differing contents_in message_fields difference
    shown_ids n = kept_direction (id_difference ++ _) ∙ rw (id_last _ n)

    pub shown_messages : a.id ≡ b.id → shown_from dl (Ok a) dr (Ok b) ≡ direction_difference dl dr ++ message_differences a b (row a.id).column
    unfolding up_to difference
    shown_messages e =
        let c = (row a.id).column in
        let f : (row b.id).column ≡ c = ap (λ (i : ℕ). (row i).column) (sym e) in
        let ds = message_differences a b c in
        rw (messages_differ a b dl dr c refl f, eq-eqb a.id b.id e)
        (kept_direction ds ∙ ap (λ (x : List Difference). direction_difference dl dr ++ x) (ap (up_to message_id_name) (sym (append-nil ds)) ∙ kept_message a b c [] ∙ append-nil ds))
