-- The fields of two accepted messages of the same kind as slots, by the layouts, and what differs in them.
use Rattle.std.proofs.Common.{◌≡◌, ℕ, Bool, true, false, cond, ◌&&◌, List, [], ◌∷◌, ◌++◌, map, take, sym, refl, ap, ◌∙◌, append_assoc}
use mathlib.Core.List.{flatten}
use mathlib.Core.Option.{Option, none, some}
use Rattle.codec.proofs.Outcomes.{by_bool}
use Rattle.std.specs.Prelude.{Ok}
use Rattle.codec.specs.Technology.{Technology, technologies, names}
use Rattle.codec.specs.Layout.{Layout, number, octets, counted, Values}
use Rattle.codec.specs.Blocks.{Column, capabilities, configurations, cell}
use Rattle.codec.specs.Table.{row}
use Rattle.codec.specs.Records.{of_record}
use Rattle.codec.specs.declared.records.Record.{Record}
use Rattle.bench_log.specs.Text.{ascii}
use Rattle.bench_log.specs.Fields.{Contents, amount, string, prefix, block_fields, message_id_name, presence, fields_if, column_fields, message_fields, fields_from, direction_name, refusal_name}
use Rattle.bench_log.specs.Comparison.{Difference, difference, differing}
use Rattle.bench_log.specs.Inner.Differences.{block_differences, section_differences, column_differences, presence_difference, message_differences}
use Rattle.bench_log.proofs.Slots.{Slot, held, lefts, rights, meet, meets, distinct, slots_differ}

-- ---- slots in parts

lefts_append : (ss ts : List Slot) → lefts (ss ++ ts) ≡ lefts ss ++ lefts ts
lefts_append [] ts = refl
lefts_append (s ∷ ss) ts = rw (lefts_append ss ts) (sym (append_assoc (held s.name s.left) _ _))

rights_append : (ss ts : List Slot) → rights (ss ++ ts) ≡ rights ss ++ rights ts
rights_append [] ts = refl
rights_append (s ∷ ss) ts = rw (rights_append ss ts) (sym (append_assoc (held s.name s.right) _ _))

meets_append : (ss ts : List Slot) → meets (ss ++ ts) ≡ meets ss ++ meets ts
meets_append [] ts = refl
meets_append (s ∷ ss) ts = rw (meets_append ss ts) (sym (append_assoc (meet s.name s.left s.right) _ _))

-- of each technology
module _ {A : Type 0} (g : List Slot → List A) (g-append : (ss ts : List Slot) → g (ss ++ ts) ≡ g ss ++ g ts) (g-none : g [] ≡ []) where
  each : (f : Technology → List Slot) (h : Technology → List A) → ((t : Technology) → g (f t) ≡ h t) → (ts : List Technology) → g (flatten (map f ts)) ≡ flatten (map h ts)
  unfolding flatten
  each f h e [] = g-none
  each f h e (t ∷ ts) = g-append (f t) (flatten (map f ts)) ∙ rw (e t, each f h e ts)

-- ---- the fields of a block

abbrev if : Bool → Contents → Option Contents
if true c = some c
if false c = none

-- of what is there
module _ (p : List ℕ) (a b : Bool) where
  abbrev slot : List ℕ → Contents → Contents → Slot
  slot x l r = record { name = x; left = if a l; right = if b r }

  abbrev pub block_slots : (L : Layout) → Values L → Values L → List Slot
  block_slots [] v w = []
  block_slots (number x n t ∷ L) v w = slot (p ++ ascii x) (amount v.0) (amount w.0) ∷ block_slots L v.1 w.1
  block_slots (octets x n t ∷ L) v w = slot (p ++ ascii x) (string v.0) (string w.0) ∷ block_slots L v.1 w.1
  block_slots (counted y x t c ∷ L) v w =
      slot (p ++ ascii y) (amount v.0) (amount w.0)
      ∷ (slot (p ++ ascii x) (string (take v.0 v.1.0)) (string (take w.0 w.1.0))
      ∷ block_slots L v.1.1 w.1.1)

module _ (p : List ℕ) where
  lefts_there : (b : Bool) (L : Layout) (v w : Values L) → lefts (block_slots p true b L v w) ≡ block_fields p L v
  lefts_there b [] v w = refl
  lefts_there b (number x n t ∷ L) v w = rw (lefts_there b L v.1 w.1)
  lefts_there b (octets x n t ∷ L) v w = rw (lefts_there b L v.1 w.1)
  lefts_there b (counted y x t c ∷ L) v w = rw (lefts_there b L v.1.1 w.1.1)

  lefts_absent : (b : Bool) (L : Layout) (v w : Values L) → lefts (block_slots p false b L v w) ≡ []
  lefts_absent b [] v w = refl
  lefts_absent b (number x n t ∷ L) v w = lefts_absent b L v.1 w.1
  lefts_absent b (octets x n t ∷ L) v w = lefts_absent b L v.1 w.1
  lefts_absent b (counted y x t c ∷ L) v w = lefts_absent b L v.1.1 w.1.1

  rights_there : (a : Bool) (L : Layout) (v w : Values L) → rights (block_slots p a true L v w) ≡ block_fields p L w
  rights_there a [] v w = refl
  rights_there a (number x n t ∷ L) v w = rw (rights_there a L v.1 w.1)
  rights_there a (octets x n t ∷ L) v w = rw (rights_there a L v.1 w.1)
  rights_there a (counted y x t c ∷ L) v w = rw (rights_there a L v.1.1 w.1.1)

  rights_absent : (a : Bool) (L : Layout) (v w : Values L) → rights (block_slots p a false L v w) ≡ []
  rights_absent a [] v w = refl
  rights_absent a (number x n t ∷ L) v w = rights_absent a L v.1 w.1
  rights_absent a (octets x n t ∷ L) v w = rights_absent a L v.1 w.1
  rights_absent a (counted y x t c ∷ L) v w = rights_absent a L v.1.1 w.1.1

  -- if both are there
  meets_block : (a b : Bool) (L : Layout) (v w : Values L) → meets (block_slots p a b L v w) ≡ cond (a && b) (block_differences p L v w) []
  meets_block true true [] v w = refl
  meets_block true true (number x n t ∷ L) v w = rw (meets_block true true L v.1 w.1)
  meets_block true true (octets x n t ∷ L) v w = rw (meets_block true true L v.1 w.1)
  meets_block true true (counted y x t c ∷ L) v w = rw (meets_block true true L v.1.1 w.1.1)
  meets_block true false [] v w = refl
  meets_block true false (number x n t ∷ L) v w = meets_block true false L v.1 w.1
  meets_block true false (octets x n t ∷ L) v w = meets_block true false L v.1 w.1
  meets_block true false (counted y x t c ∷ L) v w = meets_block true false L v.1.1 w.1.1
  meets_block false b [] v w = refl
  meets_block false b (number x n t ∷ L) v w = meets_block false b L v.1 w.1
  meets_block false b (octets x n t ∷ L) v w = meets_block false b L v.1 w.1
  meets_block false b (counted y x t c ∷ L) v w = meets_block false b L v.1.1 w.1.1

-- ---- the fields of two messages with the same kind of blocks

module _ (a b : Record) where
  abbrev presence_slot : Technology → Slot
  presence_slot t = record { name = (presence a.set t).name; left = some (presence a.set t).contents; right = some (presence b.set t).contents }

  abbrev section : Column → Technology → List Slot
  section k t = block_slots (prefix t) (names a.set t) (names b.set t) (cell k t) (of_record a k t) (of_record b k t)

  abbrev column_slots : Option Column → List Slot
  column_slots none = []
  column_slots (some k) = flatten (map (section k) technologies)

  abbrev pub slots_of : (dl dr : ℕ) → Option Column → List Slot
  slots_of dl dr c =
      record { name = direction_name; left = some (amount dl); right = some (amount dr) }
      ∷ (record { name = refusal_name; left = some (amount 0); right = some (amount 0) }
      ∷ (record { name = message_id_name; left = some (amount a.id); right = some (amount b.id) }
      ∷ (map presence_slot technologies
      ++ column_slots c)))

  pub slots_distinct : (dl dr : ℕ) (c : Option Column) → distinct (slots_of dl dr c) ≡ true
  unfolding flatten
  slots_distinct dl dr none = refl
  slots_distinct dl dr (some capabilities) = refl
  slots_distinct dl dr (some configurations) = refl

  section_left : (k : Column) (t : Technology) → lefts (section k t) ≡ fields_if k a t
  section_left k t =
      by_bool (names a.set t)
      (λ y. rw y (lefts_there (prefix t) (names b.set t) (cell k t) (of_record a k t) (of_record b k t)))
      (λ n. rw n (lefts_absent (prefix t) (names b.set t) (cell k t) (of_record a k t) (of_record b k t)))

  section_right : (k : Column) (t : Technology) → rights (section k t) ≡ fields_if k b t
  section_right k t =
      by_bool (names b.set t)
      (λ y. rw y (rights_there (prefix t) (names a.set t) (cell k t) (of_record a k t) (of_record b k t)))
      (λ n. rw n (rights_absent (prefix t) (names a.set t) (cell k t) (of_record a k t) (of_record b k t)))

  column_left : (c : Option Column) → lefts (column_slots c) ≡ column_fields c a
  column_left none = refl
  column_left (some k) = each lefts lefts_append refl (section k) (fields_if k a) (section_left k) technologies

  column_right : (c : Option Column) → rights (column_slots c) ≡ column_fields c b
  column_right none = refl
  column_right (some k) = each rights rights_append refl (section k) (fields_if k b) (section_right k) technologies

  column_meets : (c : Option Column) → meets (column_slots c) ≡ column_differences a b c
  column_meets none = refl
  column_meets (some k) = each meets meets_append refl (section k) (section_differences a b k) (λ t. meets_block (prefix t) (names a.set t) (names b.set t) (cell k t) (of_record a k t) (of_record b k t)) technologies

  presences_meet : (ts : List Technology) (ss : List Slot) → meets (map presence_slot ts ++ ss) ≡ flatten (map (presence_difference a.set b.set) ts) ++ meets ss
  unfolding flatten
  presences_meet [] ss = refl
  presences_meet (t ∷ ts) ss = rw (presences_meet ts ss) (sym (append_assoc (presence_difference a.set b.set t) _ _))

  module _ (dl dr : ℕ) (c : Option Column) where
    slots_left : (row a.id).column ≡ c → lefts (slots_of dl dr c) ≡ fields_from dl (Ok a)
    unfolding message_fields
    slots_left e = rw (e, column_left c)

    pub slots_right : (row b.id).column ≡ c → rights (slots_of dl dr c) ≡ fields_from dr (Ok b)
    unfolding message_fields
    slots_right e = rw (e, column_right c)

    slots_meet : meets (slots_of dl dr c) ≡ difference direction_name (amount dl) (amount dr) ++ (difference message_id_name (amount a.id) (amount b.id) ++ message_differences a b c)
    unfolding difference
    slots_meet =
        ap (λ (ds : List Difference). difference direction_name (amount dl) (amount dr) ++ (difference message_id_name (amount a.id) (amount b.id) ++ ds))
        (presences_meet technologies (column_slots c) ∙ rw (column_meets c))

    -- so the fields that differ are these
    pub messages_differ : (row a.id).column ≡ c → (row b.id).column ≡ c → differing (fields_from dl (Ok a)) (fields_from dr (Ok b))
        ≡ difference direction_name (amount dl) (amount dr) ++ (difference message_id_name (amount a.id) (amount b.id) ++ message_differences a b c)
    messages_differ e f = rw (← slots_left e, ← slots_right f) (slots_differ (slots_of dl dr c) (slots_distinct dl dr c) ∙ slots_meet)
