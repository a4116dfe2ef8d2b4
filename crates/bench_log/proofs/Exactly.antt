-- The fields that are shown are exactly those that differ.
use Rattle.std.proofs.Common.{◌≡◌, ℕ, Bool, true, false, eqb, ◌⊎◌, ◌↔◌, List, [], ◌∷◌, ◌++◌, sym, refl, ap, ◌∙◌, subst, inl, inr, ⊎_elim, true≢false, eq-eqb, eqb-true}
use mathlib.Core.List.Memᴰ
use mathlib.Core.List.{Memᴰ}
use mathlib.Core.Option.{Option, none, some}
use borrow.Author.Tests.{eqb-false}
use Rattle.std.specs.Prelude.{Err, Ok}
use Rattle.codec.specs.Refusal.{Checked, number_of}
use Rattle.codec.specs.Table.{row}
use Rattle.codec.specs.Records.{answer}
use Rattle.codec.specs.declared.records.Record.{Record}
use Rattle.codec.proofs.Outcomes.{by_bool, and_true_lem}
use Rattle.bench_log.specs.LogRecord.{reading_of, direction_of}
use Rattle.bench_log.specs.Fields.{Contents, amount, LogField, message_id_name, message_fields, fields_from, direction_name, refusal_name}
use Rattle.bench_log.specs.Comparison.{same, alike, Difference, contents_in, difference, against, differing, shown, first_names, Differs}
use Rattle.bench_log.specs.Inner.Pairs.{direction_difference, head_differences}
use Rattle.bench_log.proofs.Equals.{same_self, same_equal, amount_equal, alike_self, alike_equal}
use Rattle.bench_log.proofs.Slots.{Slot, held, rights, is_new, distinct, none_right}
use Rattle.bench_log.proofs.Aligned.{slots_of, slots_distinct, slots_right, messages_differ}
use Rattle.bench_log.proofs.Shown.{shown_from, differ_left, differ_right, shown_left, shown_right, shown_ids, shown_messages}

-- ---- a field that differs

some_equal : {x y : Contents} → some x ≡ some y → x ≡ y
some_equal e = cc

abbrev is_some : Option Contents → Bool
is_some none = false
is_some (some x) = true

not_none : {x : Contents} → ◌≡◌ {A = Option Contents} none (some x) → ⊥
not_none e = true≢false (sym (ap is_some e))

one_difference : (name : List ℕ) (x y : Contents) (d : Difference) → Memᴰ d (difference name x y) → (d ≡ record { name = name; left = x; right = y }) × (x ≡ y → ⊥)
unfolding difference
one_difference name x y d m =
    by_bool (alike x y)
    (λ t. absurd (Memᴰ.not-nil (rw t at m)))
    (λ t. (Memᴰ.eq_of_singleton (rw t at m), λ e. true≢false (sym (rw e (alike_self y)) ∙ t)))

difference_one : (name : List ℕ) (x y : Contents) → (x ≡ y → ⊥) → Memᴰ (record { name = name; left = x; right = y }) (difference name x y)
unfolding difference
difference_one name x y n = by_bool (alike x y) (λ t. absurd (n (alike_equal x y t))) (λ t. rw t (Memᴰ.head refl))

-- what is held on either side under its name, and not equal
abbrev Facts : List LogField → List LogField → Difference → Type 0
Facts fs gs d = (contents_in fs d.name ≡ some d.left) × (contents_in gs d.name ≡ some d.right) × (d.left ≡ d.right → ⊥)

-- no name comes twice
abbrev Unrepeated : List LogField → Type 0
Unrepeated [] = Unit {0}
Unrepeated (f ∷ fs) = (contents_in fs f.name ≡ none) × Unrepeated fs

here_facts : (f : LogField) (fs gs : List LogField) (o : Option Contents) (d : Difference) → contents_in gs f.name ≡ o → Memᴰ d (against f o) → Facts (f ∷ fs) gs d
unfolding contents_in
here_facts f fs gs none d e m = absurd (Memᴰ.not-nil m)
here_facts f fs gs (some y) d e m =
    let o = one_difference f.name f.contents y d m in
    subst (Facts (f ∷ fs) gs) (sym o.0) (rw (same_self f.name), e, o.1)

there_facts : (f : LogField) (fs gs : List LogField) (d : Difference) → contents_in fs f.name ≡ none → Facts fs gs d → Facts (f ∷ fs) gs d
unfolding contents_in
there_facts f fs gs d n h =
    by_bool (same f.name d.name)
    (λ t. absurd (not_none (sym n ∙ ap (contents_in fs) (same_equal f.name d.name t) ∙ h.0)))
    (λ t. (rw t h.0, h.1, h.2))

differing_facts : (fs gs : List LogField) → Unrepeated fs → (d : Difference) → Memᴰ d (differing fs gs) → Facts fs gs d
unfolding differing
differing_facts [] gs l d m = absurd (Memᴰ.not-nil m)
differing_facts (f ∷ fs) gs l d m = go (differing_facts fs gs l.1 d) (Memᴰ.append_cases (against f (contents_in gs f.name)) m)
  where
    go : (Memᴰ d (differing fs gs) → Facts fs gs d) → Memᴰ d (against f (contents_in gs f.name)) ⊎ Memᴰ d (differing fs gs) → Facts (f ∷ fs) gs d
    go rest (inl m) = here_facts f fs gs (contents_in gs f.name) d refl m
    go rest (inr m) = there_facts f fs gs d l.0 (rest m)

facts_differing : (fs gs : List LogField) (d : Difference) → Facts fs gs d → Memᴰ d (differing fs gs)
unfolding differing contents_in
facts_differing [] gs d h = absurd (not_none h.0)
facts_differing (f ∷ fs) gs d h =
    by_bool (same f.name d.name)
    (λ t.
    let n = same_equal f.name d.name t in
    let x : f.contents ≡ d.left = some_equal (rw t at h.0) in
    let e : contents_in gs f.name ≡ some d.right = ap (contents_in gs) n ∙ h.1 in
    Memᴰ.append_left {s = against f (contents_in gs f.name)} (differing fs gs) (rw (e, n, x) (difference_one d.name d.left d.right h.2)))
    (λ t. Memᴰ.append_right (against f (contents_in gs f.name)) (facts_differing fs gs d (rw t at h.0, h.1, h.2)))

-- ---- the fields of a record have different names

held_unrepeated : (x : List ℕ) (o : Option Contents) (fs : List LogField) → contents_in fs x ≡ none → Unrepeated fs → Unrepeated (held x o ++ fs)
held_unrepeated x none fs n l = l
held_unrepeated x (some c) fs n l = (n, l)

rights_unrepeated : (ss : List Slot) → distinct ss ≡ true → Unrepeated (rights ss)
rights_unrepeated [] e = tt
rights_unrepeated (s ∷ ss) e =
    let a = and_true_lem (is_new s.name ss) (distinct ss) e in
    held_unrepeated s.name s.right (rights ss) (none_right s.name ss a.0) (rights_unrepeated ss a.1)

fields_unrepeated : (direction : ℕ) (c : Checked Record) → Unrepeated (fields_from direction c)
unfolding contents_in
fields_unrepeated direction (Err x) = (refl, (refl, tt))
fields_unrepeated direction (Ok a) =
    let c = (row a.id).column in
    subst Unrepeated (slots_right a a direction direction c refl) (rights_unrepeated (slots_of a a direction direction c) (slots_distinct a a direction direction c))

-- ---- what is shown

abbrev Said : ℕ → Checked Record → ℕ → Checked Record → Difference → Type 0
Said dl l dr r d =
    Facts (fields_from dl l) (fields_from dr r) d
    × (Memᴰ d.name first_names ⊎ (contents_in (fields_from dl l) message_id_name ≡ contents_in (fields_from dr r) message_id_name))

-- all that differ, where nothing is cut
module _ (dl dr : ℕ) (l r : Checked Record) (uncut : shown_from dl l dr r ≡ differing (fields_from dl l) (fields_from dr r))
    (reached : (d : Difference) → Memᴰ d (shown_from dl l dr r) → Memᴰ d.name first_names ⊎ (contents_in (fields_from dl l) message_id_name ≡ contents_in (fields_from dr r) message_id_name)) where
  uncut_exactly : (d : Difference) → Memᴰ d (shown_from dl l dr r) ↔ Said dl l dr r d
  uncut_exactly d = (
    λ m. (differing_facts (fields_from dl l) (fields_from dr r) (fields_unrepeated dl l) d (subst (Memᴰ d) uncut m), reached d m),
    λ h. subst (Memᴰ d) (sym uncut) (facts_differing (fields_from dl l) (fields_from dr r) d h.0),
  )

-- in the heads alone
heads_named : (dl dr n m : ℕ) (d : Difference) → Memᴰ d (head_differences dl dr n m) → Memᴰ d.name first_names
heads_named dl dr n m d h = go (Memᴰ.append_cases (direction_difference dl dr) h)
  where
    go : Memᴰ d (direction_difference dl dr) ⊎ Memᴰ d (difference refusal_name (amount n) (amount m)) → Memᴰ d.name first_names
    go (inl x) = Memᴰ.head (ap (λ (d : Difference). d.name) (one_difference direction_name (amount dl) (amount dr) d x).0)
    go (inr x) = Memᴰ.tail (Memᴰ.head (ap (λ (d : Difference). d.name) (one_difference refusal_name (amount n) (amount m) d x).0))

-- a difference by its name
by_name : (fs gs : List LogField) (d : Difference) (name : List ℕ) (x y : Contents) → Facts fs gs d → d.name ≡ name → contents_in fs name ≡ some x → contents_in gs name ≡ some y
    → Memᴰ d (difference name x y)
by_name fs gs d name x y h e f g =
    let l : d.left ≡ x = some_equal (sym h.0 ∙ ap (contents_in fs) e ∙ f) in
    let r : d.right ≡ y = some_equal (sym h.1 ∙ ap (contents_in gs) e ∙ g) in
    let q : d ≡ record { name = name; left = x; right = y } = λ i. record { name = e i; left = l i; right = r i } in
    Memᴰ.cast q (difference_one name x y (λ z. h.2 (l ∙ z ∙ sym r)))

-- two accepted messages with unequal IDs: the directions and the IDs
module _ (dl dr : ℕ) (a b : Record) (unequal : a.id ≡ b.id → ⊥) where
  abbrev ids : List Difference
  ids = difference message_id_name (amount a.id) (amount b.id)

  to_facts : (d : Difference) → Memᴰ d (direction_difference dl dr) ⊎ Memᴰ d ids → Said dl (Ok a) dr (Ok b) d
  unfolding contents_in message_fields
  to_facts d (inl m) =
      let o = one_difference direction_name (amount dl) (amount dr) d m in
      subst (Said dl (Ok a) dr (Ok b)) (sym o.0) ((refl, refl, o.1), inl (Memᴰ.head refl))
  to_facts d (inr m) =
      let o = one_difference message_id_name (amount a.id) (amount b.id) d m in
      subst (Said dl (Ok a) dr (Ok b)) (sym o.0) ((refl, refl, o.1), inl (Memᴰ.tail (Memᴰ.tail (Memᴰ.head refl))))

  -- a field of the first three
  abbrev F : List LogField
  F = fields_from dl (Ok a)

  abbrev G : List LogField
  G = fields_from dr (Ok b)

  of_id : (d : Difference) → Facts F G d → d.name ≡ message_id_name → Memᴰ d (direction_difference dl dr ++ ids)
  unfolding contents_in message_fields
  of_id d h e = Memᴰ.append_right (direction_difference dl dr) (by_name F G d message_id_name (amount a.id) (amount b.id) h e refl refl)

  of_refusal : (d : Difference) → Facts F G d → d.name ≡ refusal_name → ⊥
  unfolding contents_in message_fields
  of_refusal d h e = (one_difference refusal_name (amount 0) (amount 0) d (by_name F G d refusal_name (amount 0) (amount 0) h e refl refl)).1 refl

  of_direction : (d : Difference) → Facts F G d → d.name ≡ direction_name → Memᴰ d (direction_difference dl dr ++ ids)
  unfolding contents_in message_fields
  of_direction d h e = Memᴰ.append_left ids (by_name F G d direction_name (amount dl) (amount dr) h e refl refl)

  of_facts : (d : Difference) → Facts F G d → Memᴰ d.name first_names → Memᴰ d (direction_difference dl dr ++ ids)
  of_facts d h m =
      ⊎_elim (of_direction d h)
      (λ m. ⊎_elim (λ e. absurd (of_refusal d h e)) (λ m. of_id d h (Memᴰ.eq_of_singleton m)) (Memᴰ.cases_cons m))
      (Memᴰ.cases_cons m)

  ids_unequal : contents_in F message_id_name ≡ contents_in G message_id_name → ⊥
  unfolding contents_in message_fields
  ids_unequal e = unequal (amount_equal (some_equal e))

  cut_exactly : (d : Difference) → Memᴰ d (shown_from dl (Ok a) dr (Ok b)) ↔ Said dl (Ok a) dr (Ok b) d
  cut_exactly d = (
    λ m. to_facts d (Memᴰ.append_cases (direction_difference dl dr) (subst (Memᴰ d) (shown_ids dl dr a b unequal) m)),
    λ h. subst (Memᴰ d) (sym (shown_ids dl dr a b unequal)) (⊎_elim (of_facts d h.0) (λ e. absurd (ids_unequal e)) h.1),
  )

-- two accepted messages with equal IDs
module _ (dl dr : ℕ) (a b : Record) (equal : a.id ≡ b.id) where
  same_ids : contents_in (fields_from dl (Ok a)) message_id_name ≡ contents_in (fields_from dr (Ok b)) message_id_name
  unfolding contents_in message_fields
  same_ids = ap (λ (n : ℕ). some (amount n)) equal

  all_shown : shown_from dl (Ok a) dr (Ok b) ≡ differing (fields_from dl (Ok a)) (fields_from dr (Ok b))
  unfolding difference
  all_shown =
      let c = (row a.id).column in
      shown_messages dl dr a b equal ∙ sym (messages_differ a b dl dr c refl (ap (λ (i : ℕ). (row i).column) (sym equal)) ∙ rw (eq-eqb a.id b.id equal))

exactly_from : (dl dr : ℕ) (l r : Checked Record) (d : Difference) → Memᴰ d (shown_from dl l dr r) ↔ Said dl l dr r d
exactly_from dl dr (Err x) r =
    uncut_exactly dl dr (Err x) r (shown_left dl dr x r ∙ sym (differ_left dl dr x r)) (λ d m. inl (heads_named dl dr (number_of x) (answer r).refusal d (subst (Memᴰ d) (shown_left dl dr x r) m)))
exactly_from dl dr (Ok a) (Err y) =
    uncut_exactly dl dr (Ok a) (Err y) (shown_right dl dr a y ∙ sym (differ_right dl dr a y)) (λ d m. inl (heads_named dl dr 0 (number_of y) d (subst (Memᴰ d) (shown_right dl dr a y) m)))
exactly_from dl dr (Ok a) (Ok b) =
    λ d. by_bool (eqb a.id b.id)
    (λ y. let e = eqb-true a.id b.id y in uncut_exactly dl dr (Ok a) (Ok b) (all_shown dl dr a b e) (λ d m. inr (same_ids dl dr a b e)) d)
    (λ n. cut_exactly dl dr a b (eqb-false a.id b.id n) d)

pub shown_exactly : (l r : List ℕ) (d : Difference) → Memᴰ d (shown l r) ↔ Differs l r d
shown_exactly l r d =
    let e = exactly_from (direction_of l) (direction_of r) (reading_of l) (reading_of r) d in (
      λ m. let h = e.0 m in record { in_left = h.0.0; in_right = h.0.1; unequal = h.0.2; reached = h.1 },
      λ h. e.1 ((h.in_left, h.in_right, h.unequal), h.reached),
    )
