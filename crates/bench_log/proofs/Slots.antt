-- Fields side by side: a slot for each name, with what either side holds under it. Where no name comes twice, the fields that differ are
-- those of the slots with both.
use Rattle.std.proofs.Common.{◌≡◌, ℕ, Bool, true, false, not, ◌&&◌, List, [], ◌∷◌, ◌++◌, refl, ◌∙◌}
use mathlib.Core.Option.{Option, none, some}
use borrow.Author.Tests.{not-true}
use Rattle.codec.proofs.Outcomes.{and_true_lem}
use Rattle.bench_log.specs.Fields.{Contents, LogField}
use Rattle.bench_log.specs.Comparison.{same, Difference, contents_in, difference, differing}
use Rattle.bench_log.proofs.Equals.{same_self}

pub record Slot : Type 0 where
  pub name : List ℕ
  pub left : Option Contents
  pub right : Option Contents

abbrev pub held : List ℕ → Option Contents → List LogField
held x none = []
held x (some c) = record { name = x; contents = c } ∷ []

abbrev pub lefts : List Slot → List LogField
lefts [] = []
lefts (s ∷ ss) = held s.name s.left ++ lefts ss

abbrev pub rights : List Slot → List LogField
rights [] = []
rights (s ∷ ss) = held s.name s.right ++ rights ss

abbrev pub meet : List ℕ → Option Contents → Option Contents → List Difference
meet x none r = []
meet x (some l) none = []
meet x (some l) (some r) = difference x l r

abbrev pub meets : List Slot → List Difference
meets [] = []
meets (s ∷ ss) = meet s.name s.left s.right ++ meets ss

-- no name comes twice
abbrev pub is_new : List ℕ → List Slot → Bool
is_new x [] = true
is_new x (s ∷ ss) = not (same s.name x) && (not (same x s.name) && is_new x ss)

abbrev pub distinct : List Slot → Bool
distinct [] = true
distinct (s ∷ ss) = is_new s.name ss && distinct ss

held_other : (y : List ℕ) (o : Option Contents) (fs : List LogField) (x : List ℕ) → same y x ≡ false → contents_in (held y o ++ fs) x ≡ contents_in fs x
unfolding contents_in
held_other y none fs x e = refl
held_other y (some c) fs x e = rw e

held_here : (x : List ℕ) (o : Option Contents) (fs : List LogField) → contents_in fs x ≡ none → contents_in (held x o ++ fs) x ≡ o
unfolding contents_in
held_here x none fs e = e
held_here x (some c) fs e = rw (same_self x)

module _ (x : List ℕ) where
  pub none_right : (ss : List Slot) → is_new x ss ≡ true → contents_in (rights ss) x ≡ none
  unfolding contents_in
  none_right [] e = refl
  none_right (s ∷ ss) e =
      let a = and_true_lem (not (same s.name x)) _ e in
      let b = and_true_lem (not (same x s.name)) _ a.1 in
      held_other s.name s.right (rights ss) x (not-true _ a.0) ∙ none_right ss b.1

  one_left : (y : List ℕ) (l o : Option Contents) (fs gs : List LogField) → same x y ≡ false → differing fs (held x o ++ gs) ≡ differing fs gs
      → differing (held y l ++ fs) (held x o ++ gs) ≡ differing (held y l ++ fs) gs
  unfolding differing
  one_left y none o fs gs e h = h
  one_left y (some c) o fs gs e h = rw (held_other x o gs y e, h)

  -- a field of that name on the right meets none of these
  passed_over : (o : Option Contents) (ss : List Slot) (gs : List LogField) → is_new x ss ≡ true → differing (lefts ss) (held x o ++ gs) ≡ differing (lefts ss) gs
  unfolding differing
  passed_over o [] gs e = refl
  passed_over o (s ∷ ss) gs e =
      let a = and_true_lem (not (same s.name x)) _ e in
      let b = and_true_lem (not (same x s.name)) _ a.1 in
      one_left s.name s.left o (lefts ss) gs (not-true _ b.0) (passed_over o ss gs b.1)

  one_slot : (l r : Option Contents) (fs gs : List LogField) (ds : List Difference) → contents_in gs x ≡ none → differing fs (held x r ++ gs) ≡ ds
      → differing (held x l ++ fs) (held x r ++ gs) ≡ meet x l r ++ ds
  unfolding differing
  one_slot none r fs gs ds n h = h
  one_slot (some c) none fs gs ds n h = rw (held_here x none gs n, h)
  one_slot (some c) (some d) fs gs ds n h = rw (held_here x (some d) gs n, h)

pub slots_differ : (ss : List Slot) → distinct ss ≡ true → differing (lefts ss) (rights ss) ≡ meets ss
unfolding differing
slots_differ [] e = refl
slots_differ (s ∷ ss) e =
    let a = and_true_lem (is_new s.name ss) (distinct ss) e in
    one_slot s.name s.left s.right (lefts ss) (rights ss) (meets ss) (none_right s.name ss a.0)
    (passed_over s.name s.right ss (rights ss) a.0 ∙ slots_differ ss a.1)
