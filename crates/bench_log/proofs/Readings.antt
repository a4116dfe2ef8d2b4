-- Two records have the same reading exactly where no field differs.
use Rattle.std.proofs.Common.{◌≡◌, ℕ, ◌+◌, ◌*◌, ◌/◌, ◌%◌, ◌^◌, ◌<◌, true, cond, eqb, ◌↔◌, List, [], ◌∷◌, ◌++◌, map, take, sym, refl, ap, ◌∙◌, subst, arith, eq-eqb, eqb-true}
use mathlib.Core.List.{flatten, nil≢cons}
use mathlib.Core.Option.{Option, none, some}
use borrow.Author.Tests.{eqb-false}
use Rattle.codec.specs.Octets.{Octets}
use Rattle.std.specs.Prelude.{Err, Ok}
use Rattle.codec.specs.Refusal.{Checked, number_of}
use Rattle.codec.specs.Technology.{Technology, uwb, cs, nan, rssi, technology_id, technologies, set_limit, names}
use Rattle.codec.specs.Layout.{Layout, number, octets, counted, Values, write}
use Rattle.codec.specs.Blocks.{Column, cell}
use Rattle.codec.specs.Table.{message_limit, row}
use Rattle.codec.specs.Message.{reading}
use Rattle.codec.specs.Records.{of_record, answer}
use Rattle.codec.specs.WellFormed.{Each, sets}
use Rattle.codec.specs.Valid.{TypedRecord, valid}
use Rattle.codec.specs.NormalForm.{rising, column_blocks, blocks_of, normal}
use Rattle.codec.specs.declared.records.Record.{Record}
use Rattle.codec.specs.declared.records.Reading.{Reading}
use Rattle.codec.proofs.Outcomes.{by_bool, and_true_lem, no_zero}
use Rattle.codec.proofs.Laws.{octets_part}
use Rattle.codec.proofs.Every.{a_technology, each_at}
use Rattle.codec.proofs.ReadBack.{passes}
use Rattle.codec.proofs.Demand2.{reads_back, accepted_valid}
use Rattle.bench_log.specs.Text.{ascii}
use Rattle.bench_log.specs.LogRecord.{length_in, message_in, keeps_layout, taken_apart, reading_of, direction_of}
use Rattle.bench_log.specs.Fields.{Contents, amount, string, prefix, message_id_name, presence, direction_name, refusal_name}
use Rattle.bench_log.specs.Comparison.{alike, Difference, difference, shown, normal_form_of, is_same_reading}
use Rattle.bench_log.proofs.Equals.{same_self, same_equal, amount_equal, string_equal, alike_self, alike_equal}
use Rattle.bench_log.specs.Inner.Pairs.{direction_difference, head_differences}
use Rattle.bench_log.specs.Inner.Differences.{block_differences, section_differences, column_differences, presence_difference, message_differences}
use Rattle.bench_log.proofs.Shown.{shown_from, shown_left, shown_right, shown_ids, shown_messages}

-- ---- where nothing differs

both_none : (ds es : List Difference) → ds ++ es ≡ [] → (ds ≡ []) × (es ≡ [])
both_none [] es e = (refl, e)
both_none (d ∷ ds) es e = absurd (nil≢cons (sym e))

none_equal : (name : List ℕ) (l r : Contents) → difference name l r ≡ [] → l ≡ r
unfolding difference
none_equal name l r e = by_bool (alike l r) (alike_equal l r) (λ n. absurd (nil≢cons (sym (rw n at e))))

one_none : (name : List ℕ) (l r : Contents) (ds : List Difference) → difference name l r ++ ds ≡ [] → (l ≡ r) × (ds ≡ [])
one_none name l r ds e = let b = both_none (difference name l r) ds e in (none_equal name l r b.0, b.1)

equal_none : (name : List ℕ) (x : Contents) (ds : List Difference) → ds ≡ [] → difference name x x ++ ds ≡ []
unfolding difference
equal_none name x ds e = rw (alike_self x, e)

each_none : (f : Technology → List Difference) (ts : List Technology) → flatten (map f ts) ≡ [] → Each (λ t. f t ≡ []) ts
unfolding flatten
each_none f [] e = tt
each_none f (t ∷ ts) e = let b = both_none (f t) (flatten (map f ts)) e in (b.0, each_none f ts b.1)

none_each : (f : Technology → List Difference) → ((t : Technology) → f t ≡ []) → (ts : List Technology) → flatten (map f ts) ≡ []
unfolding flatten
none_each f h [] = refl
none_each f h (t ∷ ts) = rw (h t, none_each f h ts)

-- ---- blocks

module _ (p : List ℕ) where
  -- blocks of which no field differs are written alike
  block_written : (L : Layout) (v w : Values L) → block_differences p L v w ≡ [] → write L v ≡ write L w
  block_written [] v w e = refl
  block_written (number x n t ∷ L) v w e =
      let o = one_none (p ++ ascii x) (amount v.0) (amount w.0) _ e in
      rw (amount_equal o.0, block_written L v.1 w.1 o.1)
  block_written (octets x n t ∷ L) v w e =
      let o = one_none (p ++ ascii x) (string v.0) (string w.0) _ e in
      rw (string_equal o.0, block_written L v.1 w.1 o.1)
  block_written (counted y x t c ∷ L) v w e =
      let o = one_none (p ++ ascii y) (amount v.0) (amount w.0) _ e in
      let q = one_none (p ++ ascii x) (string (take v.0 v.1.0)) (string (take w.0 w.1.0)) _ o.1 in
      rw (string_equal q.0, amount_equal o.0, block_written L v.1.1 w.1.1 q.1)

  block_self : (L : Layout) (v : Values L) → block_differences p L v v ≡ []
  block_self [] v = refl
  block_self (number x n t ∷ L) v = equal_none (p ++ ascii x) (amount v.0) _ (block_self L v.1)
  block_self (octets x n t ∷ L) v = equal_none (p ++ ascii x) (string v.0) _ (block_self L v.1)
  block_self (counted y x t c ∷ L) v = equal_none (p ++ ascii y) (amount v.0) _ (equal_none (p ++ ascii x) (string (take v.0 v.1.0)) _ (block_self L v.1.1))

-- ---- messages

bit_equal : (x y : ℕ) → x < 2 → y < 2 → ◌≡◌ {A = ℕ} (cond (eqb x 1) 1 0) (cond (eqb y 1) 1 0) → x ≡ y
bit_equal x y a b e =
    by_bool (eqb x 1)
    (λ p. by_bool (eqb y 1) (λ q. eqb-true x 1 p ∙ sym (eqb-true y 1 q)) (λ q. let z = rw (p, q) at e in absurd (omega arith)))
    (λ p. by_bool (eqb y 1) (λ q. let z = rw (p, q) at e in absurd (omega arith)) (λ q. let m = eqb-false x 1 p in let n = eqb-false y 1 q in omega arith))

-- sets without reserved bits that name the same technologies
of_bits_lem : (a : ℕ) → a < set_limit → a ≡ a / 1 % 2 + 2 * (a / 2 % 2) + 4 * (a / 4 % 2) + 8 * (a / 8 % 2)
of_bits_lem a h =
    let q : a / 4 ≡ a / 2 / 2 = omega arith in
    let e : a / 8 ≡ a / 2 / 2 / 2 = omega arith in
    let n : a / 2 / 2 / 2 < 2 = omega arith in
    rw (q, e) (omega arith)

set_equal : (a b : ℕ) → a < set_limit → b < set_limit → ((t : Technology) → ◌≡◌ {A = ℕ} (cond (names a t) 1 0) (cond (names b t) 1 0)) → a ≡ b
set_equal a b h k e =
    let bit : (t : Technology) → a / 2 ^ technology_id t % 2 ≡ b / 2 ^ technology_id t % 2 = λ t. bit_equal (a / 2 ^ technology_id t % 2) (b / 2 ^ technology_id t % 2) (omega arith) (omega arith) (e t) in
    of_bits_lem a h ∙ rw (bit uwb, bit cs, bit nan, bit rssi) (sym (of_bits_lem b k))

rising_equal : (k : Column) (v w : (t : Technology) → Values (cell k t)) (set : ℕ) → ((t : Technology) → names set t ≡ true → write (cell k t) (v t) ≡ write (cell k t) (w t))
    → (ts : List Technology) → rising k v set ts ≡ rising k w set ts
rising_equal k v w set h [] = refl
rising_equal k v w set h (t ∷ ts) =
    by_bool (names set t)
    (λ y. rw (y, h t y, rising_equal k v w set h ts))
    (λ n. rw (n, rising_equal k v w set h ts))

module _ (a b : Record) (equal : a.set ≡ b.set) where
  column_equal : (c : Option Column) → column_differences a b c ≡ [] → column_blocks c a ≡ column_blocks c b
  column_equal none e = refl
  column_equal (some k) e =
      let each : (t : Technology) → section_differences a b k t ≡ [] = λ t. each_at (λ t. section_differences a b k t ≡ []) t (each_none (section_differences a b k) technologies e) (a_technology t) in
      let there : (t : Technology) → names a.set t ≡ true → write (cell k t) (of_record a k t) ≡ write (cell k t) (of_record b k t)
      = λ t y. block_written (prefix t) (cell k t) (of_record a k t) (of_record b k t) (rw (y, ap (λ (s : ℕ). names s t) (sym equal) ∙ y) at (each t)) in
      rising_equal k (of_record a k) (of_record b k) a.set there technologies ∙ ap (λ (s : ℕ). rising k (of_record b k) s technologies) equal

  normal_equal : a.id ≡ b.id → column_differences a b (row a.id).column ≡ [] → normal a ≡ normal b
  unfolding normal
  normal_equal i e =
      let blocks : blocks_of a ≡ blocks_of b = column_equal (row a.id).column e ∙ ap (λ (id : ℕ). column_blocks (row id).column b) i in
      λ j. 1 ∷ (i j ∷ (sets (row (i j)).times (equal j) ++ flatten (blocks j)))

-- accepted messages have equal normal forms exactly where nothing differs after equal IDs
module _ (a b : Record) where
  messages_equal : a.set < set_limit → b.set < set_limit → a.id ≡ b.id → message_differences a b (row a.id).column ≡ [] → normal a ≡ normal b
  messages_equal h k i e =
      let o = both_none (flatten (map (presence_difference a.set b.set) technologies)) _ e in
      let each : (t : Technology) → presence_difference a.set b.set t ≡ [] = λ t. each_at (λ t. presence_difference a.set b.set t ≡ []) t (each_none (presence_difference a.set b.set) technologies o.0) (a_technology t) in
      normal_equal a b (set_equal a.set b.set h k (λ t. amount_equal (none_equal (presence a.set t).name (presence a.set t).contents (presence b.set t).contents (each t)))) i o.1

section_self : (a : Record) (k : Column) (t : Technology) → section_differences a a k t ≡ []
section_self a k t = by_bool (names a.set t) (λ y. rw y (block_self (prefix t) (cell k t) (of_record a k t))) (λ n. rw n)

column_self : (a : Record) (c : Option Column) → column_differences a a c ≡ []
column_self a none = refl
column_self a (some k) = none_each (section_differences a a k) (section_self a k) technologies

message_self : (a : Record) (c : Option Column) → message_differences a a c ≡ []
unfolding difference
message_self a c =
    let here : (t : Technology) → presence_difference a.set a.set t ≡ [] = λ t. rw (alike_self (presence a.set t).contents) in
    rw (none_each (presence_difference a.set a.set) here technologies, column_self a c)

-- ---- records of a log

-- what an accepted message gives
abbrev Sound : Checked Record → Type 0
Sound (Err x) = Unit {0}
Sound (Ok a) = TypedRecord a × (valid a ≡ true)

-- messages with the same normal form have the same record
normal_record : (a b : Record) → Sound (Ok a) → Sound (Ok b) → normal a ≡ normal b → a ≡ b
normal_record a b s t e =
    ap (λ (r : Reading). r.value) (sym (reads_back a s.0 s.1) ∙ ap (λ (m : List ℕ). answer (reading m)) e ∙ reads_back b t.0 t.1)

-- the paper's three equalities
abbrev Equal : ℕ → Checked Record → ℕ → Checked Record → Type 0
Equal dl l dr r = (dl ≡ dr) × (normal_form_of l ≡ normal_form_of r) × ((answer l).refusal ≡ (answer r).refusal)

none_shown : (dl dr : ℕ) (l r : Checked Record) → Sound l → Sound r → Equal dl l dr r → shown_from dl l dr r ≡ []
unfolding difference
none_shown dl dr (Err x) r s t e = shown_left dl dr x r ∙ rw (e.0, e.2) (rw (eq-eqb dr dr refl, eq-eqb (answer r).refusal (answer r).refusal refl))
none_shown dl dr (Ok a) (Err y) s t e = absurd (no_zero y (sym e.2))
none_shown dl dr (Ok a) (Ok b) s t e =
    let q = normal_record a b s t e.1 in
    shown_messages dl dr a b (ap (λ (r : Record). r.id) q)
    ∙ subst (λ (r : Record). direction_difference dl dr ++ message_differences a r (row a.id).column ≡ []) q
    (rw e.0 (equal_none direction_name (amount dr) (message_differences a a (row a.id).column) (message_self a (row a.id).column)))

module _ (dl dr : ℕ) where
  head_equal : (n m : ℕ) → head_differences dl dr n m ≡ [] → (dl ≡ dr) × (n ≡ m)
  head_equal n m e =
      let o = one_none direction_name (amount dl) (amount dr) _ e in
      (amount_equal o.0, amount_equal (none_equal refusal_name (amount n) (amount m) o.1))

  shown_none : (l r : Checked Record) → Sound l → Sound r → shown_from dl l dr r ≡ [] → Equal dl l dr r
  shown_none (Err x) (Err y) s t e = let h = head_equal (number_of x) (number_of y) (sym (shown_left dl dr x (Err y)) ∙ e) in (h.0, refl, h.1)
  shown_none (Err x) (Ok b) s t e = let h = head_equal (number_of x) 0 (sym (shown_left dl dr x (Ok b)) ∙ e) in absurd (no_zero x h.1)
  shown_none (Ok a) (Err y) s t e = let h = head_equal 0 (number_of y) (sym (shown_right dl dr a y) ∙ e) in absurd (no_zero y (sym h.1))
  shown_none (Ok a) (Ok b) s t e =
      by_bool (eqb a.id b.id)
      (λ y.
      let i = eqb-true a.id b.id y in
      let o = one_none direction_name (amount dl) (amount dr) _ (sym (shown_messages dl dr a b i) ∙ e) in
      (amount_equal o.0, messages_equal a b (passes a s.1).set (passes b t.1).set i o.1, refl))
      (λ n.
      let d = eqb-false a.id b.id n in
      let o = one_none direction_name (amount dl) (amount dr) _ (sym (shown_ids dl dr a b d) ∙ e) in
      absurd (d (amount_equal (none_equal message_id_name (amount a.id) (amount b.id) o.1))))

-- an accepted record of a log is sound
message_sound : (m : List ℕ) → Octets m → Sound (reading m)
message_sound m o = go (reading m) refl
  where
    go : (c : Checked Record) → reading m ≡ c → Sound c
    go (Err x) e = tt
    go (Ok a) e = accepted_valid m o a (ap answer e)

reading_sound : (r : List ℕ) → Octets r → Sound (reading_of r)
unfolding reading_of taken_apart
reading_sound r o =
    by_bool (keeps_layout message_limit r)
    (λ y. rw y (message_sound (message_in r) (octets_part 4 (length_in r) r o)))
    (λ n. rw n tt)

three : (l r : List ℕ) → (is_same_reading l r ≡ true) ↔ Equal (direction_of l) (reading_of l) (direction_of r) (reading_of r)
unfolding is_same_reading
three l r = (
  λ e. let a = and_true_lem _ _ e in let b = and_true_lem _ _ a.1 in (eqb-true _ _ a.0, same_equal _ _ b.0, eqb-true _ _ b.1),
  λ e. rw (eq-eqb _ _ e.0, e.1, same_self (normal_form_of (reading_of r)), eq-eqb _ _ e.2),
)

pub same_exactly : (l r : List ℕ) → Octets l → Octets r → (is_same_reading l r ≡ true) ↔ (shown l r ≡ [])
same_exactly l r o p =
    let s = reading_sound l o in
    let t = reading_sound r p in (
      λ e. none_shown (direction_of l) (direction_of r) (reading_of l) (reading_of r) s t ((three l r).0 e),
      λ e. (three l r).1 (shown_none (direction_of l) (direction_of r) (reading_of l) (reading_of r) s t e),
    )
