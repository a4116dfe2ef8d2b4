-- What differs in two blocks, field by field, and in the sections of two messages.
use Rattle.std.proofs.Common.{◌≡◌, ℕ, zero, suc, ◌+◌, ◌-◌, ◌<◌, ◌≤◌, Bool, true, false, ◌&&◌, eqb, List, [], ◌∷◌, ◌++◌, length, get_or, take, drop, replicate, sym, refl, ◌∙◌, subst, append_assoc, append-nil, arith, length-drop, take_at, ne_eqb, true≢false, eqb-true}
use mathlib.Core.List.{flatten}
use Rattle.codec.specs.Octets.{part}
use Rattle.codec.specs.Technology.{Technology, uwb, cs, nan, rssi, technology_id, bit, in_both}
use Rattle.codec.specs.Layout.{Layout, number, octets, counted, value}
use Rattle.codec.specs.Blocks.{Column, cell}
use Rattle.codec.specs.Inner.Places.{Roomy}
use Rattle.codec.specs.Inner.Puts.{Put}
use Rattle.codec.proofs.Outcomes.{and_true_lem}
use Rattle.codec.proofs.Laws.{part_length}
use Rattle.codec.proofs.Layouts.{roomy_from}
use Rattle.codec.proofs.Puts.{put_then, put_none}
use Rattle.bench_log.specs.Text.{ascii}
use Rattle.bench_log.specs.Fields.{amount, prefix}
use Rattle.bench_log.specs.Comparison.{same, difference, difference_lines}
use Rattle.bench_log.specs.Inner.BlockFields.{is_width, is_field, are_fields, field_differences, field_end, field_limit, HasWidth, FieldReady}
use Rattle.bench_log.specs.Inner.Differences.{block_differences, technology_by, block_at, lines_limit, section_limit, BlockReady, section_in, SectionReady, SectionsReady}
use Rattle.bench_log.specs.declared.block.Field.{Field}
use Rattle.bench_log.specs.declared.block.Field.TheVariants.{Number, Octets, Counted}
use Rattle.std.proofs.lemmas.List.{drop_more}
use Rattle.bench_log.proofs.Equals.{same_equal}
use Rattle.bench_log.proofs.Differences.{lines_append}

-- ---- two blocks from places on, by their layout

module _ (p l : List ℕ) (a : ℕ) (r : List ℕ) (b : ℕ) where
  -- the first field is taken, and the rest is a layout from the places after it on
  pub record Taken (f : Field) (fs : List Field) (L : Layout) : Type 0 where
    pub rest : Layout
    pub matched : are_fields fs rest ≡ true
    pub width : HasWidth f
    pub left : Roomy rest (field_end f a l) l
    pub right : Roomy rest (field_end f b r) r
    pub differ : block_differences p L (value L a l) (value L b r)
        ≡ field_differences p f l a r b ++ block_differences p rest (value rest (field_end f a l) l) (value rest (field_end f b r) r)
    pub limit : field_limit f l a r b + lines_limit rest ≤ lines_limit L

  -- what is counted is kept with zeros after it
  counted_part : (m c : ℕ) (s : List ℕ) (at : ℕ) → at + 1 + m ≤ length s → take m (part (at + 1) m s ++ replicate c 0) ≡ part (at + 1) m s
  counted_part m c s at h = take_at (part (at + 1) m s) (replicate c 0) m (part_length (at + 1) m s h)

  pub taken : (f : Field) (fs : List Field) (L : Layout) → are_fields (f ∷ fs) L ≡ true → Roomy L a l → Roomy L b r → Taken f fs L
  unfolding field_differences lines_limit
  taken (Number x w) fs (number y v t ∷ L) e h k =
      let m = and_true_lem (is_field (Number x w) (number y v t)) (are_fields fs L) e in
      let n = and_true_lem (same x.now (ascii y)) (eqb w v && is_width w) m.0 in
      let o = and_true_lem (eqb w v) (is_width w) n.1 in
      let name = same_equal x.now (ascii y) n.0 in
      let size = eqb-true w v o.0 in
      record { rest = L; matched = m.1; width = o.1; left = rw size h; right = rw size k; differ = rw (size, name) refl; limit = rw name (omega arith) }
  taken (Octets x n) fs (octets y v t ∷ L) e h k =
      let m = and_true_lem (is_field (Octets x n) (octets y v t)) (are_fields fs L) e in
      let o = and_true_lem (same x.now (ascii y)) (eqb n v) m.0 in
      let name = same_equal x.now (ascii y) o.0 in
      let size = eqb-true n v o.1 in
      record { rest = L; matched = m.1; width = tt; left = rw size h; right = rw size k; differ = rw (size, name) refl; limit = rw (size, name) (omega arith) }
  taken (Counted x y) fs (counted u v t c ∷ L) e h k =
      let m = and_true_lem (is_field (Counted x y) (counted u v t c)) (are_fields fs L) e in
      let o = and_true_lem (same x.now (ascii u)) (same y.now (ascii v)) m.0 in
      let first = same_equal x.now (ascii u) o.0 in
      let second = same_equal y.now (ascii v) o.1 in
      let i = get_or l a 0 in
      let j = get_or r b 0 in
      record {
        rest = L;
        matched = m.1;
        width = tt;
        left = h.1;
        right = k.1;
        differ = rw (first, second, counted_part i (c - i) l a (roomy_from L (a + 1 + i) l h.1), counted_part j (c - j) r b (roomy_from L (b + 1 + j) r k.1)) (sym (append_assoc (difference (p ++ ascii u) (amount i) (amount j)) _ _));
        limit = rw (first, second) (omega (arith, h.0, k.0));
      }
  taken f fs L e h k = absurd (true≢false (sym e))

-- ---- walking over the fields of a layout, of which some are left

pub record Walking (p : List ℕ) (L : Layout) (fs : List Field) (l r : List ℕ) (n at : ℕ) (d e : List ℕ) (q a b : ℕ) : Type 0 where
  pub rest : Layout
  pub matched : are_fields fs rest ≡ true
  pub left : Roomy rest a l
  pub right : Roomy rest b r
  pub done : List ℕ
  pub put : Put d at done e q
  pub text : difference_lines n (block_differences p L (value L 2 l) (value L 2 r)) ≡ done ++ difference_lines n (block_differences p rest (value rest a l) (value rest b r))
  pub limit : q + lines_limit rest ≤ at + lines_limit L
  pub room : at + lines_limit L ≤ length d

no_fields : (M : Layout) → are_fields [] M ≡ true → M ≡ []
no_fields [] e = refl
no_fields (g ∷ M) e = absurd (true≢false (sym e))

module _ {p : List ℕ} {L : Layout} {l r d : List ℕ} {n at : ℕ} where
  pub at_start : (fs : List Field) → are_fields fs L ≡ true → Roomy L 2 l → Roomy L 2 r → at + lines_limit L ≤ length d → Walking p L fs l r n at d d at 2 2
  at_start fs m x y room = record {
    rest = L;
    matched = m;
    left = x;
    right = y;
    done = [];
    put = put_none d at (omega (arith, room));
    text = refl;
    limit = omega arith;
    room = room;
  }

  pub at_end : {fs : List Field} {e : List ℕ} {q a b : ℕ} → fs ≡ [] → Walking p L fs l r n at d e q a b
      → Put d at (difference_lines n (block_differences p L (value L 2 l) (value L 2 r))) e q × (q ≤ at + lines_limit L)
  unfolding difference_lines flatten
  at_end {fs} {e} {q} {a} {b} z w =
      let none = no_fields w.rest (subst (λ (fs : List Field). are_fields fs w.rest ≡ true) z w.matched) in
      let after : difference_lines n (block_differences p w.rest (value w.rest a l) (value w.rest b r)) ≡ [] = subst (λ (M : Layout). difference_lines n (block_differences p M (value M a l) (value M b r)) ≡ []) (sym none) refl in
      (rw (w.text, after, append-nil w.done) w.put, omega (arith, w.limit))

  pub at_field : (fs : List Field) (i : ℕ) (f : Field) {e : List ℕ} {q a b : ℕ} → i < length fs → Walking p L (drop i fs) l r n at d e q a b → Walking p L (get_or fs i f ∷ drop (i + 1) fs) l r n at d e q a b
  at_field fs i f {e} {q} {a} {b} h w = subst (λ (gs : List Field). Walking p L gs l r n at d e q a b) (drop_more fs i f h) w

  module _ {f : Field} {fs : List Field} {e : List ℕ} {q a b : ℕ} (short : length p ≤ 5) (w : Walking p L (f ∷ fs) l r n at d e q a b) where
    abbrev one : Taken p l a r b f fs w.rest
    one = taken p l a r b f fs w.rest w.matched w.left w.right

    pub field_ready : FieldReady p f l a r b q e
    field_ready = record {
      short = short;
      width = one.width;
      left = roomy_from one.rest (field_end f a l) l one.left;
      right = roomy_from one.rest (field_end f b r) r one.right;
      room = omega (arith, w.limit, w.room, w.put.same, one.limit);
    }

    pub step : {g : List ℕ} {s x y : ℕ} → Put e q (difference_lines n (field_differences p f l a r b)) g s → s ≤ q + field_limit f l a r b → x ≡ field_end f a l → y ≡ field_end f b r
        → Walking p L fs l r n at d g s x y
    step put limit i j =
        rw (i, j)
        (record {
          rest = one.rest;
          matched = one.matched;
          left = one.left;
          right = one.right;
          done = w.done ++ difference_lines n (field_differences p f l a r b);
          put = put_then w.put put;
          text = w.text ∙ rw (one.differ, lines_append n (field_differences p f l a r b) (block_differences p one.rest (value one.rest (field_end f a l) l) (value one.rest (field_end f b r) r))) (sym (append_assoc w.done _ _));
          limit = omega (arith, w.limit, limit, one.limit);
          room = w.room;
        })

-- ---- the section of a technology

-- its words are short
pub prefix_short : (t : Technology) → length (prefix t) ≤ 5
prefix_short uwb = omega arith
prefix_short cs = omega arith
prefix_short nan = omega arith
prefix_short rssi = omega arith

-- the technology of an ID
pub is_uwb : {id : ℕ} → id ≡ 0 → technology_by id ≡ uwb
unfolding technology_by
is_uwb e = rw e

pub is_cs : {id : ℕ} → id ≡ 1 → technology_by id ≡ cs
unfolding technology_by
is_cs e = rw e

pub is_nan : {id : ℕ} → id ≡ 2 → technology_by id ≡ nan
unfolding technology_by
is_nan e = rw e

pub is_rssi : {id : ℕ} → (id ≡ 0 → ⊥) → (id ≡ 1 → ⊥) → (id ≡ 2 → ⊥) → technology_by id ≡ rssi
unfolding technology_by
is_rssi a b c = rw (ne_eqb _ _ a, ne_eqb _ _ b, ne_eqb _ _ c)

-- at places of two messages, for the technology of an ID
pub id_by : (id : ℕ) → id < 4 → technology_id (technology_by id) ≡ id
unfolding technology_by
id_by zero h = refl
id_by (suc zero) h = refl
id_by (suc (suc zero)) h = refl
id_by (suc (suc (suc zero))) h = refl
id_by (suc (suc (suc (suc n)))) h = absurd (omega arith)

module _ (k : Column) (id : ℕ) (below : id < 4) {s u at : ℕ} {l places r others d : List ℕ} (h : SectionReady k (technology_by id) s u l places r others at d) {present : Bool} (e : present ≡ (bit s id && bit u id)) where
  abbrev a : ℕ
  a = get_or places id 0

  abbrev b : ℕ
  b = get_or others id 0

  both : in_both s u (technology_by id) ≡ present
  both = rw (id_by id below) (sym e)

  pub section_none : (n : ℕ) → present ≡ false → Put d at (difference_lines n (section_in k s u l places r others (technology_by id))) d at × (at ≤ at + section_limit k (technology_by id))
  unfolding section_in difference_lines flatten
  section_none n f = (rw (both, f) (put_none d at (omega (arith, h.room))), omega arith)

  module _ (p : present ≡ true) where
    left : Roomy (cell k (technology_by id)) 2 (drop a l)
    left = rw (id_by id below) at (h.left (both ∙ p))

    right : Roomy (cell k (technology_by id)) 2 (drop b r)
    right = rw (id_by id below) at (h.right (both ∙ p))

    pub section_left : a ≤ length l
    section_left = omega (arith, roomy_from (cell k (technology_by id)) 2 (drop a l) left, length-drop a l)

    pub section_right : b ≤ length r
    section_right = omega (arith, roomy_from (cell k (technology_by id)) 2 (drop b r) right, length-drop b r)

    pub section_ready : BlockReady k (technology_by id) (drop a l) (drop b r) at d
    section_ready = record { left = left; right = right; room = h.room }

    pub section_put : (n : ℕ) {f : List ℕ} {q : ℕ} → Put d at (difference_lines n (block_at k (technology_by id) (drop a l) (drop b r))) f q × (q ≤ at + section_limit k (technology_by id))
        → Put d at (difference_lines n (section_in k s u l places r others (technology_by id))) f q × (q ≤ at + section_limit k (technology_by id))
    unfolding section_in
    section_put n g = (rw (both, p, id_by id below) g.0, g.1)

-- the section of each technology, by its ID
pub by_zero : technology_by 0 ≡ uwb
by_zero = is_uwb refl

pub by_one : technology_by 1 ≡ cs
by_one = is_cs refl

pub by_two : technology_by 2 ≡ nan
by_two = is_nan refl

pub by_three : technology_by 3 ≡ rssi
by_three = is_rssi (λ e. omega arith) (λ e. omega arith) (λ e. omega arith)

pub section_of : (k : Column) (s u id : ℕ) {t : Technology} {l places r others d first : List ℕ} {at from : ℕ} → technology_by id ≡ t
    → SectionsReady k s u l places r others from first → at + section_limit k t ≤ length d → SectionReady k (technology_by id) s u l places r others at d
section_of k s u id {t} same h room = rw same (record { left = h.left t; right = h.right t; room = room })
