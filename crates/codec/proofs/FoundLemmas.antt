-- The places that the walk keeps are those of its blocks, and the record that they give is the message's.
use Prim.Native.Nat.{ℕ, zero, suc, ◌+◌, ◌≤◌, ◌<◌}
use native.Mathlib.Omega.{arith}
use mathlib.Core.Path.{◌≡◌, refl, sym, ap, ◌∙◌, subst, fun_ext}
use mathlib.Core.Option.{Option, some}
use mathlib.Core.Bool.{Bool, true, false, cond}
use mathlib.Core.List.{List, [], ◌∷◌, ◌++◌}
use lib.Dec.{leb, ltb, eqb}
use lib.ListN.{length, get_or, set, drop, get_or-replicate, length-set, length-drop, take-append-drop}
use lib.Seq.{get_or-set_same, get_or-set_other}
use borrow.Author.Tests.{eqb-true, eqb-false, eq-eqb, ne_eqb, lt-ltb, not-true, leb-true}
use Rattle.codec.specs.Refusal.{Refusal, Err, Ok, TooLong, EndsEarly, ReservedId, WrongVersion, SetsDiffer}
use Rattle.codec.specs.Technology.{Technology, technology_id, bit, known, names}
use Rattle.codec.specs.Layout.{Layout, zeroes, value}
use Rattle.codec.specs.Blocks.{Column, capabilities, configurations, cell, layouts}
use Rattle.codec.specs.Table.{message_limit, assigned, readable, message_of, row, block_count, layouts_of, set_in}
use Rattle.codec.specs.Records.{make, response, settings_record, without_blocks}
use Rattle.codec.specs.Message.{version_of, id_of, set_of, sets_agree, blocks_at, block_at, also, no_id, block_fault, Walked, prepend, walk, end_fault, blocks_from, after_head, body, parse, fields_in, record_of, reading}
use Rattle.codec.specs.WellFormed.{Whole, Each, Has, this, later}
use Rattle.codec.specs.Inner.Places.{Roomy, no_place, no_places, note, noted, carries_blocks, Judged, fields_at, column_at, column_found, record_at, Placed}
use Rattle.codec.specs.Octets.{Octets}
use Rattle.codec.proofs.Counting.{has_some, all_named}
use Rattle.codec.proofs.Outcomes.{by_bool, by_verdict, verdict_refused, and_true_lem, or_false_lem, demanded, chained}
use Rattle.codec.proofs.Layouts.{sound_roomy, roomy_from, value_before, fields_there, no_fields}
use Rattle.codec.proofs.Cells.{cell_fits, layout_of, technology_below}
use Rattle.codec.proofs.Rows.{times_one, column_there, none_named}
use Rattle.codec.proofs.WalkCases.{Sound, sound}
use Rattle.codec.proofs.Walks.{walked}

has_not : {id : ℕ} (b : List ℕ) (blocks : List (List ℕ)) → (get_or b 0 0 ≡ id → ⊥) → (Has id blocks → ⊥) → Has id (b ∷ blocks) → ⊥
has_not b blocks n h (this e) = n e
has_not b blocks n h (later r) = h r

module _ (k : Column) (set₀ : ℕ) (m : List ℕ) (t : Technology) where
  abbrev L : Layout
  L = cell k t

  abbrev id : ℕ
  id = technology_id t

  noted_other : (new at : ℕ) (found : List ℕ) → (id ≡ new → ⊥) → get_or (note new at found) id 0 ≡ get_or found id 0
  noted_other new at found n = go (ltb new 4)
    where
      go : (b : Bool) → get_or (cond b (set found new at) found) id 0 ≡ get_or found id 0
      go true = get_or-set_other found new id at 0 n
      go false = refl

  noted_same : (at : ℕ) (found : List ℕ) → length found ≡ 5 → get_or (note id at found) id 0 ≡ at
  noted_same at found l = rw (lt-ltb id 4 (technology_below t)) (get_or-set_same found id at 0 (omega (arith, technology_below t)))

  noted_length : (new at : ℕ) (found : List ℕ) → length found ≡ 5 → length (note new at found) ≡ 5
  noted_length new at found l = go (ltb new 4)
    where
      go : (b : Bool) → length (cond b (set found new at) found) ≡ 5
      go true = length-set found new at ∙ l
      go false = l

  roomy_here : (came : ℕ → Bool) (at : ℕ) → Sound (layouts k) set₀ m came at → get_or m at 0 ≡ id → Roomy L 2 (block_at m at)
  roomy_here came at s e =
      subst (λ (K : Layout). Roomy K 2 (block_at m at)) (ap (layouts k) e ∙ layout_of k t)
      (sound_roomy (layouts k (get_or m at 0)) (rw (e, layout_of k t) (cell_fits k t)) 2 (block_at m at) (rw s.size s.enough) s.fields)

  -- where blocks that lie from a place on are noted: as before, if none is this technology's, or where its one block stands
  data Told (came : ℕ → Bool) (at : ℕ) (found : List ℕ) (blocks : List (List ℕ)) : Type 0 where
    absent : get_or (noted blocks at found) id 0 ≡ get_or found id 0 → fields_in L id blocks ≡ zeroes L → (Has id blocks → ⊥) → Told came at found blocks
    present : {p : ℕ} → get_or (noted blocks at found) id 0 ≡ p → came id ≡ false → Roomy L 2 (block_at m p) → fields_in L id blocks ≡ value L 2 (block_at m p) → Told came at found blocks

  told_next : (came : ℕ → Bool) (at : ℕ) (found : List ℕ) (blocks : List (List ℕ)) → length found ≡ 5 → Sound (layouts k) set₀ m came at
      → Told (also (get_or m at 0) came) (at + get_or m (at + 1) 0) (note (get_or m at 0) at found) blocks → Told came at found (block_at m at ∷ blocks)
  told_next came at found blocks l s t =
      let b = block_at m at in
      let new = get_or m at 0 in
      let same : noted (b ∷ blocks) at found ≡ noted blocks (at + get_or m (at + 1) 0) (note new at found) = λ i. noted blocks (at + s.size i) (note (s.first i) at found) in
      go same t
    where
      go : noted (block_at m at ∷ blocks) at found ≡ noted blocks (at + get_or m (at + 1) 0) (note (get_or m at 0) at found)
          → Told (also (get_or m at 0) came) (at + get_or m (at + 1) 0) (note (get_or m at 0) at found) blocks → Told came at found (block_at m at ∷ blocks)
      go same (absent e f h) =
          let p : get_or (noted (block_at m at ∷ blocks) at found) id 0 ≡ get_or (note (get_or m at 0) at found) id 0 = ap (λ (l : List ℕ). get_or l id 0) same ∙ e in
          by_bool (eqb (get_or m at 0) id)
          (λ y.
          let i : get_or m at 0 ≡ id = eqb-true _ _ y in
          let c : came (get_or m at 0) ≡ false = not-true _ (and_true_lem (bit set₀ (get_or m at 0)) _ s.comes).1 in
          present (p ∙ rw i (noted_same at found l)) (rw i at c) (roomy_here came at s i) (rw (s.first, y)))
          (λ n.
          let d = eqb-false _ _ n in
          absent (p ∙ noted_other (get_or m at 0) at found (λ q. d (sym q))) (rw (s.first, n) f) (has_not _ blocks (λ q. d (sym s.first ∙ q)) h))
      go same (present e c h f) =
          let d = or_false_lem (eqb id (get_or m at 0)) (came id) c in
          let n : eqb (get_or m at 0) id ≡ false = ne_eqb (get_or m at 0) id (λ q. eqb-false id (get_or m at 0) d.0 (sym q)) in
          present (ap (λ (l : List ℕ). get_or l id 0) same ∙ e) d.1 h (rw (s.first, n) f)

  told : (n : ℕ) (came : ℕ → Bool) (at : ℕ) (found : List ℕ) (w : Walked) → length found ≡ 5 → walk (layouts k) set₀ m n came at ≡ Ok w → Told came at found w.blocks
  unfolding walk
  told zero came at found w l e =
      let q : ◌≡◌ {A = Walked} (record { blocks = []; end = at }) w = cc in
      subst (λ (w : Walked). Told came at found w.blocks) q (absent (get_or-set_other found 4 id at 0 (λ d. omega (arith, technology_below t))) refl (λ h. omega (arith, has_some id [] h)))
  told (suc n) came at found w l e =
      chained (block_fault (layouts k) set₀ m came at) _ w e λ u a e₁.
      chained (walk (layouts k) set₀ m n (also (get_or m at 0) came) (at + get_or m (at + 1) 0)) _ w e₁ λ w₁ e₂ e₃.
      let s = sound (layouts k) set₀ m came at a in
      let q : prepend (block_at m at) w₁ ≡ w = cc in
      subst (λ (w : Walked). Told came at found w.blocks) q
      (told_next came at found w₁.blocks l s (told n (also (get_or m at 0) came) (at + get_or m (at + 1) 0) (note (get_or m at 0) at found) w₁ (noted_length (get_or m at 0) at found l) e₂))

  module _ (at : ℕ) (h : Roomy L 2 (block_at m at)) where
    abbrev rest : List ℕ
    rest = drop (get_or m (at + 1) 0) (drop at m)

    whole : block_at m at ++ rest ≡ drop at m
    whole = take-append-drop (get_or m (at + 1) 0) (drop at m)

    roomy_there : Roomy L 2 (drop at m)
    roomy_there = subst (Roomy L 2) whole (value_before L 2 (block_at m at) rest h).0

    block_there : fields_at L m at ≡ value L 2 (block_at m at)
    block_there = fields_there L m at roomy_there ∙ ap (value L 2) (sym whole) ∙ (value_before L 2 (block_at m at) rest h).1

  kept : (blocks : List (List ℕ)) (at : ℕ) → length m < no_place → Told no_id at no_places blocks → fields_at L m (get_or (noted blocks at no_places) id 0) ≡ fields_in L id blocks
  kept blocks at h (absent f g n) = rw (f ∙ get_or-replicate 5 id no_place 0 (omega (arith, technology_below t))) (no_fields L m no_place (λ r. omega (arith, h, roomy_from L 2 (drop no_place m) r, length-drop no_place m)) ∙ sym g)
  kept blocks at h (present {p} f c s g) = rw f (block_there p s ∙ sym g)

  -- what the reader finds at the place that the walk kept
  pub keeps : (n at : ℕ) (w : Walked) → length m < no_place → walk (layouts k) set₀ m n no_id at ≡ Ok w → fields_at L m (get_or (noted w.blocks at no_places) id 0) ≡ fields_in L id w.blocks
  keeps n at w h e = kept w.blocks at h (told n no_id at no_places w refl e)

  held : (blocks : List (List ℕ)) (at : ℕ) → Told no_id at no_places blocks → Has id blocks → Roomy L 2 (drop (get_or (noted blocks at no_places) id 0) m)
  held blocks at (absent f g n) h = absurd (n h)
  held blocks at (present {p} f c s g) h = rw f (roomy_there p s)

  -- and if a block has its ID, it is whole there
  pub holds : (n at : ℕ) (w : Walked) → walk (layouts k) set₀ m n no_id at ≡ Ok w → Has id w.blocks → Roomy L 2 (drop (get_or (noted w.blocks at no_places) id 0) m)
  holds n at w e h = held w.blocks at (told n no_id at no_places w refl e) h

-- ---- an accepted message

-- what the order of checks says of a message that it does not refuse
pub record Parsed (m : List ℕ) (blocks : List (List ℕ)) : Type 0 where
  pub limit : length m ≤ message_limit
  pub head : 2 ≤ length m
  pub id_assigned : assigned (id_of m) ≡ true
  pub version : readable (version_of m) (id_of m) ≡ true
  pub sets : blocks_at (row (id_of m)).times ≤ length m
  pub agree : sets_agree (row (id_of m)).times m ≡ true
  pub end : ℕ
  pub walked : walk (layouts_of (row (id_of m)).column) (set_of m) m (block_count (row (id_of m)).column (set_of m)) no_id (blocks_at (row (id_of m)).times) ≡ Ok (record { blocks = blocks; end = end })
  pub ended : end_fault m end ≡ Ok tt

pub parsed : (m : List ℕ) (blocks : List (List ℕ)) → parse m ≡ Ok blocks → Parsed m blocks
unfolding parse body after_head blocks_from
parsed m blocks e =
    let R = row (id_of m) in
    demanded (leb (length m) message_limit) TooLong _ blocks e λ y₁ e₁.
    demanded (leb 2 (length m)) EndsEarly _ blocks e₁ λ y₂ e₂.
    demanded (assigned (id_of m)) ReservedId _ blocks e₂ λ y₃ e₃.
    demanded (readable (version_of m) (id_of m)) WrongVersion _ blocks e₃ λ y₄ e₄.
    demanded (leb (blocks_at R.times) (length m)) EndsEarly _ blocks e₄ λ y₅ e₅.
    demanded (sets_agree R.times m) SetsDiffer _ blocks e₅ λ y₆ e₆.
    chained (walk (layouts_of R.column) (set_of m) m (block_count R.column (set_of m)) no_id (blocks_at R.times)) _ blocks e₆ λ w e₇ e₈.
    chained (end_fault m w.end) _ blocks e₈ λ u e₉ e₁₀.
    let q : w.blocks ≡ blocks = cc in
    record {
      limit = leb-true _ _ y₁;
      head = leb-true _ _ y₂;
      id_assigned = y₃;
      version = y₄;
      sets = leb-true _ _ y₅;
      agree = y₆;
      end = w.end;
      walked = e₇ ∙ ap (λ (bs : List (List ℕ)). Ok (record { blocks = bs; end = w.end })) q;
      ended = e₉;
    }

-- an ID that is not in the set has no block
no_block : (k : Column) (set : ℕ) (t : Technology) (blocks : List (List ℕ)) → Each (Whole (layouts k) set) blocks → names set t ≡ false → fields_in (cell k t) (technology_id t) blocks ≡ zeroes (cell k t)
no_block k set t [] w n = refl
no_block k set t (b ∷ blocks) w n =
    let d : eqb (get_or b 0 0) (technology_id t) ≡ false = ne_eqb (get_or b 0 0) (technology_id t) (λ e. let z : ◌≡◌ {A = ℕ} 0 1 = cc (w.0.named, ap (bit set) e) in omega arith) in
    rw d (no_block k set t blocks w.1 n)

module _ (m : List ℕ) (blocks : List (List ℕ)) (e : parse m ≡ Ok blocks) where
  p : Parsed m blocks
  p = parsed m blocks e

  pub four : 4 ≤ length m
  four = omega (arith, p.sets, times_one (id_of m))

  abbrev start : ℕ
  start = blocks_at (row (id_of m)).times

  -- the walk over the blocks of a column
  walked_column : (k : Column) → id_of m ≡ message_of k → walk (layouts k) (set_of m) m (block_count (some k) (set_of m)) no_id start ≡ Ok (record { blocks = blocks; end = p.end })
  walked_column k h = subst (λ (c : Option Column). walk (layouts_of c) (set_of m) m (block_count c (set_of m)) no_id start ≡ Ok (record { blocks = blocks; end = p.end })) (column_there (id_of m) k (eq-eqb (id_of m) (message_of k) h)) p.walked

  kept_here : (k : Column) → id_of m ≡ message_of k → (t : Technology) → fields_at (cell k t) m (get_or (noted blocks start no_places) (technology_id t) 0) ≡ fields_in (cell k t) (technology_id t) blocks
  kept_here k h t = keeps k (set_of m) m t (block_count (some k) (set_of m)) start (record { blocks = blocks; end = p.end }) (omega (arith, p.limit)) (walked_column k h)

  -- a technology that is not in the set has no fields
  absent_zero : (k : Column) → id_of m ≡ message_of k → (t : Technology) → names (set_of m) t ≡ false → fields_in (cell k t) (technology_id t) blocks ≡ zeroes (cell k t)
  absent_zero k h t n = no_block k (set_of m) t blocks (walked (layouts k) (set_of m) m (block_count (some k) (set_of m)) no_id start (record { blocks = blocks; end = p.end }) p.sets (walked_column k h)).whole n

  module _ (found : List ℕ) (f : carries_blocks (row (id_of m)).column ≡ true → found ≡ noted blocks start no_places) where
    places : (k : Column) → id_of m ≡ message_of k → found ≡ noted blocks start no_places
    places k h = f (ap carries_blocks (column_there (id_of m) k (eq-eqb (id_of m) (message_of k) h)))

    fields_found : (k : Column) → id_of m ≡ message_of k → (t : Technology) → fields_at (cell k t) m (get_or found (technology_id t) 0) ≡ cond (names (set_of m) t) (fields_in (cell k t) (technology_id t) blocks) (zeroes (cell k t))
    fields_found k h t = rw (places k h, kept_here k h t) (by_bool (names (set_of m) t) (λ n. rw n) (λ n. rw n (absent_zero k h t n)))

    -- the column that the places give is the message's
    column_found_lem : (k : Column) → column_found m found k ≡ make k (λ t. cond (names (set_in (id_of m) (set_of m) k) t) (fields_in (cell k t) (technology_id t) blocks) (zeroes (cell k t)))
    column_found_lem k =
        by_bool (eqb (id_of m) (message_of k))
        (λ y. rw y (ap (make k) (fun_ext (fields_found k (eqb-true (id_of m) (message_of k) y)))))
        (λ n. rw n (ap (make k) (fun_ext λ t. rw (none_named t))))

    record_found : record_at m found ≡ record_of (id_of m) (set_of m) blocks
    record_found = λ i. record { id = id_of m; set = known (set_of m); capability = column_found_lem capabilities i; configuration = column_found_lem configurations i }

    there : Octets m → (k : Column) → id_of m ≡ message_of k → (t : Technology) → names (set_of m) t ≡ true → Roomy (cell k t) 2 (drop (get_or found (technology_id t) 0) m)
    there o k h t n =
        let b = block_count (some k) (set_of m) in
        let w : Walked = record { blocks = blocks; end = p.end } in
        let l = walked (layouts k) (set_of m) m b no_id start w p.sets (walked_column k h) in
        let i = all_named (layouts k) (set_of m) (omega (arith, o 2, o 3)) blocks l.whole l.once l.count (technology_id t) n in
        rw (places k h) (holds k (set_of m) m t b start w (walked_column k h) i)

    reads : reading m ≡ Ok (record_at m found)
    unfolding reading
    reads = rw e (ap Ok (sym record_found))

pub reads_refused : (m : List ℕ) {x : Refusal} → parse m ≡ Err x → reading m ≡ Err x
unfolding reading
reads_refused m e = rw e

module _ (m : List ℕ) {found : List ℕ} where
  pub located : Judged (carries_blocks (row (id_of m)).column) (parse m) (blocks_at (row (id_of m)).times) no_places (Ok tt) found → Placed m found
  located j = record {
    four = by_verdict (parse m) j.judges λ blocks e. four m blocks e;
    reads = by_verdict (parse m) j.judges λ blocks e. reads m blocks e found (λ k. j.places k blocks e);
    there = by_verdict (parse m) j.judges λ blocks e. there m blocks e found (λ k. j.places k blocks e);
  }

  pub located_refused : {x : Refusal} → Judged (carries_blocks (row (id_of m)).column) (parse m) (blocks_at (row (id_of m)).times) no_places (Err x) found → reading m ≡ Err x
  located_refused j = reads_refused m (verdict_refused (parse m) j.judges)

-- the record by the kind of a message without a fault
module _ {m places : List ℕ} (l : Placed m places) where
  pub response_found : id_of m ≡ message_of capabilities → reading m ≡ Ok (response (known (set_of m)) (column_at capabilities m places))
  response_found h = let e : record_at m places ≡ response (known (set_of m)) (column_at capabilities m places) = rw h in l.reads ∙ ap Ok e

  pub configuration_found : id_of m ≡ message_of configurations → reading m ≡ Ok (settings_record (known (set_of m)) (column_at configurations m places))
  configuration_found h = let e : record_at m places ≡ settings_record (known (set_of m)) (column_at configurations m places) = rw h in l.reads ∙ ap Ok e

  pub set_found : ((k : Column) → id_of m ≡ message_of k → ⊥) → reading m ≡ Ok (without_blocks (id_of m) (known (set_of m)))
  set_found n = let e : record_at m places ≡ without_blocks (id_of m) (known (set_of m)) = rw (ne_eqb (id_of m) 1 (n capabilities), ne_eqb (id_of m) 2 (n configurations)) in l.reads ∙ ap Ok e
