-- An accepted message's record is valid, and the message is the record's normal form exactly if it is in normal form.
use Prim.Native.Nat.{ℕ, zero, suc, ◌+◌, ◌≤◌, ◌<◌}
use native.Mathlib.Omega.{arith}
use native.Mathlib.Nat.{mod-eq_of_lt}
use mathlib.Core.Logic.{◌⊎◌, inl, inr}
use mathlib.Core.Path.{◌≡◌, refl, sym, ap, ◌∙◌, subst}
use mathlib.Core.Option.{Option, none, some}
use mathlib.Core.Bool.{Bool, true, false, cond, true≢false}
use mathlib.Core.List.{List, [], ◌∷◌, ◌++◌, append-nil, flatten}
use lib.Dec.{eqb}
use lib.ListN.{length, get_or, take}
use lib.Seq.{take-length}
use borrow.Author.Tests.{eqb-true, eq-eqb, ne_eqb}
use Rattle.codec.specs.Octets.{Octets}
use Rattle.codec.specs.Technology.{Technology, technology_id, technologies, bit, known, names}
use Rattle.codec.specs.Layout.{Values, zeroes, allowed, Typed, cleared, write, value, need}
use Rattle.codec.specs.Blocks.{Column, cell, layouts}
use Rattle.codec.specs.Table.{message_of, row, block_count, layouts_of, set_in}
use Rattle.codec.specs.Records.{of_record}
use Rattle.codec.specs.Message.{fields_in, record_of}
use Rattle.codec.specs.WellFormed.{Whole, Each, Once, Has, this, later, sets, WellFormed}
use Rattle.codec.specs.Valid.{TypedRecord, valid_fields, valid}
use Rattle.codec.specs.NormalForm.{block, rising, column_blocks, normal, Rising, NormalForm}
use Rattle.codec.specs.declared.records.Record.{Record}
use Rattle.codec.proofs.Laws.{two_head}
use Rattle.codec.proofs.Outcomes.{by_bool}
use Rattle.codec.proofs.Layouts.{need_from}
use Rattle.codec.proofs.FieldLaws.{octets_left, octets_right, typed_zeroes, zeroed_zeroes, forth}
use Rattle.codec.proofs.Bits.{bit_under}
use Rattle.codec.proofs.Counting.{has_some, all_named}
use Rattle.codec.proofs.Every.{Among, first, further, each_at}
use Rattle.codec.proofs.Cells.{cell_fits, layout_of, cell_here}
use Rattle.codec.proofs.Risings.{Ascending, ascending}
use Rattle.codec.proofs.Rows.{Carries, column, carries, column_there, named_there, known_named}
use Rattle.codec.proofs.MessageCases.{assigned_under}
use Rattle.codec.proofs.Exact.{small}
use Rattle.codec.proofs.ReadBack.{is_valid}

-- ---- lists of blocks

each_map : (P Q : List ℕ → Type 0) → ((b : List ℕ) → P b → Q b) → (blocks : List (List ℕ)) → Each P blocks → Each Q blocks
each_map P Q g [] h = tt
each_map P Q g (b ∷ blocks) h = (g b h.0, each_map P Q g blocks h.1)

each_both : (P Q : List ℕ → Type 0) (blocks : List (List ℕ)) → Each P blocks → Each Q blocks → Each (λ b. P b × Q b) blocks
each_both P Q [] h k = tt
each_both P Q (b ∷ blocks) h k = ((h.0, k.0), each_both P Q blocks h.1 k.1)

has_above : (k id : ℕ) (blocks : List (List ℕ)) → Each (λ c. k < get_or c 0 0) blocks → Has id blocks → k < id
has_above k id [] h x = elim x [ ]
has_above k id (b ∷ blocks) h (this e) = omega (arith, h.0)
has_above k id (b ∷ blocks) h (later r) = has_above k id blocks h.1 r

-- the first of rising blocks has the lowest ID
has_first : (id : ℕ) (b : List ℕ) (blocks : List (List ℕ)) → Each (λ c. get_or b 0 0 < get_or c 0 0) blocks → id ≤ get_or b 0 0 → Has id (b ∷ blocks) → get_or b 0 0 ≡ id
has_first id b blocks h l (this e) = e
has_first id b blocks h l (later r) = absurd (omega (arith, has_above (get_or b 0 0) id blocks h r))

has_later : (id : ℕ) (b : List ℕ) (blocks : List (List ℕ)) → (get_or b 0 0 ≡ id → ⊥) → Has id (b ∷ blocks) → Has id blocks
has_later id b blocks n (this e) = absurd (n e)
has_later id b blocks n (later r) = r

-- ---- a whole block of a technology

module _ (k : Column) (set : ℕ) where
  module _ (t : Technology) (b : List ℕ) (e : get_or b 0 0 ≡ technology_id t) (o : Octets b) (w : Whole (layouts k) set b) where
    layout_is : layouts k (get_or b 0 0) ≡ cell k t
    layout_is = ap (layouts k) e ∙ layout_of k t

    enough : need (cell k t) 2 b ≤ length b
    enough = rw layout_is at w.enough

    fine : allowed (cell k t) (value (cell k t) 2 b) ≡ true
    fine = rw layout_is at w.fields

    block_forth : Typed (cell k t) (value (cell k t) 2 b) × (cleared (cell k t) (value (cell k t) 2 b) ≡ true) × (take (need (cell k t) 2 b) b ≡ take 2 b ++ write (cell k t) (value (cell k t) 2 b))
    block_forth = forth (cell k t) (cell_fits k t) 2 b o enough fine

    -- its fields are typed and valid
    block_valid : Typed (cell k t) (value (cell k t) 2 b) × (valid_fields (cell k t) true (value (cell k t) 2 b) ≡ true)
    block_valid = (block_forth.0, rw (fine, block_forth.1))

    -- a block of exactly its need is what is written of its fields
    exact_block : length b ≡ need (layouts k (get_or b 0 0)) 2 b → block (cell k t) (technology_id t) (value (cell k t) 2 b) ≡ b
    exact_block n =
        let L = cell k t in
        let W = write L (value L 2 b) in
        let p : b ≡ take 2 b ++ W = sym (take-length b) ∙ ap (λ (n : ℕ). take n b) (rw layout_is at n) ∙ block_forth.2 in
        let h : take 2 b ≡ get_or b 0 0 ∷ (get_or b 1 0 ∷ []) = two_head b (omega (arith, need_from L 2 b, enough)) in
        let q : b ≡ get_or b 0 0 ∷ (get_or b 1 0 ∷ W) = p ∙ ap (λ (l : List ℕ). l ++ W) h in
        let s : 2 + length W ≡ get_or b 1 0 = omega (arith, ap length q, w.size) in
        rw s (ap (λ (x : ℕ). x ∷ (get_or b 1 0 ∷ W)) (sym e) ∙ sym q)

  -- the fields of a technology that has a block
  there_valid : (t : Technology) (blocks : List (List ℕ)) → Each Octets blocks → Each (Whole (layouts k) set) blocks → Has (technology_id t) blocks
      → Typed (cell k t) (fields_in (cell k t) (technology_id t) blocks) × (valid_fields (cell k t) true (fields_in (cell k t) (technology_id t) blocks) ≡ true)
  there_valid t [] o w h = elim h [ ]
  there_valid t (b ∷ blocks) o w h =
      by_bool (eqb (get_or b 0 0) (technology_id t))
      (λ y. rw y (block_valid t b (eqb-true _ _ y) o.0 w.0))
      (λ n. rw n (there_valid t blocks o.1 w.1 (has_later (technology_id t) b blocks (λ e. true≢false (sym (eq-eqb (get_or b 0 0) (technology_id t) e) ∙ n)) h)))

-- ---- the record of an accepted message is valid

each_octets : (blocks : List (List ℕ)) → Octets (flatten blocks) → Each Octets blocks
unfolding flatten
each_octets [] o = tt
each_octets (b ∷ blocks) o = (octets_left b (flatten blocks) o, each_octets blocks (octets_right b (flatten blocks) o))

module _ (m : List ℕ) (o : Octets m) (r : Record) (f : WellFormed m r) where
  block_octets : Each Octets f.blocks
  block_octets =
      let S = sets (row f.id).times f.set in
      let p : Octets (f.version ∷ (f.id ∷ (S ++ (flatten f.blocks ++ f.rest)))) = rw f.octets at o in
      each_octets f.blocks (octets_left (flatten f.blocks) f.rest (octets_right S (flatten f.blocks ++ f.rest) (λ i. p (suc (suc i)))))

  -- of a message with the blocks of a column
  module _ (k : Column) (y : eqb f.id (message_of k) ≡ true) where
    column_whole : Each (Whole (layouts k) f.set) f.blocks
    column_whole = subst (λ (c : Option Column). Each (Whole (layouts_of c) f.set) f.blocks) (column_there f.id k y) f.whole

    column_has : (t : Technology) → names f.set t ≡ true → Has (technology_id t) f.blocks
    column_has t = all_named (layouts k) f.set (small m o r f) f.blocks column_whole f.once (f.count ∙ ap (λ (c : Option Column). block_count c f.set) (column_there f.id k y)) (technology_id t)

  abbrev content : Record
  content = record_of f.id f.set f.blocks

  fields_are : (k : Column) (t : Technology) → of_record content k t ≡ cond (names (set_in f.id f.set k) t) (fields_in (cell k t) (technology_id t) f.blocks) (zeroes (cell k t))
  fields_are = cell_here f.id (known f.set) (λ k t. cond (names (set_in f.id f.set k) t) (fields_in (cell k t) (technology_id t) f.blocks) (zeroes (cell k t)))

  cell_ok : (k : Column) (t : Technology) → Typed (cell k t) (of_record content k t) × (valid_fields (cell k t) (names (set_in f.id (known f.set) k) t) (of_record content k t) ≡ true)
  cell_ok k t =
      rw (fields_are k t, known_named f.id f.set k t)
      (by_bool (names (set_in f.id f.set k) t)
      (λ h. rw h (named_there f.id f.set k t h λ y n. there_valid k f.set t f.blocks block_octets (column_whole k y) (column_has k y t n)))
      (λ h. rw h (typed_zeroes (cell k t), zeroed_zeroes (cell k t))))

  pub record_valid : TypedRecord r × (valid r ≡ true)
  record_valid =
      subst (λ (r : Record). TypedRecord r × (valid r ≡ true)) (sym f.says) (
        record { id = assigned_under f.id f.id_assigned; set = omega arith; cells = λ k t. (cell_ok k t).0 },
        is_valid content (record { id_assigned = f.id_assigned; set = omega arith; cells = λ k t. (cell_ok k t).1 }),
      )

-- ---- a message in normal form is what is written of its record

-- the ID is that of one of these technologies
abbrev Of : ℕ → List Technology → Type 0
Of id [] = ⊥
Of id (t ∷ others) = (technology_id t ≡ id) ⊎ Of id others

of_above : (x id : ℕ) (ts : List Technology) → Each (λ u. x < technology_id u) ts → Of id ts → x < id
of_above x id [] h o = elim o [ ]
of_above x id (t ∷ others) h (inl e) = omega (arith, h.0)
of_above x id (t ∷ others) h (inr o) = of_above x id others h.1 o

of_later : (t : Technology) (id : ℕ) (others : List Technology) → (technology_id t ≡ id → ⊥) → Of id (t ∷ others) → Of id others
of_later t id others n (inl e) = absurd (n e)
of_later t id others n (inr o) = o

of_below : (id : ℕ) → id < 4 → Of id technologies
of_below zero h = inl refl
of_below (suc zero) h = inr (inl refl)
of_below (suc (suc zero)) h = inr (inr (inl refl))
of_below (suc (suc (suc zero))) h = inr (inr (inr (inl refl)))
of_below (suc (suc (suc (suc id)))) h = absurd (omega arith)

module _ (k : Column) (set : ℕ) (v : (t : Technology) → Values (cell k t)) where
  -- what is known of each block
  record Known (ts : List Technology) (b : List ℕ) : Type 0 where
    named : bit set (get_or b 0 0) ≡ true
    written : (t : Technology) → get_or b 0 0 ≡ technology_id t → block (cell k t) (technology_id t) (v t) ≡ b
    listed : Of (get_or b 0 0) ts

  rising_are : (ts : List Technology) → Ascending ts → (blocks : List (List ℕ)) → Each (Known ts) blocks → Rising blocks
      → ((t : Technology) → Among t ts → names set t ≡ true → Has (technology_id t) blocks) → rising k v set ts ≡ blocks
  rising_are [] a [] q r h = refl
  rising_are [] a (b ∷ blocks) q r h = absurd q.0.listed
  rising_are (t ∷ others) a blocks q r h = go blocks q r (names set t) refl (h t first) (λ u m. h u (further m)) (rising_are others a.1)
    where
      go : (blocks : List (List ℕ)) → Each (Known (t ∷ others)) blocks → Rising blocks → (x : Bool) → names set t ≡ x → (x ≡ true → Has (technology_id t) blocks)
          → ((u : Technology) → Among u others → names set u ≡ true → Has (technology_id u) blocks)
          → ((blocks : List (List ℕ)) → Each (Known others) blocks → Rising blocks → ((u : Technology) → Among u others → names set u ≡ true → Has (technology_id u) blocks) → rising k v set others ≡ blocks)
          → cond x (block (cell k t) (technology_id t) (v t) ∷ rising k v set others) (rising k v set others) ≡ blocks
      go blocks q r false e h hs rest =
          rest blocks
          (each_map (Known (t ∷ others)) (Known others)
          (λ b p. record { named = p.named; written = p.written; listed = of_later t (get_or b 0 0) others (λ d. true≢false (sym p.named ∙ ap (bit set) (sym d) ∙ e)) p.listed })
          blocks q)
          r hs
      go [] q r true e h hs rest = absurd (omega (arith, has_some (technology_id t) [] (h refl)))
      go (b ∷ blocks) q r true e h hs rest =
          let l : technology_id t ≤ get_or b 0 0 = at_least q.0.listed in
          let i = has_first (technology_id t) b blocks r.0 l (h refl) in
          let w = q.0.written t i in
          let z = rest blocks
          (each_map (λ c. Known (t ∷ others) c × (get_or b 0 0 < get_or c 0 0)) (Known others)
          (λ c p. record { named = p.0.named; written = p.0.written; listed = of_later t (get_or c 0 0) others (λ d. omega (arith, p.1)) p.0.listed })
          blocks (each_both (Known (t ∷ others)) (λ c. get_or b 0 0 < get_or c 0 0) blocks q.1 r.0))
          r.1
          (λ u m n. has_later (technology_id u) b blocks (λ d. omega (arith, each_at (λ w. technology_id t < technology_id w) u a.0 m)) (hs u m n)) in
          λ j. w j ∷ z j
        where
          at_least : Of (get_or b 0 0) (t ∷ others) → technology_id t ≤ get_or b 0 0
          at_least (inl e) = omega arith
          at_least (inr o) = omega (arith, of_above (technology_id t) (get_or b 0 0) others a.0 o)

-- each block's fields are found by its ID
each_fields : (k : Column) (blocks : List (List ℕ)) → Once blocks → Each (λ b. (t : Technology) → get_or b 0 0 ≡ technology_id t → fields_in (cell k t) (technology_id t) blocks ≡ value (cell k t) 2 b) blocks
each_fields k [] h = tt
each_fields k (b ∷ blocks) h = (
  (λ t e. rw (eq-eqb (get_or b 0 0) (technology_id t) e)),
  each_map (λ c. (get_or c 0 0 ≡ get_or b 0 0 → ⊥) × ((t : Technology) → get_or c 0 0 ≡ technology_id t → fields_in (cell k t) (technology_id t) blocks ≡ value (cell k t) 2 c))
      (λ c. (t : Technology) → get_or c 0 0 ≡ technology_id t → fields_in (cell k t) (technology_id t) (b ∷ blocks) ≡ value (cell k t) 2 c)
      (λ c p t e. rw (ne_eqb (get_or b 0 0) (technology_id t) (λ q. p.0 (e ∙ sym q))) (p.1 t e))
      blocks (each_both (λ c. get_or c 0 0 ≡ get_or b 0 0 → ⊥) (λ c. (t : Technology) → get_or c 0 0 ≡ technology_id t → fields_in (cell k t) (technology_id t) blocks ≡ value (cell k t) 2 c) blocks h.0 (each_fields k blocks h.1)),
)

no_blocks : (l : List (List ℕ)) → length l ≡ 0 → [] ≡ l
no_blocks [] e = refl
no_blocks (x ∷ l) e = absurd (omega arith)

module _ (m : List ℕ) (o : Octets m) (n : NormalForm m) where
  abbrev g : WellFormed m n.content
  g = n.formed

  abbrev its : Record
  its = content m o n.content g

  blocks_are : (c : Option Column) → (row g.id).column ≡ c → Carries g.id c → column_blocks c its ≡ g.blocks
  blocks_are none h p = no_blocks g.blocks (g.count ∙ ap (λ (c : Option Column). block_count c g.set) h)
  blocks_are (some k) h (column _ e) =
      let y = eq-eqb g.id (message_of k) e in
      let s : known g.set ≡ g.set = mod-eq_of_lt n.known in
      ap (λ (set : ℕ). rising k (of_record its k) set technologies) s
      ∙ rising_are k g.set (of_record its k) technologies ascending g.blocks
      (every_known g.blocks (block_octets m o n.content g) (column_whole m o n.content g k y) (subst (λ (c : Option Column). Each (λ b. length b ≡ need (layouts_of c (get_or b 0 0)) 2 b) g.blocks) h n.exact) (each_fields k g.blocks g.once) y)
      n.rising (λ t a. column_has m o n.content g k y t)
    where
      every_known : (blocks : List (List ℕ)) → Each Octets blocks → Each (Whole (layouts k) g.set) blocks → Each (λ b. length b ≡ need (layouts k (get_or b 0 0)) 2 b) blocks
          → Each (λ b. (t : Technology) → get_or b 0 0 ≡ technology_id t → fields_in (cell k t) (technology_id t) g.blocks ≡ value (cell k t) 2 b) blocks → eqb g.id (message_of k) ≡ true → Each (Known k g.set (of_record its k) technologies) blocks
      every_known [] p w x q y = tt
      every_known (b ∷ blocks) p w x q y = (
        record {
          named = w.0.named;
          written = λ t e.
              let c : names g.set t ≡ true = ap (bit g.set) (sym e) ∙ w.0.named in
              let v : of_record its k t ≡ value (cell k t) 2 b = fields_are m o n.content g k t ∙ rw (y, c) (q.0 t e) in
              ap (λ (z : Values (cell k t)). block (cell k t) (technology_id t) z) v ∙ exact_block k g.set t b e p.0 w.0 x.0;
          listed = of_below (get_or b 0 0) (bit_under 4 g.set n.known (get_or b 0 0) w.0.named);
        },
        every_known blocks p.1 w.1 x.1 q.1 y,
      )

  -- it is the normal form of its record
  pub normal_is : normal n.content ≡ m
  unfolding normal
  normal_is =
      let s : known g.set ≡ g.set = mod-eq_of_lt n.known in
      let b = blocks_are (row g.id).column refl (carries g.id) in
      let T = (row g.id).times in
      let e : m ≡ 1 ∷ (g.id ∷ (sets T g.set ++ flatten g.blocks)) =
      g.octets ∙ (λ i. n.first i ∷ (g.id ∷ (sets T g.set ++ (flatten g.blocks ++ g.ends n.first i)))) ∙ ap (λ (l : List ℕ). 1 ∷ (g.id ∷ (sets T g.set ++ l))) (append-nil (flatten g.blocks)) in
      let p : normal its ≡ 1 ∷ (g.id ∷ (sets T g.set ++ flatten g.blocks)) = λ i. 1 ∷ (g.id ∷ (sets T (s i) ++ flatten (b i))) in
      ap normal g.says ∙ p ∙ sym e
