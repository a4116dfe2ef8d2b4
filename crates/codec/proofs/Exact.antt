-- Exact acceptance: the reader accepts exactly the well-formed messages, each with its record.
use Prim.Native.Nat.{ℕ, zero, suc, ◌+◌, ◌-◌, ◌/◌, ◌≤◌, ◌<◌}
use native.Mathlib.Omega.{arith}
use mathlib.Core.Path.{◌≡◌, refl, sym, ap, ◌∙◌, subst}
use mathlib.Core.Logic.{◌↔◌, ◌⊎◌, inl, inr}
use mathlib.Core.Bool.{true, false, not, ◌&&◌}
use mathlib.Core.List.{List, [], ◌∷◌, ◌++◌, flatten}
use lib.Dec.{ltb, eqb}
use lib.ListN.{length, get_or, drop, take-append-drop, length-drop, drop_of_length-le}
use lib.Seq.{drop-drop}
use borrow.Author.Tests.{eqb-true, eq-eqb, ne_eqb, le-leb, ltb-true, ltb-false, lt-ltb, le-ltb, not-true}
use Rattle.codec.specs.Refusal.{Checked, Err, Ok, and_then, LeftOver}
use Rattle.codec.specs.Octets.{Octets, part, of_le, to_le}
use Rattle.codec.specs.Table.{message_limit, readable, Row, row, block_count, layouts_of}
use Rattle.codec.specs.Message.{version_of, id_of, set_of, sets_agree, blocks_at, no_id, end_fault, blocks_from, after_head, body, parse, record_of, reading}
use Rattle.codec.specs.Records.{accepted, answer}
use Rattle.codec.specs.WellFormed.{sets, WellFormed}
use Rattle.codec.specs.declared.records.Record.{Record}
use Rattle.codec.specs.declared.records.Reading.{Reading}
use Rattle.codec.proofs.Laws.{beyond, room, back_le, forth_le}
use Rattle.codec.proofs.Outcomes.{by_bool, no_zero, and_true_lem, or_true_lem, demanded}
use Rattle.codec.proofs.Rows.{times_one, times_two}
use Rattle.codec.proofs.Walks.{fresh_no_id, walked, walks}
use Rattle.codec.proofs.FoundLemmas.{parsed}

-- ---- the head and the sets

then_part : (m : List ℕ) (at n : ℕ) → drop at m ≡ part at n m ++ drop (at + n) m
then_part m at n = sym (take-append-drop n (drop at m)) ∙ ap (λ (l : List ℕ). part at n m ++ l) (drop-drop n at m)

sets_lie : (times : ℕ) (m : List ℕ) → 1 ≤ times → times ≤ 2 → Octets m → blocks_at times ≤ length m → sets_agree times m ≡ true → drop 2 m ≡ sets times (set_of m) ++ drop (blocks_at times) m
sets_lie zero m s t o h a = absurd (omega arith)
sets_lie (suc zero) m s t o h a = then_part m 2 2 ∙ rw (← forth_le 2 2 m o h)
sets_lie (suc (suc zero)) m s t o h a =
    let q : set_of m ≡ of_le 2 4 m = eqb-true _ _ a in
    then_part m 2 2 ∙ rw (← forth_le 2 2 m o (omega arith)) (ap (λ (l : List ℕ). to_le 2 (set_of m) ++ l) (then_part m 4 2 ∙ rw (← forth_le 2 4 m o h, ← q)))
sets_lie (suc (suc (suc times))) m s t o h a = absurd (omega arith)

-- the sets are there, they agree, and the blocks follow
after_sets : (times set : ℕ) (m rest : List ℕ) → 1 ≤ times → times ≤ 2 → set < 65536 → 2 ≤ length m → drop 2 m ≡ sets times set ++ rest
    → (blocks_at times ≤ length m) × (sets_agree times m ≡ true) × (drop (blocks_at times) m ≡ rest) × (set_of m ≡ set)
after_sets zero set m rest o t s u e = absurd (omega arith)
after_sets (suc zero) set m rest o t s u e = (room 2 2 m (to_le 2 set) rest u e refl, refl, beyond 2 2 m (to_le 2 set) rest e refl, back_le 2 set 2 m rest s e)
after_sets (suc (suc zero)) set m rest o t s u e =
    let f = to_le 2 set ++ rest in
    let d = beyond 2 2 m (to_le 2 set) f e refl in
    let q = back_le 2 set 2 m f s e in
    let p = back_le 2 set 4 m rest s d in
    (room 4 2 m (to_le 2 set) rest (room 2 2 m (to_le 2 set) f u e refl) d refl, eq-eqb (of_le 2 2 m) (of_le 2 4 m) (q ∙ sym p), beyond 4 2 m (to_le 2 set) rest d refl, q)
after_sets (suc (suc (suc times))) set m rest o t s u e = absurd (omega arith)

head_two : (m : List ℕ) → 2 ≤ length m → m ≡ get_or m 0 0 ∷ (get_or m 1 0 ∷ drop 2 m)
head_two [] h = absurd (omega arith)
head_two (a ∷ []) h = absurd (omega arith)
head_two (a ∷ (b ∷ m)) h = refl

-- the end of the message
end_lies : (m : List ℕ) (end : ℕ) → end_fault m end ≡ Ok tt → version_of m ≡ 1 → drop end m ≡ []
unfolding end_fault
end_lies m end e v =
    demanded (not (eqb (version_of m) 1 && ltb end (length m))) LeftOver _ tt e λ y e₁.
    let n : (eqb (version_of m) 1 && ltb end (length m)) ≡ false = not-true _ y in
    drop_of_length-le m (ltb-false end (length m) (rw (eq-eqb _ 1 v) at n))

-- the version, as the description has it
readable_is : (version id : ℕ) → readable version id ≡ true → (version ≡ 1) ⊎ ((1 < version) × (id < 2))
unfolding readable
readable_is version id e =
    or_true_lem (eqb version 1) (ltb 1 version && ltb id 2) e
    (λ y. inl (eqb-true version 1 y))
    (λ y. let a = and_true_lem (ltb 1 version) (ltb id 2) y in inr (ltb-true 1 version a.0, ltb-true id 2 a.1))

is_readable : (version id : ℕ) → (version ≡ 1) ⊎ ((1 < version) × (id < 2)) → readable version id ≡ true
unfolding readable
is_readable version id (inl e) = rw e
is_readable version id (inr h) = rw (ne_eqb version 1 (λ e. omega arith), lt-ltb 1 version h.0, lt-ltb id 2 h.1)

-- ---- an accepted message is well formed

forth : (m : List ℕ) → Octets m → (blocks : List (List ℕ)) → parse m ≡ Ok blocks → WellFormed m (record_of (id_of m) (set_of m) blocks)
forth m o blocks e =
    let p = parsed m blocks e in
    let R = row (id_of m) in
    let w = walked (layouts_of R.column) (set_of m) m (block_count R.column (set_of m)) no_id (blocks_at R.times) (record { blocks = blocks; end = p.end }) p.sets p.walked in
    record {
      version = version_of m;
      id = id_of m;
      set = set_of m;
      blocks = blocks;
      rest = drop p.end m;
      octets =
          head_two m p.head
          ∙ ap (λ (l : List ℕ). version_of m ∷ (id_of m ∷ l)) (sets_lie R.times m (times_one (id_of m)) (times_two (id_of m)) o p.sets p.agree ∙ ap (λ (l : List ℕ). sets R.times (set_of m) ++ l) w.lie);
      limit = p.limit;
      id_assigned = p.id_assigned;
      readable = readable_is (version_of m) (id_of m) p.version;
      count = w.count;
      whole = w.whole;
      once = w.once;
      ends = end_lies m p.end p.ended;
      says = refl;
    }

-- ---- a well-formed message is accepted

module _ (m : List ℕ) (o : Octets m) (r : Record) (f : WellFormed m r) where
  abbrev R : Row
  R = row f.id

  abbrev tail : List ℕ
  tail = flatten f.blocks ++ f.rest

  version_is : version_of m ≡ f.version
  version_is = ap (λ (l : List ℕ). get_or l 0 0) f.octets

  id_is : id_of m ≡ f.id
  id_is = ap (λ (l : List ℕ). get_or l 1 0) f.octets

  two_octets : 2 ≤ length m
  two_octets = rw f.octets (omega arith)

  pub small : f.set < 65536
  small = go R.times (times_one f.id) (ap (λ (l : List ℕ). get_or l 3 0) f.octets)
    where
      go : (times : ℕ) → 1 ≤ times → get_or m 3 0 ≡ get_or (f.version ∷ (f.id ∷ (sets times f.set ++ tail))) 3 0 → f.set < 65536
      go zero t h = absurd (omega arith)
      go (suc n) t h = let h₁ : get_or m 3 0 ≡ f.set / 256 = h in omega (arith, o 3)

  placed : (blocks_at R.times ≤ length m) × (sets_agree R.times m ≡ true) × (drop (blocks_at R.times) m ≡ tail) × (set_of m ≡ f.set)
  placed = after_sets R.times f.set m tail (times_one f.id) (times_two f.id) small two_octets (ap (drop 2) f.octets)

  end : ℕ
  end = blocks_at R.times + length (flatten f.blocks)

  ends_right : end_fault m end ≡ Ok tt
  unfolding end_fault end
  ends_right =
      by_bool (eqb (version_of m) 1)
      (λ y.
      let v : f.version ≡ 1 = sym version_is ∙ eqb-true (version_of m) 1 y in
      let d : drop end m ≡ [] = beyond (blocks_at R.times) (length (flatten f.blocks)) m (flatten f.blocks) f.rest placed.2 refl ∙ f.ends v in
      let n : length m - end ≡ 0 = sym (length-drop end m) ∙ ap length d in
      rw (y, le-ltb end (length m) (omega arith)))
      (λ n. rw n)

  back : parse m ≡ Ok f.blocks
  unfolding parse body after_head blocks_from end
  back =
      let w = walks (layouts_of R.column) f.set m f.blocks no_id (blocks_at R.times) f.rest placed.0 placed.2 f.whole (fresh_no_id f.blocks) f.once in
      rw (
        version_is,
        id_is,
        le-leb (length m) message_limit f.limit,
        le-leb 2 (length m) two_octets,
        f.id_assigned,
        is_readable f.version f.id f.readable,
        le-leb (blocks_at R.times) (length m) placed.0,
        placed.1,
        placed.3,
        ← f.count,
        w,
        ends_right,
      )

-- ---- the theorem

accept_is : (m : List ℕ) (r : Record) (c : Checked (List (List ℕ))) → answer (and_then c λ blocks. Ok (record_of (id_of m) (set_of m) blocks)) ≡ accepted r
    → (blocks : List (List ℕ)) × (c ≡ Ok blocks) × (record_of (id_of m) (set_of m) blocks ≡ r)
accept_is m r (Err x) e = absurd (no_zero x (ap (λ (a : Reading). a.refusal) e))
accept_is m r (Ok blocks) e = (blocks, refl, ap (λ (a : Reading). a.value) e)

-- What `read` returns, by its contract, is number 0 and a record exactly where the message is well formed with that record.
pub exact : (m : List ℕ) → Octets m → (r : Record) → (answer (reading m) ≡ accepted r) ↔ WellFormed m r
unfolding reading
exact m o r = (forwards, backwards)
  where
    forwards : answer (reading m) ≡ accepted r → WellFormed m r
    forwards e = let a = accept_is m r (parse m) e in subst (WellFormed m) a.2 (forth m o a.0 a.1)

    backwards : WellFormed m r → answer (reading m) ≡ accepted r
    backwards f = rw (back m o r f) (ap accepted (rw (id_is m o r f, (placed m o r f).3) (sym f.says)))
