-- The cases of the order of checks.
use Prim.Native.Nat.{ℕ, zero, suc, ◌≤◌, ◌<◌}
use native.Mathlib.Omega.{arith}
use native.Mathlib.Nat.{eq-or-lt_of_le}
use mathlib.Core.Logic.{⊎_elim}
use mathlib.Core.Path.{◌≡◌, refl, sym, ap, ◌∙◌}
use mathlib.Core.Bool.{Bool, true, false}
use mathlib.Core.List.{List, []}
use mathlib.Core.Option.{some}
use lib.Count.{ones}
use lib.Dec.{leb}
use lib.ListN.{length, get_or}
use borrow.Author.Tests.{le-leb, lt-leb, leb-true, leb-false, ne_eqb}
use Rattle.codec.specs.Refusal.{Refusal, Checked, Err, Ok, and_then, TooLong, EndsEarly, ReservedId, WrongVersion, SetsDiffer}
use Rattle.codec.specs.Technology.{bit}
use Rattle.codec.specs.Layout.{member}
use Rattle.codec.specs.Blocks.{Column, layouts}
use Rattle.codec.specs.Table.{message_limit, assigned, readable, Row, row, block_count, layouts_of}
use Rattle.codec.specs.Message.{version_of, id_of, set_of, sets_agree, blocks_at, no_id, Walked, walk, end_fault, blocks_from, after_head, body, parse}
use Rattle.codec.specs.Inner.MetIds.{blocks_left}
use Rattle.codec.specs.Inner.Places.{verdict, head_fault, noted, set_alone, Finds, FindsLeft, Judged}
use Rattle.codec.proofs.Outcomes.{by_bool, not_both, demanded, demand_stop}
use Rattle.codec.proofs.Bits.{bit_above}
use Rattle.codec.proofs.Counting.{ones_none}

-- ---- what is judged

module _ {kept : Bool} {c : Checked (List (List ℕ))} {at : ℕ} {found left : List ℕ} where
  pub judged_refused : {x : Refusal} → c ≡ Err x → length left ≡ 5 → Judged kept c at found (Err x) left
  judged_refused e l = record { judges = rw e; places = λ k blocks a. not_both (sym e ∙ a); size = l }

  module _ {r : Checked (Unit {0})} where
    pub judged_alone : kept ≡ false → r ≡ verdict c → length left ≡ 5 → Judged kept c at found r left
    judged_alone k e l = record { judges = e; places = λ t blocks a. let z : ◌≡◌ {A = ℕ} 0 1 = cc in absurd (omega arith); size = l }

    -- by another definition of the same checks
    pub judged_as : {d : Checked (List (List ℕ))} → Judged kept c at found r left → c ≡ d → Judged kept d at found r left
    judged_as j e = rw e at j

-- ---- message IDs

pub six_or_seven : (id : ℕ) → 6 ≤ id → id < 8 → assigned id ≡ true
unfolding assigned member
six_or_seven id l u = ⊎_elim (λ e. rw (← e)) (λ h. let e : id ≡ 7 = omega arith in rw e) (eq-or-lt_of_le l)

pub not_assigned : (id : ℕ) → (id ≡ 0 → ⊥) → (id ≡ 1 → ⊥) → (id ≡ 2 → ⊥) → (id ≡ 3 → ⊥) → (id ≡ 6 → ⊥) → (id ≡ 7 → ⊥) → assigned id ≡ false
unfolding assigned member
not_assigned id n₀ n₁ n₂ n₃ n₆ n₇ = rw (ne_eqb id 0 n₀, ne_eqb id 1 n₁, ne_eqb id 2 n₂, ne_eqb id 3 n₃, ne_eqb id 6 n₆, ne_eqb id 7 n₇)

pub low_assigned : (id : ℕ) → id < 4 → assigned id ≡ true
unfolding assigned member
low_assigned zero h = refl
low_assigned (suc zero) h = refl
low_assigned (suc (suc zero)) h = refl
low_assigned (suc (suc (suc zero))) h = refl
low_assigned (suc (suc (suc (suc id)))) h = absurd (omega arith)

pub assigned_under : (id : ℕ) → assigned id ≡ true → id < 256
assigned_under id e =
    by_bool (leb 8 id)
    (λ y.
    let h = leb-true 8 id y in
    let z : ◌≡◌ {A = ℕ} 0 1 = cc (not_assigned id (λ d. omega arith) (λ d. omega arith) (λ d. omega arith) (λ d. omega arith) (λ d. omega arith) (λ d. omega arith)) in
    absurd (omega arith))
    (λ n. omega (arith, leb-false 8 id n))

-- ---- the blocks, and the end of the message

module _ (k : Column) (m : List ℕ) (at : ℕ) (found : List ℕ) {r : Checked (Unit {0})} {left : List ℕ} (h : FindsLeft k m at 0 found r left) where
  -- from the first block on, where no ID is met
  finds : Finds (walk (layouts k) (set_of m) m (ones (set_of m)) no_id at) at found r left
  finds =
      let none : bit 0 ≡ no_id = λ i id. bit_above 0 0 (omega arith) id (omega arith) i in
      let all : blocks_left m 0 ≡ ones (set_of m) = rw ones_none (omega arith) in
      rw (none, all) at h.finds

  blocks_stop : {x : Refusal} → r ≡ Err x → Judged true (blocks_from (layouts k) m (ones (set_of m)) at) at found (Err x) left
  unfolding blocks_from
  blocks_stop {x} z = go (walk (layouts k) (set_of m) m (ones (set_of m)) no_id at) finds
    where
      go : (w : Checked Walked) → Finds w at found r left → Judged true (and_then w λ w. and_then (end_fault m w.end) λ _. Ok w.blocks) at found (Err x) left
      go (Err y) e = let q : y ≡ x = cc in judged_refused (rw q) h.size
      go (Ok w) e = not_both (sym z ∙ e.0)

  blocks_end : {q : Checked (Unit {0})} → r ≡ Ok tt → q ≡ end_fault m (get_or left 4 0) → Judged true (blocks_from (layouts k) m (ones (set_of m)) at) at found q left
  unfolding blocks_from
  blocks_end {q} z e = go (walk (layouts k) (set_of m) m (ones (set_of m)) no_id at) finds
    where
      last : (w : Walked) (c : Checked (Unit {0})) → left ≡ noted w.blocks at found → q ≡ c → Judged true (and_then c λ _. Ok w.blocks) at found q left
      last w (Err x) p e = rw e (judged_refused refl h.size)
      last w (Ok u) p e = record { judges = e; places = λ k blocks a. let d : w.blocks ≡ blocks = cc in p ∙ rw d; size = h.size }

      go : (w : Checked Walked) → Finds w at found r left → Judged true (and_then w λ w. and_then (end_fault m w.end) λ _. Ok w.blocks) at found q left
      go (Err x) k = not_both (sym k ∙ z)
      go (Ok w) k = last w (end_fault m w.end) k.1 (e ∙ rw k.2)

-- ---- the version, and what follows the head

module _ (m : List ℕ) where
  pub body_unread : readable (version_of m) (id_of m) ≡ false → body m ≡ Err WrongVersion
  unfolding body
  body_unread e = rw e

  module _ (r : readable (version_of m) (id_of m) ≡ true) (R : Row) (e : row (id_of m) ≡ R) where
    body_is : after_head R m ≡ body m
    unfolding body
    body_is = rw r (ap (λ (R : Row). after_head R m) (sym e))

    pub body_short : length m < blocks_at R.times → body m ≡ Err EndsEarly
    unfolding after_head
    body_short l = rw (← body_is, lt-leb _ _ l)

    module _ (l : blocks_at R.times ≤ length m) where
      pub body_sets : sets_agree R.times m ≡ false → body m ≡ Err SetsDiffer
      unfolding after_head
      body_sets s = rw (← body_is, le-leb (blocks_at R.times) (length m) l, s)

      body_blocks : sets_agree R.times m ≡ true → blocks_from (layouts_of R.column) m (block_count R.column (set_of m)) (blocks_at R.times) ≡ body m
      unfolding after_head
      body_blocks s = rw (← body_is, le-leb (blocks_at R.times) (length m) l, s)

      -- after the sets come the blocks, and then the end
      module _ (s : sets_agree R.times m ≡ true) (k : Column) (c : R.column ≡ some k) {found : List ℕ} {walked : Checked (Unit {0})} {left : List ℕ} (h : FindsLeft k m (blocks_at R.times) 0 found walked left) where
        pub body_stop : {x : Refusal} → walked ≡ Err x → Judged true (body m) (blocks_at R.times) found (Err x) left
        body_stop z = judged_as (blocks_stop k m _ found h z) (rw c at (body_blocks s))

        pub body_end : {q : Checked (Unit {0})} → walked ≡ Ok tt → q ≡ end_fault m (get_or left 4 0) → Judged true (body m) (blocks_at R.times) found q left
        body_end z e = judged_as (blocks_end k m _ found h z e) (rw c at (body_blocks s))

  -- after a set alone comes the end
  pub set_end : readable (version_of m) (id_of m) ≡ true → row (id_of m) ≡ set_alone → 4 ≤ length m → end_fault m 4 ≡ verdict (body m)
  unfolding blocks_from walk
  set_end r e l = rw (← body_blocks r set_alone e l refl) (go (end_fault m 4))
    where
      go : (c : Checked (Unit {0})) → c ≡ verdict (and_then {B = List (List ℕ)} c λ _. Ok [])
      go (Err x) = refl
      go (Ok u) = refl

-- ---- the head of a message, and then its body

pub head_stop : (m : List ℕ) {x : Refusal} → Err x ≡ head_fault m → parse m ≡ Err x
unfolding parse
head_stop m e =
    sym
    (demand_stop (leb (length m) message_limit) TooLong _ _
    (demand_stop (leb 2 (length m)) EndsEarly _ _
    (demand_stop (assigned (id_of m)) ReservedId _ _ not_both))
    e)

-- what a head without a fault says
pub record Opened (m : List ℕ) : Type 0 where
  pub limit : length m ≤ message_limit
  pub two : 2 ≤ length m
  pub rest : body m ≡ parse m

pub opened : (m : List ℕ) → Ok tt ≡ head_fault m → Opened m
unfolding parse
opened m e =
    demanded (leb (length m) message_limit) TooLong _ tt (sym e) λ p b.
    demanded (leb 2 (length m)) EndsEarly _ tt b λ q d.
    demanded (assigned (id_of m)) ReservedId _ tt d λ r k.
    record { limit = leb-true _ _ p; two = leb-true _ _ q; rest = rw (p, q, r) }
