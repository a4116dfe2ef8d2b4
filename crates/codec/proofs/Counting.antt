-- Counting the bits of a set: as many distinct IDs as the set has bits, each with its bit, are all of them.
use Prim.Native.Nat.{ℕ, zero, suc, ◌+◌, ◌/◌, ◌%◌, ◌^◌, ◌≤◌, ◌<◌}
use native.Mathlib.Omega.{arith}
use native.Mathlib.Numerals.{add-one}
use native.Mathlib.Nat.{div-eq_of_lt, zero-add, add-zero, add-suc, suc-add, div-one, eq-or-lt_of_le}
use mathlib.Core.Logic.{⊎_elim}
use mathlib.Core.Path.{◌≡◌, refl, sym, ap, ◌∙◌}
use mathlib.Core.Bool.{Bool, true, false, not, ◌&&◌, ◌||◌}
use mathlib.Core.List.{List, [], ◌∷◌}
use lib.Dec.{eqb}
use lib.ListN.{length, get_or}
use lib.Pow.{shr-shr}
use lib.Count.{ones, ones_step}
use borrow.Author.Tests.{eqb-true, eq-eqb, ne_eqb}
use Rattle.codec.specs.Technology.{bit}
use Rattle.codec.specs.Layout.{Layout}
use Rattle.codec.specs.WellFormed.{Whole, Each, Once, Has, this, later}
use Rattle.codec.proofs.Outcomes.{by_bool}
use Rattle.codec.proofs.Bits.{by_digit, bit_under}

abbrev pub one : Bool → ℕ
one true = 1
one false = 0

-- how many of the n IDs from `id` on pass
abbrev pub count : ℕ → ℕ → (ℕ → Bool) → ℕ
count zero id p = 0
count (suc n) id p = one (p id) + count n (suc id) p

one_bit : (s i : ℕ) → one (bit s i) ≡ s / 2 ^ i % 2
one_bit s i = by_digit (λ x. one (eqb x 1) ≡ x) refl refl (s / 2 ^ i)

half : (s i : ℕ) → s / 2 ^ i / 2 ≡ s / 2 ^ suc i
half s i = shr-shr s i 1 ∙ ap (λ (j : ℕ). s / 2 ^ j) (add-one i)

count_ones : (s k i : ℕ) → ones (s / 2 ^ i) ≡ count k i (bit s) + ones (s / 2 ^ (i + k))
count_ones s zero i = rw (add-zero i) (omega arith)
count_ones s (suc k) i =
    ones_step (s / 2 ^ i)
    ∙ rw (half s i, one_bit s i, count_ones s k (suc i), add-suc i k, suc-add i k) (omega arith)

pub ones_none : ones 0 ≡ 0
unfolding ones
ones_none = refl

pub count_under : (k s : ℕ) → s < 2 ^ k → ones s ≡ count k 0 (bit s)
count_under k s h = ap ones (sym (div-one s)) ∙ count_ones s k 0 ∙ rw (zero-add k, div-eq_of_lt h, ones_none) (add-zero (count k 0 (bit s)))

-- ---- one ID fewer

abbrev without : ℕ → (ℕ → Bool) → ℕ → Bool
without old may id = not (eqb id old) && may id

without_other : (old : ℕ) (may : ℕ → Bool) (id : ℕ) → (id ≡ old → ⊥) → without old may id ≡ may id
without_other old may id h = rw (ne_eqb id old h)

count_cong : (k lo : ℕ) (p q : ℕ → Bool) → ((j : ℕ) → lo ≤ j → p j ≡ q j) → count k lo p ≡ count k lo q
count_cong zero lo p q h = refl
count_cong (suc k) lo p q h = cc (h lo (omega arith), count_cong k (suc lo) p q (λ j b. h j (omega arith)))

count_without : (k lo old : ℕ) (may : ℕ → Bool) → lo ≤ old → old < lo + k → may old ≡ true → count k lo may ≡ suc (count k lo (without old may))
count_without zero lo old may a b h = absurd (omega arith)
count_without (suc k) lo old may a b h =
    ⊎_elim
    (λ (e : lo ≡ old).
    let p : may lo ≡ true = rw e h in
    let z : without old may lo ≡ false = rw (eq-eqb lo old e) in
    let q : count k (suc lo) (without old may) ≡ count k (suc lo) may = count_cong k (suc lo) (without old may) may (λ j c. without_other old may j (λ d. omega arith)) in
    rw (z, p, q) (omega arith))
    (λ (c : lo < old).
    let w : without old may lo ≡ may lo = without_other old may lo (λ d. omega arith) in
    rw (count_without k (suc lo) old may c (omega arith) h, w) (omega arith))
    (eq-or-lt_of_le a)

count_none : (k lo : ℕ) (may : ℕ → Bool) → count k lo may ≡ 0 → (j : ℕ) → lo ≤ j → j < lo + k → may j ≡ false
count_none zero lo may e j a b = absurd (omega arith)
count_none (suc k) lo may e j a b =
    ⊎_elim (λ c. rw c at (here (may lo) (omega arith))) (λ c. count_none k (suc lo) may (omega arith) j c (omega arith)) (eq-or-lt_of_le a)
  where
    here : (b : Bool) → one b ≡ 0 → b ≡ false
    here true e = absurd (omega arith)
    here false e = refl

-- ---- a number with one bit more, and the bits of a set that are not in a part of it

pub ones_more : (old more new : ℕ) → old < 65536 → more < 65536 → bit old new ≡ false → ((id : ℕ) → bit more id ≡ (eqb id new || bit old id)) → ones more ≡ suc (ones old)
ones_more old more new h k f b =
    let has : bit more new ≡ true = b new ∙ rw (eq-eqb new new refl) in
    let same : (id : ℕ) → without new (bit more) id ≡ bit old id = λ id. by_bool (eqb id new) (λ y. rw (y, eqb-true id new y, f)) (λ n. rw n (b id ∙ rw n)) in
    count_under 16 more k ∙ count_without 16 0 new (bit more) (omega arith) (bit_under 16 more k new has) has
    ∙ ap suc (count_cong 16 0 (without new (bit more)) (bit old) (λ id l. same id) ∙ sym (count_under 16 old h))

count_rest : (k lo : ℕ) (p q r : ℕ → Bool) → ((j : ℕ) → q j ≡ true → p j ≡ true) → ((j : ℕ) → r j ≡ (p j && not (q j))) → count k lo r + count k lo q ≡ count k lo p
count_rest zero lo p q r w e = refl
count_rest (suc k) lo p q r w e = rw (e lo) (omega (arith, one_rest (p lo) (q lo) (w lo), count_rest k (suc lo) p q r w e))
  where
    one_rest : (a b : Bool) → (b ≡ true → a ≡ true) → one (a && not b) + one b ≡ one a
    one_rest true true h = refl
    one_rest true false h = refl
    one_rest false true h = let z : ◌≡◌ {A = ℕ} 0 1 = cc (h refl) in absurd (omega arith)
    one_rest false false h = refl

pub ones_rest : (set part rest : ℕ) → set < 65536 → part < 65536 → rest < 2 ^ 32 → ((id : ℕ) → bit part id ≡ true → bit set id ≡ true) → ((id : ℕ) → bit rest id ≡ (bit set id && not (bit part id)))
    → ones rest + ones part ≡ ones set
ones_rest set part rest h k l w e =
    rw (count_under 32 rest l, count_under 32 part (omega arith), count_under 32 set (omega arith)) (count_rest 32 0 (bit set) (bit part) (bit rest) w e)

pub ones_part : (set part : ℕ) → set < 65536 → part < 65536 → ((id : ℕ) → bit part id ≡ true → bit set id ≡ true) → ones part ≤ ones set
ones_part set part h k w = omega (arith, count_under 16 set h, count_under 16 part k, count_rest 16 0 (bit set) (bit part) (λ id. bit set id && not (bit part id)) w (λ id. refl))

-- ---- the block of an ID

pub has_some : (id : ℕ) (blocks : List (List ℕ)) → Has id blocks → 0 < length blocks
has_some id [] h = elim h [ ]
has_some id (b ∷ blocks) (this e) = omega arith
has_some id (b ∷ blocks) (later h) = omega arith

each_without : (old : ℕ) (may : ℕ → Bool) (blocks : List (List ℕ)) → Each (λ c. get_or c 0 0 ≡ old → ⊥) blocks → Each (λ b. may (get_or b 0 0) ≡ true) blocks
    → Each (λ b. without old may (get_or b 0 0) ≡ true) blocks
each_without old may [] n h = tt
each_without old may (b ∷ blocks) n h = (rw (ne_eqb (get_or b 0 0) old n.0, h.0), each_without old may blocks n.1 h.1)

-- as many distinct IDs as pass, each of which passes, are all that pass
pub all_there : (k : ℕ) (may : ℕ → Bool) (blocks : List (List ℕ)) → Each (λ b. may (get_or b 0 0) ≡ true) blocks → Each (λ b. get_or b 0 0 < k) blocks → Once blocks
    → length blocks ≡ count k 0 may → (id : ℕ) → id < k → may id ≡ true → Has id blocks
all_there k may [] h u o e id l m = let z : ◌≡◌ {A = ℕ} 0 1 = cc (count_none k 0 may (sym e) id (omega arith) (omega arith)) in absurd (omega arith)
all_there k may (b ∷ blocks) h u o e id l m =
    by_bool (eqb id (get_or b 0 0))
    (λ y. this (sym (eqb-true id (get_or b 0 0) y)))
    (λ n.
    let c = count_without k 0 (get_or b 0 0) may (omega arith) (omega (arith, u.0)) h.0 in
    later (all_there k (without (get_or b 0 0) may) blocks (each_without (get_or b 0 0) may blocks o.0 h.1) u.1 o.1 (omega (arith, c)) id l (rw (n, m))))

-- as many whole blocks as the set has bits, no ID twice: each bit has one
module _ (layouts : ℕ → Layout) (set : ℕ) (small : set < 65536) where
  each_named : (blocks : List (List ℕ)) → Each (Whole layouts set) blocks → Each (λ b. bit set (get_or b 0 0) ≡ true) blocks × Each (λ b. get_or b 0 0 < 16) blocks
  each_named [] w = (tt, tt)
  each_named (b ∷ blocks) w = let r = each_named blocks w.1 in ((w.0.named, r.0), (bit_under 16 set small (get_or b 0 0) w.0.named, r.1))

  pub all_named : (blocks : List (List ℕ)) → Each (Whole layouts set) blocks → Once blocks → length blocks ≡ ones set → (id : ℕ) → bit set id ≡ true → Has id blocks
  all_named blocks w once n id m = let h = each_named blocks w in all_there 16 (bit set) blocks h.0 h.1 once (n ∙ count_under 16 set small) id (bit_under 16 set small id m) m
