-- The laws of every layout, and that the blocks' layouts keep what they rest on.
use Prim.Native.Nat.{ℕ, zero, suc, ◌+◌, ◌-◌, ◌≤◌}
use native.Mathlib.Omega.{arith}
use mathlib.Core.Path.{◌≡◌, refl}
use mathlib.Core.Bool.{Bool, true, false, ◌&&◌}
use mathlib.Core.List.{List, [], ◌∷◌, ◌++◌}
use lib.Dec.{leb, eqb}
use lib.ListN.{length, get_or, take, drop, length-append, length-take, length-drop, get_or-append}
use lib.Seq.{take-append-le, drop-append-le}
use borrow.Author.Tests.{le-leb, leb-true, eqb-true}
use Rattle.codec.specs.Refusal.{Ok, NotAllowed, BlockTooSmall}
use Rattle.codec.specs.Octets.{part, of_le}
use Rattle.codec.specs.Layout.{Test, any, one_of, between, Layout, number, octets, counted, member, inside, test, spelled, Values, zeroes, allowed, Typed, write, value, need, least, fault}
use Rattle.codec.specs.Inner.Places.{roomy, Roomy, fields_at}
use Rattle.codec.proofs.Laws.{suffix, long_le}
use Rattle.codec.proofs.Outcomes.{by_bool, and_true_lem, or_true_lem, demanded}

-- ---- a layout whose counted octets fit their arrays

abbrev pub bounded : Test → ℕ → Bool
bounded any c = false
bounded (one_of []) c = true
bounded (one_of (y ∷ l)) c = leb y c && bounded (one_of l) c
bounded (between low high) c = leb high c

abbrev pub fits : Layout → Bool
fits [] = true
fits (number x w t ∷ L) = fits L
fits (octets x n t ∷ L) = fits L
fits (counted y x t c ∷ L) = bounded t c && fits L

pub bounded_le : (t : Test) (c k : ℕ) → bounded t c ≡ true → test t k ≡ true → k ≤ c
unfolding member inside
bounded_le any c k e h = let z : ◌≡◌ {A = ℕ} 0 1 = cc in absurd (omega arith)
bounded_le (one_of []) c k e h = let z : ◌≡◌ {A = ℕ} 0 1 = cc in absurd (omega arith)
bounded_le (one_of (y ∷ l)) c k e h =
    let w = and_true_lem (leb y c) (bounded (one_of l) c) e in
    or_true_lem (eqb k y) (member l k) h (λ q. omega (arith, eqb-true k y q, leb-true y c w.0)) (λ q. bounded_le (one_of l) c k w.1 q)
bounded_le (between low high) c k e h = omega (arith, leb-true high c e, leb-true k high (and_true_lem (leb low k) (leb k high) h).1)

-- ---- sizes

pub least_from : (L : Layout) (at : ℕ) → at ≤ least L at
least_from [] at = omega arith
least_from (number x w t ∷ L) at = omega (arith, least_from L (at + w))
least_from (octets x n t ∷ L) at = omega (arith, least_from L (at + n))
least_from (counted y x t c ∷ L) at = omega arith

-- a block without a fault reaches past its last field
pub sound_roomy : (L : Layout) → fits L ≡ true → (at : ℕ) (s : List ℕ) → least L at ≤ length s → fault L at s ≡ Ok tt → Roomy L at s
sound_roomy [] f at s h e = h
sound_roomy (number x w t ∷ L) f at s h e = demanded (test t (of_le w at s)) NotAllowed _ tt e λ y e₁. sound_roomy L f (at + w) s h e₁
sound_roomy (octets x n t ∷ L) f at s h e = demanded (spelled t (part at n s)) NotAllowed _ tt e λ y e₁. sound_roomy L f (at + n) s h e₁
sound_roomy (counted y x t c ∷ L) f at s h e =
    let g = and_true_lem (bounded t c) (fits L) f in
    demanded (test t (get_or s at 0)) NotAllowed _ tt e λ a e₁.
    demanded (leb (least L (at + 1 + get_or s at 0)) (length s)) BlockTooSmall _ tt e₁ λ z e₂.
    (bounded_le t c (get_or s at 0) g.0 a, sound_roomy L g.1 (at + 1 + get_or s at 0) s (leb-true _ _ z) e₂)

-- ---- room for the fields

pub roomy_from : (L : Layout) (at : ℕ) (s : List ℕ) → Roomy L at s → at ≤ length s
roomy_from [] at s h = h
roomy_from (number x w t ∷ L) at s h = omega (arith, roomy_from L (at + w) s h)
roomy_from (octets x n t ∷ L) at s h = omega (arith, roomy_from L (at + n) s h)
roomy_from (counted y x t c ∷ L) at s h = omega (arith, roomy_from L (at + 1 + get_or s at 0) s h.1)

pub is_roomy : (L : Layout) (at : ℕ) (s : List ℕ) → roomy L at s ≡ true → Roomy L at s
is_roomy [] at s e = leb-true at (length s) e
is_roomy (number x w t ∷ L) at s e = is_roomy L (at + w) s e
is_roomy (octets x n t ∷ L) at s e = is_roomy L (at + n) s e
is_roomy (counted y x t c ∷ L) at s e = let a = and_true_lem (leb (get_or s at 0) c) (roomy L (at + 1 + get_or s at 0) s) e in (leb-true _ _ a.0, is_roomy L (at + 1 + get_or s at 0) s a.1)

roomy_is : (L : Layout) (at : ℕ) (s : List ℕ) → Roomy L at s → roomy L at s ≡ true
roomy_is [] at s h = le-leb at (length s) h
roomy_is (number x w t ∷ L) at s h = roomy_is L (at + w) s h
roomy_is (octets x n t ∷ L) at s h = roomy_is L (at + n) s h
roomy_is (counted y x t c ∷ L) at s h = rw (le-leb _ _ h.0, roomy_is L (at + 1 + get_or s at 0) s h.1)

le_before : (w at : ℕ) (a r : List ℕ) → at + w ≤ length a → of_le w at (a ++ r) ≡ of_le w at a
le_before zero at a r h = refl
le_before (suc zero) at a r h = get_or-append a r 0 at (omega arith)
le_before (suc (suc w)) at a r h = rw (get_or-append a r 0 at (omega arith), le_before (suc w) (at + 1) a r (omega arith))

part_before : (at n : ℕ) (a r : List ℕ) → at + n ≤ length a → part at n (a ++ r) ≡ part at n a
part_before at n a r h = rw (drop-append-le at a r (omega arith)) (take-append-le n (drop at a) r (simp length-drop (omega arith)))

-- octets after a block do not change its fields
pub value_before : (L : Layout) (at : ℕ) (a r : List ℕ) → Roomy L at a → Roomy L at (a ++ r) × (value L at (a ++ r) ≡ value L at a)
value_before [] at a r h = (simp length-append (omega (arith, h)), refl)
value_before (number x w t ∷ L) at a r h = let q = value_before L (at + w) a r h in (q.0, rw (le_before w at a r (roomy_from L (at + w) a h), q.1))
value_before (octets x n t ∷ L) at a r h = let q = value_before L (at + n) a r h in (q.0, rw (part_before at n a r (roomy_from L (at + n) a h), q.1))
value_before (counted y x t c ∷ L) at a r h =
    let k = get_or a at 0 in
    let u = roomy_from L (at + 1 + k) a h.1 in
    let e : get_or (a ++ r) at 0 ≡ k = get_or-append a r 0 at (omega (arith, u)) in
    let q = value_before L (at + 1 + k) a r h.1 in
    (rw e (h.0, q.0), rw (e, part_before (at + 1) k a r u, q.1))

-- what is read at a place
module _ (L : Layout) (m : List ℕ) (at : ℕ) where
  pub slice_roomy : Roomy L 2 (drop at m) → Roomy L 2 (take (length m - at) (drop at m))
  slice_roomy h = rw (suffix at m) h

  pub slice_fields : Roomy L 2 (drop at m) → value L 2 (take (length m - at) (drop at m)) ≡ fields_at L m at
  slice_fields h = rw (suffix at m, roomy_is L 2 (drop at m) h)

  pub fields_there : Roomy L 2 (drop at m) → fields_at L m at ≡ value L 2 (drop at m)
  fields_there h = rw (roomy_is L 2 (drop at m) h)

  -- a place with room lies in the message
  pub roomy_place : roomy L 2 (drop at m) ≡ true → at ≤ length m
  roomy_place e = omega (arith, roomy_from L 2 (drop at m) (is_roomy L 2 (drop at m) e), length-drop at m)

  pub no_fields : (Roomy L 2 (drop at m) → ⊥) → fields_at L m at ≡ zeroes L
  no_fields n = by_bool (roomy L 2 (drop at m)) (λ y. absurd (n (is_roomy L 2 (drop at m) y))) (λ e. rw e)

pub need_from : (L : Layout) (at : ℕ) (s : List ℕ) → at ≤ need L at s
need_from [] at s = omega arith
need_from (number x w t ∷ L) at s = omega (arith, need_from L (at + w) s)
need_from (octets x n t ∷ L) at s = omega (arith, need_from L (at + n) s)
need_from (counted y x t c ∷ L) at s = omega (arith, need_from L (at + 1 + get_or s at 0) s)

pub least_need : (L : Layout) (at : ℕ) (s : List ℕ) → least L at ≤ need L at s
least_need [] at s = omega arith
least_need (number x w t ∷ L) at s = least_need L (at + w) s
least_need (octets x n t ∷ L) at s = least_need L (at + n) s
least_need (counted y x t c ∷ L) at s = omega (arith, least_from L (at + 1 + get_or s at 0), least_need L (at + 1 + get_or s at 0) s)

-- ---- a block without a fault holds its need, and its fields are allowed; and the other way round

pub no_fault : (L : Layout) (at : ℕ) (s : List ℕ) → least L at ≤ length s → fault L at s ≡ Ok tt → (need L at s ≤ length s) × (allowed L (value L at s) ≡ true)
no_fault [] at s h e = (h, refl)
no_fault (number x w t ∷ L) at s h e = demanded (test t (of_le w at s)) NotAllowed _ tt e λ y e₁. let m = no_fault L (at + w) s h e₁ in (m.0, rw (y, m.1))
no_fault (octets x n t ∷ L) at s h e = demanded (spelled t (part at n s)) NotAllowed _ tt e λ y e₁. let m = no_fault L (at + n) s h e₁ in (m.0, rw (y, m.1))
no_fault (counted y x t c ∷ L) at s h e =
    demanded (test t (get_or s at 0)) NotAllowed _ tt e λ a e₁.
    demanded (leb (least L (at + 1 + get_or s at 0)) (length s)) BlockTooSmall _ tt e₁ λ z e₂.
    let m = no_fault L (at + 1 + get_or s at 0) s (leb-true _ _ z) e₂ in
    (m.0, rw (a, m.1))

pub fault_none : (L : Layout) (at : ℕ) (s : List ℕ) → need L at s ≤ length s → allowed L (value L at s) ≡ true → fault L at s ≡ Ok tt
fault_none [] at s h e = refl
fault_none (number x w t ∷ L) at s h e = let a = and_true_lem (test t (of_le w at s)) (allowed L (value L (at + w) s)) e in rw a.0 (fault_none L (at + w) s h a.1)
fault_none (octets x n t ∷ L) at s h e = let a = and_true_lem (spelled t (part at n s)) (allowed L (value L (at + n) s)) e in rw a.0 (fault_none L (at + n) s h a.1)
fault_none (counted y x t c ∷ L) at s h e =
    let k = at + 1 + get_or s at 0 in
    let a = and_true_lem (test t (get_or s at 0)) (allowed L (value L k s)) e in
    rw (a.0, le-leb (least L k) (length s) (omega (arith, least_need L k s))) (fault_none L k s h a.1)

-- ---- the most octets that a layout's fields take

abbrev pub most : Layout → ℕ
most [] = 0
most (number x w t ∷ L) = w + most L
most (octets x n t ∷ L) = n + most L
most (counted y x t c ∷ L) = 1 + c + most L

pub write_most : (L : Layout) (v : Values L) → Typed L v → length (write L v) ≤ most L
write_most [] v h = omega arith
write_most (number x w t ∷ L) v h = simp length-append (omega (arith, write_most L v.1 h.1, long_le w v.0))
write_most (octets x n t ∷ L) v h = simp length-append (omega (arith, write_most L v.1 h.1.1, h.0))
write_most (counted y x t c ∷ L) v h = simp length-append (omega (arith, write_most L v.1.1 h.1.1.1, h.1.0, length-take v.0 v.1.0))
