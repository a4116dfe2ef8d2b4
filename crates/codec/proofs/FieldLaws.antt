-- What is written of a block's fields is read back, and what was read is written as it stood.
use Prim.Native.Nat.{ℕ, zero, suc, ◌+◌, ◌-◌, ◌*◌, ◌/◌, ◌%◌, ◌^◌, ◌≤◌, ◌<◌}
use native.Mathlib.Omega.{arith}
use native.Mathlib.Nat.{pow-suc}
use mathlib.Core.Path.{◌≡◌, refl, sym, ap, ◌∙◌}
use mathlib.Core.Bool.{true, ◌&&◌}
use mathlib.Core.List.{List, [], ◌∷◌, ◌++◌, append_assoc, append-nil}
use lib.Dec.{eqb}
use lib.ListN.{length, get_or, take, drop, replicate, length-append, length-drop, length-replicate, take-append-drop}
use lib.Seq.{take_at, drop_at, take-add, length-take-le}
use borrow.Author.Tests.{eqb-true}
use Rattle.codec.specs.Octets.{Octets, all_zero, part, of_le, to_le}
use Rattle.codec.specs.Layout.{Test, Layout, number, octets, counted, test, spelled, Values, zeroes, allowed, Typed, cleared, zeroed, write, value, need}
use Rattle.codec.proofs.Laws.{part_length, octets_take, octets_part, head_at, beyond, room, here, long_le, back_le, forth_le}
use Rattle.codec.proofs.Outcomes.{and_true_lem}
use Rattle.codec.proofs.Layouts.{fits, bounded, bounded_le, need_from}

-- ---- zeros

zeros_are : (l : List ℕ) → all_zero l ≡ true → l ≡ replicate (length l) 0
unfolding all_zero
zeros_are [] e = refl
zeros_are (x ∷ l) e =
    let w = and_true_lem (eqb x 0) (all_zero l) e in
    cc (eqb-true x 0 w.0, zeros_are l w.1)

zeros_of : (n : ℕ) → all_zero (replicate n 0) ≡ true
unfolding all_zero
zeros_of zero = refl
zeros_of (suc n) = zeros_of n

octets_zeros : (n i : ℕ) → ◌≡◌ {A = ℕ} (get_or (replicate n 0) i 0) 0
octets_zeros zero i = refl
octets_zeros (suc n) zero = refl
octets_zeros (suc n) (suc i) = octets_zeros n i

pub octets_none : Octets []
octets_none i = omega arith

pub octets_cons : (x : ℕ) (l : List ℕ) → x < 256 → Octets l → Octets (x ∷ l)
octets_cons x l h o zero = h
octets_cons x l h o (suc i) = o i

pub octets_append : (a b : List ℕ) → Octets a → Octets b → Octets (a ++ b)
octets_append [] b o p i = p i
octets_append (x ∷ a) b o p zero = o 0
octets_append (x ∷ a) b o p (suc i) = octets_append a b (λ j. o (suc j)) p i

pub octets_left : (a b : List ℕ) → Octets (a ++ b) → Octets a
octets_left [] b o i = omega arith
octets_left (x ∷ a) b o zero = o 0
octets_left (x ∷ a) b o (suc i) = octets_left a b (λ j. o (suc j)) i

pub octets_right : (a b : List ℕ) → Octets (a ++ b) → Octets b
octets_right [] b o = o
octets_right (x ∷ a) b o = octets_right a b (λ j. o (suc j))

pub octets_le : (w x : ℕ) → x < 256 ^ w → Octets (to_le w x)
octets_le zero x h = octets_none
octets_le (suc zero) x h = octets_cons x [] h octets_none
octets_le (suc (suc w)) x h = let p : x < 256 ^ suc w * 256 = rw pow-suc at h in octets_cons (x % 256) (to_le (suc w) (x / 256)) (omega arith) (octets_le (suc w) (x / 256) (omega arith))

pub octets_write : (L : Layout) (v : Values L) → Typed L v → Octets (write L v)
octets_write [] v h = octets_none
octets_write (number x w t ∷ L) v h = octets_append (to_le w v.0) (write L v.1) (octets_le w v.0 h.0) (octets_write L v.1 h.1)
octets_write (octets x n t ∷ L) v h = octets_append v.0 (write L v.1) h.1.0 (octets_write L v.1 h.1.1)
octets_write (counted y x t c ∷ L) v h = let k = take v.0 v.1.0 in octets_cons v.0 (k ++ write L v.1.1) h.0 (octets_append k (write L v.1.1) (octets_take v.0 v.1.0 h.1.1.0) (octets_write L v.1.1 h.1.1.1))

-- the zero fields, and no others, are zeroed
pub zeroed_zeroes : (L : Layout) → zeroed L (zeroes L) ≡ true
zeroed_zeroes [] = refl
zeroed_zeroes (number x w t ∷ L) = zeroed_zeroes L
zeroed_zeroes (octets x n t ∷ L) = rw (zeros_of n, zeroed_zeroes L)
zeroed_zeroes (counted y x t c ∷ L) = rw (zeros_of c, zeroed_zeroes L)

zero_under : (w : ℕ) → 0 < 256 ^ w
zero_under zero = omega arith
zero_under (suc w) = rw pow-suc (omega (arith, zero_under w))

pub typed_zeroes : (L : Layout) → Typed L (zeroes L)
typed_zeroes [] = tt
typed_zeroes (number x w t ∷ L) = (zero_under w, typed_zeroes L)
typed_zeroes (octets x n t ∷ L) = (length-replicate n 0, ((λ i. rw (octets_zeros n i) (omega arith)), typed_zeroes L))
typed_zeroes (counted y x t c ∷ L) = (omega arith, (length-replicate c 0, ((λ i. rw (octets_zeros c i) (omega arith)), typed_zeroes L)))

pub zeroed_only : (L : Layout) (v : Values L) → Typed L v → zeroed L v ≡ true → v ≡ zeroes L
zeroed_only [] v h e = refl
zeroed_only (number x w t ∷ L) v h e =
    let a = and_true_lem (eqb v.0 0) (zeroed L v.1) e in
    let p = eqb-true v.0 0 a.0 in
    let q = zeroed_only L v.1 h.1 a.1 in
    λ i. (p i, q i)
zeroed_only (octets x n t ∷ L) v h e =
    let a = and_true_lem (all_zero v.0) (zeroed L v.1) e in
    let p : v.0 ≡ replicate n 0 = zeros_are v.0 a.0 ∙ ap (λ (k : ℕ). replicate k 0) h.0 in
    let q = zeroed_only L v.1 h.1.1 a.1 in
    λ i. (p i, q i)
zeroed_only (counted y x t c ∷ L) v h e =
    let a = and_true_lem (eqb v.0 0) (all_zero v.1.0 && zeroed L v.1.1) e in
    let b = and_true_lem (all_zero v.1.0) (zeroed L v.1.1) a.1 in
    let p = eqb-true v.0 0 a.0 in
    let q : v.1.0 ≡ replicate c 0 = zeros_are v.1.0 b.0 ∙ ap (λ (k : ℕ). replicate k 0) h.1.0 in
    let r = zeroed_only L v.1.1 h.1.1.1 b.1 in
    λ i. (p i, (q i, r i))

-- ---- what was written is read back

-- a counted field that is allowed, fields_size apart
module _ {C : Type 0} (t : Test) (c : ℕ) (L : Layout) where
  counted_apart : (bounded t c && fits L) ≡ true → (n : ℕ) (l : List ℕ) (v : Values L) → length l ≡ c → (test t n && allowed L v) ≡ true
      → (fits L ≡ true → n ≤ c → length (take n l) ≡ n → allowed L v ≡ true → C) → C
  counted_apart f n l v e a k =
      let g = and_true_lem (bounded t c) (fits L) f in
      let p = and_true_lem (test t n) (allowed L v) a in
      let m : n ≤ c = bounded_le t c n g.0 p.0 in
      k g.1 m (length-take-le n l (omega arith)) p.1

pub back : (L : Layout) → fits L ≡ true → (at : ℕ) (v : Values L) (s r : List ℕ) → at ≤ length s → Typed L v → allowed L v ≡ true → cleared L v ≡ true → drop at s ≡ write L v ++ r
    → (value L at s ≡ v) × (need L at s ≡ at + length (write L v))
back [] f at v s r u h a k e = (refl, omega arith)
back (number x w t ∷ L) f at v s r u h a k e =
    let o = to_le w v.0 in
    let q = write L v.1 ++ r in
    let e₁ = e ∙ append_assoc o (write L v.1) r in
    let n : of_le w at s ≡ v.0 = back_le w v.0 at s q h.0 e₁ in
    let m = back L f (at + w) v.1 s r (room at w s o q u e₁ (long_le w v.0)) h.1 (and_true_lem (test t v.0) (allowed L v.1) a).1 k (beyond at w s o q e₁ (long_le w v.0)) in
    ((λ i. (n i, m.0 i)), simp length-append (omega (arith, m.1, long_le w v.0)))
back (octets x n t ∷ L) f at v s r u h a k e =
    let q = write L v.1 ++ r in
    let e₁ = e ∙ append_assoc v.0 (write L v.1) r in
    let p : part at n s ≡ v.0 = here at n s v.0 q e₁ h.0 in
    let m = back L f (at + n) v.1 s r (room at n s v.0 q u e₁ h.0) h.1.1 (and_true_lem (spelled t v.0) (allowed L v.1) a).1 k (beyond at n s v.0 q e₁ h.0) in
    ((λ i. (p i, m.0 i)), simp length-append (omega (arith, m.1, h.0)))
back (counted y x t c ∷ L) f at v s r u h a k e =
    counted_apart t c L f v.0 v.1.0 v.1.1 h.1.0 a λ g b n a₁.
    let z = and_true_lem (all_zero (drop v.0 v.1.0)) (cleared L v.1.1) k in
    let o = take v.0 v.1.0 in
    let q = write L v.1.1 ++ r in
    let e₁ = e ∙ ap (λ (l : List ℕ). v.0 ∷ l) (append_assoc o (write L v.1.1) r) in
    let l : get_or s at 0 ≡ v.0 = head_at at s ∙ ap (λ (l : List ℕ). get_or l 0 0) e₁ in
    let e₂ : drop (at + 1) s ≡ o ++ q = beyond at 1 s (v.0 ∷ []) (o ++ q) e₁ refl in
    let u₁ = room at 1 s (v.0 ∷ []) (o ++ q) u e₁ refl in
    let p : part (at + 1) v.0 s ≡ o = here (at + 1) v.0 s o q e₂ n in
    let d : length (drop v.0 v.1.0) ≡ c - v.0 = simp length-drop (omega (arith, h.1.0)) in
    let w : o ++ replicate (c - v.0) 0 ≡ v.1.0 = rw (← d, ← zeros_are (drop v.0 v.1.0) z.0) (take-append-drop v.0 v.1.0) in
    let m = back L g (at + 1 + v.0) v.1.1 s r (room (at + 1) v.0 s o q u₁ e₂ n) h.1.1.1 a₁ z.1 (beyond (at + 1) v.0 s o q e₂ n) in
    (rw l (λ i. (v.0, ((ap (λ (x : List ℕ). x ++ replicate (c - v.0) 0) p ∙ w) i, m.0 i))), rw l (simp length-append (omega (arith, m.1, n))))

-- ---- what was read is written as it stood

under_le : (w at : ℕ) (s : List ℕ) → Octets s → of_le w at s < 256 ^ w
under_le zero at s o = omega arith
under_le (suc zero) at s o = omega (arith, o at)
under_le (suc (suc w)) at s o = rw pow-suc (omega (arith, o at, under_le (suc w) (at + 1) s o))

pub forth : (L : Layout) → fits L ≡ true → (at : ℕ) (s : List ℕ) → Octets s → need L at s ≤ length s → allowed L (value L at s) ≡ true
    → Typed L (value L at s) × (cleared L (value L at s) ≡ true) × (take (need L at s) s ≡ take at s ++ write L (value L at s))
forth [] f at s o h a = (tt, refl, sym (append-nil (take at s)))
forth (number x w t ∷ L) f at s o h a =
    let m = forth L f (at + w) s o h (and_true_lem (test t (of_le w at s)) (allowed L (value L (at + w) s)) a).1 in
    let W = write L (value L (at + w) s) in
    let q : take (at + w) s ≡ take at s ++ to_le w (of_le w at s) = take-add at w s ∙ ap (λ (l : List ℕ). take at s ++ l) (sym (forth_le w at s o (omega (arith, need_from L (at + w) s)))) in
    ((under_le w at s o, m.0), m.1, m.2 ∙ ap (λ (l : List ℕ). l ++ W) q ∙ append_assoc (take at s) (to_le w (of_le w at s)) W)
forth (octets x n t ∷ L) f at s o h a =
    let m = forth L f (at + n) s o h (and_true_lem (spelled t (part at n s)) (allowed L (value L (at + n) s)) a).1 in
    let W = write L (value L (at + n) s) in
    ((part_length at n s (omega (arith, need_from L (at + n) s)), (octets_part at n s o, m.0)), m.1, m.2 ∙ ap (λ (l : List ℕ). l ++ W) (take-add at n s) ∙ append_assoc (take at s) (part at n s) W)
forth (counted y x t c ∷ L) f at s o h a =
    let g = and_true_lem (bounded t c) (fits L) f in
    let k = get_or s at 0 in
    let p = and_true_lem (test t k) (allowed L (value L (at + 1 + k) s)) a in
    let b : k ≤ c = bounded_le t c k g.0 p.0 in
    let m = forth L g.1 (at + 1 + k) s o h p.1 in
    let W = write L (value L (at + 1 + k) s) in
    let d = part (at + 1) k s in
    let r : List ℕ = replicate (c - k) 0 in
    let z = need_from L (at + 1 + k) s in
    let n : length d ≡ k = part_length (at + 1) k s (omega arith) in
    let len : length (d ++ r) ≡ c = simp (length-append, length-replicate, n) (omega arith) in
    let zs : all_zero (drop k (d ++ r)) ≡ true = rw (drop_at d r k n) (zeros_of (c - k)) in
    let t₁ : take k (d ++ r) ≡ d = take_at d r k n in
    let q : take (at + 1 + k) s ≡ take at s ++ (k ∷ d) =
    take-add (at + 1) k s ∙ ap (λ (l : List ℕ). l ++ d) (take-add at 1 s ∙ ap (λ (l : List ℕ). take at s ++ l) (sym (forth_le 1 at s o (omega arith)))) ∙ append_assoc (take at s) (k ∷ []) d in (
      (o at, (len, (octets_append d r (octets_part (at + 1) k s o) (λ i. rw (octets_zeros (c - k) i) (omega arith)), m.0))),
      rw (zs, m.1),
      m.2 ∙ rw t₁ (ap (λ (l : List ℕ). l ++ W) q ∙ append_assoc (take at s) (k ∷ d) W),
    )
