-- Laws on tests and lists that several proofs cite.
use Prim.Native.Nat.{ℕ, zero, suc, ◌+◌, ◌-◌, ◌*◌, ◌/◌, ◌%◌, ◌^◌, ◌≤◌, ◌<◌}
use mathlib.Core.Path.{◌≡◌, refl, sym, ap, ◌∙◌}
use mathlib.Core.Bool.{◌&&◌, and_assoc, and-true}
use Rattle.std.specs.List.{fold}
use Rattle.std.specs.Simd.{first_chunks}
use Rattle.std.specs.Int.Bits.{bit_or}
use Rattle.std.specs.Int.{w16, w32, from_le_bytes, to_le_bytes}
use Rattle.std.proofs.lemmas.Nat.{le_or_l}
use mathlib.Core.List.{List, [], ◌∷◌, ◌++◌}
use native.Mathlib.Omega.{arith}
use native.Mathlib.Nat.{add-sub_cancel_left, zero-sub, sub-zero, suc-sub-suc, add-zero, pow-suc}
use native.Mathlib.Numerals.{add-one}
use lib.ListN.{length, get_or, take, drop, replicate, length-append, length-drop, length-take}
use lib.Seq.{take_all, take_at, drop_at, drop-drop, drop-cons, get_or-drop, get_or-take}
use borrow.Author.Tests.{ne_eqb}
use lib.Dec.{eqb}
use Rattle.codec.specs.Octets.{Octets, all_zero, part, of_le, to_le}

-- ---- from an `if !test(..)` to the test's meaning

-- ---- parts of lists

pub part_length : (at n : ℕ) (s : List ℕ) → at + n ≤ length s → length (part at n s) ≡ n
part_length at n s h = simp (length-take, length-drop) (omega arith)

-- a slice that begins at a place
pub suffix : (at : ℕ) (m : List ℕ) → take (length m - at) (drop at m) ≡ drop at m
suffix at m = take_all (length m - at) (drop at m) (simp length-drop (omega arith))

octets_drop : (n : ℕ) (l : List ℕ) → Octets l → Octets (drop n l)
octets_drop n l o i = rw (get_or-drop n l i 0) (o (n + i))

pub octets_take : (n : ℕ) (l : List ℕ) → Octets l → Octets (take n l)
octets_take zero l o i = omega arith
octets_take (suc n) [] o i = omega arith
octets_take (suc n) (x ∷ l) o zero = o 0
octets_take (suc n) (x ∷ l) o (suc i) = octets_take n l (λ j. o (suc j)) i

pub octets_part : (at n : ℕ) (s : List ℕ) → Octets s → Octets (part at n s)
octets_part at n s o = octets_take n (drop at s) (octets_drop at s o)

-- what follows others in a list, from a place on

pub head_at : (at : ℕ) (s : List ℕ) → get_or s at 0 ≡ get_or (drop at s) 0 0
head_at at s = sym (get_or-drop at s 0 0 ∙ rw add-zero)

pub beyond : (at n : ℕ) (s a r : List ℕ) → drop at s ≡ a ++ r → length a ≡ n → drop (at + n) s ≡ r
beyond at n s a r e h = sym (drop-drop n at s) ∙ ap (drop n) e ∙ drop_at a r n h

pub room : (at n : ℕ) (s a r : List ℕ) → at ≤ length s → drop at s ≡ a ++ r → length a ≡ n → at + n ≤ length s
room at n s a r u e h =
    let m : length s - at ≡ length a + length r = sym (length-drop at s) ∙ ap length e ∙ length-append a r in
    omega arith

pub here : (at n : ℕ) (s a r : List ℕ) → drop at s ≡ a ++ r → length a ≡ n → part at n s ≡ a
here at n s a r e h = ap (take n) e ∙ take_at a r n h

pub two_head : (l : List ℕ) → 2 ≤ length l → take 2 l ≡ get_or l 0 0 ∷ (get_or l 1 0 ∷ [])
two_head [] h = absurd (omega arith)
two_head (x ∷ []) h = absurd (omega arith)
two_head (x ∷ y ∷ l) h = refl

drop_zeros : (k n : ℕ) → drop {A = ℕ} k (replicate n 0) ≡ replicate (n - k) 0
drop_zeros zero n = ap (λ (j : ℕ). replicate j 0) (sym (sub-zero n))
drop_zeros (suc k) zero = ap (λ (j : ℕ). replicate j 0) (sym (zero-sub (suc k)))
drop_zeros (suc k) (suc n) = drop_zeros k n ∙ ap (λ (j : ℕ). replicate j 0) (sym (suc-sub-suc n k))

-- n zeros whose first k octets became those from a place on
pub copied : (s e : List ℕ) (at k n : ℕ) → e ≡ take (at + k - at) (drop at s) → e ++ drop k (replicate n 0) ≡ part at k s ++ replicate (n - k) 0
copied s e at k n h = rw (h, add-sub_cancel_left at k, drop_zeros)

-- ---- numbers

pub long_le : (w x : ℕ) → length (to_le w x) ≡ w
long_le zero x = refl
long_le (suc zero) x = refl
long_le (suc (suc w)) x = ap suc (long_le (suc w) (x / 256))

pub back_le : (w x at : ℕ) (s r : List ℕ) → x < 256 ^ w → drop at s ≡ to_le w x ++ r → of_le w at s ≡ x
back_le zero x at s r h e = omega arith
back_le (suc zero) x at s r h e = head_at at s ∙ ap (λ (l : List ℕ). get_or l 0 0) e
back_le (suc (suc w)) x at s r h e =
    let p : x < 256 ^ suc w * 256 = rw pow-suc at h in
    let a : get_or s at 0 ≡ x % 256 = head_at at s ∙ ap (λ (l : List ℕ). get_or l 0 0) e in
    let b = back_le (suc w) (x / 256) (at + 1) s r (omega arith) (beyond at 1 s (x % 256 ∷ []) (to_le (suc w) (x / 256) ++ r) e refl) in
    rw (a, b) (omega arith)

pub forth_le : (w at : ℕ) (s : List ℕ) → Octets s → at + w ≤ length s → to_le w (of_le w at s) ≡ part at w s
forth_le zero at s o h = refl
forth_le (suc zero) at s o h = rw (drop-cons s at 0 (omega arith))
forth_le (suc (suc w)) at s o h =
    let b = o at in
    let v = of_le (suc w) (at + 1) s in
    let low : (get_or s at 0 + 256 * v) % 256 ≡ get_or s at 0 = omega arith in
    let high : (get_or s at 0 + 256 * v) / 256 ≡ v = omega arith in
    rw (low, high, drop-cons s at 0 (omega arith)) (ap (λ (t : List ℕ). get_or s at 0 ∷ t) (forth_le (suc w) (at + 1) s o (omega arith) ∙ ap (λ (k : ℕ). part k (suc w) s) (add-one at)))

-- octets are zero exactly if none of them has a bit
or_zero : (a x : ℕ) → eqb (bit_or a x) 0 ≡ (eqb a 0 && eqb x 0)
or_zero zero x = refl
or_zero (suc a) x =
    let h = le_or_l (suc a) x in
    ne_eqb (bit_or (suc a) x) 0 (λ e. omega arith) ∙ rw (ne_eqb (suc a) 0 (λ e. omega arith))

pub zero_together : (l : List ℕ) (a : ℕ) → eqb (fold bit_or a l) 0 ≡ (eqb a 0 && all_zero l)
unfolding all_zero
zero_together [] a = sym (and-true (eqb a 0))
zero_together (x ∷ l) a = zero_together l (bit_or a x) ∙ rw (or_zero a x, and_assoc (eqb a 0) (eqb x 0) (all_zero l))

-- octets, some of them taken as one number, and those after them
two_zero : (s : List ℕ) → 2 ≤ length s → (eqb (from_le_bytes w16 (take 2 s)) 0 && all_zero (drop 2 s)) ≡ all_zero s
unfolding all_zero
two_zero [] h = absurd (omega arith)
two_zero (x ∷ []) h = absurd (omega arith)
two_zero (zero ∷ zero ∷ r) h = refl
two_zero (suc x ∷ y ∷ r) h =
    rw (ne_eqb (from_le_bytes w16 (suc x ∷ (y ∷ []))) 0 (λ e. omega arith), ne_eqb (suc x) 0 (λ e. omega arith))
two_zero (zero ∷ suc y ∷ r) h =
    rw (ne_eqb (from_le_bytes w16 (0 ∷ (suc y ∷ []))) 0 (λ e. omega arith), ne_eqb (suc y) 0 (λ e. omega arith))

four_zero : (s : List ℕ) → 4 ≤ length s → (eqb (from_le_bytes w32 (take 4 s)) 0 && all_zero (drop 4 s)) ≡ all_zero s
unfolding all_zero
four_zero [] h = absurd (omega arith)
four_zero (x ∷ []) h = absurd (omega arith)
four_zero (x ∷ y ∷ []) h = absurd (omega arith)
four_zero (x ∷ y ∷ z ∷ []) h = absurd (omega arith)
four_zero (zero ∷ zero ∷ zero ∷ zero ∷ r) h = refl
four_zero (suc x ∷ y ∷ z ∷ t ∷ r) h =
    rw (ne_eqb (from_le_bytes w32 (suc x ∷ (y ∷ (z ∷ (t ∷ []))))) 0 (λ e. omega arith), ne_eqb (suc x) 0 (λ e. omega arith))
four_zero (zero ∷ suc y ∷ z ∷ t ∷ r) h =
    rw (ne_eqb (from_le_bytes w32 (0 ∷ (suc y ∷ (z ∷ (t ∷ []))))) 0 (λ e. omega arith), ne_eqb (suc y) 0 (λ e. omega arith))
four_zero (zero ∷ zero ∷ suc z ∷ t ∷ r) h =
    rw (ne_eqb (from_le_bytes w32 (0 ∷ (0 ∷ (suc z ∷ (t ∷ []))))) 0 (λ e. omega arith), ne_eqb (suc z) 0 (λ e. omega arith))
four_zero (zero ∷ zero ∷ zero ∷ suc t ∷ r) h =
    rw (ne_eqb (from_le_bytes w32 (0 ∷ (0 ∷ (0 ∷ (suc t ∷ []))))) 0 (λ e. omega arith), ne_eqb (suc t) 0 (λ e. omega arith))

-- and so many times
chunks_zero : (m : ℕ) (f : List ℕ → ℕ) → ((s : List ℕ) → m ≤ length s → (eqb (f (take m s)) 0 && all_zero (drop m s)) ≡ all_zero s)
    → (k : ℕ) (s : List ℕ) (a : ℕ) → k * m ≤ length s → (eqb (fold (λ any c. bit_or any (f c)) a (first_chunks m k s)) 0 && all_zero (drop (k * m) s)) ≡ (eqb a 0 && all_zero s)
chunks_zero m f z zero s a h =
    let e : 0 * m ≡ 0 = omega arith in
    rw e
chunks_zero m f z (suc k) s a h =
    let n = f (take m s) in
    let u : m + k * m ≤ length s = omega arith in
    let e : suc k * m ≡ m + k * m = omega arith in
    let v : k * m ≤ length (drop m s) = rw (length-drop m s) (omega arith) in
    rw (e, sym (drop-drop (k * m) m s), chunks_zero m f z k (drop m s) (bit_or a n) v, or_zero a n, and_assoc (eqb a 0) (eqb n 0) (all_zero (drop m s)), z s (omega arith))

pub twos_zero : (k : ℕ) (s : List ℕ) → k * 2 ≤ length s → (eqb (fold (λ any two. bit_or any (from_le_bytes w16 two)) 0 (first_chunks 2 k s)) 0 && all_zero (drop (k * 2) s)) ≡ all_zero s
twos_zero k s = chunks_zero 2 (from_le_bytes w16) two_zero k s 0

pub fours_zero : (k : ℕ) (s : List ℕ) → k * 4 ≤ length s → (eqb (fold (λ any four. bit_or any (from_le_bytes w32 four)) 0 (first_chunks 4 k s)) 0 && all_zero (drop (k * 4) s)) ≡ all_zero s
fours_zero k s = chunks_zero 4 (from_le_bytes w32) four_zero k s 0

-- numbers as std makes them of octets
module _ (at : ℕ) (s : List ℕ) where
  octet : (n i k : ℕ) → i < n → k ≡ at + i → get_or (part at n s) i 0 ≡ get_or s k 0
  octet n i k h e = get_or-take n (drop at s) i 0 h ∙ get_or-drop at s i 0 ∙ ap (λ (j : ℕ). get_or s j 0) (sym e)

  pub two_at : from_le_bytes w16 (part at 2 s) ≡ of_le 2 at s
  two_at = omega (arith, octet 2 0 at (omega arith) (omega arith), octet 2 1 (at + 1) (omega arith) (omega arith))

  pub four_at : from_le_bytes w32 (part at 4 s) ≡ of_le 4 at s
  four_at = omega (arith, octet 4 0 at (omega arith) (omega arith), octet 4 1 (at + 1) (omega arith) (omega arith), octet 4 2 (at + 1 + 1) (omega arith) (omega arith), octet 4 3 (at + 1 + 1 + 1) (omega arith) (omega arith))

-- and the octets that std makes of them
pub two_of : (x : ℕ) → x < 2 ^ 16 → to_le_bytes w16 x ≡ to_le 2 x
two_of x h =
    let b : x / 256 % 256 ≡ x / 256 = omega arith in
    rw b refl

pub four_of : (x : ℕ) → x < 2 ^ 32 → to_le_bytes w32 x ≡ to_le 4 x
four_of x h =
    let c : x / 65536 % 256 ≡ x / 256 / 256 % 256 = omega arith in
    let d : x / 16777216 % 256 ≡ x / 256 / 256 / 256 = omega arith in
    rw (c, d) refl
