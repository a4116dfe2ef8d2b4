-- The bits of a set.
use Prim.Native.Nat.{ℕ, zero, suc, min, max, ◌+◌, ◌-◌, ◌*◌, ◌/◌, ◌%◌, ◌^◌, ◌≤◌, ◌<◌}
use native.Mathlib.Omega.{arith}
use native.Mathlib.Nat.{div-eq_of_lt, lt_of_lt_of_le, pow-suc, add_comm, one-mul, mod-eq_of_lt, div-one}
use native.Mathlib.Numerals.{add-one}
use mathlib.Core.Path.{◌≡◌, refl, sym, ap, ◌∙◌}
use mathlib.Core.Bool.{true, false, ◌&&◌, ◌||◌, not}
use lib.Dec.{leb, eqb, eqb-suc-zero, eqb-zero-suc, eqb-suc-suc}
use borrow.Author.Tests.{leb-true, leb-false}
use lib.Pow.{pow_mono, pow-lt, shr-shr, field, mod-mod-pow}
use lib.Bits.{bit_and, bit_or, and_shr, and_step, or_shr, or_step}
use Rattle.codec.proofs.Outcomes.{by_bool}
use Rattle.codec.specs.Technology.{bit}

-- a number of k bits has none from k on
pub bit_above : (k s : ℕ) → s < 2 ^ k → (j : ℕ) → k ≤ j → bit s j ≡ false
bit_above k s h j b = rw (div-eq_of_lt (lt_of_lt_of_le h (pow_mono b)))

pub bit_under : (k s : ℕ) → s < 2 ^ k → (j : ℕ) → bit s j ≡ true → j < k
bit_under k s h j e = by_bool (leb k j) (λ b. let z : ◌≡◌ {A = ℕ} 0 1 = cc (bit_above k s h j (leb-true k j b)) in absurd (omega arith)) (λ b. leb-false k j b)

-- the bits below k are those of the remainder
pub bit_low : (k s j : ℕ) → j < k → bit (s % 2 ^ k) j ≡ bit s j
bit_low k s j h =
    let i = k - suc j in
    let e : suc i + j ≡ k = omega arith in
    let p : s % 2 ^ k / 2 ^ j ≡ s / 2 ^ j % 2 ^ (i + 1) = ap (λ (x : ℕ). s % 2 ^ x / 2 ^ j) (sym e) ∙ field s (suc i) j ∙ ap (λ (x : ℕ). s / 2 ^ j % 2 ^ x) (sym (add-one i)) in
    let q : s / 2 ^ j % 2 ^ (i + 1) % 2 ≡ s / 2 ^ j % 2 = mod-mod-pow (s / 2 ^ j) i 1 in
    rw (p, q)

-- what holds of each digit, or of each two
pub by_digit : (P : ℕ → Type 0) → P 0 → P 1 → (n : ℕ) → P (n % 2)
by_digit P p q n = go (n % 2) (omega arith)
  where
    go : (x : ℕ) → x < 2 → P x
    go zero h = p
    go (suc zero) h = q
    go (suc (suc x)) h = absurd (omega arith)

by_digits : (P : ℕ → ℕ → Type 0) → P 0 0 → P 0 1 → P 1 0 → P 1 1 → (m n : ℕ) → P (m % 2) (n % 2)
by_digits P p q r s m n = by_digit (λ x. P x (n % 2)) (by_digit (P 0) p q n) (by_digit (P 1) r s n) m

bit_and_lem : (a b j : ℕ) → bit (bit_and a b) j ≡ (bit a j && bit b j)
bit_and_lem a b j =
    let x = a / 2 ^ j in
    let y = b / 2 ^ j in
    let low : bit_and x y % 2 ≡ min (x % 2) (y % 2) = rw (and_step x y) (omega arith) in
    rw (and_shr a b j, low) (by_digits (λ x y. eqb (min x y) 1 ≡ (eqb x 1 && eqb y 1)) refl refl refl refl x y)

bit_or_lem : (a b j : ℕ) → bit (bit_or a b) j ≡ (bit b j || bit a j)
bit_or_lem a b j =
    let x = a / 2 ^ j in
    let y = b / 2 ^ j in
    let low : bit_or x y % 2 ≡ max (x % 2) (y % 2) = rw (or_step x y) (omega arith) in
    rw (or_shr a b j, low) (by_digits (λ x y. eqb (max x y) 1 ≡ (eqb y 1 || eqb x 1)) refl refl refl refl x y)

half_bit : (a j : ℕ) → a / 2 ^ suc j ≡ a / 2 / 2 ^ j
half_bit a j = ap (λ (k : ℕ). a / 2 ^ k) (sym (add-one j) ∙ add_comm j 1) ∙ sym (shr-shr a 1 j)

bit_pow : (i j : ℕ) → bit (2 ^ i) j ≡ eqb j i
bit_pow zero zero = refl
bit_pow zero (suc j) = rw (div-eq_of_lt (pow-lt {i = 0} {j = suc j} (omega arith)), eqb-suc-zero j)
bit_pow (suc i) zero =
    let e : 2 ^ suc i / 1 % 2 ≡ 0 = rw (pow-suc 2 i) (omega arith) in
    rw (e, eqb-zero-suc i)
bit_pow (suc i) (suc j) =
    let h : 2 ^ suc i / 2 ≡ 2 ^ i = rw (pow-suc 2 i) (omega arith) in
    rw (half_bit (2 ^ suc i) j, h, eqb-suc-suc j i) (bit_pow i j)

-- all ones but those of a number
bit_not : (w a j : ℕ) → a < 2 ^ w → j < w → bit (2 ^ w - 1 - a) j ≡ not (bit a j)
bit_not zero a j h k = absurd (omega arith)
bit_not (suc w) a zero h k =
    let e : (2 ^ suc w - 1 - a) / 1 % 2 ≡ 1 - a / 1 % 2 = omega (arith, pow-suc 2 w) in
    rw e (by_digit (λ x. eqb (1 - x) 1 ≡ not (eqb x 1)) refl refl (a / 1))
bit_not (suc w) a (suc j) h k =
    let p = pow-suc 2 w in
    let e : (2 ^ suc w - 1 - a) / 2 ≡ 2 ^ w - 1 - a / 2 = omega arith in
    rw (half_bit (2 ^ suc w - 1 - a) j, half_bit a j, e) (bit_not w (a / 2) j (omega arith) (omega arith))

-- the IDs of a set that are not met, and those met with one more, as the code makes them
pub bit_unmet : (s a : ℕ) → s < 2 ^ 32 → a < 2 ^ 32 → (id : ℕ) → bit (bit_and s (4294967295 - a)) id ≡ (bit s id && not (bit a id))
bit_unmet s a h k id =
    bit_and_lem s (4294967295 - a) id
    ∙ by_bool (leb 32 id) (λ y. rw (bit_above 32 s h id (leb-true 32 id y))) (λ n. rw (bit_not 32 a id k (leb-false 32 id n)))

pub bit_more : (a new : ℕ) → new < 16 → (id : ℕ) → bit (bit_or a (1 * 2 ^ new % 65536)) id ≡ (eqb id new || bit a id)
bit_more a new h id =
    let e : 1 * 2 ^ new % 65536 ≡ 2 ^ new = rw (one-mul (2 ^ new)) (mod-eq_of_lt (pow-lt {i = new} {j = 16} h)) in
    rw e (bit_or_lem a (2 ^ new) id ∙ rw (bit_pow new id))

-- numbers with the same bits are the same
pub bit_ext : (w a b : ℕ) → a < 2 ^ w → b < 2 ^ w → ((j : ℕ) → bit a j ≡ bit b j) → a ≡ b
bit_ext zero a b h k e = omega arith
bit_ext (suc w) a b h k e =
    let p = pow-suc 2 w in
    let halves = bit_ext w (a / 2) (b / 2) (omega arith) (omega arith) (λ j. rw (← half_bit a j, ← half_bit b j) (e (suc j))) in
    let odd : a % 2 ≡ b % 2 = by_digits (λ x y. eqb x 1 ≡ eqb y 1 → x ≡ y) (λ e. refl) (λ e. cc) (λ e. cc) (λ e. refl) a b (rw (div-one a, div-one b) at (e 0)) in
    omega arith
