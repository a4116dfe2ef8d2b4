-- Laws of numbers in decimal.
use Rattle.std.proofs.Common.{◌≡◌, ℕ, zero, suc, ◌+◌, ◌-◌, ◌*◌, ◌/◌, ◌%◌, ◌^◌, ◌<◌, ◌≤◌, ltb, List, [], ◌∷◌, ◌++◌, length, get_or, refl, ◌∙◌, arith, length-append, ltb-false, ltb-true, le-ltb, lt-ltb}
use lib.ListN.{get_or-append}
use lib.Seq.{get_or_at}
use Rattle.codec.proofs.Outcomes.{by_bool}
use Rattle.bench_log.specs.Text.{digits_within, decimal, value_after, Numeral}

-- any two bounds that a number keeps give the same digits
same_digits : (a b n : ℕ) → n < a → n < b → digits_within a n ≡ digits_within b n
unfolding digits_within
same_digits zero b n h k = absurd (omega arith)
same_digits (suc a) zero n h k = absurd (omega arith)
same_digits (suc a) (suc b) n h k =
    by_bool (ltb n 10) (λ e. rw e) λ e.
    let l = ltb-false n 10 e in
    rw (e, same_digits a b (n / 10) (omega arith) (omega arith))

-- one digit, or the digits of a tenth and one more
pub one_digit : (n : ℕ) → n < 10 → decimal n ≡ (48 + n) ∷ []
unfolding decimal digits_within
one_digit n h = let r : n % 10 ≡ n = omega arith in rw (lt-ltb n 10 h, r)

pub more_digits : (n : ℕ) → 10 ≤ n → decimal n ≡ decimal (n / 10) ++ ((48 + n % 10) ∷ [])
unfolding decimal digits_within
more_digits n h = rw (le-ltb n 10 h, same_digits n (suc (n / 10)) (n / 10) (omega arith) (omega arith))

-- a number below 10 ^ k has at most k digits
pub few_digits : (k n : ℕ) → n < 10 ^ suc k → length (decimal n) ≤ suc k
few_digits zero n h = rw (one_digit n (omega arith)) (omega arith)
few_digits (suc k) n h =
    by_bool (ltb n 10) (λ e. rw (one_digit n (ltb-true n 10 e)) (omega arith)) λ e.
    let i = few_digits k (n / 10) (omega (arith, h)) in
    rw (more_digits n (ltb-false n 10 e)) (simp length-append (omega arith))

-- ---- they are numerals

value_append : (n : ℕ) (a b : List ℕ) → value_after n (a ++ b) ≡ value_after (value_after n a) b
value_append n [] b = refl
value_append n (d ∷ a) b = value_append (n * 10 + (d - 48)) a b

value_digits : (most n : ℕ) → n < most → value_after 0 (digits_within most n) ≡ n
unfolding digits_within
value_digits zero n h = absurd (omega arith)
value_digits (suc most) n h =
    by_bool (ltb n 10) (λ e. let l = ltb-true n 10 e in rw e (omega arith)) λ e.
    let l = ltb-false n 10 e in
    rw (e, value_append 0 (digits_within most (n / 10)) ((48 + n % 10) ∷ []), value_digits most (n / 10) (omega arith)) (omega arith)

some_digit : (most n : ℕ) → n < most → 0 < length (digits_within most n)
unfolding digits_within
some_digit zero n h = absurd (omega arith)
some_digit (suc most) n h = simp length-append (omega arith)

zero_first : (most n : ℕ) → n < most → get_or (digits_within most n) 0 0 ≡ 48 → n ≡ 0
unfolding digits_within
zero_first zero n h z = absurd (omega arith)
zero_first (suc most) n h z =
    by_bool (ltb n 10) (λ e. let l = ltb-true n 10 e in let y = rw e at z in omega arith) λ e.
    let l = ltb-false n 10 e in
    let y = rw (e, get_or-append (digits_within most (n / 10)) ((48 + n % 10) ∷ []) 0 0 (some_digit most (n / 10) (omega arith))) at z in
    absurd (omega (arith, zero_first most (n / 10) (omega arith) y))

abbrev Digit : ℕ → Type 0
Digit d = (48 ≤ d) × (d ≤ 57)

one_more : (a : List ℕ) (d : ℕ) → d < 10 → ((i : ℕ) → i < length a → Digit (get_or a i 0)) → (i : ℕ) → i < length (a ++ ((48 + d) ∷ [])) → Digit (get_or (a ++ ((48 + d) ∷ [])) i 0)
one_more a d h all i l =
    by_bool (ltb i (length a)) (λ e. let k = ltb-true i (length a) e in rw (get_or-append a ((48 + d) ∷ []) 0 i k) (all i k)) λ e.
    let k : length a ≡ i = omega (arith, ltb-false i (length a) e, simp length-append at l) in
    rw (get_or_at a (48 + d) [] 0 i k) (omega arith, omega arith)

each_digit : (most n i : ℕ) → i < length (digits_within most n) → Digit (get_or (digits_within most n) i 0)
unfolding digits_within
each_digit zero n i l = absurd (omega arith)
each_digit (suc most) n i l =
    by_bool (ltb n 10)
    (λ e. rw e (one_more [] (n % 10) (omega arith) (λ j k. absurd (omega arith)) i (rw e at l)))
    (λ e. rw e (one_more (digits_within most (n / 10)) (n % 10) (omega arith) (each_digit most (n / 10)) i (rw e at l)))

pub numeral : (n : ℕ) → Numeral n (decimal n)
unfolding decimal
numeral n = record {
  digits = each_digit (suc n) n;
  some = some_digit (suc n) n (omega arith);
  leading = λ z. let e = zero_first (suc n) n (omega arith) z in one_digit n (omega arith) ∙ rw e;
  value = value_digits (suc n) n (omega arith);
}
