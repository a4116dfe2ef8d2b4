-- Two lists of octets are the same, and two contents are alike, exactly if they are equal.
use Rattle.std.proofs.Common.{◌≡◌, ℕ, true, eqb, List, [], ◌∷◌, sym, refl, ap, true≢false, eq-eqb, eqb-true}
use Rattle.std.specs.Prelude.{nat_eq}
use Rattle.std.specs.Cmp.Lexicographic.{pointwise}
use Rattle.codec.proofs.Outcomes.{and_true_lem}
use Rattle.bench_log.specs.Fields.{Contents, amount, string}
use Rattle.bench_log.specs.Comparison.{same, alike}

pub same_self : (x : List ℕ) → same x x ≡ true
same_self [] = refl
same_self (x ∷ xs) = rw (eq-eqb x x refl, same_self xs)

pub same_equal : (x y : List ℕ) → same x y ≡ true → x ≡ y
same_equal [] [] e = refl
same_equal [] (y ∷ ys) e = absurd (true≢false (sym e))
same_equal (x ∷ xs) [] e = absurd (true≢false (sym e))
same_equal (x ∷ xs) (y ∷ ys) e =
    let a = and_true_lem (eqb x y) (same xs ys) e in
    λ i. eqb-true x y a.0 i ∷ same_equal xs ys a.1 i

pub amount_equal : {x y : ℕ} → amount x ≡ amount y → x ≡ y
amount_equal e = cc

pub string_equal : {x y : List ℕ} → string x ≡ string y → x ≡ y
string_equal e = cc

pub alike_self : (x : Contents) → alike x x ≡ true
alike_self (amount x) = eq-eqb x x refl
alike_self (string x) = same_self x

pub alike_equal : (x y : Contents) → alike x y ≡ true → x ≡ y
alike_equal (amount x) (amount y) e = ap amount (eqb-true x y e)
alike_equal (string x) (string y) e = ap string (same_equal x y e)
alike_equal (amount x) (string y) e = absurd (true≢false (sym e))
alike_equal (string x) (amount y) e = absurd (true≢false (sym e))

-- as the library compares two slices
pub same_pointwise : (x y : List ℕ) → same x y ≡ pointwise nat_eq x y
same_pointwise [] [] = refl
same_pointwise [] (y ∷ ys) = refl
same_pointwise (x ∷ xs) [] = refl
same_pointwise (x ∷ xs) (y ∷ ys) = rw (same_pointwise xs ys)
