-- Laws of checks: what an acceptance says of each, and what a refusal is.
use Prim.Native.Nat.{ℕ}
use native.Mathlib.Omega.{arith}
use mathlib.Core.Path.{◌≡◌, refl, sym}
use Rattle.std.specs.Prelude.{IsErrAnd, Some, None}
use Rattle.std.specs.Result.{result_ok}
use mathlib.Core.Bool.{Bool, true, false, ◌&&◌, ◌||◌}
use Rattle.codec.specs.Refusal.{Refusal, TooLong, EndsEarly, ReservedId, WrongVersion, SetsDiffer, BlockTooSmall, WrongBlock, NotAllowed, LeftOver, NotForTag, BufferTooShort, NotValid, BrokenRecord, number_of, Checked, Err, Ok, demand, and_then}
use Rattle.codec.specs.Inner.Places.{verdict}

pub by_bool : {C : Type 0} (t : Bool) → (t ≡ true → C) → (t ≡ false → C) → C
by_bool true f g = f refl
by_bool false f g = g refl

pub and_true_lem : (a b : Bool) → a && b ≡ true → (a ≡ true) × (b ≡ true)
and_true_lem true b e = (refl, e)
and_true_lem false b e = let z : ◌≡◌ {A = ℕ} 0 1 = cc in absurd (omega arith)

pub or_true_lem : {C : Type 0} (a b : Bool) → a || b ≡ true → (a ≡ true → C) → (b ≡ true → C) → C
or_true_lem true b e f g = f refl
or_true_lem false b e f g = g e

pub or_false_lem : (a b : Bool) → a || b ≡ false → (a ≡ false) × (b ≡ false)
or_false_lem true b e = let z : ◌≡◌ {A = ℕ} 0 1 = cc in absurd (omega arith)
or_false_lem false b e = (refl, e)

pub or_right : (a : Bool) {b : Bool} → b ≡ true → a || b ≡ true
or_right true e = refl
or_right false e = e

pub iff_same : (a b : Bool) → (a ≡ true → b ≡ true) → (b ≡ true → a ≡ true) → a ≡ b
iff_same true b f g = sym (f refl)
iff_same false true f g = g refl
iff_same false false f g = refl

pub no_zero : (x : Refusal) → number_of x ≡ 0 → ⊥
no_zero TooLong e = omega arith
no_zero EndsEarly e = omega arith
no_zero ReservedId e = omega arith
no_zero WrongVersion e = omega arith
no_zero SetsDiffer e = omega arith
no_zero BlockTooSmall e = omega arith
no_zero WrongBlock e = omega arith
no_zero NotAllowed e = omega arith
no_zero LeftOver e = omega arith
no_zero NotForTag e = omega arith
no_zero BufferTooShort e = omega arith
no_zero NotValid e = omega arith
no_zero BrokenRecord e = omega arith

-- a refusal is no acceptance
pub not_both : {A C : Type 0} {x : Refusal} {a : A} → ◌≡◌ {A = Checked A} (Err x) (Ok a) → C
not_both e = let z : ◌≡◌ {A = ℕ} 0 1 = cc in absurd (omega arith)

-- what a `?` returns of a refusal
pub raised : {A : Type 0} (r : Checked A) {x : Refusal} → IsErrAnd r (λ e. e ≡ x) → r ≡ Err x
raised (Ok a) e = absurd e
raised (Err y) e = rw e

-- and what `ok` leaves of checks that find nothing
pub ok_none : {C : Type 0} (c : Checked (Unit {0})) → result_ok c ≡ None → ((x : Refusal) → Err x ≡ c → C) → C
ok_none (Err x) e k = k x refl
ok_none (Ok u) e k = let z : ◌≡◌ {A = ℕ} 0 1 = cc in absurd (omega arith)

pub ok_some : (c : Checked (Unit {0})) {u : Unit {0}} → result_ok c ≡ Some u → Ok tt ≡ c
ok_some (Err x) e = let z : ◌≡◌ {A = ℕ} 0 1 = cc in absurd (omega arith)
ok_some (Ok u) e = refl

pub verdict_refused : {A : Type 0} (c : Checked A) {x : Refusal} → Err x ≡ verdict c → c ≡ Err x
verdict_refused (Err y) {x} e = let q : x ≡ y = cc in rw q
verdict_refused (Ok a) e = not_both e

module _ {A C : Type 0} where
  -- nothing is refused exactly where something is found
  pub by_verdict : (c : Checked A) → Ok tt ≡ verdict c → ((a : A) → c ≡ Ok a → C) → C
  by_verdict (Err x) e k = not_both (sym e)
  by_verdict (Ok a) e k = k a refl

  pub demanded : (t : Bool) (x : Refusal) (c : Checked A) (a : A) → demand t x c ≡ Ok a → (t ≡ true → c ≡ Ok a → C) → C
  demanded true x c a e k = k refl e
  demanded false x c a e k = let z : ◌≡◌ {A = ℕ} 0 1 = cc in absurd (omega arith)

pub chained : {A B C : Type 0} (c : Checked A) (rest : A → Checked B) (b : B) → and_then c rest ≡ Ok b → ((a : A) → c ≡ Ok a → rest a ≡ Ok b → C) → C
chained (Err x) rest b e k = let z : ◌≡◌ {A = ℕ} 0 1 = cc in absurd (omega arith)
chained (Ok a) rest b e k = k a refl e

-- the refusal of a test that fails stays, whatever follows
pub demand_stop : {A B : Type 0} (t : Bool) (x : Refusal) (c : Checked A) (d : Checked B) {y : Refusal} → (Err y ≡ c → Err y ≡ d) → Err y ≡ demand t x c → Err y ≡ demand t x d
demand_stop true x c d k e = k e
demand_stop false x c d {y} k e = let q : y ≡ x = cc in rw q
