-- What every row of the table keeps.
use Prim.Native.Nat.{ℕ, ◌-◌, ◌≤◌}
use native.Mathlib.Omega.{arith}
use mathlib.Core.List.{List}
use mathlib.Core.Path.{◌≡◌, refl, sym, ap, ◌∙◌}
use mathlib.Core.Option.{Option, none, some, none-ne-some}
use mathlib.Core.Bool.{Bool, true, false, cond, true≢false}
use lib.Dec.{eqb}
use borrow.Author.Tests.{eqb-true, eq-eqb, ne_eqb}
use Rattle.codec.specs.Technology.{Technology, technology_id, known, names}
use Rattle.codec.specs.Blocks.{Column, capabilities, configurations}
use Rattle.codec.specs.Table.{message_of, Row, row, set_in}
use Rattle.codec.specs.Octets.{of_le}
use Rattle.codec.specs.Message.{set_of, sets_agree, blocks_at}
use Rattle.codec.specs.Inner.Places.{set_alone}
use Rattle.codec.proofs.Outcomes.{by_bool}
use Rattle.codec.proofs.Cells.{technology_below}
use Rattle.codec.proofs.Bits.{bit_above, bit_low}

pub times_one : (id : ℕ) → 1 ≤ (row id).times
times_one id = go (eqb id 2)
  where
    go : (b : Bool) → 1 ≤ cond b 2 1
    go true = omega arith
    go false = omega arith

pub times_two : (id : ℕ) → (row id).times ≤ 2
times_two id = go (eqb id 2)
  where
    go : (b : Bool) → cond b 2 1 ≤ 2
    go true = omega arith
    go false = omega arith

-- the blocks of a message: those of its column, or none
pub data Carries (id : ℕ) : Option Column → Type 0 where
  nothing : Carries id none
  column : (k : Column) → id ≡ message_of k → Carries id (some k)

pub carries : (id : ℕ) → Carries id (row id).column
carries id =
    by_bool (eqb id 1)
    (λ y. rw y (column capabilities (eqb-true id 1 y)))
    (λ n. by_bool (eqb id 2) (λ y. rw (n, y) (column configurations (eqb-true id 2 y))) (λ m. rw (n, m) nothing))

pub column_there : (id : ℕ) (k : Column) → eqb id (message_of k) ≡ true → (row id).column ≡ some k
column_there id capabilities e = rw e
column_there id configurations e = rw (eqb-true id 2 e)

-- the message of a column
pub column_of : (k : Column) → (row (message_of k)).column ≡ some k
column_of capabilities = refl
column_of configurations = refl

pub room_after : (k : Column) → 4 ≤ blocks_at (row (message_of k)).times
room_after capabilities = omega arith
room_after configurations = omega arith

-- its sets agree where the last is the first
pub sets_one : (k : Column) (m : List ℕ) → set_of m ≡ of_le 2 (blocks_at (row (message_of k)).times - 2) m → sets_agree (row (message_of k)).times m ≡ true
sets_one capabilities m e = refl
sets_one configurations m e = eq-eqb _ _ e

pub sets_two : (k : Column) (m : List ℕ) → (set_of m ≡ of_le 2 (blocks_at (row (message_of k)).times - 2) m → ⊥) → sets_agree (row (message_of k)).times m ≡ false
sets_two capabilities m n = absurd (n refl)
sets_two configurations m n = ne_eqb _ _ n

-- a message that carries a set alone is no column's
pub alone_not : (id : ℕ) → row id ≡ set_alone → (k : Column) → eqb id (message_of k) ≡ false
alone_not id e k = by_bool (eqb id (message_of k))
    (λ y. absurd (none-ne-some k (sym (ap (λ (R : Row). R.column) e) ∙ column_there id k y)))
    (λ n. n)

pub other_alone : (id : ℕ) → (id ≡ 1 → ⊥) → (id ≡ 2 → ⊥) → row id ≡ set_alone
other_alone id n m = rw (ne_eqb id 1 n, ne_eqb id 2 m)

-- ---- the technologies whose blocks a message has in a column

pub none_named : (t : Technology) → names 0 t ≡ false
none_named t = bit_above 0 0 (omega arith) (technology_id t) (omega arith)

pub named_there : {C : Type 0} (id set : ℕ) (k : Column) (t : Technology) → names (set_in id set k) t ≡ true → (eqb id (message_of k) ≡ true → names set t ≡ true → C) → C
named_there id set k t h c =
    by_bool (eqb id (message_of k))
    (λ y. c y (rw y at h))
    (λ n. absurd (true≢false (sym (rw n at h) ∙ none_named t)))

-- reserved bits change nothing
pub known_named : (id set : ℕ) (k : Column) (t : Technology) → names (set_in id (known set) k) t ≡ names (set_in id set k) t
known_named id set k t = by_bool (eqb id (message_of k)) (λ y. rw y (bit_low 4 set (technology_id t) (technology_below t))) (λ n. rw n)
