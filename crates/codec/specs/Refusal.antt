-- Refusals: 01's numbers, and checks in an order of which the first that fails decides.
use Rattle.std.specs.Prelude.{ℕ, Bool, true, false, Result}
pub use Rattle.std.specs.Prelude.{Ok, Err}
pub use Rattle.codec.specs.declared.refusal.Refusal.{Refusal}
pub use Rattle.codec.specs.declared.refusal.Refusal.TheVariants.{TooLong, EndsEarly, ReservedId, WrongVersion, SetsDiffer, BlockTooSmall, WrongBlock, NotAllowed, LeftOver, NotForTag, BufferTooShort, NotValid, BrokenRecord}

-- src/refusal.rt says of each refusal when it is given
abbrev pub number_of : Refusal → ℕ
number_of TooLong = 1
number_of EndsEarly = 2
number_of ReservedId = 3
number_of WrongVersion = 4
number_of SetsDiffer = 5
number_of BlockTooSmall = 6
number_of WrongBlock = 7
number_of NotAllowed = 8
number_of LeftOver = 9
number_of NotForTag = 10
number_of BufferTooShort = 11
number_of NotValid = 12
number_of BrokenRecord = 13

-- what checks give: a refusal, or what was read
abbrev pub Checked : Type 0 → Type 0
Checked A = Result A Refusal

-- a condition that has to hold before the rest is looked at
abbrev pub demand : {A : Type 0} → Bool → Refusal → Checked A → Checked A
demand true x rest = rest
demand false x rest = Err x

-- one check after another
abbrev pub and_then : {A B : Type 0} → Checked A → (A → Checked B) → Checked B
and_then (Err x) rest = Err x
and_then (Ok a) rest = rest a
