-- What is seen of a log record, and what differs in the heads of two.
use Rattle.std.specs.Prelude.{◌≡◌, ℕ, List, ◌++◌}
use Rattle.codec.specs.Octets.{part}
use Rattle.std.specs.Prelude.{Err, Ok}
use Rattle.codec.specs.Refusal.{Checked, number_of}
use Rattle.codec.specs.Message.{reading}
use Rattle.codec.specs.Inner.Places.{Placed}
use Rattle.bench_log.specs.LogRecord.{reading_of, direction_of}
use Rattle.bench_log.specs.Text.{ascii}
use Rattle.bench_log.specs.Fields.{amount, direction_name, refusal_name}
use Rattle.bench_log.specs.Comparison.{Difference, difference, Position, only_left, only_right}
use Rattle.bench_log.specs.declared.comparison.Side.{Side}
use Rattle.bench_log.specs.declared.comparison.Side.TheVariants.{Left, Right}
use Rattle.bench_log.specs.declared.found.Found.{Found}
use Rattle.bench_log.specs.declared.pair.Seen.{Seen}

abbrev pub direction_difference : (left right : ℕ) → List Difference
direction_difference left right = difference direction_name (amount left) (amount right)

abbrev pub head_differences : (left right refusal other : ℕ) → List Difference
head_differences left right refusal other = direction_difference left right ++ difference refusal_name (amount refusal) (amount other)

-- the refusal's number, or 0
abbrev pub refusal_in : {A : Type 0} → Checked A → ℕ
refusal_in (Err x) = number_of x
refusal_in (Ok a) = 0

-- the refusal of a message, or its octets and the places of its blocks
abbrev pub Finds : List ℕ → Checked Found → Type 0
Finds m (Err x) = reading m ≡ Err x
Finds m (Ok f) = (f.message.now ≡ m) × Placed m f.places

-- the same of a record's message, which follows the head
pub record Holds (r : List ℕ) (f : Found) : Type 0 where
  pub size : ℕ
  pub message : f.message.now ≡ part 4 size r
  pub placed : Placed f.message.now f.places
  pub read : reading_of r ≡ reading f.message.now

abbrev pub SeesMessage : List ℕ → Checked Found → Type 0
SeesMessage r (Err x) = reading_of r ≡ Err x
SeesMessage r (Ok f) = Holds r f

pub record Sees (r : List ℕ) (s : Seen) : Type 0 where
  pub direction : s.direction ≡ direction_of r
  pub message : SeesMessage r s.message

-- a record that only one log has, with the words after its number
abbrev pub only_on : Side → List ℕ → Position
only_on Left = only_left
only_on Right = only_right

abbrev pub side_text : Side → List ℕ
side_text Left = ascii " only left:"
side_text Right = ascii " only right:"
