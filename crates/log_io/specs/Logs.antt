-- What can be said of a log that is read: of its octets where the reader's are known.
use Rattle.std.specs.Prelude.{ℕ, ◌≤◌, List, [], Option, None, Some, length, take}
use Rattle.std.specs.Io.KnownBytes.{Consumes}

-- the octets that a log has left: none where it is missing
abbrev pub octets_left : {R : Type 0} → (R → Option (List ℕ)) → Option R → Option (List ℕ)
octets_left remaining None = Some []
octets_left remaining (Some reader) = remaining reader

-- that n octets were read into a piece, given the log before and after: not more than the piece has, and they are the next of the log
pub record Reads {R : Type 0} (remaining : R → Option (List ℕ)) (before after : Option R) (n : ℕ) (piece : List ℕ) : Type 0 where
  pub within : n ≤ length piece
  pub next : Consumes (octets_left remaining before) (octets_left remaining after) (take n piece)
