-- Items that are laid out so far, from a place of a buffer on.
use Rattle.std.specs.Prelude.{◌≡◌, ℕ, List}
use Rattle.codec.specs.Inner.Puts.{Put}
use Rattle.bench_log.specs.Items.{counters_after, texts_after}

-- the counters before and after, the buffer before and after, and the place after the text
pub record SoFar {A S : Type 0} (say : S → A → List ℕ) (next : S → A → S) (xs : List A) (s : S) (d : List ℕ) (at : ℕ) (u : S) (e : List ℕ) (n : ℕ) : Type 0 where
  pub counts : u ≡ counters_after next s xs
  pub texts : Put d at (texts_after say next s xs) e n
