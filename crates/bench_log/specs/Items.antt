-- What is said of items one after the other: a text for each, and how many have a property. For the whole list, and step by step.
use Rattle.std.specs.Prelude.{◌≡◌, ℕ, ◌+◌, ◌%◌, ◌^◌, Bool, cond, List, [], ◌∷◌, ◌++◌, length, drop}

-- ---- of the whole list

module _ {A : Type 0} where
  -- items with numbers from n on
  abbrev pub texts_from : (ℕ → A → List ℕ) → ℕ → List A → List ℕ
  texts_from say n [] = []
  texts_from say n (x ∷ xs) = say n x ++ texts_from say (n + 1) xs

  -- how many items have a property
  abbrev pub how_many : (A → Bool) → List A → ℕ
  how_many P [] = 0
  how_many P (x ∷ xs) = cond (P x) 1 0 + how_many P xs

-- ---- step by step: the text of an item depends on counters, which then count it

abbrev pub counters_after : {A S : Type 0} → (S → A → S) → S → List A → S
counters_after next s [] = s
counters_after next s (x ∷ xs) = counters_after next (next s x) xs

module _ {A S : Type 0} (say : S → A → List ℕ) (next : S → A → S) where
  abbrev pub texts_after : S → List A → List ℕ
  texts_after s [] = []
  texts_after s (x ∷ xs) = say s x ++ texts_after (next s x) xs

  -- what a call does that lays out these items: the counters afterwards, how many octets of the buffer are text, and the buffer before
  -- and after
  pub record Tells (xs : List A) (s : S) (d : List ℕ) (after : S) (n : ℕ) (e : List ℕ) : Type 0 where
    pub counts : after ≡ counters_after next s xs
    pub octets : n ≡ length (texts_after s xs)
    pub leaves : e ≡ texts_after s xs ++ drop (length (texts_after s xs)) d

-- a counter of 64 bits, which starts again from 0
abbrev pub one_more : ℕ → ℕ
one_more n = (n + 1) % 2 ^ 64

-- with one item more, if it is to be counted
abbrev pub tally : Bool → ℕ → ℕ
tally counted n = cond counted (one_more n) n
