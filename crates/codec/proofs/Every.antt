-- What holds of every technology and of every column.
use mathlib.Core.Path.{◌≡◌, refl}
use mathlib.Core.Bool.{Bool, true, false, ◌&&◌, and-true}
use mathlib.Core.List.{List, [], ◌∷◌}
use Rattle.codec.specs.Technology.{Technology, uwb, cs, nan, rssi, technologies}
use Rattle.codec.specs.Blocks.{Column, capabilities, configurations, columns}
use Rattle.codec.specs.WellFormed.{Each}
use Rattle.codec.specs.Valid.{every}
use Rattle.codec.proofs.Outcomes.{and_true_lem}

pub data Among {A : Type 0} (x : A) : List A → Type 0 where
  first : {l : List A} → Among x (x ∷ l)
  further : {y : A} {l : List A} → Among x l → Among x (y ∷ l)

pub a_technology : (t : Technology) → Among t technologies
a_technology uwb = first
a_technology cs = further first
a_technology nan = further (further first)
a_technology rssi = further (further (further first))

pub a_column : (k : Column) → Among k columns
a_column capabilities = first
a_column configurations = further first

pub every_technology : (f : Technology → Bool) {a b c d : Bool} → a ≡ f uwb → b ≡ f cs → c ≡ f nan → d ≡ f rssi → (a && (b && (c && d))) ≡ every technologies f
every_technology f p q r s = rw (p, q, r, s, and-true (f rssi)) refl

module _ {A : Type 0} where
  pub each_at : (P : A → Type 0) (x : A) {l : List A} → Each P l → Among x l → P x
  each_at P x h first = h.0
  each_at P x h (further a) = each_at P x h.1 a

  module _ (f : A → Bool) where
    pub every_at : (x : A) {l : List A} → every l f ≡ true → Among x l → f x ≡ true
    every_at x h (first {l}) = (and_true_lem (f x) (every l f) h).0
    every_at x h (further {y} {l} a) = every_at x (and_true_lem (f y) (every l f) h).1 a

    pub every_all : (l : List A) → ((x : A) → f x ≡ true) → every l f ≡ true
    every_all [] h = refl
    every_all (x ∷ l) h = rw (h x, every_all l h)

  pub every_both : (f g : A → Bool) (l : List A) → every l (λ x. f x && g x) ≡ (every l f && every l g)
  every_both f g [] = refl
  every_both f g (x ∷ l) = rw (every_both f g l) (shuffle (f x) (g x) (every l f) (every l g))
    where
      shuffle : (a b c d : Bool) → ((a && b) && (c && d)) ≡ ((a && c) && (b && d))
      shuffle false b c d = refl
      shuffle true false false d = refl
      shuffle true false true d = refl
      shuffle true true c d = refl
