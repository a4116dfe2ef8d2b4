-- Laws of what is said of items one after the other.
use Rattle.std.proofs.Common.{◌≡◌, ℕ, ◌+◌, ◌^◌, ◌<◌, ◌≤◌, Bool, true, cond, List, [], ◌∷◌, ◌++◌, length, take, drop, sym, refl, ap, ◌∙◌, append_assoc, arith, take_at}
use Rattle.codec.specs.Inner.Puts.{over, Put}
use Rattle.codec.proofs.Outcomes.{by_bool}
use Rattle.codec.proofs.Puts.{put_then, put_last, put_none}
use Rattle.bench_log.specs.Items.{texts_from, how_many, counters_after, texts_after, Tells, one_more, tally}
use Rattle.bench_log.specs.Inner.Items.{SoFar}

pub all_counted : {A : Type 0} (xs : List A) → how_many (λ x. true) xs ≡ length xs
all_counted [] = refl
all_counted (x ∷ xs) = omega (arith, all_counted xs)

module _ {A S : Type 0} (next : S → A → S) where
  pub counters_append : (s : S) (xs ys : List A) → counters_after next s (xs ++ ys) ≡ counters_after next (counters_after next s xs) ys
  counters_append s [] ys = refl
  counters_append s (x ∷ xs) ys = counters_append (next s x) xs ys

  -- a counter that counts the items with a property, and does not reach its end
  module _ (counter : S → ℕ) (P : A → Bool) (counts : (s : S) (x : A) → counter (next s x) ≡ tally (P x) (counter s)) where
    pub counted_all : (s : S) (xs : List A) → counter s + length xs < 2 ^ 64 → counter (counters_after next s xs) ≡ counter s + how_many P xs
    counted_all s [] h = omega arith
    counted_all s (x ∷ xs) h =
        let one : counter (next s x) ≡ counter s + cond (P x) 1 0 = counts s x ∙ by_bool (P x) (λ y. rw y (omega arith)) (λ y. rw y (omega arith)) in
        let most : cond (P x) 1 0 ≤ 1 = by_bool (P x) (λ y. rw y (omega arith)) (λ y. rw y (omega arith)) in
        omega (arith, one, counted_all (next s x) xs (omega (arith, one, most)))

module _ {A S : Type 0} (say : S → A → List ℕ) (next : S → A → S) where
  pub texts_append : (s : S) (xs ys : List A) → texts_after say next s (xs ++ ys) ≡ texts_after say next s xs ++ texts_after say next (counters_after next s xs) ys
  texts_append s [] ys = refl
  texts_append s (x ∷ xs) ys = rw (texts_append (next s x) xs ys) (sym (append_assoc (say s x) _ _))

  -- the number of an item is a counter of all items
  module _ (number : S → ℕ) (counts : (s : S) (x : A) → number (next s x) ≡ one_more (number s)) (numbered : ℕ → A → List ℕ) (says : (s : S) (x : A) → say s x ≡ numbered (number s) x) where
    pub all_numbered : (s : S) (xs : List A) → number s + length xs < 2 ^ 64 → texts_after say next s xs ≡ texts_from numbered (number s) xs
    all_numbered s [] h = refl
    all_numbered s (x ∷ xs) h =
        let n : number (next s x) ≡ number s + 1 = counts s x ∙ omega arith in
        rw (says s x, all_numbered (next s x) xs (omega (arith, n)), n)

  abbrev Laid : List A → S → List ℕ → ℕ → S → List ℕ → ℕ → Type 0
  Laid xs s d at u e n = SoFar say next xs s d at u e n

  pub none_told : (s : S) (d : List ℕ) (at : ℕ) → at ≤ length d → Laid [] s d at s d at
  none_told s d at h = record { counts = refl; texts = put_none d at h }

  pub more_told : {xs ys : List A} {s u v : S} {d e f : List ℕ} {at n p : ℕ} → Laid xs s d at u e n → Laid ys u e n v f p → Laid (xs ++ ys) s d at v f p
  more_told {xs} {ys} {s} a b = record {
    counts = b.counts ∙ ap (λ (u : S). counters_after next u ys) a.counts ∙ sym (counters_append next s xs ys);
    texts = rw (texts_append s xs ys) (put_then a.texts (rw a.counts at b.texts));
  }

  pub one_told : {xs : List A} {s u v : S} {d e f : List ℕ} {at n p : ℕ} (x : A) → Laid xs s d at u e n → v ≡ next u x → Put e n (say u x) f p → Laid (xs ++ (x ∷ [])) s d at v f p
  one_told x l c w = more_told l (record { counts = c; texts = put_last w })

  pub all_told : {xs : List A} {s u : S} {d e : List ℕ} {n : ℕ} → Laid xs s d 0 u e n → Tells say next xs s d u n e
  unfolding over
  all_told {xs} {s} {u} {d} {e} {n} l =
      let z : 0 + length (texts_after say next s xs) ≡ length (texts_after say next s xs) = omega arith in
      record { counts = l.counts; octets = rw z at l.texts.place; leaves = rw z at l.texts.wrote }

  -- the text is at the start of the buffer
  pub told_text : {xs : List A} {s u : S} {d e : List ℕ} {n : ℕ} → Tells say next xs s d u n e → take n e ≡ texts_after say next s xs
  told_text {xs} {s} {d = d} l = let w = texts_after say next s xs in rw (l.leaves, l.octets) (take_at w (drop (length w) d) (length w) refl)
