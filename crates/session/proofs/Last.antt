-- A value that some calls put, some drop and the rest leave: it is there exactly if a call put it and no later one put or dropped it.
use mathlib.Core.Path.{◌≡◌, refl, sym, ap, subst, ◌∙◌}
use mathlib.Core.List.{List, [], ◌∷◌, ◌++◌, append-nil, append_assoc}
use mathlib.Core.Option.{Option, none, some, some-injective, none-ne-some}
use mathlib.Core.Logic.{◌↔◌, ◌⊎◌, inl, inr}
use Rattle.codec.specs.WellFormed.{Each}
use Rattle.session.specs.Rules.{Call}
use Rattle.session.specs.History.{Never}

module _ {A : Type 0} (value : List Call → Option A) (Puts : List Call → Call → A → Type 0) (Drops : Call → Type 0) where
  pub data Turn (before : List Call) (c : Call) : Type 0 where
    puts : (x : A) → Puts before c x → Turn before c
    drops : Drops c → value (before ++ c ∷ []) ≡ none → Turn before c
    leaves : (Drops c → ⊥) → ((x : A) → Puts before c x → ⊥) → value (before ++ c ∷ []) ≡ value before → Turn before c

  pub record Last (calls : List Call) (x : A) : Type 0 where
    pub before : List Call
    pub at : Call
    pub later : List Call
    pub split : calls ≡ before ++ at ∷ later
    pub put : Puts before at x
    pub last : Never Puts (before ++ at ∷ []) later
    pub kept : Each (λ c. Drops c → ⊥) later

  module _ (turn : (before : List Call) (c : Call) → Turn before c) (now : (before : List Call) (c : Call) (x : A) → Puts before c x → value (before ++ c ∷ []) ≡ some x) where
    one_more : (done : List Call) (c : Call) (rest : List Call) → (done ++ c ∷ []) ++ rest ≡ done ++ c ∷ rest
    one_more done c rest = append_assoc done (c ∷ []) rest

    untouched : (rest done : List Call) → Never Puts done rest → Each (λ c. Drops c → ⊥) rest → value (done ++ rest) ≡ value done
    untouched [] done n k = ap value (append-nil done)
    untouched (c ∷ rest) done n k = ap value (sym (one_more done c rest)) ∙ (untouched rest (done ++ c ∷ []) n.1 k.1 ∙ go (turn done c))
      where
        go : Turn done c → value (done ++ c ∷ []) ≡ value done
        go (puts x p) = absurd (n.0 x p)
        go (drops d e) = absurd (k.0 d)
        go (leaves d p e) = e

    -- with one value only, it stays until a call drops it
    pub stays : ((a b : A) → a ≡ b) → (rest done : List Call) (x : A) → Each (λ c. Drops c → ⊥) rest → value done ≡ some x → value (done ++ rest) ≡ some x
    stays one [] done x k h = ap value (append-nil done) ∙ h
    stays one (c ∷ rest) done x k h = ap value (sym (one_more done c rest)) ∙ stays one rest (done ++ c ∷ []) x k.1 (go (turn done c))
      where
        go : Turn done c → value (done ++ c ∷ []) ≡ some x
        go (puts y p) = now done c y p ∙ ap (λ (y : A). some y) (one y x)
        go (drops d e) = absurd (k.0 d)
        go (leaves d p e) = e ∙ h

    from_last : (calls : List Call) (x : A) → Last calls x → value calls ≡ some x
    from_last calls x l =
        ap value (l.split ∙ sym (one_more l.before l.at l.later))
        ∙ (untouched l.later (l.before ++ l.at ∷ []) l.last l.kept ∙ now l.before l.at x l.put)

    abbrev Quiet : List Call → List Call → A → Type 0
    Quiet done rest x = Never Puts done rest × Each (λ c. Drops c → ⊥) rest × (value done ≡ some x)

    to_last : (rest done : List Call) (x : A) → value (done ++ rest) ≡ some x → Last (done ++ rest) x ⊎ Quiet done rest x
    to_last [] done x h = inr (tt, tt, ap value (sym (append-nil done)) ∙ h)
    to_last (c ∷ rest) done x h = pick (to_last rest (done ++ c ∷ []) x (ap value (one_more done c rest) ∙ h))
      where
        here : Quiet (done ++ c ∷ []) rest x → Turn done c → Last (done ++ c ∷ rest) x ⊎ Quiet done (c ∷ rest) x
        here q (puts y p) = let e = some-injective y x (sym (now done c y p) ∙ q.2) in
            inl (record { before = done; at = c; later = rest; split = refl; put = subst (Puts done c) e p; last = q.0; kept = q.1 })
        here q (drops d e) = absurd (none-ne-some x (sym e ∙ q.2))
        here q (leaves d p e) = inr ((p, q.0), (d, q.1), sym e ∙ q.2)

        pick : Last ((done ++ c ∷ []) ++ rest) x ⊎ Quiet (done ++ c ∷ []) rest x → Last (done ++ c ∷ rest) x ⊎ Quiet done (c ∷ rest) x
        pick (inl l) = inl (subst (λ (calls : List Call). Last calls x) (one_more done c rest) l)
        pick (inr q) = here q (turn done c)

    pub by_history : value [] ≡ none → (calls : List Call) (x : A) → (value calls ≡ some x) ↔ Last calls x
    by_history e calls x = (λ h. pick (to_last calls [] x h), from_last calls x)
      where
        pick : Last calls x ⊎ Quiet [] calls x → Last calls x
        pick (inl l) = l
        pick (inr q) = absurd (none-ne-some x (sym e ∙ q.2))
