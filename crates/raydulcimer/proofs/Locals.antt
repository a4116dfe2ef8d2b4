-- A list of locals as one entry of a context, so that a walk is the same whatever their number.
--     Blocks τs                a block for each type.        values, env      the locals, and their types and blocks, before others
--     cells τs bs vs           the locals, the first of them with the values vs, and the others with room.        deaths      that each may be freed
--     alloc_all, pass_all, forget_all, free_all      what `types.Run` has of one local, of all
--     in_left, in_right        a cell within a part of an entry is within the entry (`types.Part`'s `Part`)
--     at_local                 the place of a local, by what stands from it on.        next      what stands from the next one on.        after, past_all      the number of the next one past a list of locals from i on, and what stands from there on
-- Assumes `Logic`.
use mathlib.Core.Path.{◌≡◌, refl, sym, ap, subst}
use Prim.Native.Nat.{ℕ, zero, suc}
use mathlib.Core.List.{List, [], ◌∷◌, nil≢cons}
use lib.ListN.{get_or, drop as skip}
use seplogic.Ra.Ura.{Ura}
use base.Fraction.{full_share}
use mir.Syntax.{Ty, Step as PStep, place, Local, local, value_local}
use mir.Val.{Val}
use base.Logic.{SProp, ent, id⊢, all, wand, all_e, apply∗, mono∗}
use base.Fml.{Share, ftrue, fat, froom, fdies}
use prog.Wp.{Env, Spot, no_local}
use types.Logic.{Logic}
use types.Kit.{Item, ‵, raw, ◌⊛◌, mean, Goal, allocs, passes, frees, Seq, Step, step, ◌$◌, ◌∵◌, !, qed, move, drop, use1, use2, split, join, assume, frame, each, done}
use types.Run.{Walks, Finds, init, from, alloc1, pass1, pass0, free1}
use types.Part.{Part}
use denote.Laws.{Typed}
use denote.Steps.{nothing}

abbrev pub Blocks : List Ty → Type 0
Blocks [] = Unit {0}
Blocks (τ ∷ τs) = ℕ × Blocks τs

abbrev pub values : List Ty → List Local → List Local
values [] ls = ls
values (τ ∷ τs) ls = local τ value_local ∷ values τs ls

abbrev pub env : (τs : List Ty) → Blocks τs → List (Ty × ℕ) → List (Ty × ℕ)
env [] bs E = E
env (τ ∷ τs) bs E = (τ, bs.0) ∷ env τs bs.1 E

module _ {M : Type 1} {𝓤 : Ura M} where
  abbrev pub cells : (τs : List Ty) → Blocks τs → List Val → Item 𝓤
  cells [] bs vs = ‵ ftrue
  cells (τ ∷ τs) bs [] = ‵ (froom τ bs.0 zero) ⊛ cells τs bs.1 []
  cells (τ ∷ τs) bs (v ∷ vs) = ‵ (fat full_share τ bs.0 zero v) ⊛ cells τs bs.1 vs

  abbrev pub deaths : (τs : List Ty) → Blocks τs → Item 𝓤
  deaths [] bs = ‵ ftrue
  deaths (τ ∷ τs) bs = ‵ (fdies τ bs.0) ⊛ deaths τs bs.1

pub forget_all : {M : Type 1} {𝓤 : Ura M} (𝓛 : Logic 𝓤) (τs : List Ty) (bs : Blocks τs) (vs : List Val) → ent 𝓤 (mean 𝓛 (cells τs bs vs)) (mean 𝓛 (cells τs bs []))
forget_all {𝓤 = 𝓤} 𝓛 [] bs vs = id⊢ 𝓤 _
forget_all {𝓤 = 𝓤} 𝓛 (τ ∷ τs) bs [] = id⊢ 𝓤 _
forget_all {𝓤 = 𝓤} 𝓛 (τ ∷ τs) bs (v ∷ vs) = mono∗ 𝓤 (𝓛.laws.at_room τ bs.0 zero v) (forget_all 𝓛 τs bs.1 vs)

-- the way back from a cell with the value u to the entry that it was taken out of
abbrev way : {M : Type 1} {𝓤 : Ura M} (𝓛 : Logic 𝓤) → Share → Ty → ℕ → ℕ → (Val → Item 𝓤) → Val → SProp 𝓤
way {𝓤 = 𝓤} 𝓛 q τ b o back u = wand 𝓤 (𝓛.H.at q τ b o u) (mean 𝓛 (back u))

-- ---- what stands from the local i on
pub next : (i : ℕ) (E : List (Ty × ℕ)) {e : Ty × ℕ} {F : List (Ty × ℕ)} → skip i E ≡ e ∷ F → skip (suc i) E ≡ F
next zero E p = ap (skip 1) p
next (suc i) [] p = absurd (nil≢cons p)
next (suc i) (x ∷ E) p = next i E p

abbrev pub after : ℕ → List Ty → ℕ
after i [] = i
after i (τ ∷ τs) = after (suc i) τs

pub past_all : (τs : List Ty) (bs : Blocks τs) (i : ℕ) (E F : List (Ty × ℕ)) → skip i E ≡ env τs bs F → skip (after i τs) E ≡ F
past_all [] bs i E F p = p
past_all (τ ∷ τs) bs i E F p = past_all τs bs.1 (suc i) E F (next i E p)

first : (i : ℕ) (E : List (Ty × ℕ)) (d : Ty × ℕ) {e : Ty × ℕ} {F : List (Ty × ℕ)} → skip i E ≡ e ∷ F → get_or E i d ≡ e
first zero E d p = ap (λ (l : List (Ty × ℕ)). get_or l 0 d) p
first (suc i) [] d p = absurd (nil≢cons p)
first (suc i) (x ∷ E) d p = first i E d p

module _ {M : Type 1} {𝓤 : Ura M} {𝓛 : Logic 𝓤} {K : Type 0} where
  open 𝓛 use {H}

  pub at_local : K → {Γ : List (Item 𝓤)} {E : Env 𝓤 H} {i : ℕ} {st : List PStep} {sp : Spot 𝓤 H} {e : Ty × ℕ} {F : List (Ty × ℕ)} → skip i E ≡ e ∷ F → Walks K 𝓛 Γ E (e.0, e.1, zero) st sp → Finds K 𝓛 Γ E (place i st) sp
  at_local t {Γ} {E} {i} {st} {sp} p w = from t (subst (λ (f : Ty × ℕ). Walks K 𝓛 Γ E (f.0, f.1, zero) st sp) (sym (first i E (no_local 𝓤 H) p)) w)

  -- ---- a function's entry and return
  pub alloc_all : K → (τs : List Ty) {ls : List Local} {Kt : Env 𝓤 H → Goal 𝓤 H} {Γ : List (Item 𝓤)}
      → ((bs : Blocks τs) → Seq K 𝓛 (cells τs bs [] ∷ deaths τs bs ∷ Γ) (allocs ls (λ E. Kt (env τs bs E)))) → Seq K 𝓛 Γ (allocs (values τs ls) Kt)
  alloc_all t [] k = nothing t $ nothing t $ k tt
  alloc_all t (τ ∷ τs) k = alloc1 t (λ b. alloc_all t τs (λ bs. move t (2 ∷ 0 ∷ []) $ join t $ move t (2 ∷ 1 ∷ []) $ join t $ move t (1 ∷ 0 ∷ []) $ k (b, bs)))

  pub pass_all : K → (τs : List Ty) (bs : Blocks τs) (vs : List Val) (E : Env 𝓤 H) → Typed τs vs → {g : Goal 𝓤 H} {Γ : List (Item 𝓤)} → Step K 𝓛 (cells τs bs vs ∷ Γ) g (cells τs bs [] ∷ Γ) (passes (env τs bs E) vs g)
  pass_all t [] bs [] E ty = pass0 t
  pass_all t [] bs (v ∷ vs) E ty = absurd ty
  pass_all t (τ ∷ τs) bs [] E ty = absurd ty
  pass_all t (τ ∷ τs) bs (v ∷ vs) E ty = step (λ s. split t $ pass1 t (init t 0 refl ty.0) $ move t (1 ∷ []) $ pass_all t τs bs.1 vs E ty.1 $ move t (1 ∷ 0 ∷ []) $ join t $ s)

  pub free_all : K → (τs : List Ty) (bs : Blocks τs) (E : Env 𝓤 H) {g : Goal 𝓤 H} {Γ : List (Item 𝓤)} → Step K 𝓛 Γ (frees E g) (cells τs bs [] ∷ deaths τs bs ∷ Γ) (frees (env τs bs E) g)
  free_all t [] bs E = step (λ s. drop t $ drop t $ s)
  free_all t (τ ∷ τs) bs E = step (λ s. split t $ move t (2 ∷ []) $ split t $ move t (2 ∷ 0 ∷ []) $ free1 t $ move t (1 ∷ 0 ∷ []) $ free_all t τs bs.1 E $ s)

  -- ---- a cell within an entry of two parts
  module _ {i j : Item 𝓤} {q : Share} {τ : Ty} {b o : ℕ} {v : Val} {back : Val → Item 𝓤} where
    pub in_left : K → Part K 𝓛 i q τ b o v back → Part K 𝓛 (i ⊛ j) q τ b o v (λ u. back u ⊛ j)
    in_left t p = record {
      out = qed 𝓛 ((i ⊛ j) ∷ []) ∵ split ! $ use1 𝓛 (‵ (fat q τ b o v) ⊛ raw (all 𝓤 (way 𝓛 q τ b o back))) p.out $ split ! $ frame ! $
          each ! (λ (u : Val). wand 𝓤 (H.at q τ b o u) (mean 𝓛 (back u ⊛ j))) (λ u. assume {P = mean 𝓛 (back u ⊛ j)} ! (‵ (fat q τ b o u)) $
          move ! (1 ∷ []) $ use1 𝓛 (raw (way 𝓛 q τ b o back u)) (all_e 𝓤 (way 𝓛 q τ b o back) u) $ move ! (1 ∷ 0 ∷ []) $ use2 𝓛 (back u) (apply∗ 𝓤 (H.at q τ b o u) (mean 𝓛 (back u))) $ done !);
      same = ap (λ (k : Item 𝓤). k ⊛ j) p.same;
    }

    pub in_right : K → Part K 𝓛 j q τ b o v back → Part K 𝓛 (i ⊛ j) q τ b o v (λ u. i ⊛ back u)
    in_right t p = record {
      out = qed 𝓛 ((i ⊛ j) ∷ []) ∵ split ! $ move ! (1 ∷ []) $ use1 𝓛 (‵ (fat q τ b o v) ⊛ raw (all 𝓤 (way 𝓛 q τ b o back))) p.out $ split ! $ frame ! $
          each ! (λ (u : Val). wand 𝓤 (H.at q τ b o u) (mean 𝓛 (i ⊛ back u))) (λ u. assume {P = mean 𝓛 (i ⊛ back u)} ! (‵ (fat q τ b o u)) $
          move ! (1 ∷ []) $ use1 𝓛 (raw (way 𝓛 q τ b o back u)) (all_e 𝓤 (way 𝓛 q τ b o back) u) $ move ! (1 ∷ 0 ∷ []) $ use2 𝓛 (back u) (apply∗ 𝓤 (H.at q τ b o u) (mean 𝓛 (back u))) $ move ! (1 ∷ 0 ∷ []) $ done !);
      same = ap (λ (k : Item 𝓤). i ⊛ k) p.same;
    }
