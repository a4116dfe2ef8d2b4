-- What no call gives a ledger: settings of a technology that the tag does not range with, or a mark for one that no Stop bars.
use mathlib.Core.Path.{◌≡◌, refl}
use mathlib.Core.List.{List, [], ◌∷◌}
use mathlib.Core.Option.{Option, none}
use mathlib.Core.Bool.{Bool, true, false, cond}
use Rattle.session.specs.declared.state.Profile.{Profile}
use Rattle.codec.specs.Technology.{Technology}
use Rattle.session.specs.Within.{ranges, bars}
use Rattle.session.specs.Rules.{Call, request, configuration, stop, after, ended_by}
use Rattle.session.specs.Ledger.{Ledger, Holding, nothing, on_ledger, ledger_call, state_after}
use Rattle.session.specs.Demand3.{held}
use Rattle.session.proofs.Happened.{Happened, declined, served, advertised, happened, accepted_gives, advertised_gives}

pub record Regular (t : Technology) (x : Holding t) : Type 0 where
  pub still : ranges t ≡ false → x.in_force ≡ none
  pub free : bars t ≡ false → x.mark ≡ false

none_either : {A : Type 0} (b : Bool) → ◌≡◌ {A = Option A} (cond b none none) none
none_either true = refl
none_either false = refl

module _ (p : Profile) (t : Technology) where
  pub regular_call : (l : Ledger) (c : Call) → Regular t (l t) → Regular t (after l (ledger_call p l c) t)
  regular_call l c h = go (happened p l c)
    where
      go : Happened p l c → Regular t (after l (ledger_call p l c) t)
      go (declined x e) = rw e h
      go (served request r a) = rw (accepted_gives p l a) (record { still = h.still; free = λ f. rw (h.free f) })
      go (served configuration r a) = rw (accepted_gives p l a) (record { still = λ f. rw f (h.still f); free = h.free })
      go (served stop r a) = rw (accepted_gives p l a) (record { still = λ f. rw (h.still f) (none_either (ended_by on_ledger p r.set l t)); free = λ f. rw (h.free f, f) })
      go (advertised d) = rw (advertised_gives p l d) (record { still = h.still; free = λ f. rw (h.free f) })

  regular_after : (calls : List Call) (l : Ledger) → Regular t (l t) → Regular t (state_after (ledger_call p) l calls t)
  regular_after [] l h = h
  regular_after (c ∷ calls) l h = regular_after calls (after l (ledger_call p l c)) (regular_call l c h)

  pub regular_nothing : Regular t (nothing t)
  unfolding nothing
  regular_nothing = record { still = λ f. refl; free = λ f. refl }

  pub regular : (calls : List Call) → Regular t (held p calls t)
  regular calls = regular_after calls nothing regular_nothing
