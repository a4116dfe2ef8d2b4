-- The ledger of demand 3: fed the profile with its reply choice and, in order, all that each call is given except the session.
use Rattle.std.specs.Prelude.{ℕ, List, [], ◌∷◌, Bool, true, false, cond, not, ◌&&◌, ◌||◌}
use Rattle.std.proofs.Math.Option.{Option, none, some}
use Rattle.codec.specs.Refusal.{Checked}
use Rattle.session.specs.declared.state.Profile.{Profile}
use Rattle.session.specs.declared.state.Answer.{Answer}
use Rattle.codec.specs.Technology.{Technology}
use Rattle.codec.specs.Records.{Settings, settings_in}
use Rattle.session.specs.Within.{ranges, bars}
use Rattle.session.specs.Rules.{Call, Served, after, Operations, call, answer_to, buffer_after}

-- what the ledger holds of a technology: the settings in force, or none, and the mark, which only UWB ever gets
pub record Holding (t : Technology) : Type 0 where
  pub in_force : Option (Settings t)
  pub mark : Bool

abbrev pub Ledger : Type 0
Ledger = (t : Technology) → Holding t

-- it begins with no settings and no mark
unfoldable pub nothing : Ledger
nothing t = record { in_force = none; mark = false }

-- with settings, it is ranging
abbrev pub is_some : {A : Type 0} → Option A → Bool
is_some none = false
is_some (some a) = true

-- If the reply holds UWB's block, the mark goes. Each technology set, except CS, gets its block's settings; the others keep theirs.
-- Each technology that stops loses its settings; if UWB is one, the mark comes.
abbrev pub on_ledger : Operations Ledger
on_ledger = record {
  ranging = λ l t. is_some (l t).in_force;
  barred = λ l t. (l t).mark;
  give = λ has l t. record { in_force = (l t).in_force; mark = (l t).mark && not (has t) };
  put = λ is_set c l t. record { in_force = cond (ranges t && is_set t) (some (settings_in c t)) (l t).in_force; mark = (l t).mark };
  stop = λ ended l t. record { in_force = cond (ended t) none (l t).in_force; mark = (l t).mark || (bars t && ended t) };
}

abbrev pub ledger_call : Profile → Ledger → Call → Checked (Served Ledger)
ledger_call p = call on_ledger p

-- ---- a list of calls, each from the state that the one before left

pub record Seen : Type 0 where
  pub answer : Answer
  pub buffer : List ℕ

module _ {S : Type 0} (step : S → Call → Checked (Served S)) where
  abbrev pub seen_from : S → List Call → List Seen
  seen_from s [] = []
  seen_from s (c ∷ calls) = record { answer = answer_to (step s c); buffer = buffer_after (step s c) c.lent } ∷ seen_from (after s (step s c)) calls

  abbrev pub state_after : S → List Call → S
  state_after s [] = s
  state_after s (c ∷ calls) = state_after (after s (step s c)) calls
