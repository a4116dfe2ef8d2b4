-- Demand 3, of what calls of a session returned, or left behind a reference, and left in their buffers. `Does` is the contract of these
-- calls, and `Ran` a list of them.
use Rattle.std.specs.Prelude.{ℕ, ◌≡◌, List, ◌∷◌, ◌++◌, map, ◌↔◌, take}
use Rattle.std.proofs.Math.Option.{some}
use Rattle.codec.specs.declared.records.Record.{Record}
use Rattle.session.specs.declared.state.Profile.{Profile}
use Rattle.session.specs.declared.state.Session.{Session}
use Rattle.session.specs.declared.state.Started.{Started}
use Rattle.codec.specs.Technology.{Technology}
use Rattle.codec.specs.Records.{Settings}
use Rattle.session.specs.Rules.{Call}
use Rattle.session.specs.Ledger.{Ledger, nothing, ledger_call, seen_from, state_after}
use Rattle.session.specs.History.{Account, Words, Reports}
use Rattle.session.specs.Session.{flag, state_of, session_with, in_force_in, as_profile, profile_of, started}
use Rattle.session.specs.Trace.{Event, seen_of, Ran, calls_of}

-- what the ledger holds after these calls
abbrev pub held : Profile → List Call → Ledger
held p calls = state_after (ledger_call p) nothing calls

-- the session record that says what a ledger holds
abbrev pub session_of : Profile → Ledger → Session
session_of p l = session_with p (λ t. state_of (l t).in_force) (λ t. flag (l t).mark)

-- what holds of a list of calls from a fresh session with an accepted profile; `e` is the session after it
pub record Upheld (p : Profile) (events : List Event) (e : Session) : Type 1 where
  -- Every answer and every reply buffer is the one that the ledger gives from the start and the calls alone.
  pub answers : map seen_of events ≡ seen_from (ledger_call p) nothing (calls_of events)
  -- At the end the session ranges with exactly what the ledger does, under the same settings.
  pub ranging : (t : Technology) → in_force_in e t ≡ (held p (calls_of events) t).in_force
  -- The whole record is the ledger's: a technology that is not ranging has zero settings, and equal histories give equal records.
  pub session : e ≡ session_of p (held p (calls_of events))
  -- There is an account of what ranges after each list of calls that keeps to the customer's words, and one only;
  pub account : Account
  pub words : Words p account
  pub only : (other : Account) → Words p other → (calls : List Call) (t : Technology) (x : Settings t) → other calls t x ↔ account calls t x
  -- it says what ranges after this list, and with which settings.
  pub says : (t : Technology) (x : Settings t) → (in_force_in e t ≡ some x) ↔ account (calls_of events) t x
  -- Each call reports what it did, in its answer and in what it wrote.
  pub reports : (before : List Event) (x : Event) (later : List Event) → events ≡ before ++ x ∷ later → Reports p account (calls_of before) x.given x.answer (take x.answer.length x.left)

-- of every list of calls, by value or by reference, each of which got the session that the one before returned or left and kept its
-- contract, from the session that an accepted start returned
abbrev pub Demand3 : Type 1
Demand3 = (r : Record) (replies : ℕ) (x : Started) → x ≡ started (profile_of r replies) → x.refusal ≡ 0
    → (events : List Event) (e : Session) → Ran x.session events e → Upheld (as_profile r replies) events e
