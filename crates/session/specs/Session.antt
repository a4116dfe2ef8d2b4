-- What the session's calls give, as equations on the session record, for every record that the struct can hold.
use Rattle.std.specs.Prelude.{ℕ, ◌≡◌, List, Bool, cond, not, ◌&&◌, eqb, ltb}
use Rattle.std.proofs.Math.Option.{Option, none, some}
use Rattle.std.specs.Prelude.{Err, Ok}
use Rattle.codec.specs.Refusal.{Checked, demand, number_of}
use Rattle.codec.specs.declared.refusal.Refusal.TheVariants.{NotValid}
use Rattle.codec.specs.Table.{message_of}
use Rattle.codec.specs.Valid.{valid}
use Rattle.codec.specs.declared.records.Record.{Record}
use Rattle.session.specs.declared.state.Profile.{Profile}
use Rattle.session.specs.declared.state.Session.{Session}
use Rattle.session.specs.declared.state.Answer.{Answer}
use Rattle.session.specs.declared.state.Started.{Started}
use Rattle.codec.specs.Technology.{Technology, uwb, cs, nan, rssi}
use Rattle.codec.specs.Blocks.{capabilities, configurations}
use Rattle.codec.specs.Records.{Settings, settings_in, blank}
use Rattle.session.specs.Within.{ranges, bars}
use Rattle.session.specs.Rules.{Call, valid_profile, Served, Operations, call, after, answer_to, buffer_after}

-- a flag is a number: 0 no, anything else yes
abbrev pub yes : ℕ → Bool
yes n = not (eqb n 0)

abbrev pub flag : Bool → ℕ
flag b = cond b 1 0

-- ---- what the session record holds of each technology

-- whether it is ranging, and its settings
pub record TechnologyState (t : Technology) : Type 0 where
  pub ranging : ℕ
  pub settings : Settings t

-- it is ranging with its settings in force; with none it is not, and the settings are zero
abbrev pub state_of : {t : Technology} → Option (Settings t) → TechnologyState t
state_of {t} none = record { ranging = 0; settings = settings_in (blank configurations) t }
state_of (some x) = record { ranging = 1; settings = x }

-- the record has no place for CS, which is never ranging at the tag
abbrev pub state_in : Session → (t : Technology) → TechnologyState t
state_in s uwb = record { ranging = s.uwb.ranging; settings = s.uwb.settings }
state_in s cs = state_of none
state_in s nan = record { ranging = s.nan.ranging; settings = s.nan.settings }
state_in s rssi = record { ranging = s.rssi.ranging; settings = s.rssi.settings }

-- the mark is UWB's
abbrev pub mark_in : Session → Technology → ℕ
mark_in s uwb = s.mark
mark_in s cs = 0
mark_in s nan = 0
mark_in s rssi = 0

-- the record that holds these states and marks
abbrev pub session_with : Profile → ((t : Technology) → TechnologyState t) → (Technology → ℕ) → Session
session_with p state mark = record {
  profile = p;
  uwb = record { ranging = (state uwb).ranging; settings = (state uwb).settings };
  nan = record { ranging = (state nan).ranging; settings = (state nan).settings };
  rssi = record { ranging = (state rssi).ranging; settings = (state rssi).settings };
  mark = mark uwb;
}

-- the same record with other states, or with other marks
abbrev pub with_states : Session → ((t : Technology) → TechnologyState t) → Session
with_states s state = session_with s.profile state (mark_in s)

abbrev pub with_marks : Session → (Technology → ℕ) → Session
with_marks s mark = session_with s.profile (state_in s) mark

abbrev pub ranging_in : Session → Technology → Bool
ranging_in s t = yes (state_in s t).ranging

-- the settings in force, or none
abbrev pub in_force_in : Session → (t : Technology) → Option (Settings t)
in_force_in s t = cond (ranging_in s t) (some (state_in s t).settings) none

-- ---- the calls

-- What is given out loses its mark. What is set, except CS, ranges with its block's settings. What stops has none, and UWB gets the mark.
abbrev pub on_session : Operations Session
on_session = record {
  ranging = ranging_in;
  barred = λ s t. yes (mark_in s t);
  give = λ has s. with_marks s (λ t. cond (has t) 0 (mark_in s t));
  put = λ is_set c s. with_states s (λ t. cond (ranges t && is_set t) (state_of (some (settings_in c t))) (state_in s t));
  stop = λ ended s. with_marks (with_states s (λ t. cond (ended t) (state_of none) (state_in s t))) (λ t. cond (bars t && ended t) 1 (mark_in s t));
}

-- a profile that is not valid is refused before all else
unfoldable pub session_call : Session → Call → Checked (Served Session)
session_call s c = demand (valid_profile s.profile) NotValid (call on_session s.profile s c)

-- what a call that leads to `o` gives: its answer, the session that it returns or leaves, and its buffer before and after
pub record Gives (s : Session) (o : Checked (Served Session)) (before : List ℕ) (a : Answer) (next : Session) (left : List ℕ) : Type 0 where
  pub answer : a ≡ answer_to o
  pub session : next ≡ after s o
  pub buffer : left ≡ buffer_after o before

-- what a call does that gets the session s
abbrev pub Does : Session → Call → Answer → Session → List ℕ → Type 0
Does s c a next left = Gives s (session_call s c) c.lent a next left

-- ---- the start

-- a fresh session ranges with nothing
abbrev pub fresh : Profile → Session
fresh p = session_with p (λ t. state_of none) (λ t. 0)

abbrev pub empty_profile : Profile
empty_profile = record { set = 0; replies = 0; capability = blank capabilities }

abbrev pub as_profile : Record → ℕ → Profile
as_profile r replies = record { set = r.set; replies = replies; capability = r.capability }

-- a profile is a valid record of message 1 with one of the three reply choices
unfoldable pub profile_of : Record → ℕ → Checked Profile
profile_of r replies =
    demand ((eqb r.id (message_of capabilities) && valid r) && ltb replies 3) NotValid (Ok (as_profile r replies))

-- a refused start returns a fresh session with an empty profile, replies not said
abbrev pub started : Checked Profile → Started
started (Err x) = record { session = fresh empty_profile; refusal = number_of x }
started (Ok p) = record { session = fresh p; refusal = 0 }
