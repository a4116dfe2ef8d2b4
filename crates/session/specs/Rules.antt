-- The rules that the ledger and the session share. None of them sees a session record or a ledger.
use Rattle.std.specs.Prelude.{ℕ, List, [], ◌++◌, Bool, true, cond, not, ◌&&◌, leb, ltb, eqb, length, drop}
use Rattle.std.proofs.Math.Option.{Option, none, some}
use Rattle.std.specs.Prelude.{Err, Ok}
use Rattle.codec.specs.Refusal.{Checked, demand, and_then, number_of}
use Rattle.codec.specs.declared.refusal.Refusal.TheVariants.{NotForTag, BufferTooShort}
use Rattle.codec.specs.Message.{reading}
use Rattle.codec.specs.Valid.{valid}
use Rattle.codec.specs.NormalForm.{normal}
use Rattle.codec.specs.declared.records.Configuration.{Configuration}
use Rattle.codec.specs.declared.records.Record.{Record}
use Rattle.codec.specs.declared.records.SetMessage.{SetMessage}
use Rattle.session.specs.declared.state.Profile.{Profile}
use Rattle.session.specs.declared.state.Answer.{Answer}
use Rattle.codec.specs.Technology.{Technology, names, naming}
use Rattle.codec.specs.Records.{capability_in, settings_in, response, only, set_record}
use Rattle.session.specs.Within.{within_profile}

-- ---- the profile

-- a valid capability record, with a choice of explicit replies: 0 not said, 1 on, 2 off
unfoldable pub valid_profile : Profile → Bool
valid_profile p = valid (response p.set p.capability) && ltb p.replies 3

-- not said means off
abbrev pub explicit : ℕ → Bool
explicit replies = eqb replies 1

-- ---- calls

-- what is said to the tag: a message's octets, or that it should advertise
pub data Said : Type 0 where
  message : List ℕ → Said
  advertisement : Said

-- a call: what is said, and the contents of the lent buffer
pub record Call : Type 0 where
  pub said : Said
  pub lent : List ℕ

-- what a message is to the tag
pub data Kind : Type 0 where
  request configuration stop : Kind

-- by its ID; 10 for messages 1, 3 and 7
abbrev pub kind_of : ℕ → Checked Kind
kind_of id = cond (eqb id 0) (Ok request) (cond (eqb id 2) (Ok configuration) (cond (eqb id 6) (Ok stop) (Err NotForTag)))

-- ---- replies

-- the octets of a reply, if there is one
abbrev pub octets_of : Option Record → List ℕ
octets_of none = []
octets_of (some r) = normal r

-- the buffer afterwards: only the reply's own octets change
unfoldable pub replied : Option Record → List ℕ → List ℕ
replied r b = octets_of r ++ drop (length (octets_of r)) b

-- the technologies of a Capability Response: those wanted that the profile has
unfoldable pub shows : Profile → (Technology → Bool) → Technology → Bool
shows p wanted t = wanted t && names p.set t

-- message 1 with the profile's own blocks
abbrev pub capability_reply : Profile → (Technology → Bool) → Record
capability_reply p wanted = response (naming (shows p wanted)) (only (naming (shows p wanted)) p.capability)

-- messages 3 and 7 are written with explicit replies on only
abbrev pub explicit_reply : ℕ → SetMessage → ℕ → Option Record
explicit_reply replies m set = cond (explicit replies) (some (set_record m set)) none

-- ---- what a Configuration sets

-- each technology by itself: the Configuration names it, the profile has it, its settings lie within the profile, and it is not barred
unfoldable pub eligible : Profile → ℕ → Configuration → (Technology → Bool) → Technology → Bool
eligible p set c barred t = names set t && (names p.set t && (within_profile t (capability_in p.capability t) (settings_in c t) && not (barred t)))

-- of those that are eligible, every one
abbrev pub chosen : (Technology → Bool) → Technology → Bool
chosen may t = may t

-- ---- what an accepted call gives: the state after it, the reply, what was set and what was stopped

pub record Served (S : Type 0) : Type 0 where
  pub state : S
  pub reply : Option Record
  pub set : ℕ
  pub stopped : ℕ

-- 11 is tested on the reply that the call would get
unfoldable pub conclude : {S : Type 0} → List ℕ → Served S → Checked (Served S)
conclude b v = demand (leb (length (octets_of v.reply)) (length b)) BufferTooShort (Ok v)

-- a refused call leaves the state
abbrev pub after : {S : Type 0} → S → Checked (Served S) → S
after s (Err x) = s
after s (Ok v) = v.state

-- ---- the calls, over whatever keeps the state

-- what is asked of a state, and what happens to it: the technologies whose capabilities are given out, which are set, which stop
pub record Operations (S : Type 0) : Type 0 where
  pub ranging : S → Technology → Bool
  pub barred : S → Technology → Bool
  pub give : (Technology → Bool) → S → S
  pub put : (Technology → Bool) → Configuration → S → S
  pub stop : (Technology → Bool) → S → S

module _ {S : Type 0} (on : Operations S) (p : Profile) where
  -- Capability Responses take the mark away where they show UWB; nothing is set or stopped
  abbrev pub give_out : (Technology → Bool) → S → Served S
  give_out wanted s = record {
    state = on.give (shows p wanted) s;
    reply = some (capability_reply p wanted);
    set = 0;
    stopped = 0;
  }

  -- what a Configuration sets in this state
  unfoldable pub set_by : ℕ → Configuration → S → Technology → Bool
  set_by set c s = chosen (eligible p set c (on.barred s))

  -- a technology already ranging takes the new settings if set, else goes on with the old
  abbrev pub configure : ℕ → Configuration → S → Served S
  configure set c s = record {
    state = on.put (set_by set c s) c s;
    reply = explicit_reply p.replies SetMessage.ConfigurationResponse (naming (set_by set c s));
    set = naming (set_by set c s);
    stopped = 0;
  }

  -- the technologies named that are ranging stop
  unfoldable pub ended_by : ℕ → S → Technology → Bool
  ended_by set s t = names set t && on.ranging s t

  abbrev pub halt : ℕ → S → Served S
  halt set s = record {
    state = on.stop (ended_by set s) s;
    reply = explicit_reply p.replies SetMessage.StopResponse (naming (ended_by set s));
    set = 0;
    stopped = naming (ended_by set s);
  }

  -- what a message gives, by its kind
  abbrev pub serve : Kind → Record → S → Served S
  serve request r s = give_out (names r.set) s
  serve configuration r s = configure r.set r.configuration s
  serve stop r s = halt r.set s

  -- the reader's refusals come first, then 10; an advertisement is a Request for the whole profile
  unfoldable pub respond : S → Said → Checked (Served S)
  respond s (message m) = and_then (reading m) λ r. and_then (kind_of r.id) λ k. Ok (serve k r s)
  respond s advertisement = Ok (give_out (λ t. true) s)

  -- 11 comes last
  unfoldable pub call : S → Call → Checked (Served S)
  call s c = and_then (respond s c.said) (conclude c.lent)

-- ---- what a caller sees

-- a refusing session returns the number, reply length 0 and two empty sets
abbrev pub answer_to : {S : Type 0} → Checked (Served S) → Answer
answer_to (Err x) = record { refusal = number_of x; length = 0; set = 0; stopped = 0 }
answer_to (Ok v) = record { refusal = 0; length = length (octets_of v.reply); set = v.set; stopped = v.stopped }

-- the buffer afterwards: a refusal leaves it
abbrev pub buffer_after : {S : Type 0} → Checked (Served S) → List ℕ → List ℕ
buffer_after (Err x) b = b
buffer_after (Ok v) b = replied v.reply b
