-- Demand 3 in the customer's words: what ranges after a list of calls, told by splitting the list at the calls that decide.
use Rattle.std.specs.Prelude.{ℕ, ◌≤◌, ◌<◌, ◌≡◌, List, [], ◌∷◌, ◌++◌, ◌↔◌, ◌⊎◌, Bool, true, false, cond, ◌&&◌, length}
use Rattle.std.specs.Prelude.{Ok}
use Rattle.codec.specs.Message.{reading}
use Rattle.codec.specs.WellFormed.{Each, Has}
use Rattle.codec.specs.NormalForm.{blocks_of, normal}
use Rattle.codec.specs.declared.records.Record.{Record}
use Rattle.codec.specs.declared.records.SetMessage.{SetMessage}
use Rattle.session.specs.declared.state.Profile.{Profile}
use Rattle.session.specs.declared.state.Answer.{Answer}
use Rattle.codec.specs.Technology.{set_limit, Technology, technology_id, names}
use Rattle.codec.specs.Records.{Settings, settings_in, capability_in, set_record}
use Rattle.session.specs.Within.{ranges, bars, within_profile}
use Rattle.session.specs.Rules.{Call, message, advertisement, Kind, request, configuration, stop, kind_of, explicit, capability_reply}

-- an account of what ranges, with which settings, after each list of calls
abbrev pub Account : Type 1
Account = List Call → (t : Technology) → Settings t → Type 0

-- none of the later calls does it, each taken after those before it
abbrev pub Never : {A : Type 0} → (List Call → Call → A → Type 0) → List Call → List Call → Type 0
Never P before [] = Unit {0}
Never {A} P before (c ∷ later) = ((x : A) → P before c x → ⊥) × Never P (before ++ c ∷ []) later

module _ (p : Profile) where
  -- ---- accepted calls

  -- the octets of the reply to a message: messages 3 and 7 have four, and unless explicit replies are on there are none
  abbrev pub reply_length : Kind → Record → ℕ
  reply_length request r = length (normal (capability_reply p (names r.set)))
  reply_length configuration r = cond (explicit p.replies) 4 0
  reply_length stop r = cond (explicit p.replies) 4 0

  -- a message that the reader accepts, of one of the tag's kinds, with room for the reply
  pub record Accepted (k : Kind) (c : Call) (r : Record) : Type 0 where
    pub octets : List ℕ
    pub says : c.said ≡ message octets
    pub reads : reading octets ≡ Ok r
    pub kind : kind_of r.id ≡ Ok k
    pub room : reply_length k r ≤ length c.lent

  -- an advertisement, with room for what it writes
  pub record Advertised (c : Call) : Type 0 where
    pub is : c.said ≡ advertisement
    pub room : length (normal (capability_reply p (λ t. true))) ≤ length c.lent

  -- an accepted Stop naming it
  pub record Stops (t : Technology) (c : Call) : Type 0 where
    pub content : Record
    pub accepted : Accepted stop c content
    pub named : names content.set t ≡ true

  -- its capabilities are given out: what is written holds its block, in reply to a Request or as an advertisement
  pub data GivesOut (t : Technology) (c : Call) : Type 0 where
    in_reply : (r : Record) → Accepted request c r → Has (technology_id t) (blocks_of (capability_reply p (names r.set))) → GivesOut t c
    in_advertisement : Advertised c → Has (technology_id t) (blocks_of (capability_reply p (λ t. true))) → GivesOut t c

  -- a call that counts: refused ones do not
  abbrev pub Counts : Call → Type 0
  Counts c = ((k : Kind) × ((r : Record) × Accepted k c r)) ⊎ Advertised c

  -- ---- what is written

  -- a Capability Response that names what is wanted and the profile has, and nothing else, with the profile's own fields
  pub record Shows (wanted : Technology → Bool) (wrote : List ℕ) : Type 0 where
    pub reply : Record
    pub octets : wrote ≡ normal reply
    pub id : reply.id ≡ 1
    pub known : reply.set < set_limit
    pub set : (t : Technology) → names reply.set t ≡ wanted t && names p.set t
    pub fields : (t : Technology) → names reply.set t ≡ true → capability_in reply.capability t ≡ capability_in p.capability t

  -- an explicit reply that says a set; nothing unless explicit replies are on
  abbrev pub saying : SetMessage → ℕ → List ℕ
  saying m set = cond (explicit p.replies) (normal (set_record m set)) []

  -- ---- the words, of any account

  module _ (Ranges : Account) where
    -- a Stop that comes after these calls ends its ranging: an accepted Stop names it while it ranges
    pub record Ends (t : Technology) (calls : List Call) (c : Call) : Type 0 where
      pub stops : Stops t c
      pub settings : Settings t
      pub ranged : Ranges calls t settings

    -- a Stop among the calls has ended its ranging, and its capabilities were not given out since
    pub record Barred (t : Technology) (calls : List Call) : Type 0 where
      pub before : List Call
      pub at : Call
      pub since : List Call
      pub split : calls ≡ before ++ at ∷ since
      pub ends : Ends t before at
      pub withheld : Each (λ c. GivesOut t c → ⊥) since

    -- a call that comes after these sets it: an accepted Configuration that names it, and the profile has it, with settings
    -- within the profile; for UWB no Stop has ended its ranging since its capabilities were last given out
    pub record Sets (t : Technology) (calls : List Call) (c : Call) (x : Settings t) : Type 0 where
      pub content : Record
      pub accepted : Accepted configuration c content
      pub named : names content.set t ≡ true
      pub has : names p.set t ≡ true
      pub fit : within_profile t (capability_in p.capability t) (settings_in content.configuration t) ≡ true
      pub free : bars t ≡ true → Barred t calls → ⊥
      pub settings : settings_in content.configuration t ≡ x

    -- some accepted Configuration set it with these settings, and no accepted Stop naming it came after the last that did
    pub record LastSet (t : Technology) (calls : List Call) (x : Settings t) : Type 0 where
      pub before : List Call
      pub at : Call
      pub later : List Call
      pub split : calls ≡ before ++ at ∷ later
      pub set : Sets t before at x
      pub last : Never (Sets t) (before ++ at ∷ []) later
      pub kept : Each (λ c. Stops t c → ⊥) later

    pub record Words : Type 0 where
      pub told : (t : Technology) → ranges t ≡ true → (calls : List Call) (x : Settings t) → Ranges calls t x ↔ LastSet t calls x
      pub never : (t : Technology) → ranges t ≡ false → (calls : List Call) (x : Settings t) → Ranges calls t x → ⊥

    -- what a call that comes after these reports to firmware and phone, by its answer and the octets that it wrote
    pub record Reports (calls : List Call) (c : Call) (a : Answer) (wrote : List ℕ) : Type 0 where
      -- it is not refused exactly if it counts
      pub accepted : (a.refusal ≡ 0) ↔ Counts c
      -- the answer names as set exactly what the call sets, and as stopped exactly what it ends
      pub set : (t : Technology) → (names a.set t ≡ true) ↔ ((x : Settings t) × Sets t calls c x)
      pub stopped : (t : Technology) → (names a.stopped t ≡ true) ↔ Ends t calls c
      -- message 1 shows what was asked for, or all; message 3 says what was set and message 7 what stopped
      pub asked : (r : Record) → Accepted request c r → Shows (names r.set) wrote
      pub advertised : Advertised c → Shows (λ t. true) wrote
      pub configured : (r : Record) → Accepted configuration c r → wrote ≡ saying SetMessage.ConfigurationResponse a.set
      pub halted : (r : Record) → Accepted stop c r → wrote ≡ saying SetMessage.StopResponse a.stopped
