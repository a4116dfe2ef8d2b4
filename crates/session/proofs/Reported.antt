-- What each call of a list reports, in its answer and in what it wrote, is what it did in the customer's words.
use Prim.Native.Nat.{ℕ}
use mathlib.Core.Path.{◌≡◌, refl, sym, ap, subst, ◌∙◌}
use mathlib.Core.List.{List, [], ◌∷◌, ◌++◌, map}
use mathlib.Core.Option.{none, some}
use mathlib.Core.Logic.{◌↔◌, inl, inr}
use mathlib.Core.Bool.{Bool, true, false, cond, true≢false}
use lib.ListN.{take, drop, get_or}
use lib.Seq.{take_at}
use Rattle.std.specs.Prelude.{Ok}
use Rattle.codec.specs.Refusal.{Checked}
use Rattle.codec.specs.NormalForm.{normal}
use Rattle.codec.specs.declared.records.Capability.{Capability}
use Rattle.codec.specs.declared.records.Record.{Record}
use Rattle.codec.proofs.Outcomes.{and_true_lem, no_zero}
use Rattle.session.specs.declared.state.Profile.{Profile}
use Rattle.codec.specs.Technology.{Technology, uwb, cs, nan, rssi, names, naming}
use Rattle.codec.specs.Records.{Settings, settings_in, capability_in, only}
use Rattle.session.specs.Rules.{Call, request, configuration, stop, explicit, octets_of, replied, shows, capability_reply, Served, after, give_out, configure, ended_by, halt, set_by, answer_to, buffer_after}
use Rattle.session.specs.Ledger.{Ledger, nothing, is_some, on_ledger, ledger_call, Seen, seen_from, state_after}
use Rattle.session.specs.History.{Account, Counts, Shows, Ends, Sets, Words, Reports}
use Rattle.session.specs.Trace.{Event, seen_of, calls_of}
use Rattle.session.specs.Demand3.{held}
use Rattle.codec.proofs.SetLaws.{naming_below, names_naming}
use Rattle.session.proofs.Happened.{Happened, declined, served, advertised, happened, accepted_gives, advertised_gives}
use Rattle.session.proofs.InWords.{InForce, in_words, words_decide, set_in_words, some_of, both, is_some_lem}

nobody : {C : Type 0} (t : Technology) → names 0 t ≡ true → C
nobody t h = absurd (true≢false (sym h ∙ names_naming (λ t. false) t))

-- what a call wrote is its reply
abbrev wrote : {S : Type 0} → Checked (Served S) → List ℕ → List ℕ
wrote o b = take (answer_to o).length (buffer_after o b)

wrote_reply : {S : Type 0} (v : Served S) (b : List ℕ) → wrote (Ok v) b ≡ octets_of v.reply
unfolding replied
wrote_reply v b = take_at (octets_of v.reply) _ _ refl

if_explicit : (on : Bool) (r : Record) → octets_of (cond on (some r) none) ≡ cond on (normal r) []
if_explicit true r = refl
if_explicit false r = refl

-- a technology that the set names keeps its fields
kept : (set : ℕ) (k : Capability) (t : Technology) → names set t ≡ true → capability_in (only set k) t ≡ capability_in k t
kept set k uwb h = rw h
kept set k cs h = rw h
kept set k nan h = rw h
kept set k rssi h = rw h

shown : (p : Profile) (wanted : Technology → Bool) {l : List ℕ} → l ≡ normal (capability_reply p wanted) → Shows p wanted l
unfolding shows
shown p wanted e = record {
  reply = capability_reply p wanted;
  octets = e;
  id = refl;
  known = naming_below (shows p wanted);
  set = names_naming (shows p wanted);
  fields = kept (naming (shows p wanted)) p.capability;
}

module _ (p : Profile) (R : Account) (w : Words p R) (calls : List Call) (c : Call) where
  abbrev l : Ledger
  l = held p calls

  abbrev o : Checked (Served Ledger)
  o = ledger_call p l c

  counted : ((answer_to o).refusal ≡ 0) ↔ Counts p c
  counted = (to (happened p l c), from)
    where
      to : Happened p l c → (answer_to o).refusal ≡ 0 → Counts p c
      to (declined x e) z = absurd (no_zero x (rw e at z))
      to (served k r a) z = inl (k, (r, a))
      to (advertised d) z = inr d

      from : Counts p c → (answer_to o).refusal ≡ 0
      from (inl a) = rw (accepted_gives p l a.1.1)
      from (inr d) = rw (advertised_gives p l d)

  set_told : (t : Technology) → (names (answer_to o).set t ≡ true) ↔ ((x : Settings t) × Sets p R t calls c x)
  set_told t = (to (happened p l c), from)
    where
      to : Happened p l c → names (answer_to o).set t ≡ true → (x : Settings t) × Sets p R t calls c x
      to (declined x e) h = nobody t (rw e at h)
      to (served request r a) h = nobody t (rw (accepted_gives p l a) at h)
      to (served configuration r a) h = (settings_in r.configuration t, (set_in_words p R w calls c r a t).0 (sym (names_naming (set_by on_ledger p r.set r.configuration l) t) ∙ (rw (accepted_gives p l a) at h)))
      to (served stop r a) h = nobody t (rw (accepted_gives p l a) at h)
      to (advertised d) h = nobody t (rw (advertised_gives p l d) at h)

      from : (x : Settings t) × Sets p R t calls c x → names (answer_to o).set t ≡ true
      from s = let r = s.1.content in let a = s.1.accepted in
          rw (accepted_gives p l a) (names_naming (set_by on_ledger p r.set r.configuration l) t ∙ (set_in_words p R w calls c r a t).1 (subst (λ (y : Settings t). Sets p R t calls c y) (sym s.1.settings) s.1))

  stopped_told : (t : Technology) → (names (answer_to o).stopped t ≡ true) ↔ Ends p R t calls c
  unfolding ended_by
  stopped_told t = (to (happened p l c), from)
    where
      to : Happened p l c → names (answer_to o).stopped t ≡ true → Ends p R t calls c
      to (declined x e) h = nobody t (rw e at h)
      to (served request r a) h = nobody t (rw (accepted_gives p l a) at h)
      to (served configuration r a) h = nobody t (rw (accepted_gives p l a) at h)
      to (served stop r a) h =
          let z = and_true_lem (names r.set t) (is_some (l t).in_force) (sym (names_naming (ended_by on_ledger p r.set l) t) ∙ (rw (accepted_gives p l a) at h)) in
          some_of (l t).in_force z.1 (λ x q. record { stops = record { content = r; accepted = a; named = z.0 }; settings = x; ranged = (words_decide p (InForce p) R (in_words p) w calls t x).0 q })
      to (advertised d) h = nobody t (rw (advertised_gives p l d) at h)

      from : Ends p R t calls c → names (answer_to o).stopped t ≡ true
      from s = rw (accepted_gives p l s.stops.accepted) (names_naming (ended_by on_ledger p s.stops.content.set l) t ∙ both s.stops.named (is_some_lem ((words_decide p (InForce p) R (in_words p) w calls t s.settings).1 s.ranged)))

  told : Reports p R calls c (answer_to o) (wrote o c.lent)
  told = record {
    accepted = counted;
    set = set_told;
    stopped = stopped_told;
    asked = λ r a. rw (accepted_gives p l a) (shown p (names r.set) (wrote_reply (give_out on_ledger p (names r.set) l) c.lent));
    advertised = λ d. rw (advertised_gives p l d) (shown p (λ t. true) (wrote_reply (give_out on_ledger p (λ t. true) l) c.lent));
    configured = λ r a. rw (accepted_gives p l a) (wrote_reply (configure on_ledger p r.set r.configuration l) c.lent ∙ if_explicit (explicit p.replies) _);
    halted = λ r a. rw (accepted_gives p l a) (wrote_reply (halt on_ledger p r.set l) c.lent ∙ if_explicit (explicit p.replies) _);
  }

-- ---- of a list whose answers and buffers are the ledger's

seen_at : (p : Profile) (before : List Event) (x : Event) (later : List Event) (l : Ledger) → map seen_of (before ++ x ∷ later) ≡ seen_from (ledger_call p) l (calls_of (before ++ x ∷ later))
    → let o = ledger_call p (state_after (ledger_call p) l (calls_of before)) x.given in seen_of x ≡ record { answer = answer_to o; buffer = buffer_after o x.given.lent }
seen_at p [] x later l h = ap (λ (s : List Seen). get_or s 0 (seen_of x)) h
seen_at p (y ∷ before) x later l h = seen_at p before x later (after l (ledger_call p l y.given)) (ap (drop 1) h)

pub reported : (p : Profile) (R : Account) → Words p R → (before : List Event) (x : Event) (later : List Event)
    → map seen_of (before ++ x ∷ later) ≡ seen_from (ledger_call p) nothing (calls_of (before ++ x ∷ later)) → Reports p R (calls_of before) x.given x.answer (take x.answer.length x.left)
reported p R w before x later h =
    subst (λ (s : Seen). Reports p R (calls_of before) x.given s.answer (take s.answer.length s.buffer)) (sym (seen_at p before x later nothing h))
    (told p R w (calls_of before) x.given)
