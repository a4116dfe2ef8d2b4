-- The session record that says what a ledger holds: each call does to the one what it does to the other.
use Prim.Native.Nat.{ℕ}
use mathlib.Core.Path.{◌≡◌, refl, sym, ap, ◌∙◌, fun_ext}
use mathlib.Core.Option.{Option, none, some}
use mathlib.Core.Bool.{Bool, true, false, cond, not, ◌&&◌, ◌||◌, and-true, and-false, or-true, or-false}
use lib.Dec.{leb}
use lib.ListN.{length}
use Rattle.std.specs.Prelude.{Err, Ok}
use Rattle.codec.specs.Refusal.{Checked, and_then}
use Rattle.codec.specs.Message.{reading}
use Rattle.codec.specs.declared.records.Configuration.{Configuration}
use Rattle.codec.specs.declared.records.Record.{Record}
use Rattle.codec.proofs.Outcomes.{by_bool}
use Rattle.session.specs.declared.state.Profile.{Profile}
use Rattle.codec.specs.Technology.{Technology, uwb, cs, nan, rssi, names}
use Rattle.codec.specs.Records.{Settings, settings_in}
use Rattle.session.specs.Within.{ranges, bars}
use Rattle.session.specs.Rules.{Said, message, advertisement, Call, Kind, request, configuration, stop, kind_of, octets_of, eligible, chosen, Served, conclude, Operations, give_out, set_by, ended_by, serve, respond, call}
use Rattle.session.specs.Ledger.{Ledger, is_some, on_ledger}
use Rattle.session.specs.Session.{yes, flag, TechnologyState, state_of, state_in, mark_in, session_with, in_force_in, on_session}
use Rattle.session.specs.Demand3.{session_of}
use Rattle.session.proofs.Regular.{Regular}

-- ---- a state told by another: what is asked of both agrees, and each change goes through

pub record Follows {S T : Type 0} (on : Operations S) (under : Operations T) (f : S → T) (s : S) : Type 0 where
  pub ranging : (t : Technology) → under.ranging (f s) t ≡ on.ranging s t
  pub barred : (t : Technology) → under.barred (f s) t ≡ on.barred s t
  pub give : (has : Technology → Bool) → under.give has (f s) ≡ f (on.give has s)
  pub put : (is_set : Technology → Bool) (c : Configuration) → under.put is_set c (f s) ≡ f (on.put is_set c s)
  pub stop : (ended : Technology → Bool) → under.stop ended (f s) ≡ f (on.stop ended s)

module _ {S T : Type 0} (f : S → T) where
  abbrev carried : Served S → Served T
  carried v = record { state = f v.state; reply = v.reply; set = v.set; stopped = v.stopped }

  abbrev pub through : Checked (Served S) → Checked (Served T)
  through (Err x) = Err x
  through (Ok v) = Ok (carried v)

  module _ (on : Operations S) (under : Operations T) (p : Profile) (s : S) (F : Follows on under f s) where
    give_through : (wanted : Technology → Bool) → give_out under p wanted (f s) ≡ carried (give_out on p wanted s)
    give_through wanted = rw F.give

    set_same : (set : ℕ) (c : Configuration) → set_by under p set c (f s) ≡ set_by on p set c s
    unfolding set_by
    set_same set c = ap (λ (barred : Technology → Bool). chosen (eligible p set c barred)) (fun_ext F.barred)

    ended_same : (set : ℕ) → ended_by under p set (f s) ≡ ended_by on p set s
    unfolding ended_by
    ended_same set = fun_ext (λ t. ap (λ (x : Bool). names set t && x) (F.ranging t))

    serve_through : (k : Kind) (r : Record) → serve under p k r (f s) ≡ carried (serve on p k r s)
    serve_through request r = give_through (names r.set)
    serve_through configuration r = rw (set_same r.set r.configuration, F.put)
    serve_through stop r = rw (ended_same r.set, F.stop)

    respond_through : (x : Said) → respond under p (f s) x ≡ through (respond on p s x)
    unfolding respond
    respond_through (message m) = go (reading m)
      where
        by_kind : (r : Record) (o : Checked Kind) → (and_then o λ k. Ok (serve under p k r (f s))) ≡ through (and_then o λ k. Ok (serve on p k r s))
        by_kind r (Err x) = refl
        by_kind r (Ok k) = ap (λ (v : Served T). Ok v) (serve_through k r)

        go : (o : Checked Record) → (and_then o λ r. and_then (kind_of r.id) λ k. Ok (serve under p k r (f s))) ≡ through (and_then o λ r. and_then (kind_of r.id) λ k. Ok (serve on p k r s))
        go (Err x) = refl
        go (Ok r) = by_kind r (kind_of r.id)
    respond_through advertisement = ap (λ (v : Served T). Ok v) (give_through (λ t. true))

    pub call_through : (c : Call) → call under p (f s) c ≡ through (call on p s c)
    unfolding call conclude
    call_through c = ap (λ (o : Checked (Served T)). and_then o (conclude c.lent)) (respond_through c.said) ∙ go (respond on p s c.said)
      where
        go : (o : Checked (Served S)) → and_then (through o) (conclude c.lent) ≡ through (and_then o (conclude c.lent))
        go (Err x) = refl
        go (Ok v) = by_bool (leb (length (octets_of v.reply)) (length c.lent)) (λ t. rw t) (λ t. rw t)

-- ---- a ledger's cell told by a part of the session record

part_ranging : (t : Technology) (o : Option (Settings t)) → yes (state_of {t = t} o).ranging ≡ is_some o
part_ranging t none = refl
part_ranging t (some x) = refl

part_force : (t : Technology) (o : Option (Settings t)) → cond (yes (state_of {t = t} o).ranging) (some (state_of {t = t} o).settings) none ≡ o
part_force t none = refl
part_force t (some x) = refl

yes_flag : (m : Bool) → yes (flag m) ≡ m
yes_flag true = refl
yes_flag false = refl

module _ (p : Profile) (l : Ledger) (h : (t : Technology) → Regular t (l t)) where
  state_of_lem : (t : Technology) → state_in (session_of p l) t ≡ state_of (l t).in_force
  state_of_lem uwb = refl
  state_of_lem cs = ap state_of (sym ((h cs).still refl))
  state_of_lem nan = refl
  state_of_lem rssi = refl

  mark_of : (t : Technology) → mark_in (session_of p l) t ≡ flag (l t).mark
  mark_of uwb = refl
  mark_of cs = ap flag (sym ((h cs).free refl))
  mark_of nan = ap flag (sym ((h nan).free refl))
  mark_of rssi = ap flag (sym ((h rssi).free refl))

  pub in_force_lem : (t : Technology) → in_force_in (session_of p l) t ≡ (l t).in_force
  in_force_lem t = rw (state_of_lem t) (part_force t (l t).in_force)

  part_changed : (t : Technology) (changed : Bool) (o : Option (Settings t)) → cond changed (state_of o) (state_in (session_of p l) t) ≡ state_of (cond changed o (l t).in_force)
  part_changed t true o = refl
  part_changed t false o = state_of_lem t

  mark_given : (t : Technology) (given : Bool) → cond given 0 (mark_in (session_of p l) t) ≡ flag ((l t).mark && not given)
  mark_given t true = ap flag (sym (and-false (l t).mark))
  mark_given t false = mark_of t ∙ ap flag (sym (and-true (l t).mark))

  mark_ended : (t : Technology) (ended : Bool) → cond ended 1 (mark_in (session_of p l) t) ≡ flag ((l t).mark || ended)
  mark_ended t true = ap flag (sym (or-true (l t).mark))
  mark_ended t false = mark_of t ∙ ap flag (sym (or-false (l t).mark))

  with_same : {f g : (t : Technology) → TechnologyState t} {m n : Technology → ℕ} → ((t : Technology) → f t ≡ g t) → ((t : Technology) → m t ≡ n t) → session_with p f m ≡ session_with p g n
  with_same e q = λ i. session_with p (λ t. e t i) (λ t. q t i)

  pub session_follows : Follows on_ledger on_session (session_of p) l
  session_follows = record {
    ranging = λ t. rw (state_of_lem t) (part_ranging t (l t).in_force);
    barred = λ t. rw (mark_of t) (yes_flag (l t).mark);
    give = λ has. with_same state_of_lem (λ t. mark_given t (has t));
    put = λ is_set c. with_same (λ t. part_changed t (ranges t && is_set t) (some (settings_in c t))) mark_of;
    stop = λ ended. with_same (λ t. part_changed t (ended t) none) (λ t. mark_ended t (bars t && ended t));
  }
