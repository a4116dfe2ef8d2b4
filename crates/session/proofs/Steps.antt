-- From what the codec's writers promise to what a call gives.
use Prim.Native.Nat.{ℕ, ◌<◌}
use native.Mathlib.Omega.{arith}
use mathlib.Core.Path.{◌≡◌, refl, sym, ap, subst, fun_ext, ◌∙◌}
use mathlib.Core.List.{List, [], ◌∷◌}
use mathlib.Core.Option.{some}
use mathlib.Core.Bool.{Bool, true, false, cond, not, ◌&&◌, ◌||◌, and-false, true≢false}
use lib.Dec.{eqb, ltb, leb}
use lib.ListN.{length}
use borrow.Author.Tests.{lt-ltb, ne_eqb, eqb-true}
use Rattle.codec.specs.Layout.{Layout, Values}
use Rattle.std.specs.Prelude.{Err, Ok}
use Rattle.codec.specs.Refusal.{Checked, demand, and_then, number_of}
use Rattle.codec.specs.declared.refusal.Refusal.{Refusal}
use Rattle.codec.specs.declared.refusal.Refusal.TheVariants.{NotForTag, NotValid}
use Rattle.codec.specs.Blocks.{capabilities, configurations, cell}
use Rattle.codec.specs.Records.{blank, response, only, set_record, fields}
use Rattle.codec.specs.Message.{reading}
use Rattle.codec.specs.Inner.Places.{settings_at, Hears}
use Rattle.codec.specs.NormalForm.{normal}
use Rattle.codec.specs.Valid.{valid_fields, valid_column, valid}
use Rattle.codec.specs.Writing.{writing, Writes}
use Rattle.codec.specs.declared.records.Configuration.{Configuration}
use Rattle.codec.specs.declared.records.Record.{Record}
use Rattle.codec.specs.declared.records.Heard.{Heard}
use Rattle.codec.specs.declared.records.SetMessage.{SetMessage}
use Rattle.codec.specs.declared.records.Written.{Written}
use Rattle.codec.proofs.Outcomes.{by_bool, and_true_lem}
use Rattle.codec.proofs.Every.{a_technology, every_at, every_all}
use Rattle.codec.proofs.ValidCases.{response_valid, used_fields, only_valid, set_valid, response_of}
use Rattle.session.specs.declared.state.Profile.{Profile}
use Rattle.session.specs.declared.state.Session.{Session}
use Rattle.session.specs.declared.state.Answer.{Answer}
use Rattle.codec.specs.Technology.{technologies, set_limit, Technology, uwb, names, naming, bit, of_bits, in_both}
use Rattle.session.specs.Rules.{valid_profile, message, advertisement, Call, Kind, request, configuration, stop, kind_of, octets_of, replied, shows, capability_reply, Served, conclude, give_out, configure, set_by, ended_by, halt, serve, respond, call}
use Rattle.session.specs.Session.{yes, on_session, session_call, Gives, as_profile, profile_of}
use Rattle.session.specs.Inner.Replies.{Delivers, settle, Answers}
use Rattle.codec.proofs.SetLaws.{naming_below, names_naming}

-- a refusal, which leaves session and buffer
abbrev Refuses : Session → Checked (Served Session) → List ℕ → ℕ → Type 0
Refuses s o b n = Gives s o b (record { refusal = n; length = 0; set = 0; stopped = 0 }) s b

refuses : {s : Session} {b : List ℕ} (x : Refusal) → Refuses s (Err x) b (number_of x)
refuses x = record { answer = refl; session = refl; buffer = refl }

-- ---- a valid reply is delivered

delivered : (r : Record) {b e : List ℕ} {w : Written} → valid r ≡ true → Writes r b w e → Delivers (some r) b w e
unfolding writing
delivered r v h = record { answers = rw v at h.answers; leaves = rw v at h.leaves }

pub set_delivered : (m : SetMessage) {set : ℕ} {b e : List ℕ} {w : Written} → set < 16 → Writes (set_record m set) b w e → Delivers (some (set_record m set)) b w e
set_delivered m {set} l h = delivered (set_record m set) (set_valid m set ∙ lt-ltb set 16 l) h

-- fields that are valid where the profile names them are so where the reply does
valid_shown : (L : Layout) (v : Values L) (has named : Bool) → (has ≡ true → named ≡ true) → valid_fields L named v ≡ true → (not has || valid_fields L true v) ≡ true
valid_shown L v false named i e = refl
valid_shown L v true true i e = e
valid_shown L v true false i e = absurd (true≢false (sym (i refl)))

module _ (p : Profile) (wanted : Technology → Bool) (v : valid_profile p ≡ true) where
  has : (t : Technology) → shows p wanted t ≡ true → names p.set t ≡ true
  unfolding shows
  has t e = (and_true_lem (wanted t) (names p.set t) e).1

  reply_valid : valid (capability_reply p wanted) ≡ true
  unfolding valid_profile valid_column
  reply_valid =
      let f = shows p wanted in
      let k = p.capability in
      let w = rw (response_valid p.set k) at (and_true_lem (valid (response p.set k)) (ltb p.replies 3) v).0 in
      let c = (and_true_lem (ltb p.set set_limit) (valid_column capabilities p.set k) w).1 in
      rw (
        only_valid (naming f) k,
        lt-ltb (naming f) set_limit (naming_below f),
        every_all (used_fields (naming f) k) technologies λ t. rw (names_naming f t)
            (valid_shown (cell capabilities t) (fields capabilities k t) (f t) (names p.set t) (has t) (every_at (λ t. valid_fields (cell capabilities t) (names p.set t) (fields capabilities k t)) t c (a_technology t))),
      )

-- the blocks that the code chooses, by the bits of two sets
capabilities_delivered : (p : Profile) (wanted : ℕ) {set : ℕ} {b e : List ℕ} {w : Written} → valid_profile p ≡ true
    → set ≡ naming (in_both wanted p.set)
    → Writes (response set (only set p.capability)) b w e → Delivers (some (capability_reply p (names wanted))) b w e
unfolding shows
capabilities_delivered p wanted v k h = delivered (capability_reply p (names wanted)) (reply_valid p (names wanted) v) (rw k at h)

-- ---- and the call goes as the writer says

module _ (v : Served Session) {b e : List ℕ} {w : Written} (d : Delivers v.reply b w e) where
  pub settled : Answers (conclude b v) b (settle w v.set v.stopped) e
  unfolding conclude replied
  settled = by_bool (leb (length (octets_of v.reply)) (length b))
      (λ t. record { answer = rw (d.answers, t); buffer = rw (d.leaves, t) })
      (λ f. record { answer = rw (d.answers, f); buffer = rw (d.leaves, f) })

-- what a Capability Response gives out, if it is written
module _ (s : Session) (wanted : ℕ) {blocks : ℕ} {n : Session} {b e : List ℕ} {w : Written}
    (k : blocks ≡ naming (in_both wanted s.profile.set))
    (q : n ≡ on_session.give (names (cond (eqb w.refusal 0) blocks 0)) s)
    (v : valid_profile s.profile ≡ true) (h : Writes (response blocks (only blocks s.profile.capability)) b w e) where
  pub given : Gives s (conclude b (give_out on_session s.profile (names wanted) s)) b (settle w 0 0) n e
  unfolding conclude shows
  given = let f = shows s.profile (names wanted) in
      let d = capabilities_delivered s.profile wanted v k h in
      let a = settled (give_out on_session s.profile (names wanted) s) d in
      record {
        answer = a.answer;
        session = q ∙ by_bool (leb (length (normal (capability_reply s.profile (names wanted)))) (length b))
            (λ t. rw (d.answers, t, k, names_naming f uwb))
            (λ t. rw (d.answers, t));
        buffer = a.buffer;
      }

-- the answer says what is set, or stopped, and that is what happens to the session
module _ (s : Session) (set : ℕ) {b e : List ℕ} {a : Answer} {n : Session} where
  pub now_configured : (c : Configuration) → Answers (conclude b (configure on_session s.profile set c s)) b a e → n ≡ on_session.put (names a.set) c s
      → Gives s (conclude b (configure on_session s.profile set c s)) b a n e
  unfolding conclude
  now_configured c g k = let f = set_by on_session s.profile set c s in
      record {
        answer = g.answer;
        session = k ∙ rw g.answer (by_bool (leb (length (octets_of (configure on_session s.profile set c s).reply)) (length b))
            (λ t. rw t (ap (λ (h : Technology → Bool). on_session.put h c s) (fun_ext (names_naming f))))
            (λ t. rw t));
        buffer = g.buffer;
      }

  pub now_halted : Answers (conclude b (halt on_session s.profile set s)) b a e → n ≡ on_session.stop (names a.stopped) s
      → Gives s (conclude b (halt on_session s.profile set s)) b a n e
  unfolding conclude
  now_halted g k = let f = ended_by on_session s.profile set s in
      record {
        answer = g.answer;
        session = k ∙ rw g.answer (by_bool (leb (length (octets_of (halt on_session s.profile set s).reply)) (length b))
            (λ t. rw t (ap (λ (h : Technology → Bool). on_session.stop h s) (fun_ext (names_naming f))))
            (λ t. rw t));
        buffer = g.buffer;
      }

-- ---- what a Stop ends, where CS is never ranging

pub ended_set : (p : Profile) (set : ℕ) (s : Session) → of_bits ((bit set 0 && yes s.uwb.ranging) ∷ false ∷ (bit set 2 && yes s.nan.ranging) ∷ (bit set 3 && yes s.rssi.ranging) ∷ []) ≡ naming (ended_by on_session p set s)
unfolding ended_by
ended_set p set s = rw (and-false (bit set 1))

-- ---- by the profile and the reading

pub invalid : (s : Session) (c : Call) → valid_profile s.profile ≡ false → Refuses s (session_call s c) c.lent 12
unfolding session_call
invalid s c h = rw h (refuses NotValid)

-- the kind of message 2
configured : (id : ℕ) → kind_of id ≡ Ok configuration → id ≡ 2
configured id e = by_bool (eqb id 2) (λ y. eqb-true id 2 y) (λ n. absurd (go (eqb id 0) (eqb id 6) (rw n at e)))
  where
    go : (a c : Bool) → ◌≡◌ {A = Checked Kind} (cond a (Ok request) (cond c (Ok stop) (Err NotForTag))) (Ok configuration) → ⊥
    go true c e = let z : ◌≡◌ {A = ℕ} 0 1 = cc in omega arith
    go false true e = let z : ◌≡◌ {A = ℕ} 0 1 = cc in omega arith
    go false false e = let z : ◌≡◌ {A = ℕ} 0 1 = cc in omega arith

-- all that the kinds look at
abbrev tagged : Heard → List ℕ → Record
tagged h m = record { id = h.id; set = h.set; capability = blank capabilities; configuration = settings_at h m }

module _ (s : Session) (m b : List ℕ) where
  abbrev given_message : Checked (Served Session)
  given_message = session_call s (record { said = message m; lent = b })

  abbrev by_reading : Bool → Checked Record → Checked (Served Session)
  by_reading v o = demand v NotValid (and_then (and_then o λ r. and_then (kind_of r.id) λ k. Ok (serve on_session s.profile k r s)) (conclude b))

  pub not_heard : (x : Refusal) → Hears (demand (valid_profile s.profile) NotValid (reading m)) m (Err x) → Refuses s given_message b (number_of x)
  unfolding session_call call respond
  not_heard x h = go (valid_profile s.profile) (reading m) h
    where
      same : (y : Refusal) → ◌≡◌ {A = Checked Heard} (Err x) (Err y) → Refuses s (Err y) b (number_of x)
      same y q = let e : ◌≡◌ {A = Refusal} x y = cc in rw e (refuses y)

      go : (v : Bool) (o : Checked Record) → Hears (demand v NotValid o) m (Err x) → Refuses s (by_reading v o) b (number_of x)
      go false o q = same NotValid q
      go true (Err y) q = same y q
      go true (Ok r) q = absurd q

  module _ (a : Heard) (h : Hears (demand (valid_profile s.profile) NotValid (reading m)) m (Ok a)) where
    abbrev by_kind : Checked (Served Session)
    by_kind = and_then (kind_of a.id) λ k. conclude b (serve on_session s.profile k (tagged a m) s)

    pub was_heard : (valid_profile s.profile ≡ true) × (given_message ≡ by_kind)
    unfolding session_call call respond
    was_heard = go (valid_profile s.profile) (reading m) h
      where
        refused : (x : Refusal) → ◌≡◌ {A = Checked Heard} (Ok a) (Err x) → ⊥
        refused x q = let z : ◌≡◌ {A = ℕ} 0 1 = cc in omega arith

        -- only a Configuration's settings are looked at
        same : (r : Record) → Hears (Ok r) m (Ok a) → (k : Kind) → kind_of a.id ≡ Ok k → serve on_session s.profile k r s ≡ serve on_session s.profile k (tagged a m) s
        same r q request e = ap (λ (n : ℕ). serve on_session s.profile request (record { id = 0; set = n; capability = blank capabilities; configuration = blank configurations }) s) (sym q.set)
        same r q configuration e = λ i. configure on_session s.profile (sym q.set i) (sym (q.settings (configured a.id e)) i) s
        same r q stop e = ap (λ (n : ℕ). halt on_session s.profile n s) (sym q.set)

        of : (r : Record) → Hears (Ok r) m (Ok a) → (o : Checked Kind) → kind_of a.id ≡ o
            → and_then (and_then o λ k. Ok (serve on_session s.profile k r s)) (conclude b) ≡ (and_then o λ k. conclude b (serve on_session s.profile k (tagged a m) s))
        of r q (Err x) e = refl
        of r q (Ok k) e = ap (conclude b) (same r q k e)

        go : (v : Bool) (o : Checked Record) → Hears (demand v NotValid o) m (Ok a) → (v ≡ true) × (by_reading v o ≡ by_kind)
        go false o q = absurd (refused NotValid q)
        go true (Err x) q = absurd (refused x q)
        go true (Ok r) q = (refl, ap (λ (i : ℕ). and_then (and_then (kind_of i) λ k. Ok (serve on_session s.profile k r s)) (conclude b)) (sym q.id) ∙ of r q (kind_of a.id) refl)

    pub a_message : {k : Kind} {x : Answer} {n : Session} {e : List ℕ} → kind_of a.id ≡ Ok k → Gives s (conclude b (serve on_session s.profile k (tagged a m) s)) b x n e → Gives s given_message b x n e
    a_message i g = rw (was_heard.1, i) g

    pub another : (a.id ≡ 0 → ⊥) → (a.id ≡ 2 → ⊥) → (a.id ≡ 6 → ⊥) → Refuses s given_message b 10
    another h k l = rw (was_heard.1, ne_eqb a.id 0 h, ne_eqb a.id 2 k, ne_eqb a.id 6 l) (refuses NotForTag)

-- an advertisement wants every technology
pub advertised : (s : Session) (b : List ℕ) → valid_profile s.profile ≡ true → {x : Answer} {n : Session} {e : List ℕ} → Gives s (conclude b (give_out on_session s.profile (names 15) s)) b x n e
    → Gives s (session_call s (record { said = advertisement; lent = b })) b x n e
unfolding session_call call respond
advertised s b v {x} {n} {e} g = rw v (subst (λ (f : Technology → Bool). Gives s (conclude b (give_out on_session s.profile f s)) b x n e) (fun_ext (names_naming (λ t. true))) g)

-- ---- the start

module _ (r : Record) (n : ℕ) where
  abbrev pub is_profile : Bool
  is_profile = (eqb r.id 1 && valid r) && ltb n 3

  pub start_refused : is_profile ≡ false → profile_of r n ≡ Err NotValid
  unfolding profile_of
  start_refused h = rw h

  pub start_accepted : is_profile ≡ true → profile_of r n ≡ Ok (as_profile r n)
  unfolding profile_of
  start_accepted h = rw h

-- what `start` tests
pub start_tested : (r : Record) → ((eqb r.id 1 && valid (response r.set r.capability)) && valid_column configurations 0 r.configuration) ≡ (eqb r.id 1 && valid r)
start_tested r = by_bool (eqb r.id 1) (λ y. rw (y, response_of r (eqb-true r.id 1 y))) (λ n. rw n)
