-- What the ledger holds after a list of calls, in the customer's words; and these words leave nothing open.
use Prim.Native.Nat.{ℕ, zero, suc, ◌+◌, ◌≤◌, ◌<◌}
use native.Mathlib.Omega.{arith}
use mathlib.Core.Path.{◌≡◌, refl, sym, ap, subst, ◌∙◌}
use mathlib.Core.List.{List, [], ◌∷◌, ◌++◌, append_assoc}
use mathlib.Core.Option.{Option, none, some, none-ne-some}
use mathlib.Core.Logic.{◌↔◌, inl, inr}
use mathlib.Core.Bool.{Bool, true, false, cond, not, ◌&&◌, true≢false, and-true as Bool·and-true, and-false, or-true, or-false}
use lib.ListN.{length, length-append}
use borrow.Author.Tests.{not-true}
use Rattle.std.specs.Prelude.{Ok}
use Rattle.codec.specs.Refusal.{Checked}
use Rattle.codec.specs.WellFormed.{Has}
use Rattle.codec.specs.NormalForm.{blocks_of}
use Rattle.codec.specs.declared.records.Record.{Record}
use Rattle.codec.proofs.Risings.{response_has}
use Rattle.codec.proofs.Outcomes.{by_bool, and_true_lem}
use Rattle.session.specs.declared.state.Profile.{Profile}
use Rattle.codec.specs.Technology.{Technology, technology_id, naming, names}
use Rattle.codec.specs.Records.{Settings, settings_in, capability_in, only}
use Rattle.session.specs.Within.{ranges, bars, within_profile}
use Rattle.session.specs.Rules.{Call, Kind, request, configuration, stop, Served, after, shows, capability_reply, give_out, eligible, set_by, ended_by}
use Rattle.session.specs.Ledger.{Ledger, nothing, is_some, on_ledger, ledger_call, state_after}
use Rattle.session.specs.History.{Account, Accepted, Counts, Stops, GivesOut, in_reply, in_advertisement, Never, Ends, Barred, Sets, LastSet, Words}
use Rattle.session.specs.Demand3.{held}
use Rattle.codec.proofs.SetLaws.{names_naming}
use Rattle.session.proofs.Last.{Turn, puts, drops, leaves, stays, by_history}
use Rattle.session.proofs.Happened.{Happened, declined, served, advertised, happened, rank, same_content, same_kind, no_advertisement, accepted_gives, advertised_gives, refused_not}
use Rattle.session.proofs.Regular.{regular}

pub both : {a b : Bool} → a ≡ true → b ≡ true → (a && b) ≡ true
both x y = rw (x, y)

clash : {a : Bool} {C : Type 0} → a ≡ true → a ≡ false → C
clash t f = absurd (true≢false (sym t ∙ f))

pub some_of : {A C : Type 0} (o : Option A) → is_some o ≡ true → ((x : A) → o ≡ some x → C) → C
some_of none h k = absurd (true≢false (sym h))
some_of (some x) h k = k x refl

pub is_some_lem : {A : Type 0} {o : Option A} {x : A} → o ≡ some x → is_some o ≡ true
is_some_lem h = ap is_some h

-- named, it is not there afterwards, whether it was there or not
gone : {A : Type 0} (n : Bool) (o : Option A) → n ≡ true → cond (n && is_some o) none o ≡ none
gone true none h = refl
gone true (some x) h = refl
gone false o h = absurd (true≢false (sym h))

state_snoc : (p : Profile) (l : Ledger) (calls : List Call) (c : Call) → state_after (ledger_call p) l (calls ++ c ∷ []) ≡ after (state_after (ledger_call p) l calls) (ledger_call p (state_after (ledger_call p) l calls) c)
state_snoc p l [] c = refl
state_snoc p l (d ∷ calls) c = state_snoc p (after l (ledger_call p l d)) calls c

-- a mark as something that is there or not
abbrev flagged : Bool → Option (Unit {0})
flagged true = some tt
flagged false = none

unflag : (m : Bool) → flagged m ≡ some tt → m ≡ true
unflag true h = refl
unflag false h = absurd (none-ne-some tt h)

-- a reply holds a technology's block exactly if the call names it and the profile has it
pub reply_holds : (p : Profile) (wanted : Technology → Bool) (t : Technology) → Has (technology_id t) (blocks_of (capability_reply p wanted)) ↔ (shows p wanted t ≡ true)
reply_holds p wanted t =
    let f = shows p wanted in
    let q = response_has (naming f) (only (naming f) p.capability) t in
    (λ h. sym (names_naming f t) ∙ q.0 h, λ e. q.1 (names_naming f t ∙ e))

module _ (p : Profile) where
  -- the ledger's account of what ranges
  abbrev pub InForce : Account
  InForce calls t x = (held p calls t).in_force ≡ some x

  -- the ledger after a call that leads to `o`
  held_after : (before : List Call) (c : Call) {o : Checked (Served Ledger)} → ledger_call p (held p before) c ≡ o → held p (before ++ c ∷ []) ≡ after (held p before) o
  held_after before c e = state_snoc p nothing before c ∙ ap (λ (o : Checked (Served Ledger)). after (held p before) o) e

  module _ (t : Technology) where
    given_counts : {c : Call} → GivesOut p t c → Counts p c
    given_counts (in_reply r a h) = inl (request, (r, a))
    given_counts (in_advertisement d h) = inr d

    -- a Configuration or a Stop gives out nothing
    none_given : {k : Kind} {c : Call} {r : Record} → Accepted p k c r → (rank k ≡ 0 → ⊥) → GivesOut p t c → ⊥
    none_given a f (in_reply q b h) = f (same_kind a b)
    none_given a f (in_advertisement d h) = no_advertisement d a

    -- ---- the mark, of a technology that a Stop bars

    module _ (barring : bars t ≡ true) where
      abbrev mark : List Call → Option (Unit {0})
      mark calls = flagged (held p calls t).mark

      abbrev Puts : List Call → Call → Unit {0} → Type 0
      Puts before c u = Ends p InForce t before c

      module _ (before : List Call) (c : Call) where
        abbrev l : Ledger
        l = held p before

        marked : {o : Checked (Served Ledger)} → ledger_call p l c ≡ o → mark (before ++ c ∷ []) ≡ flagged (after l o t).mark
        marked e = ap (λ (k : Ledger). flagged (k t).mark) (held_after before c e)

        put_mark : (u : Unit {0}) → Puts before c u → mark (before ++ c ∷ []) ≡ some u
        unfolding ended_by
        put_mark u e = marked (accepted_gives p l e.stops.accepted) ∙ rw (barring, e.stops.named, e.ranged, or-true (l t).mark)

        given : (wanted : Technology → Bool) → ledger_call p l c ≡ Ok (give_out on_ledger p wanted l) → (shows p wanted t ≡ true → GivesOut p t c) → (GivesOut p t c → shows p wanted t ≡ true) → (Ends p InForce t before c → ⊥) → Turn mark Puts (GivesOut p t) before c
        given wanted e to from un = by_bool (shows p wanted t)
            (λ y. drops (to y) (marked e ∙ rw (y, and-false (l t).mark)))
            (λ n. leaves (λ g. clash (from g) n) (λ u. un) (marked e ∙ rw (n, Bool·and-true (l t).mark)))

        turn_mark : Happened p l c → Turn mark Puts (GivesOut p t) before c
        unfolding ended_by
        turn_mark (declined x e) = leaves (λ g. refused_not p l e (given_counts g)) (λ u h. refused_not p l e (inl (stop, (_, h.stops.accepted)))) (marked e)
        turn_mark (served request r a) = given (names r.set) (accepted_gives p l a) (λ y. in_reply r a ((reply_holds p (names r.set) t).1 y)) shown (λ h. omega (arith, same_kind a h.stops.accepted))
          where
            shown : GivesOut p t c → shows p (names r.set) t ≡ true
            shown (in_reply q b h) = ap (λ (x : Record). shows p (names x.set) t) (same_content a b) ∙ (reply_holds p (names q.set) t).0 h
            shown (in_advertisement d h) = absurd (no_advertisement d a)
        turn_mark (served configuration r a) = leaves (none_given a (λ e. omega (arith, e))) (λ u h. omega (arith, same_kind a h.stops.accepted)) (marked (accepted_gives p l a))
        turn_mark (served stop r a) = by_bool (names r.set t && is_some (l t).in_force)
            (λ y.
            let w = and_true_lem (names r.set t) (is_some (l t).in_force) y in
            some_of (l t).in_force w.1 (λ x q. puts tt (record { stops = record { content = r; accepted = a; named = w.0 }; settings = x; ranged = q })))
            (λ n. leaves (none_given a (λ e. omega (arith, e)))
            (λ u h. clash (both (ap (λ (x : Record). names x.set t) (same_content a h.stops.accepted) ∙ h.stops.named) (is_some_lem h.ranged)) n)
            (marked (accepted_gives p l a) ∙ rw (barring, n, or-false (l t).mark)))
        turn_mark (advertised d) = given (λ t. true) (advertised_gives p l d) (λ y. in_advertisement d ((reply_holds p (λ t. true) t).1 y)) shown (λ h. no_advertisement d h.stops.accepted)
          where
            shown : GivesOut p t c → shows p (λ t. true) t ≡ true
            shown (in_reply r a h) = absurd (no_advertisement d a)
            shown (in_advertisement f h) = (reply_holds p (λ t. true) t).0 h

      turns : (before : List Call) (c : Call) → Turn mark Puts (GivesOut p t) before c
      turns before c = turn_mark before c (happened p (held p before) c)

      -- it stands exactly if a Stop has ended its ranging since its capabilities were last given out
      barred_marked : (calls : List Call) → Barred p InForce t calls → (held p calls t).mark ≡ true
      barred_marked calls b =
          unflag (held p calls t).mark (ap mark (b.split ∙ sym (append_assoc b.before (b.at ∷ []) b.since))
          ∙ stays mark Puts (GivesOut p t) turns put_mark (λ u v. refl) b.since (b.before ++ b.at ∷ []) tt b.withheld (put_mark b.before b.at tt b.ends))

      marked_barred : (calls : List Call) → (held p calls t).mark ≡ true → Barred p InForce t calls
      unfolding nothing
      marked_barred calls h =
          let q = (by_history mark Puts (GivesOut p t) turns put_mark refl calls tt).0 (ap flagged h) in
          record { before = q.before; at = q.at; since = q.later; split = q.split; ends = q.put; withheld = q.kept }

    -- ---- what a Configuration sets

    unmarked : (before : List Call) → (bars t ≡ true → Barred p InForce t before → ⊥) → (held p before t).mark ≡ false
    unmarked before f = by_bool (bars t) (λ y. by_bool (held p before t).mark (λ m. absurd (f y (marked_barred y before m))) (λ n. n)) (regular p t before).free

    -- an accepted Configuration sets it exactly if the rules say so
    module _ (before : List Call) (c : Call) (r : Record) (a : Accepted p configuration c r) where
      pub rule : (x : Settings t) → Sets p InForce t before c x → set_by on_ledger p r.set r.configuration (held p before) t ≡ true
      unfolding set_by eligible
      rule x h =
          let q = sym (same_content a h.accepted) in
          subst (λ (y : Record). (names y.set t && (names p.set t && (within_profile t (capability_in p.capability t) (settings_in y.configuration t) && not (held p before t).mark))) ≡ true) q
          (both h.named (both h.has (both h.fit (rw (unmarked before h.free)))))

      pub ruled : set_by on_ledger p r.set r.configuration (held p before) t ≡ true → Sets p InForce t before c (settings_in r.configuration t)
      unfolding set_by eligible
      ruled h =
          let u = and_true_lem (names r.set t) _ h in
          let v = and_true_lem (names p.set t) _ u.1 in
          let w = and_true_lem (within_profile t (capability_in p.capability t) (settings_in r.configuration t)) (not (held p before t).mark) v.1 in
          record { content = r; accepted = a; named = u.0; has = v.0; fit = w.0; free = λ y b. clash (barred_marked y before b) (not-true (held p before t).mark w.1); settings = refl }

    -- ---- the settings in force, of a technology that the tag ranges with

    module _ (ranging : ranges t ≡ true) where
      abbrev force : List Call → Option (Settings t)
      force calls = (held p calls t).in_force

      module _ (before : List Call) (c : Call) where
        abbrev k : Ledger
        k = held p before

        forced : {o : Checked (Served Ledger)} → ledger_call p k c ≡ o → force (before ++ c ∷ []) ≡ (after k o t).in_force
        forced e = ap (λ (m : Ledger). (m t).in_force) (held_after before c e)

        put_force : (x : Settings t) → Sets p InForce t before c x → force (before ++ c ∷ []) ≡ some x
        put_force x s = forced (accepted_gives p k s.accepted) ∙ rw (ranging, rule before c s.content s.accepted x s, s.settings)

        turn_force : Happened p k c → Turn force (Sets p InForce t) (Stops p t) before c
        unfolding ended_by
        turn_force (declined x e) = leaves (λ s. refused_not p k e (inl (stop, (_, s.accepted)))) (λ x s. refused_not p k e (inl (configuration, (_, s.accepted)))) (forced e)
        turn_force (served request r a) = leaves (λ s. omega (arith, same_kind a s.accepted)) (λ x s. omega (arith, same_kind a s.accepted)) (forced (accepted_gives p k a))
        turn_force (served configuration r a) = by_bool (set_by on_ledger p r.set r.configuration k t)
            (λ y. puts (settings_in r.configuration t) (ruled before c r a y))
            (λ n. leaves (λ s. omega (arith, same_kind a s.accepted)) (λ x s. clash (rule before c r a x s) n) (forced (accepted_gives p k a) ∙ rw (ranging, n)))
        turn_force (served stop r a) = by_bool (names r.set t)
            (λ y. drops (record { content = r; accepted = a; named = y }) (forced (accepted_gives p k a) ∙ gone (names r.set t) (k t).in_force y))
            (λ n. leaves (λ s. clash (ap (λ (q : Record). names q.set t) (same_content a s.accepted) ∙ s.named) n) (λ x s. omega (arith, same_kind a s.accepted)) (forced (accepted_gives p k a) ∙ rw n))
        turn_force (advertised d) = leaves (λ s. no_advertisement d s.accepted) (λ x s. no_advertisement d s.accepted) (forced (advertised_gives p k d))

      told : (calls : List Call) (x : Settings t) → InForce calls t x ↔ LastSet p InForce t calls x
      unfolding nothing
      told calls x =
          let h = by_history force (Sets p InForce t) (Stops p t) (λ before c. turn_force before c (happened p (held p before) c)) put_force refl calls x in (
            λ e. let q = h.0 e in record { before = q.before; at = q.at; later = q.later; split = q.split; set = q.put; last = q.last; kept = q.kept },
            λ q. h.1 (record { before = q.before; at = q.at; later = q.later; split = q.split; put = q.set; last = q.last; kept = q.kept }),
          )

  -- what the ledger holds is told by the words
  pub in_words : Words p InForce
  in_words = record { told = told; never = λ t still calls x e. none-ne-some x (sym ((regular p t calls).still still) ∙ e) }

-- ---- the words leave nothing open: two accounts that keep to them are the same

module _ (p : Profile) where
  abbrev Within : ℕ → Account → Account → Type 0
  Within n R S = (calls : List Call) → length calls < n → (t : Technology) (x : Settings t) → R calls t x → S calls t x

  module _ (R S : Account) (n : ℕ) (to : Within n R S) (back : Within n S R) where
    barred_same : (t : Technology) (calls : List Call) → length calls ≤ n → Barred p S t calls → Barred p R t calls
    barred_same t calls l b = record {
      before = b.before;
      at = b.at;
      since = b.since;
      split = b.split;
      ends = record {
        stops = b.ends.stops;
        settings = b.ends.settings;
        ranged = back b.before (omega (arith, l, ap length b.split, length-append b.before (b.at ∷ b.since))) t b.ends.settings b.ends.ranged;
      };
      withheld = b.withheld;
    }

    sets_same : (t : Technology) (calls : List Call) (c : Call) (x : Settings t) → length calls ≤ n → Sets p R t calls c x → Sets p S t calls c x
    sets_same t calls c x l s = record {
      content = s.content;
      accepted = s.accepted;
      named = s.named;
      has = s.has;
      fit = s.fit;
      free = λ y b. s.free y (barred_same t calls l b);
      settings = s.settings;
    }

  module _ (R S : Account) (n : ℕ) (to : Within n R S) (back : Within n S R) where
    never_same : (t : Technology) (later done : List Call) → length done + length later ≤ n → Never (Sets p R t) done later → Never (Sets p S t) done later
    never_same t [] done l k = tt
    never_same t (c ∷ later) done l k = (
      λ x s. k.0 x (sets_same S R n back to t done c x (omega (arith, l)) s),
      never_same t later (done ++ c ∷ []) (omega (arith, l, length-append done (c ∷ []))) k.1,
    )

    last_same : (t : Technology) (calls : List Call) (x : Settings t) → length calls ≤ n → LastSet p R t calls x → LastSet p S t calls x
    last_same t calls x l q =
        let m = ap length q.split ∙ length-append q.before (q.at ∷ q.later) in
        record {
          before = q.before;
          at = q.at;
          later = q.later;
          split = q.split;
          set = sets_same R S n to back t q.before q.at x (omega (arith, l, m)) q.set;
          last = never_same t q.later (q.before ++ q.at ∷ []) (omega (arith, l, m, length-append q.before (q.at ∷ []))) q.last;
          kept = q.kept;
        }

    step : Words p R → Words p S → Within (suc n) R S
    step u v calls l t x h =
        by_bool (ranges t)
        (λ y. (v.told t y calls x).1 (last_same t calls x (omega (arith, l)) ((u.told t y calls x).0 h)))
        (λ f. absurd (u.never t f calls x h))

  module _ (R S : Account) (u : Words p R) (v : Words p S) where
    same : (n : ℕ) → Within n R S × Within n S R
    same zero = (λ calls l. absurd (omega (arith, l)), λ calls l. absurd (omega (arith, l)))
    same (suc n) = let q = same n in (step R S n q.0 q.1 u v, step S R n q.1 q.0 v u)

    pub words_decide : (calls : List Call) (t : Technology) (x : Settings t) → R calls t x ↔ S calls t x
    words_decide calls t x =
        let q = same (suc (length calls)) in
        (q.0 calls (omega arith) t x, q.1 calls (omega arith) t x)

  -- what an accepted Configuration sets by the rules is what it sets in these words
  pub set_in_words : (R : Account) → Words p R → (calls : List Call) (c : Call) (r : Record) → Accepted p configuration c r → (t : Technology)
      → (set_by on_ledger p r.set r.configuration (held p calls) t ≡ true) ↔ Sets p R t calls c (settings_in r.configuration t)
  set_in_words R w calls c r a t =
      let q = same (InForce p) R (in_words p) w (length calls) in
      let l : length calls ≤ length calls = omega arith in
      let x = settings_in r.configuration t in (
        λ h. sets_same (InForce p) R (length calls) q.0 q.1 t calls c x l (ruled p t calls c r a h),
        λ s. rule p t calls c r a x (sets_same R (InForce p) (length calls) q.1 q.0 t calls c x l s),
      )
