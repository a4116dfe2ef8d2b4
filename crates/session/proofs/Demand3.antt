-- Demand 3, over every list of calls that keep their contracts, from the session that an accepted start returned.
use Prim.Native.Nat.{ℕ}
use mathlib.Core.Path.{◌≡◌, sym, ap, subst, ◌∙◌}
use mathlib.Core.List.{List, map}
use mathlib.Core.Bool.{true, ◌&&◌}
use lib.Dec.{eqb, ltb}
use borrow.Author.Tests.{eqb-true}
use Rattle.codec.specs.declared.refusal.Refusal.TheVariants.{NotValid}
use Rattle.codec.specs.Records.{response}
use Rattle.codec.specs.Valid.{valid}
use Rattle.codec.specs.declared.records.Record.{Record}
use Rattle.codec.proofs.Outcomes.{by_bool, and_true_lem, no_zero}
use Rattle.codec.proofs.ValidCases.{response_of}
use Rattle.session.specs.declared.state.Profile.{Profile}
use Rattle.session.specs.declared.state.Session.{Session}
use Rattle.session.specs.declared.state.Started.{Started}
use Rattle.codec.specs.Technology.{Technology}
use Rattle.session.specs.Rules.{valid_profile}
use Rattle.session.specs.Ledger.{nothing, ledger_call, seen_from}
use Rattle.session.specs.Session.{in_force_in, fresh, as_profile, started}
use Rattle.session.specs.Trace.{Event, seen_of, Ran, calls_of}
use Rattle.session.specs.Demand3.{held, Upheld, Demand3}
use Rattle.session.proofs.Steps.{is_profile, start_refused, start_accepted}
use Rattle.session.proofs.Regular.{regular, regular_nothing}
use Rattle.session.proofs.Simulation.{in_force_lem}
use Rattle.session.proofs.Lists.{ran_as_ledger}
use Rattle.session.proofs.InWords.{InForce, in_words, words_decide}
use Rattle.session.proofs.Reported.{reported}

-- ---- from a fresh session with a valid profile

module _ (p : Profile) (v : valid_profile p ≡ true) (events : List Event) (e : Session) (ran : Ran (fresh p) events e) where
  from_fresh : Upheld p events e
  unfolding nothing
  from_fresh =
      let q = ran_as_ledger p v events nothing e (regular_nothing p) ran in
      let ranging : (t : Technology) → in_force_in e t ≡ (held p (calls_of events) t).in_force = λ t. ap (λ (s : Session). in_force_in s t) q.1 ∙ in_force_lem p (held p (calls_of events)) (λ t. regular p t (calls_of events)) t in
      record {
        answers = q.0;
        ranging = ranging;
        session = q.1;
        account = InForce p;
        words = in_words p;
        only = λ other w. words_decide p other (InForce p) w (in_words p);
        says = λ t x. (λ i. sym (ranging t) ∙ i, λ i. ranging t ∙ i);
        reports = λ before x later split. reported p (InForce p) (in_words p) before x later (subst (λ (l : List Event). map seen_of l ≡ seen_from (ledger_call p) nothing (calls_of l)) split q.0);
      }

-- ---- from an accepted start

profile_valid : (r : Record) (n : ℕ) → is_profile r n ≡ true → valid_profile (as_profile r n) ≡ true
unfolding valid_profile
profile_valid r n h =
    let a = and_true_lem (eqb r.id 1 && valid r) (ltb n 3) h in
    let b = and_true_lem (eqb r.id 1) (valid r) a.0 in
    let c = and_true_lem (valid (response r.set r.capability)) _ (sym (response_of r (eqb-true r.id 1 b.0)) ∙ b.1) in
    rw (c.0, a.1)

pub demand_3 : Demand3
demand_3 r n x h z events e ran =
    let t = by_bool (is_profile r n) (λ t. t) (λ f. absurd (no_zero NotValid (sym (ap (λ (y : Started). y.refusal) (h ∙ ap started (start_refused r n f))) ∙ z))) in
    from_fresh (as_profile r n) (profile_valid r n t) events e (subst (λ (s : Session). Ran s events e) (ap (λ (y : Started). y.session) (h ∙ ap started (start_accepted r n t))) ran)
