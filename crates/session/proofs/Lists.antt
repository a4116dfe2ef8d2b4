-- A list of calls from a fresh session: answers and buffers are the ledger's, and the session record is what the ledger holds.
use Prim.Native.Nat.{ℕ}
use mathlib.Core.Path.{◌≡◌, refl, sym, subst}
use mathlib.Core.List.{List, [], ◌∷◌, map}
use mathlib.Core.Bool.{true}
use Rattle.std.specs.Prelude.{Err, Ok}
use Rattle.codec.specs.Refusal.{Checked}
use Rattle.session.specs.declared.state.Profile.{Profile}
use Rattle.session.specs.declared.state.Answer.{Answer}
use Rattle.session.specs.declared.state.Session.{Session}
use Rattle.codec.specs.Technology.{Technology}
use Rattle.session.specs.Rules.{Call, valid_profile, Served, after, answer_to, buffer_after}
use Rattle.session.specs.Ledger.{Ledger, on_ledger, ledger_call, seen_from, state_after}
use Rattle.session.specs.Session.{on_session, session_call, Gives}
use Rattle.session.specs.Trace.{Event, seen_of, Ran, calls_of}
use Rattle.session.specs.Demand3.{session_of}
use Rattle.session.proofs.Regular.{Regular, regular_call}
use Rattle.session.proofs.Simulation.{through, call_through, session_follows}

module _ (p : Profile) where
  same_call : (l : Ledger) → ((t : Technology) → Regular t (l t)) → valid_profile p ≡ true → (c : Call) → session_call (session_of p l) c ≡ through (session_of p) (ledger_call p l c)
  unfolding session_call
  same_call l h v c = rw v (call_through (session_of p) on_ledger on_session p l (session_follows p l h) c)

  -- what a call gives that leads to what a ledger's leads to
  given : (l : Ledger) (o : Checked (Served Ledger)) {b e : List ℕ} {a : Answer} {n : Session} → Gives (session_of p l) (through (session_of p) o) b a n e → (a ≡ answer_to o) × (n ≡ session_of p (after l o)) × (e ≡ buffer_after o b)
  given l (Err x) g = (g.answer, g.session, g.buffer)
  given l (Ok v) g = (g.answer, g.session, g.buffer)

  pub ran_as_ledger : valid_profile p ≡ true → (events : List Event) (l : Ledger) (e : Session) → ((t : Technology) → Regular t (l t)) → Ran (session_of p l) events e
      → (map seen_of events ≡ seen_from (ledger_call p) l (calls_of events)) × (e ≡ session_of p (state_after (ledger_call p) l (calls_of events)))
  ran_as_ledger v [] l e h r = (refl, sym r)
  ran_as_ledger v (x ∷ events) l e h r =
      let o = ledger_call p l x.given in
      let q = given l o (subst (λ (y : Checked (Served Session)). Gives (session_of p l) y x.given.lent x.answer x.session x.left) (same_call l h v x.given) r.0) in
      let k = ran_as_ledger v events (after l o) e (λ t. regular_call p t l x.given (h t)) (subst (λ (s : Session). Ran s events e) q.1 r.1) in
      (λ i. record { answer = q.0 i; buffer = q.2 i } ∷ k.0 i, k.1)
