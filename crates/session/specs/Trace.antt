-- A list of calls as their callers see it: what each was given, and what it returned and left in its buffer.
use Rattle.std.specs.Prelude.{ℕ, ◌≡◌, List, [], ◌∷◌, map}
use Rattle.session.specs.declared.state.Answer.{Answer}
use Rattle.session.specs.declared.state.Session.{Session}
use Rattle.session.specs.Rules.{Call}
use Rattle.session.specs.Ledger.{Seen}
use Rattle.session.specs.Session.{Does}

pub record Event : Type 0 where
  pub given : Call
  pub answer : Answer
  pub session : Session
  pub left : List ℕ

abbrev pub seen_of : Event → Seen
seen_of x = record { answer = x.answer; buffer = x.left }

-- each call gets the session that the one before returned or left, and keeps its contract; `e` is the last session
abbrev pub Ran : Session → List Event → Session → Type 0
Ran s [] e = s ≡ e
Ran s (x ∷ events) e = Does s x.given x.answer x.session x.left × Ran x.session events e

abbrev pub calls_of : List Event → List Call
calls_of events = map (λ (x : Event). x.given) events
