-- What the inner functions keep that choose and write a reply.
use Rattle.std.specs.Prelude.{ℕ, ◌≡◌, List, cond, eqb, length}
use Rattle.std.proofs.Math.Option.{Option}
use Rattle.codec.specs.Refusal.{Checked}
use Rattle.codec.specs.Writing.{fitting, LaysOut}
use Rattle.codec.specs.declared.records.Record.{Record}
use Rattle.codec.specs.declared.records.Written.{Written}
use Rattle.session.specs.declared.profile.Choice.{Choice}
use Rattle.session.specs.declared.state.Session.{Session}
use Rattle.session.specs.declared.state.Answer.{Answer}
use Rattle.session.specs.Rules.{octets_of, Served, answer_to, buffer_after}

-- the number of a choice of explicit replies
abbrev pub choice_number : Choice → ℕ
choice_number Choice.NotSaid = 0
choice_number Choice.On = 1
choice_number Choice.Off = 2

-- the octets of a reply, into a buffer
abbrev pub Delivers : Option Record → List ℕ → Written → List ℕ → Type 0
Delivers r b w e = LaysOut (fitting (octets_of r) (length b)) b w e

-- the answer of a call that sets and stops these once its reply is delivered, or refused
abbrev pub settle : Written → ℕ → ℕ → Answer
settle w set stopped = record {
  refusal = w.refusal;
  length = w.length;
  set = cond (eqb w.refusal 0) set 0;
  stopped = cond (eqb w.refusal 0) stopped 0;
}

-- what a call that leads to `o` answers, and the buffer before and after
pub record Answers (o : Checked (Served Session)) (before : List ℕ) (r : Answer) (e : List ℕ) : Type 0 where
  pub answer : r ≡ answer_to o
  pub buffer : e ≡ buffer_after o before
