-- The session's record, the answer, and what a call of the session by value returns, as the law of a call by reference takes them.
use denote.Struct.Laws as laws
use Rattle.session.specs.contracts.state.Session as S
use Rattle.session.proofs.state.Session.TheLaws as S'
use Rattle.session.specs.contracts.state.Answer as R
use Rattle.session.proofs.state.Answer.TheLaws as R'
use Rattle.session.specs.contracts.state.Step as P
use Rattle.session.proofs.state.Step.TheLaws as P'
use Rattle.raydulcimer.proofs.Beside.{Plain, struct}
use Rattle.raydulcimer.proofs.ByReference.{Returned}

abbrev pub session : Plain
session = struct S.the_type S'.the_field_laws S'.the_field_plain

abbrev pub answer : Plain
answer = struct R.the_type R'.the_field_laws R'.the_field_plain

abbrev pub step : Returned session answer
step = record {
  row = P.the_row;
  name = (P.the_type).name;
  first = λ t. t.session;
  second = λ t. t.answer;
  tells = laws.tells P.the_type P'.the_laws;
  first_is = λ t vs is. (laws.owed P.the_type P'.the_laws t vs is).0;
  second_is = λ t vs is. (laws.owed P.the_type P'.the_laws t vs is).1.0;
}
