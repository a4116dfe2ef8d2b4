use mathlib.Core.Path.{◌≡◌, ◌∙◌}
use mathlib.Core.Bool.{Bool, ◌&&◌}
use Prim.Native.Nat.{ℕ}
use lib.Dec.{eqb, ltb}
use Rattle.codec.specs.declared.records.Record.{Record}
use Rattle.codec.specs.Blocks.{configurations}
use Rattle.codec.specs.Records.{response}
use Rattle.codec.specs.Valid.{valid, valid_column}
use Rattle.session.proofs.Steps.{is_profile, start_tested, start_refused, start_accepted}
use Rattle.session.proofs.calls.start.Goals as goal

-- what the test says of the profile
tested : (p : Record) (replies : ℕ) {v z c r : Bool} → v ≡ valid (response p.set p.capability) → z ≡ valid_column configurations 0 p.configuration → c ≡ ltb replies 3
    → (((eqb p.id 1 && v) && z) && c) ≡ r → is_profile p replies ≡ r
tested p replies v z c h = rw (v, z, c, start_tested p) at h

pub returns-then-not-response-is_some : goal.returns-then-not-response-is_some
returns-then-not-response-is_some c = let k = c.is_some.ensures ∙ c.numbered.ensures.known in
    rw (c.from.ensures, c.fresh.ensures, c.empty.ensures, start_refused c.args.profile c.args.replies (tested c.args.profile c.args.replies c.valid_response.ensures c.is_zero.ensures k c.if-not-response-is_some.true))

pub returns : goal.returns
returns c = let k = c.is_some.ensures ∙ c.numbered.ensures.known in
    rw (c.fresh-2.ensures, start_accepted c.args.profile c.args.replies (tested c.args.profile c.args.replies c.valid_response.ensures c.is_zero.ensures k c.if-not-response-is_some.false))
