-- `raydulcimer::raydulcimer_message` meets its contract, by the law of a call by reference over `session::message`.
use mathlib.Core.Path.{refl}
use mathlib.Core.List.{List, [], ◌∷◌}
use base.Logic.{id⊢}
use Rattle.session.specs.contracts.message as callee
use Rattle.session.proofs.message.Symbol as callee-def
use Rattle.session.proofs.message.Met as callee-thm
use Rattle.raydulcimer.proofs.Beside.{Parameter, shared, lent}
use Rattle.raydulcimer.proofs.ByReference.{by_reference}
use Rattle.raydulcimer.proofs.Session.{step}
use Rattle.raydulcimer.specs.contracts.raydulcimer_message as self
use Rattle.raydulcimer.specs.contracts.raydulcimer_message.Key as key
use Rattle.raydulcimer.proofs.raydulcimer_message.Statement as stated
use Rattle.raydulcimer.proofs.raydulcimer_message.Code as code

-- the parameters beside the session
abbrev beside : List (Parameter 2)
beside = shared 0 tt ∷ lent 1 tt ∷ []

pub raydulcimer_message_spec : {M : Type 1} → stated.statement M
raydulcimer_message_spec 𝓤 𝓛 𝓜 𝓡 wired =
    by_reference step beside 𝓛 𝓜 𝓡 (callee.clauses 𝓛 𝓜.mem 𝓡.returns) (self.clauses 𝓛 𝓜.mem 𝓡.returns)
    -- the two contracts say the same
    (λ κs x a g. (tt, id⊢ 𝓤 _, λ t ws. id⊢ 𝓤 _))
    𝓡.env key.name callee-def.name (code.unfolded 𝓤 𝓛.H 𝓜 𝓡 wired) (𝓡.env callee-def.name) refl (callee-thm.met 𝓤 𝓛 𝓜 𝓡 (code.calls-session::message 𝓡.env wired))
