-- `raydulcimer::raydulcimer_advertise` meets its contract, by the law of a call by reference over `session::advertise`.
use mathlib.Core.Path.{refl}
use mathlib.Core.List.{List, [], ◌∷◌}
use base.Logic.{id⊢}
use Rattle.session.specs.contracts.advertise as callee
use Rattle.session.proofs.advertise.Symbol as callee-def
use Rattle.session.proofs.advertise.Met as callee-thm
use Rattle.raydulcimer.proofs.Beside.{Parameter, lent}
use Rattle.raydulcimer.proofs.ByReference.{by_reference}
use Rattle.raydulcimer.proofs.Session.{step}
use Rattle.raydulcimer.specs.contracts.raydulcimer_advertise as self
use Rattle.raydulcimer.specs.contracts.raydulcimer_advertise.Key as key
use Rattle.raydulcimer.proofs.raydulcimer_advertise.Statement as stated
use Rattle.raydulcimer.proofs.raydulcimer_advertise.Code as code

-- the parameters beside the session
abbrev beside : List (Parameter 1)
beside = lent 0 tt ∷ []

pub raydulcimer_advertise_spec : {M : Type 1} → stated.statement M
raydulcimer_advertise_spec 𝓤 𝓛 𝓜 𝓡 wired =
    by_reference step beside 𝓛 𝓜 𝓡 (callee.clauses 𝓛 𝓜.mem 𝓡.returns) (self.clauses 𝓛 𝓜.mem 𝓡.returns)
    -- the two contracts say the same
    (λ κs x a g. (tt, id⊢ 𝓤 _, λ t ws. id⊢ 𝓤 _))
    𝓡.env key.name callee-def.name (code.unfolded 𝓤 𝓛.H 𝓜 𝓡 wired) (𝓡.env callee-def.name) refl (callee-thm.met 𝓤 𝓛 𝓜 𝓡 (code.calls-session::advertise 𝓡.env wired))
