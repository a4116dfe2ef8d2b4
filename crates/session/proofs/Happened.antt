-- What a call does to the ledger, by what was accepted of it.
use Prim.Native.Nat.{ℕ, ◌≤◌, ◌<◌}
use native.Mathlib.Omega.{arith}
use mathlib.Core.Path.{◌≡◌, refl, ap}
use mathlib.Core.List.{List}
use mathlib.Core.Option.{none, some}
use mathlib.Core.Logic.{inl, inr}
use mathlib.Core.Bool.{Bool, true, false, cond}
use lib.Dec.{leb}
use lib.ListN.{length}
use borrow.Author.Tests.{le-leb, lt-leb, leb-true, leb-false}
use Rattle.std.specs.Prelude.{Err, Ok}
use Rattle.codec.specs.Refusal.{Checked}
use Rattle.codec.specs.declared.refusal.Refusal.{Refusal}
use Rattle.codec.specs.declared.refusal.Refusal.TheVariants.{BufferTooShort}
use Rattle.codec.specs.Records.{set_record}
use Rattle.codec.specs.Message.{reading}
use Rattle.codec.specs.NormalForm.{normal}
use Rattle.codec.specs.declared.records.Record.{Record}
use Rattle.codec.specs.declared.records.SetMessage.{SetMessage}
use Rattle.codec.proofs.Outcomes.{by_bool}
use Rattle.codec.proofs.Pieces.{normal_set}
use Rattle.session.specs.declared.state.Profile.{Profile}
use Rattle.session.specs.Rules.{Said, message, advertisement, Call, Kind, request, configuration, stop, kind_of, explicit, octets_of, capability_reply, Served, conclude, give_out, serve, respond, call}
use Rattle.session.specs.Ledger.{Ledger, on_ledger, ledger_call}
use Rattle.session.specs.History.{reply_length, Accepted, Advertised, Counts}

-- ---- a call is accepted as one thing at the most

abbrev pub rank : Kind → ℕ
rank request = 0
rank configuration = 1
rank stop = 2

module _ {p : Profile} {c : Call} {k : Kind} {r : Record} where
  pub same_content : {j : Kind} {q : Record} → Accepted p k c r → Accepted p j c q → r ≡ q
  same_content a b = cc

  pub same_kind : {j : Kind} {q : Record} → Accepted p k c r → Accepted p j c q → rank k ≡ rank j
  same_kind {j} a b = let e : k ≡ j = cc in ap rank e

  pub no_advertisement : Advertised p c → Accepted p k c r → ⊥
  no_advertisement d a = let z : ◌≡◌ {A = ℕ} 0 1 = cc in omega arith

-- ---- what it gives

-- the reply fits, or it does not
has_room : (b : List ℕ) (v : Served Ledger) → length (octets_of v.reply) ≤ length b → conclude b v ≡ Ok v
unfolding conclude
has_room b v h = rw (le-leb (length (octets_of v.reply)) (length b) h)

no_room : (b : List ℕ) (v : Served Ledger) → length b < length (octets_of v.reply) → conclude b v ≡ Err BufferTooShort
unfolding conclude
no_room b v h = rw (lt-leb (length (octets_of v.reply)) (length b) h)

-- messages 3 and 7 have four octets
explicit_length : (on : Bool) (m : SetMessage) (set : ℕ) → length (octets_of (cond on (some (set_record m set)) none)) ≡ cond on 4 0
explicit_length true m set = ap length (normal_set m set)
explicit_length false m set = refl

module _ (p : Profile) (l : Ledger) where
  reply_length_lem : (k : Kind) (r : Record) → length (octets_of (serve on_ledger p k r l).reply) ≡ reply_length p k r
  reply_length_lem request r = refl
  reply_length_lem configuration r = explicit_length (explicit p.replies) SetMessage.ConfigurationResponse _
  reply_length_lem stop r = explicit_length (explicit p.replies) SetMessage.StopResponse _

  module _ {c : Call} where
    pub accepted_gives : {k : Kind} {r : Record} → Accepted p k c r → ledger_call p l c ≡ Ok (serve on_ledger p k r l)
    unfolding call respond
    accepted_gives {k} {r} a = rw (a.says, a.reads, a.kind) (has_room c.lent _ (rw (reply_length_lem k r) a.room))

    pub advertised_gives : Advertised p c → ledger_call p l c ≡ Ok (give_out on_ledger p (λ t. true) l)
    unfolding call respond
    advertised_gives d = rw d.is (has_room c.lent _ d.room)

    pub refused_not : {x : Refusal} → ledger_call p l c ≡ Err x → Counts p c → ⊥
    refused_not e (inl a) = let q = accepted_gives a.1.1 in let z : ◌≡◌ {A = ℕ} 0 1 = cc in omega arith
    refused_not e (inr d) = let q = advertised_gives d in let z : ◌≡◌ {A = ℕ} 0 1 = cc in omega arith

-- ---- what happens

pub data Happened (p : Profile) (l : Ledger) (c : Call) : Type 0 where
  declined : (x : Refusal) → ledger_call p l c ≡ Err x → Happened p l c
  served : (k : Kind) (r : Record) → Accepted p k c r → Happened p l c
  advertised : Advertised p c → Happened p l c

module _ (p : Profile) (l : Ledger) (c : Call) where
  by_room : (n : ℕ) → (n ≤ length c.lent → Happened p l c) → (length c.lent < n → ledger_call p l c ≡ Err BufferTooShort) → Happened p l c
  by_room n f g = by_bool (leb n (length c.lent)) (λ y. f (leb-true n _ y)) (λ f. declined BufferTooShort (g (leb-false n _ f)))

  pub happened : Happened p l c
  unfolding call respond
  happened = by_said c.said refl
    where
      by_kind : (m : List ℕ) (r : Record) → c.said ≡ message m → reading m ≡ Ok r → (o : Checked Kind) → kind_of r.id ≡ o → Happened p l c
      by_kind m r e q (Err x) i = declined x (rw (e, q, i))
      by_kind m r e q (Ok k) i = by_room (reply_length p k r)
          (λ y. served k r (record { octets = m; says = e; reads = q; kind = i; room = y }))
          (λ n. rw (e, q, i) (no_room c.lent _ (rw (reply_length_lem p l k r) n)))

      by_reading : (m : List ℕ) → c.said ≡ message m → (o : Checked Record) → reading m ≡ o → Happened p l c
      by_reading m e (Err x) q = declined x (rw (e, q))
      by_reading m e (Ok r) q = by_kind m r e q (kind_of r.id) refl

      by_said : (x : Said) → c.said ≡ x → Happened p l c
      by_said (message m) e = by_reading m e (reading m) refl
      by_said advertisement e = by_room (length (normal (capability_reply p (λ t. true)))) (λ y. advertised (record { is = e; room = y })) (λ n. rw e (no_room c.lent _ n))
