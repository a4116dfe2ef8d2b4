-- Demand 2, of every call of the reader and the writer that keeps its contract.
use Prim.Native.Nat.{ℕ, ◌≤◌}
use mathlib.Core.Logic.{◌↔◌}
use mathlib.Core.Path.{◌≡◌, refl, sym, ap, ◌∙◌, subst}
use mathlib.Core.Bool.{true}
use mathlib.Core.List.{List}
use lib.Dec.{leb}
use lib.ListN.{length}
use lib.Seq.{take_at}
use borrow.Author.Tests.{le-leb}
use Rattle.codec.specs.Octets.{Octets}
use Rattle.codec.specs.Refusal.{Checked, Err, Ok, BufferTooShort, NotValid}
use Rattle.codec.specs.Message.{reading, Reads}
use Rattle.codec.specs.Records.{accepted, answer}
use Rattle.codec.specs.WellFormed.{WellFormed}
use Rattle.codec.specs.Valid.{TypedRecord, valid}
use Rattle.codec.specs.NormalForm.{normal, NormalForm}
use Rattle.codec.specs.Writing.{fitting, writing, written, buffer, Writes, octets_written}
use Rattle.codec.specs.Demand2.{Demand2}
use Rattle.codec.specs.declared.records.Record.{Record}
use Rattle.codec.specs.declared.records.Reading.{Reading}
use Rattle.codec.specs.declared.records.Written.{Written}
use Rattle.codec.proofs.Outcomes.{demanded, no_zero}
use Rattle.codec.proofs.Exact.{exact}
use Rattle.codec.proofs.ReadBack.{normal_octets, normal_formed, normal_normal}
use Rattle.codec.proofs.Converse.{record_valid, normal_is}

-- ---- what a call read

-- an answer without a refusal accepts
took : (o : Checked Record) → (answer o).refusal ≡ 0 → answer o ≡ accepted (answer o).value
took (Err x) z = absurd (no_zero x z)
took (Ok r) z = refl

-- so does a call's
accepts : {m : List ℕ} {a : Reading} → Reads m a → a.refusal ≡ 0 → answer (reading m) ≡ accepted a.value
accepts {m} {a} h z = subst (λ (b : Reading). b.refusal ≡ 0 → answer (reading m) ≡ accepted b.value) (sym h.answers) (took (reading m)) z

-- ---- what a call wrote

-- octets were laid out
laid : (o : Checked (List ℕ)) → (written o).refusal ≡ 0 → (d : List ℕ) → o ≡ Ok (octets_written (written o) (buffer o d))
laid (Err x) z d = absurd (no_zero x z)
laid (Ok w) z d = ap (λ (l : List ℕ). Ok l) (sym (take_at w _ _ refl))

-- they are the normal form of a valid record
wrote : (r : Record) {d e : List ℕ} {w : Written} → Writes r d w e → w.refusal ≡ 0 → (valid r ≡ true) × (octets_written w e ≡ normal r)
unfolding writing
wrote r {d} {e} {w} h z =
    let o = writing r (length d) in
    let q : o ≡ Ok (octets_written w e) = rw (h.answers, h.leaves) (laid o (rw h.answers at z) d) in
    demanded (valid r) NotValid (fitting (normal r) (length d)) _ q λ v f.
    demanded (leb (length (normal r)) (length d)) BufferTooShort (Ok (normal r)) _ f λ _ g.
    (v, same g)
  where
    same : {u v : List ℕ} → ◌≡◌ {A = Checked (List ℕ)} (Ok u) (Ok v) → v ≡ u
    same g = cc

fitted : (r : Record) {d e : List ℕ} {w : Written} → Writes r d w e → valid r ≡ true → length (normal r) ≤ length d → (w.refusal ≡ 0) × (w.length ≡ length (normal r))
unfolding writing
fitted r {d} h v l = let f = le-leb (length (normal r)) (length d) l in (rw (h.answers, v, f), rw (h.answers, v, f))

-- ---- every valid record is read back from its normal form

pub reads_back : (r : Record) → TypedRecord r → valid r ≡ true → answer (reading (normal r)) ≡ accepted r
reads_back r typed ok = (exact (normal r) (normal_octets r typed ok) r).1 (normal_formed r typed ok)

-- ---- and the record of an accepted message is valid, and written as the message exactly if that is in normal form

module _ (m : List ℕ) (o : Octets m) (r : Record) (h : answer (reading m) ≡ accepted r) where
  pub accepted_valid : TypedRecord r × (valid r ≡ true)
  accepted_valid = record_valid m o r ((exact m o r).0 h)

  kept : (normal r ≡ m) ↔ NormalForm m
  kept = (
    λ e. subst NormalForm e (normal_normal r accepted_valid.0 accepted_valid.1),
    λ n. ap (λ (a : Reading). normal a.value) (sym h ∙ (exact m o n.content).1 n.formed) ∙ normal_is m o n,
  )

pub demand_2 : Demand2
demand_2 = record {
  exact = λ m a h r. subst (λ (b : Reading). (b ≡ accepted r) ↔ WellFormed m r) (sym h.answers) (exact m h.octets r);
  writes = λ r d e w h v l. let z = (fitted r h.writes v l).0 in record {
    number = z;
    size = (fitted r h.writes v l).1;
    octets = (wrote r h.writes z).1;
    form = normal_normal r h.typed v;
  };
  back = λ r d e w a h z k. let q = wrote r h.writes z in k.answers ∙ (ap (λ (l : List ℕ). answer (reading l)) q.1 ∙ reads_back r h.typed q.0);
  sound = λ m a h z. (accepted_valid m h.octets a.value (accepts h z)).1;
  unchanged = λ m d e a w h z k y. let q = (wrote a.value k.writes y).1 in let u = kept m h.octets a.value (accepts h z) in (λ i. u.0 (sym q ∙ i), λ n. q ∙ u.1 n);
}
