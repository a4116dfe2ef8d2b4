-- Demand 2, of what calls of the reader and the writer returned and left in their buffers. `Reads` and `WritesTyped` are the contracts
-- of these calls, so that nothing is asked but that they were made.
use Rattle.std.specs.Prelude.{ℕ, ◌≤◌, ◌≡◌, ◌↔◌, true, List, length}
use Rattle.codec.specs.Records.{accepted}
use Rattle.codec.specs.Message.{Reads}
use Rattle.codec.specs.WellFormed.{WellFormed}
use Rattle.codec.specs.Valid.{valid}
use Rattle.codec.specs.NormalForm.{normal, NormalForm}
use Rattle.codec.specs.Writing.{WritesTyped, octets_written}
use Rattle.codec.specs.declared.records.Record.{Record}
use Rattle.codec.specs.declared.records.Reading.{Reading}
use Rattle.codec.specs.declared.records.Written.{Written}

-- a call wrote the normal form of its record, and returned its length; the octets are in normal form
pub record WroteNormal (r : Record) (w : Written) (e : List ℕ) : Type 0 where
  pub number : w.refusal ≡ 0
  pub size : w.length ≡ length (normal r)
  pub octets : octets_written w e ≡ normal r
  pub form : NormalForm (normal r)

pub record Demand2 : Type 0 where
  -- The reader accepts exactly what is well formed, and reads the fields that the layouts give.
  pub exact : (m : List ℕ) (a : Reading) → Reads m a → (r : Record) → (a ≡ accepted r) ↔ WellFormed m r
  -- The writer gives each valid record its one normal form, in every buffer that has room for it;
  pub writes : (r : Record) (d e : List ℕ) (w : Written) → WritesTyped r d w e → valid r ≡ true → length (normal r) ≤ length d → WroteNormal r w e
  -- reading that form gives the record back;
  pub back : (r : Record) (d e : List ℕ) (w : Written) (a : Reading) → WritesTyped r d w e → w.refusal ≡ 0 → Reads (octets_written w e) a → a ≡ accepted r
  -- an accepted message has a valid record,
  pub sound : (m : List ℕ) (a : Reading) → Reads m a → a.refusal ≡ 0 → valid a.value ≡ true
  -- and comes through reading and writing unchanged exactly if it was in normal form already.
  pub unchanged : (m d e : List ℕ) (a : Reading) (w : Written) → Reads m a → a.refusal ≡ 0 → WritesTyped a.value d w e → w.refusal ≡ 0 → (octets_written w e ≡ m) ↔ NormalForm m
