-- Totals: how many records a log has, and how many of them are accepted and refused.
use Rattle.std.specs.Prelude.{ℕ, Bool, true, false, not, List, length}
use Rattle.std.specs.Prelude.{Err, Ok}
use Rattle.codec.specs.Refusal.{Checked}
use Rattle.bench_log.specs.LogRecord.{reading_of}
use Rattle.bench_log.specs.Items.{how_many, tally}
use Rattle.bench_log.specs.declared.entry.Entry.{Entry}
use Rattle.bench_log.specs.declared.totals.Totals.{Totals}

-- ---- of a list of records

abbrev pub is_accepted : {A : Type 0} → Checked A → Bool
is_accepted (Err x) = false
is_accepted (Ok a) = true

abbrev pub totals : List (List ℕ) → Totals
totals rs = record {
  records = length rs;
  accepted = how_many (λ r. is_accepted (reading_of r)) rs;
  refused = how_many (λ r. not (is_accepted (reading_of r))) rs;
}

-- ---- record by record

abbrev pub no_records : Totals
no_records = record { records = 0; accepted = 0; refused = 0 }

unfoldable pub counted : Totals → Entry → Totals
counted t e = record {
  records = tally true t.records;
  accepted = tally (is_accepted e.message) t.accepted;
  refused = tally (not (is_accepted e.message)) t.refused;
}
