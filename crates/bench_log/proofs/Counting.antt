-- Counting record by record gives the totals of the list, and each record is accepted or refused.
use Rattle.std.proofs.Common.{◌≡◌, ℕ, ◌+◌, ◌^◌, ◌<◌, true, not, List, [], ◌∷◌, length, refl, arith}
use Rattle.std.specs.Prelude.{Err, Ok}
use Rattle.codec.specs.Refusal.{Checked}
use Rattle.codec.specs.declared.records.Record.{Record}
use Rattle.codec.proofs.Outcomes.{by_bool}
use Rattle.bench_log.specs.LogRecord.{reading_of, listed, entry_of}
use Rattle.bench_log.specs.Items.{counters_after, one_more}
use Rattle.bench_log.specs.Totals.{is_accepted, totals, no_records, counted}
use Rattle.bench_log.specs.Listing.{next_totals}
use Rattle.bench_log.specs.declared.totals.Totals.{Totals}
use Rattle.bench_log.proofs.Items.{all_counted, counted_all}

-- an entry is of an accepted message exactly where the record is accepted
accepted_listed : (r : List ℕ) → is_accepted (entry_of r).message ≡ is_accepted (reading_of r)
unfolding entry_of
accepted_listed r = go (reading_of r)
  where
    go : (c : Checked Record) → is_accepted (listed c) ≡ is_accepted c
    go (Err x) = refl
    go (Ok a) = refl

pub one_more_record : (t : Totals) (r : List ℕ) → (next_totals t r).records ≡ one_more t.records
unfolding counted
one_more_record t r = refl

pub counting : (rs : List (List ℕ)) → length rs < 2 ^ 64 → counters_after next_totals no_records rs ≡ totals rs
unfolding counted
counting rs h =
    let after = counters_after next_totals no_records rs in
    let a : after.records ≡ length rs = omega (arith, counted_all next_totals (λ t. t.records) (λ r. true) (λ t r. refl) no_records rs (omega arith), all_counted rs) in
    let b : after.accepted ≡ (totals rs).accepted = omega (arith, counted_all next_totals (λ t. t.accepted) (λ r. is_accepted (reading_of r)) (λ t r. rw (accepted_listed r)) no_records rs (omega arith)) in
    let c : after.refused ≡ (totals rs).refused = omega (arith, counted_all next_totals (λ t. t.refused) (λ r. not (is_accepted (reading_of r))) (λ t r. rw (accepted_listed r)) no_records rs (omega arith)) in
    λ i. record { records = a i; accepted = b i; refused = c i }

pub each_counted : (rs : List (List ℕ)) → (totals rs).accepted + (totals rs).refused ≡ (totals rs).records
each_counted [] = refl
each_counted (r ∷ rs) =
    by_bool (is_accepted (reading_of r)) (λ y. rw y (omega (arith, each_counted rs))) (λ y. rw y (omega (arith, each_counted rs)))
