-- Laws of log records and their entries.
use Rattle.std.proofs.Common.{◌≡◌, ℕ, ◌+◌, ◌<◌, ◌≤◌, true, false, eqb, ltb, leb, List, length, get_or, drop, sym, ap, ◌∙◌, arith, le-ltb, lt-ltb, eq-eqb, ne_eqb, eqb-true, le-leb, leb-true}
use borrow.Author.Tests.{lt-leb}
use Rattle.codec.proofs.Outcomes.{by_bool, and_true_lem}
use Rattle.codec.proofs.Laws.{part_length}
use Rattle.std.specs.Prelude.{Err, Ok}
use Rattle.codec.specs.Refusal.{Checked}
use Rattle.codec.specs.declared.refusal.Refusal.{Refusal}
use Rattle.codec.specs.declared.refusal.Refusal.TheVariants.{BrokenRecord}
use Rattle.codec.specs.Octets.{all_zero, part}
use Rattle.codec.specs.Table.{message_limit}
use Rattle.codec.specs.Message.{reading}
use Rattle.bench_log.specs.LogRecord.{length_in, message_in, keeps_layout, Held, taken_apart, parts_of, reading_of, listed, entry_of}
use Rattle.bench_log.specs.declared.entry.Accepted.{Accepted}
use Rattle.bench_log.specs.declared.layout.Parts.{Parts}

module _ (limit : ℕ) (r : List ℕ) where
  -- the tests of the layout, one after the other
  pub wrong_size : (length r ≡ 4 + limit → ⊥) → false ≡ keeps_layout limit r
  unfolding keeps_layout
  wrong_size h = rw (ne_eqb (length r) (4 + limit) h)

  module _ (size : length r ≡ 4 + limit) where
    pub wrong_direction : 2 ≤ get_or r 0 0 → false ≡ keeps_layout limit r
    unfolding keeps_layout
    wrong_direction h = rw (eq-eqb (length r) (4 + limit) size, le-ltb (get_or r 0 0) 2 h)

    module _ (direction : get_or r 0 0 < 2) where
      pub wrong_zero : (get_or r 1 0 ≡ 0 → ⊥) → false ≡ keeps_layout limit r
      unfolding keeps_layout
      wrong_zero h = rw (eq-eqb (length r) (4 + limit) size, lt-ltb (get_or r 0 0) 2 direction, ne_eqb (get_or r 1 0) 0 h)

      module _ (zero : get_or r 1 0 ≡ 0) where
        pub wrong_length : limit < length_in r → false ≡ keeps_layout limit r
        unfolding keeps_layout
        wrong_length h = rw (eq-eqb (length r) (4 + limit) size, lt-ltb (get_or r 0 0) 2 direction, eq-eqb (get_or r 1 0) 0 zero, lt-leb (length_in r) limit h)

        pub zeros_past : length_in r ≤ limit → all_zero (drop (4 + length_in r) r) ≡ keeps_layout limit r
        unfolding keeps_layout
        zeros_past h = rw (eq-eqb (length r) (4 + limit) size, lt-ltb (get_or r 0 0) 2 direction, eq-eqb (get_or r 1 0) 0 zero, le-leb (length_in r) limit h)

  pub kept : keeps_layout limit r ≡ true → (length r ≡ 4 + limit) × (length_in r ≤ limit)
  unfolding keeps_layout
  kept e =
      let a = and_true_lem (eqb (length r) (4 + limit)) _ e in
      let b = and_true_lem (ltb (get_or r 0 0) 2) _ a.1 in
      let z = and_true_lem (eqb (get_or r 1 0) 0) _ b.1 in
      let l = and_true_lem (leb (length_in r) limit) _ z.1 in
      (eqb-true _ _ a.0, leb-true _ _ l.0)

  message_length : keeps_layout limit r ≡ true → length (message_in r) ≡ length_in r
  message_length e = part_length 4 (length_in r) r (omega (arith, (kept e).0, (kept e).1))

  pub parts_broken : keeps_layout limit r ≡ false → Err BrokenRecord ≡ parts_of (taken_apart limit r)
  unfolding taken_apart
  parts_broken e = rw e

  pub parts_kept : keeps_layout limit r ≡ true → Ok (record { direction = get_or r 0 0; length = length_in r }) ≡ parts_of (taken_apart limit r)
  unfolding taken_apart
  parts_kept e = rw (e, message_length e)

  -- the parts of a record that keeps the layout, and of one that does not
  pub record Apart (p : Parts) : Type 0 where
    pub size : length r ≡ 4 + limit
    pub fits : p.length ≤ limit
    pub holds : taken_apart limit r ≡ Ok (record { direction = p.direction; message = part 4 p.length r })

  pub apart : (p : Parts) → Ok p ≡ parts_of (taken_apart limit r) → Apart p
  unfolding taken_apart
  apart p e =
      by_bool (keeps_layout limit r)
      (λ y.
      let f : ◌≡◌ {A = Checked Parts} (Ok p) (Ok (record { direction = get_or r 0 0; length = length_in r })) = e ∙ sym (parts_kept y) in
      let q : p ≡ record { direction = get_or r 0 0; length = length_in r } = cc in
      record {
        size = (kept y).0;
        fits = omega (arith, ap (λ (p : Parts). p.length) q, (kept y).1);
        holds = rw (y, q);
      })
      (λ n. let f : ◌≡◌ {A = Checked Parts} (Ok p) (Err BrokenRecord) = e ∙ sym (parts_broken n) in let z : ◌≡◌ {A = ℕ} 0 1 = cc in absurd (omega arith))

  pub broken : (x : Refusal) → Err x ≡ parts_of (taken_apart limit r) → taken_apart limit r ≡ Err x
  broken x e = go (taken_apart limit r) e
    where
      go : (c : Checked Held) → Err x ≡ parts_of c → c ≡ Err x
      go (Err y) e = let q : x ≡ y = cc in rw q
      go (Ok h) e = let z : ◌≡◌ {A = ℕ} 0 1 = cc in absurd (omega arith)

module _ (r : List ℕ) where
  pub entry_broken : (x : Refusal) → Err x ≡ parts_of (taken_apart message_limit r) → record { direction = 0; message = Err x } ≡ entry_of r
  unfolding entry_of reading_of
  entry_broken x e = rw (broken message_limit r x e)

  pub entry_listed : (p : Parts) {c : Checked Accepted} → Ok p ≡ parts_of (taken_apart message_limit r) → c ≡ listed (reading (part 4 p.length r))
      → record { direction = p.direction; message = c } ≡ entry_of r
  unfolding entry_of reading_of
  entry_listed p e l = rw ((apart message_limit r p e).holds, l)
