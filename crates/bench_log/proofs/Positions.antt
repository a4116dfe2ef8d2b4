-- Positions in two logs: one after the other, and as the code takes them.
use Rattle.std.proofs.Common.{◌≡◌, ℕ, ◌+◌, ◌-◌, ◌*◌, ◌/◌, ◌<◌, ◌≤◌, min, leb, List, [], ◌∷◌, ◌++◌, map, length, take, drop, sym, refl, ap, ◌∙◌, subst, append-nil, arith, length-append, length-drop, leb-false, leb-true}
use native.Mathlib.Nat.{min-le_left, min-le_right, min-eq_left, min-eq_right}
use mathlib.Core.List.{map-append}
use Rattle.codec.specs.Octets.{part}
use Rattle.codec.specs.Inner.Puts.{Put}
use Rattle.codec.proofs.Outcomes.{by_bool}
use Rattle.codec.proofs.Laws.{suffix}
use Rattle.codec.proofs.Puts.{put_then}
use Rattle.bench_log.specs.LogRecord.{record_size, records_in, entry_of}
use Rattle.bench_log.specs.Text.{decimal}
use Rattle.bench_log.specs.Listing.{entry_text}
use Rattle.bench_log.specs.declared.entry.Entry.{Entry}
use Rattle.bench_log.specs.Comparison.{pair_lines, pair_kind, Position, both, only_left, only_right, positions, position_lines, kind_of, pairs_text, rest_text, sum_line, counted, next_lines, next_kinds, position_limit, tellable, Compares}
use Rattle.bench_log.specs.Inner.Items.{SoFar}
use Rattle.bench_log.specs.Inner.Pairs.{only_on, side_text}
use Rattle.bench_log.specs.declared.comparison.Side.{Side}
use Rattle.bench_log.specs.declared.comparison.Side.TheVariants.{Left, Right}
use Rattle.bench_log.specs.declared.kinds.Kind.{Kind}
use Rattle.bench_log.specs.declared.kinds.Kinds.{Kinds}
use Rattle.bench_log.proofs.Items.{more_told, one_told, all_told}
use Rattle.bench_log.proofs.Records.{records_length, records_split, next_record}

-- positions, and then the rest, if the side that has fewer of the first has no more
pub positions_append : (xs ys ls rs : List (List ℕ)) → (length xs < length ys → ls ≡ []) → (length ys < length xs → rs ≡ [])
    → positions (xs ++ ls) (ys ++ rs) ≡ positions xs ys ++ positions ls rs
positions_append [] [] ls rs g h = refl
positions_append [] (y ∷ ys) ls rs g h =
    let e : ls ≡ [] = g (omega arith) in
    rw e (ap (λ (ps : List Position). only_right y ∷ ps) (positions_append [] ys [] rs (λ l. refl) (λ l. absurd (omega arith))))
positions_append (x ∷ xs) [] ls rs g h =
    let e : rs ≡ [] = h (omega arith) in
    rw e (ap (λ (ps : List Position). only_left x ∷ ps) (positions_append xs [] ls [] (λ l. absurd (omega arith)) (λ l. refl)))
positions_append (x ∷ xs) (y ∷ ys) ls rs g h =
    ap (λ (ps : List Position). both x y ∷ ps) (positions_append xs ys ls rs (λ l. g (omega arith)) (λ l. h (omega arith)))

positions_left : (xs : List (List ℕ)) → positions xs [] ≡ map only_left xs
positions_left [] = refl
positions_left (x ∷ xs) = rw (positions_left xs)

positions_right : (ys : List (List ℕ)) → positions [] ys ≡ map only_right ys
positions_right [] = refl
positions_right (y ∷ ys) = rw (positions_right ys)

-- the next record, as the code takes it
abbrev next : ℕ → List ℕ → List ℕ
next i piece = part (i * record_size) (i * record_size + record_size - i * record_size) piece

module _ (l r : List ℕ) (i : ℕ) where
  next_position : positions (records_in i l) (records_in i r) ++ (both (next i l) (next i r) ∷ []) ≡ positions (records_in (i + 1) l) (records_in (i + 1) r)
  next_position =
      let a = records_length i l in
      let b = records_length i r in
      sym (positions_append (records_in i l) (records_in i r) (next i l ∷ []) (next i r ∷ []) (λ n. absurd (omega (arith, a, b))) (λ n. absurd (omega (arith, a, b))))
      ∙ rw (next_record i l, next_record i r)

  pub one_compared : {k u v : Kinds} {d b f : List ℕ} {n p : ℕ} {kind : Kind} → SoFar next_lines next_kinds (positions (records_in i l) (records_in i r)) k d 0 u b n
      → Put b n (pair_lines u.positions (next i l) (next i r)) f p → kind ≡ pair_kind (next i l) (next i r) → v ≡ counted u kind
      → SoFar next_lines next_kinds (positions (records_in (i + 1) l) (records_in (i + 1) r)) k d 0 v f p
  one_compared {k} {u} {v} {d} {b} {f} {n} {p} s w e c =
      subst (λ (ps : List Position). SoFar next_lines next_kinds ps k d 0 v f p) next_position (one_told next_lines next_kinds (both (next i l) (next i r)) s (rw e at c) w)

-- a record that only one log has
only_lines : (side : Side) (n : ℕ) (r : List ℕ) → position_lines n (only_on side r) ≡ decimal n ++ (side_text side ++ entry_text (entry_of r))
only_lines Left n r = refl
only_lines Right n r = refl

pub one_only : (side : Side) (piece : List ℕ) (i : ℕ) {k u v : Kinds} {d b f : List ℕ} {at n p : ℕ} {kind : Kind} (e : Entry)
    → SoFar next_lines next_kinds (map (only_on side) (records_in i piece)) k d at u b n → e ≡ entry_of (next i piece) → ((r : List ℕ) → kind ≡ kind_of (only_on side r))
    → Put b n (decimal u.positions ++ (side_text side ++ entry_text e)) f p → v ≡ counted u kind → SoFar next_lines next_kinds (map (only_on side) (records_in (i + 1) piece)) k d at v f p
one_only side piece i {k} {u} {v} {d} {b} {f} {at} {n} {p} e s q g w c =
    subst (λ (ps : List Position). SoFar next_lines next_kinds ps k d at v f p) (sym (map-append (only_on side) (records_in i piece) (next i piece ∷ [])) ∙ ap (map (only_on side)) (next_record i piece))
    (one_told next_lines next_kinds (only_on side (next i piece)) s (rw (g (next i piece)) at c) (rw (q, ← only_lines side u.positions (next i piece)) at w))

-- pairs, and then the records that only one piece has
module _ (a b : ℕ) (l r : List ℕ) where
  abbrev pairs : ℕ
  pairs = min a b

  abbrev rest : ℕ → List ℕ → List (List ℕ)
  rest n m = records_in (n - pairs) (drop (pairs * record_size) m)

  none : (n : ℕ) (m : List ℕ) → n ≡ pairs → rest n m ≡ []
  none n m e = let z : n - pairs ≡ 0 = omega arith in rw z

  in_turn : positions (records_in a l) (records_in b r)
      ≡ positions (records_in pairs l) (records_in pairs r) ++ (map only_left (rest a l) ++ map only_right (rest b r))
  in_turn =
      let x : a ≡ pairs + (a - pairs) = omega (arith, min-le_left a b) in
      let y : b ≡ pairs + (b - pairs) = omega (arith, min-le_right a b) in
      let u = records_length pairs l in
      let v = records_length pairs r in
      ap (λ (n : ℕ). positions (records_in n l) (records_in b r)) x ∙ ap (λ (n : ℕ). positions (records_in (pairs + (a - pairs)) l) (records_in n r)) y
      ∙ rw (records_split pairs (a - pairs) l, records_split pairs (b - pairs) r)
      (positions_append (records_in pairs l) (records_in pairs r) (rest a l) (rest b r) (λ n. absurd (omega (arith, u, v))) (λ n. absurd (omega (arith, u, v)))
      ∙ ap (λ (ps : List Position). positions (records_in pairs l) (records_in pairs r) ++ ps) ends)
    where
      ends : positions (rest a l) (rest b r) ≡ map only_left (rest a l) ++ map only_right (rest b r)
      ends =
          by_bool (leb a b)
          (λ t. rw (none a l (sym (min-eq_left (leb-true a b t)))) (positions_right (rest b r)))
          (λ t. let g = leb-false a b t in rw (none b r (sym (min-eq_right (omega arith))), append-nil (map only_left (rest a l))) (positions_left (rest a l)))

pub all_compared : (l r : List ℕ) {k u v w : Kinds} {d e f g : List ℕ} {m n p : ℕ} (a b q : ℕ) → a ≡ tellable l d → b ≡ tellable r d → q ≡ min a b
    → SoFar next_lines next_kinds (positions (records_in q l) (records_in q r)) k d 0 u e m
    → SoFar next_lines next_kinds (map only_left (records_in (a - q) (take (length l - q * record_size) (drop (q * record_size) l)))) u e m v f n
    → SoFar next_lines next_kinds (map only_right (records_in (b - q) (take (length r - q * record_size) (drop (q * record_size) r)))) v f n w g p
    → Compares l r k d (record { kinds = w; length = p }) g
all_compared l r a b q h i c x y z =
    rw (← h, ← i, in_turn a b l r, ← c)
    (all_told next_lines next_kinds (more_told next_lines next_kinds x (more_told next_lines next_kinds (rw (suffix (q * record_size) l) at y) (rw (suffix (q * record_size) r) at z))))

-- there are records, and there is room for their lines, after the pairs
pub more_there : (r : List ℕ) (b q room : ℕ) → b ≡ min (length r / record_size) room → q ≤ b → (b - q) * record_size ≤ length (take (length r - q * record_size) (drop (q * record_size) r))
more_there r b q room e h = rw (suffix (q * record_size) r, length-drop (q * record_size) r) (omega (arith, min-le_left (length r / record_size) room))

pub more_room : (a b size : ℕ) {q m n : ℕ} → q ≡ min a b → a ≤ size / position_limit → b ≤ size / position_limit → m ≤ q * position_limit → n ≤ m + (a - q) * position_limit
    → n + (b - q) * position_limit ≤ size
more_room a b size e x y f g =
    by_bool (leb a b)
    (λ t. let h = e ∙ min-eq_left (leb-true a b t) in omega arith)
    (λ t. let l : b ≤ a = omega (arith, leb-false a b t) in let h = e ∙ min-eq_right l in omega arith)

-- the length of the last line
pub pairs_text_length : (k : Kinds) → length (pairs_text k) ≡ 44 + length (decimal k.pairs) + length (decimal k.same_octets) + length (decimal k.same_reading) + length (decimal k.different)
unfolding pairs_text
pairs_text_length k = simp length-append (omega arith)

pub rest_text_length : (k : Kinds) (left right : ℕ) → length (rest_text k left right) ≡ 47 + length (decimal k.only_left) + length (decimal k.only_right) + length (decimal left) + length (decimal right)
unfolding rest_text
rest_text_length k left right = simp length-append (omega arith)

pub sum_line_length : (k : Kinds) (left right : ℕ) → length (sum_line k left right) ≡ length (pairs_text k) + length (rest_text k left right)
unfolding sum_line
sum_line_length k left right = length-append (pairs_text k) (rest_text k left right)

pub put_sum : (k : Kinds) (left right : ℕ) {d e f : List ℕ} {p q : ℕ} → Put d 0 (pairs_text k) e p → Put e p (rest_text k left right) f q → Put d 0 (sum_line k left right) f q
unfolding sum_line
put_sum k left right a b = put_then a b
