-- Laying out the line of a field that differs.
use Rattle.std.proofs.Common.{◌≡◌, ℕ, zero, suc, ◌+◌, ◌/◌, ◌%◌, ◌<◌, ◌≤◌, true, false, List, [], ◌∷◌, ◌++◌, map, length, get_or, take, sym, refl, ap, ◌∙◌, subst, append_assoc, append-nil, add-one, arith}
use mathlib.Core.List.{flatten}
use Rattle.codec.specs.Technology.{Technology, uwb, cs, nan, rssi, technologies}
use Rattle.codec.specs.Inner.Puts.{Put}
use Rattle.codec.proofs.Puts.{put_then, put_last, put_none}
use Rattle.bench_log.specs.Text.{ascii, decimal, hex_digit, hexadecimal}
use Rattle.bench_log.specs.Fields.{Contents}
use Rattle.bench_log.specs.Comparison.{alike, Difference, difference, shown_contents, difference_line, difference_lines}

-- ---- octets in hexadecimal, one by one

hexadecimal_next : (i : ℕ) (s : List ℕ) → i < length s → hexadecimal (take (suc i) s) ≡ hexadecimal (take i s) ++ hexadecimal (get_or s i 0 ∷ [])
hexadecimal_next i [] h = absurd (omega arith)
hexadecimal_next zero (x ∷ s) h = refl
hexadecimal_next (suc i) (x ∷ s) h = ap (λ (l : List ℕ). hex_digit (x / 16) ∷ (hex_digit (x % 16) ∷ l)) (hexadecimal_next i s (omega arith))

pub put_next_octet : {d e f : List ℕ} {at p q : ℕ} (i : ℕ) (s : List ℕ) → i < length s → Put d at (hexadecimal (take i s)) e p → Put e p (hexadecimal (get_or s i 0 ∷ [])) f q
    → Put d at (hexadecimal (take (i + 1) s)) f q
put_next_octet i s h a b = rw (add-one, hexadecimal_next i s h) (put_then a b)

-- ---- the line

module _ (n : ℕ) (x y : Contents) where
  pub put_alike : (name d : List ℕ) (at : ℕ) → alike x y ≡ true → at ≤ length d → Put d at (difference_lines n (difference name x y)) d at
  unfolding flatten difference difference_lines
  put_alike name d at e h = rw e (put_none d at h)

  -- the number and the name, and then the contents
  pub put_unlike : {d e f : List ℕ} {at p q : ℕ} (technology name : List ℕ) → alike x y ≡ false
      → Put d at (decimal n ++ (ascii " " ++ (technology ++ (name ++ ascii ": left ")))) e p
      → Put e p (shown_contents x ++ (ascii ", right " ++ (shown_contents y ++ ascii "\n"))) f q
      → Put d at (difference_lines n (difference (technology ++ name) x y)) f q
  unfolding flatten difference_line difference difference_lines
  put_unlike {d} {e} {f} {at} {p} {q} technology name u a b =
      let rest = shown_contents x ++ (ascii ", right " ++ (shown_contents y ++ ascii "\n")) in
      let t : (decimal n ++ (ascii " " ++ (technology ++ (name ++ ascii ": left ")))) ++ rest ≡ decimal n ++ (ascii " " ++ ((technology ++ name) ++ (ascii ": left " ++ rest)))
      = append_assoc (decimal n) _ rest ∙ ap (λ (l : List ℕ). decimal n ++ (ascii " " ++ l)) (append_assoc technology (name ++ ascii ": left ") rest ∙ ap (λ (l : List ℕ). technology ++ l) (append_assoc name (ascii ": left ") rest) ∙ sym (append_assoc technology name _)) in
      rw u (put_last (subst (λ (l : List ℕ). Put d at l f q) t (put_then a b)))

-- ---- lines one after the other

pub lines_append : (n : ℕ) (ds es : List Difference) → difference_lines n (ds ++ es) ≡ difference_lines n ds ++ difference_lines n es
unfolding difference_lines flatten
lines_append n [] es = refl
lines_append n (d ∷ ds) es = rw (lines_append n ds es) (sym (append_assoc (difference_line n d) _ _))

-- of each technology
pub put_four : (n : ℕ) (f : Technology → List Difference) {d e g h i : List ℕ} {at p q r s : ℕ} → Put d at (difference_lines n (f uwb)) e p → Put e p (difference_lines n (f cs)) g q
    → Put g q (difference_lines n (f nan)) h r → Put h r (difference_lines n (f rssi)) i s → Put d at (difference_lines n (flatten (map f technologies))) i s
unfolding flatten
put_four n f a b c d =
    rw (lines_append n (f uwb) (f cs ++ (f nan ++ (f rssi ++ []))), lines_append n (f cs) (f nan ++ (f rssi ++ [])), lines_append n (f nan) (f rssi ++ []), append-nil (f rssi))
    (put_then a (put_then b (put_then c d)))
