-- Writing into a buffer, one piece after another.
use Prim.Native.Nat.{ℕ, ◌+◌, ◌-◌, ◌≤◌, ◌<◌}
use native.Mathlib.Omega.{arith}
use native.Mathlib.Numerals.{add-one}
use mathlib.Core.Path.{◌≡◌, refl, sym, ap, subst, ◌∙◌}
use mathlib.Core.List.{List, [], ◌∷◌, ◌++◌, append_assoc, append-nil}
use lib.ListN.{length, take, drop, set, length-append, length-take, length-drop, take-append-drop}
use lib.Seq.{take_at, set_split, drop-drop, length-take-le, drop-append-add}
use mathlib.Core.Bool.{Bool, true, false, cond}
use Rattle.codec.specs.Technology.{Technology, technology_id, names}
use Rattle.codec.specs.Layout.{Layout, Values, write, zeroed}
use Rattle.codec.specs.Blocks.{Column, cell}
use borrow.Rule.Slice.PartMut.{put_mid}
use Rattle.codec.specs.Records.{StructOf, fields}
use Rattle.codec.specs.Valid.{valid_fields}
use Rattle.codec.specs.Inner.Puts.{over, Put, block_if, Held, Fits, InColumn}

module _ (d : List ℕ) (at : ℕ) where
  length_over : (ws : List ℕ) → at + length ws ≤ length d → length (over d at ws) ≡ length d
  unfolding over
  length_over ws h = simp (length-append, length-take, length-drop) (omega arith)

  over_over : (vs ws : List ℕ) → at + length vs + length ws ≤ length d → over (over d at vs) (at + length vs) ws ≡ over d at (vs ++ ws)
  unfolding over
  over_over vs ws h =
      let t : length (take at d) ≡ at = length-take-le at d (omega arith) in
      let p : length (take at d ++ vs) ≡ at + length vs = simp (length-append, t) in
      let r = drop (at + length vs) d in
      let a : take at d ++ (vs ++ r) ≡ (take at d ++ vs) ++ r = sym (append_assoc (take at d) vs r) in
      let b : take (at + length vs) ((take at d ++ vs) ++ r) ≡ take at d ++ vs = take_at (take at d ++ vs) r (at + length vs) p in
      let c : drop (at + length vs + length ws) ((take at d ++ vs) ++ r) ≡ drop (length ws) r = rw p at (drop-append-add (take at d ++ vs) r (length ws)) in
      let e : drop (length ws) r ≡ drop (at + length vs + length ws) d = drop-drop (length ws) (at + length vs) d in
      let n : at + length (vs ++ ws) ≡ at + length vs + length ws = simp length-append (omega arith) in
      rw (a, b, c, e, n) (append_assoc (take at d) vs (ws ++ drop (at + length vs + length ws) d) ∙ ap (λ (x : List ℕ). take at d ++ x) (sym (append_assoc vs ws (drop (at + length vs + length ws) d))))

  -- octets that were written whole
  pub put_over : (ws e : List ℕ) (next : ℕ) → at + length ws ≤ length d → e ≡ over d at ws → next ≡ at + length ws → Put d at ws e next
  put_over ws e next h w p = record { place = p; wrote = w; same = ap length w ∙ length_over ws h; room = h }

-- one piece after another
pub put_then : {d e f : List ℕ} {at p q : ℕ} {vs ws : List ℕ} → Put d at vs e p → Put e p ws f q → Put d at (vs ++ ws) f q
put_then {d} {e} {f} {at} {p} {q} {vs} {ws} a b =
    let h : at + length vs + length ws ≤ length d = omega (arith, a.place, a.same, b.room) in
    put_over d at (vs ++ ws) f q (simp length-append (omega arith)) (b.wrote ∙ rw (a.wrote, a.place) (over_over d at vs ws h)) (simp length-append (omega (arith, a.place, b.place)))

-- the last piece
pub put_last : {d e : List ℕ} {at p : ℕ} {ws : List ℕ} → Put d at ws e p → Put d at (ws ++ []) e p
put_last {ws = ws} a = rw (append-nil ws) a

pub put_none : (d : List ℕ) (at : ℕ) → at ≤ length d → Put d at [] d at
unfolding over
put_none d at h = let z : at + 0 ≡ at = omega arith in put_over d at [] d at (omega arith) (rw z (sym (take-append-drop at d))) (sym z)

pub put_one : (d : List ℕ) (at x : ℕ) → at < length d → Put d at (x ∷ []) (set d at x) (at + 1)
unfolding over
put_one d at x h = put_over d at (x ∷ []) (set d at x) (at + 1) (omega arith) (rw add-one (set_split d at x h)) refl

-- all octets of a slice, lent a part of the buffer
pub put_part : (d s e : List ℕ) (at : ℕ) → at + length s ≤ length d → e ≡ s → Put d at s (put_mid at (at + length s - at) d e) (at + length s)
unfolding over
put_part d s e at h w =
    let n : at + length s - at ≡ length s = omega arith in
    put_over d at s _ (at + length s) h (rw (w, n, drop-drop (length s) at d)) refl

-- a block that is there, and one that is not
module _ (present : Bool) where
  pub put_block : {d e : List ℕ} {at next : ℕ} (L : Layout) (id size : ℕ) (v : Values L) → present ≡ true → size ≡ 2 + length (write L v)
      → Put d at (id ∷ (size ∷ write L v)) e next → Put d at (block_if present L id v) e next
  put_block L id size v h n p = rw (h, ← n) p

  pub put_absent : (d : List ℕ) (at : ℕ) (L : Layout) (id : ℕ) (v : Values L) → present ≡ false → at + length (block_if present L id v) ≤ length d → Put d at (block_if present L id v) d at
  put_absent d at L id v h l = rw h (put_none d at (omega (arith, rw h at l)))

-- room for octets from a place on: for the first of them and, when they are written, for the others
pub record Room (d : List ℕ) (at : ℕ) (ws : List ℕ) : Type 0 where
  pub fits : at + length ws ≤ length d

room_first : {d : List ℕ} {at : ℕ} (vs ws : List ℕ) → Room d at (vs ++ ws) → at + length vs ≤ length d
room_first vs ws r = omega (arith, r.fits, length-append vs ws)

pub room_others : {d e : List ℕ} {at next : ℕ} {vs ws : List ℕ} → Room d at (vs ++ ws) → Put d at vs e next → Room e next ws
room_others {vs = vs} {ws = ws} r q = record { fits = omega (arith, r.fits, length-append vs ws, q.place, q.same) }

-- ---- a block's fields that are those of a technology in a column

module _ (k : Column) (c : StructOf k) (set : ℕ) (t : Technology) {L : Layout} {v : Values L} (e : InColumn k c t L v) where
  abbrev Filled : Type 0
  Filled = (M : Layout) × Values M

  pub in_held : Fits k c → Held L v
  in_held h = subst (λ (x : Filled). Held x.0 x.1) (sym e) (h t)

  pub in_zero : zeroed L v ≡ zeroed (cell k t) (fields k c t)
  in_zero = ap (λ (x : Filled). zeroed x.0 x.1) e

  pub in_made : (f : (M : Layout) → Values M) → v ≡ f L → fields k c t ≡ f (cell k t)
  in_made f h = subst (λ (x : Filled). x.1 ≡ f x.0) e h

  module _ {p : Bool} (n : p ≡ names set t) where
    pub in_valid : valid_fields L p v ≡ valid_fields (cell k t) (names set t) (fields k c t)
    in_valid = ap (λ (b : Bool). valid_fields L b v) n ∙ ap (λ (x : Filled). valid_fields x.0 (names set t) x.1) e

    in_block : block_if p L (technology_id t) v ≡ block_if (names set t) (cell k t) (technology_id t) (fields k c t)
    in_block = ap (λ (b : Bool). block_if b L (technology_id t) v) n ∙ ap (λ (x : Filled). block_if (names set t) x.0 (technology_id t) x.1) e

    pub in_size : cond p (2 + length (write L v)) 0 ≡ length (block_if (names set t) (cell k t) (technology_id t) (fields k c t))
    in_size = long p ∙ ap length in_block
      where
        long : (b : Bool) → cond b (2 + length (write L v)) 0 ≡ length (block_if b L (technology_id t) v)
        long true = omega arith
        long false = refl

    pub in_room : {d : List ℕ} {at : ℕ} (ws : List ℕ) → Room d at (block_if (names set t) (cell k t) (technology_id t) (fields k c t) ++ ws) → at + length (block_if p L (technology_id t) v) ≤ length d
    in_room ws r = omega (arith, room_first (block_if (names set t) (cell k t) (technology_id t) (fields k c t)) ws r, ap length in_block)

    pub in_put : {d f : List ℕ} {at next : ℕ} → Put d at (block_if p L (technology_id t) v) f next → Put d at (block_if (names set t) (cell k t) (technology_id t) (fields k c t)) f next
    in_put {d} {f} {at} {next} q = subst (λ (ws : List ℕ). Put d at ws f next) in_block q
