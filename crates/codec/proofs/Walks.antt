-- The walk accepts exactly the whole blocks that lie there, each ID once: for any layouts and any set.
use Prim.Native.Nat.{ℕ, zero, suc, ◌+◌, ◌≤◌, ◌<◌}
use native.Mathlib.Omega.{arith}
use native.Mathlib.Nat.{add_assoc, add-zero}
use mathlib.Core.Path.{◌≡◌, refl, sym, ap, ◌∙◌, subst}
use mathlib.Core.Bool.{Bool, false}
use mathlib.Core.List.{List, [], ◌∷◌, ◌++◌, append_assoc, flatten}
use lib.Dec.{eqb}
use lib.ListN.{length, get_or, drop, length-append, take-append-drop, get_or-append}
use lib.Seq.{get_or-take, get_or-drop, drop-drop}
use borrow.Author.Tests.{eqb-false, ne_eqb, le-leb, not-true}
use Rattle.codec.specs.Refusal.{Ok}
use Rattle.codec.specs.Layout.{Layout, least}
use Rattle.codec.specs.Technology.{bit}
use Rattle.codec.specs.Message.{block_at, also, no_id, block_fault, Walked, prepend, walk}
use Rattle.codec.specs.WellFormed.{Whole, Each, Once}
use Rattle.codec.proofs.Laws.{head_at, beyond, room, here}
use Rattle.codec.proofs.Outcomes.{and_true_lem, or_false_lem, chained}
use Rattle.codec.proofs.Layouts.{least_from, least_need, no_fault, fault_none}
use Rattle.codec.proofs.WalkCases.{Sound, sound}

-- none of them came before
abbrev Fresh : (ℕ → Bool) → List (List ℕ) → Type 0
Fresh came blocks = Each (λ b. came (get_or b 0 0) ≡ false) blocks

-- IDs that are fresh after one more: fresh before, and none of them is that one
fresh_apart : (new : ℕ) (came : ℕ → Bool) (blocks : List (List ℕ)) → Fresh (also new came) blocks → Fresh came blocks × Each (λ c. get_or c 0 0 ≡ new → ⊥) blocks
fresh_apart new came [] h = (tt, tt)
fresh_apart new came (b ∷ blocks) h =
    let d = or_false_lem (eqb (get_or b 0 0) new) (came (get_or b 0 0)) h.0 in
    let r = fresh_apart new came blocks h.1 in
    ((d.1, r.0), (eqb-false _ _ d.0, r.1))

fresh_also : (new : ℕ) (came : ℕ → Bool) (blocks : List (List ℕ)) → Fresh came blocks → Each (λ c. get_or c 0 0 ≡ new → ⊥) blocks → Fresh (also new came) blocks
fresh_also new came [] f n = tt
fresh_also new came (b ∷ blocks) f n = (rw (ne_eqb (get_or b 0 0) new n.0, f.0), fresh_also new came blocks f.1 n.1)

pub fresh_no_id : (blocks : List (List ℕ)) → Fresh no_id blocks
fresh_no_id [] = tt
fresh_no_id (b ∷ blocks) = (refl, fresh_no_id blocks)

module _ (layouts : ℕ → Layout) (set : ℕ) (m : List ℕ) where
  pub record Lies (n : ℕ) (came : ℕ → Bool) (at : ℕ) (blocks : List (List ℕ)) (end : ℕ) : Type 0 where
    pub lie : drop at m ≡ flatten blocks ++ drop end m
    pub inside : end ≤ length m
    pub count : length blocks ≡ n
    pub whole : Each (Whole layouts set) blocks
    pub fresh : Fresh came blocks
    pub once : Once blocks

  whole_block : (came : ℕ → Bool) (at : ℕ) → Sound layouts set m came at → Whole layouts set (block_at m at)
  whole_block came at s =
      let size = get_or m (at + 1) 0 in
      let L = layouts (get_or m at 0) in
      let two : 1 < size = omega (arith, s.enough, least_from L 2) in
      let f = no_fault L 2 (block_at m at) (rw s.size s.enough) s.fields in
      record {
        named = rw s.first (and_true_lem (bit set (get_or m at 0)) _ s.comes).0;
        size = get_or-take size (drop at m) 1 0 two ∙ get_or-drop at m 1 0 ∙ sym s.size;
        enough = rw s.first f.0;
        fields = rw s.first f.1;
      }

  pub walked : (n : ℕ) (came : ℕ → Bool) (at : ℕ) (w : Walked) → at ≤ length m → walk layouts set m n came at ≡ Ok w → Lies n came at w.blocks w.end
  unfolding walk flatten
  walked zero came at w u e =
      let q : ◌≡◌ {A = Walked} (record { blocks = []; end = at }) w = cc in
      subst (λ (w : Walked). Lies 0 came at w.blocks w.end) q (record { lie = refl; inside = u; count = refl; whole = tt; fresh = tt; once = tt })
  walked (suc n) came at w u e =
      chained (block_fault layouts set m came at) _ w e λ t a e₁.
      chained (walk layouts set m n (also (get_or m at 0) came) (at + get_or m (at + 1) 0)) _ w e₁ λ w₁ e₂ e₃.
      let s = sound layouts set m came at a in
      let r = walked n (also (get_or m at 0) came) (at + get_or m (at + 1) 0) w₁ s.whole e₂ in
      let q : prepend (block_at m at) w₁ ≡ w = cc in
      let f = fresh_apart (get_or m at 0) came w₁.blocks r.fresh in
      let lie : drop at m ≡ (block_at m at ++ flatten w₁.blocks) ++ drop w₁.end m =
      sym (take-append-drop (get_or m (at + 1) 0) (drop at m)) ∙ ap (λ (l : List ℕ). block_at m at ++ l) (drop-drop (get_or m (at + 1) 0) at m ∙ r.lie)
      ∙ sym (append_assoc (block_at m at) (flatten w₁.blocks) (drop w₁.end m)) in
      subst (λ (w : Walked). Lies (suc n) came at w.blocks w.end) q
      (record {
        lie = lie;
        inside = r.inside;
        count = ap suc r.count;
        whole = (whole_block came at s, r.whole);
        fresh = (rw s.first (not-true _ (and_true_lem (bit set (get_or m at 0)) _ s.comes).1), f.0);
        once = (rw s.first f.1, r.once);
      })

  -- ---- and the other way round

  module _ (came : ℕ → Bool) (at : ℕ) (b rest : List ℕ) (u : at ≤ length m) (e : drop at m ≡ b ++ rest) (w : Whole layouts set b) where
    two : 2 ≤ length b
    two = let L = layouts (get_or b 0 0) in omega (arith, w.enough, least_need L 2 b, least_from L 2)

    first : get_or m at 0 ≡ get_or b 0 0
    first = head_at at m ∙ ap (λ (l : List ℕ). get_or l 0 0) e ∙ get_or-append b rest 0 0 (omega (arith, two))

    size : get_or m (at + 1) 0 ≡ length b
    size = sym (get_or-drop at m 1 0) ∙ ap (λ (l : List ℕ). get_or l 1 0) e ∙ get_or-append b rest 0 1 two ∙ w.size

    -- a whole block that did not come before has no fault
    passes : came (get_or b 0 0) ≡ false → block_fault layouts set m came at ≡ Ok tt
    unfolding block_fault
    passes f =
        let L = layouts (get_or b 0 0) in
        let t = room at (length b) m b rest u e refl in
        rw (
          first,
          size,
          le-leb (at + 2) (length m) (omega (arith, two)),
          w.named,
          f,
          le-leb (least L 2) (length b) (omega (arith, w.enough, least_need L 2 b)),
          le-leb (at + length b) (length m) t,
          here at (length b) m b rest e refl,
        )
        (fault_none L 2 b w.enough w.fields)

  pub walks : (blocks : List (List ℕ)) (came : ℕ → Bool) (at : ℕ) (rest : List ℕ) → at ≤ length m → drop at m ≡ flatten blocks ++ rest
      → Each (Whole layouts set) blocks → Fresh came blocks → Once blocks
      → walk layouts set m (length blocks) came at ≡ Ok (record { blocks = blocks; end = at + length (flatten blocks) })
  unfolding walk flatten
  walks [] came at rest u e w f o = rw (add-zero at)
  walks (b ∷ blocks) came at rest u e w f o =
      let r = flatten blocks ++ rest in
      let e₁ : drop at m ≡ b ++ r = e ∙ append_assoc b (flatten blocks) rest in
      let ih = walks blocks (also (get_or b 0 0) came) (at + length b) rest (room at (length b) m b r u e₁ refl) (beyond at (length b) m b r e₁ refl) w.1 (fresh_also (get_or b 0 0) came blocks f.1 o.0) o.1 in
      rw (passes came at b r u e₁ w.0 f.0, first came at b r u e₁ w.0, size came at b r u e₁ w.0, here at (length b) m b r e₁ refl, ih, length-append b (flatten blocks), add_assoc at (length b) (length (flatten blocks)))
