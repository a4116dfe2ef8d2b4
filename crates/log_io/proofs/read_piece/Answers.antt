use Rattle.std.proofs.Common.{◌≡◌, ℕ, ◌+◌, ◌≤◌, List, ◌++◌, rules, length, take, drop, sym, ap, ◌∙◌, subst, le_refl, drop_at, length-take-le}
use Rattle.std.proofs.lemmas.Slice.{take-put_mid_below}
use Rattle.std.specs.Io.KnownBytes.{Consumes}
use Rattle.std.proofs.KnownBytes.{Consumes-trans}
use borrow.Rule.Slice.PartMut.{put_mid, post_of}
use lib.Seq.{take-add, take-append-le}
use Rattle.log_io.proofs.read_piece.Goals as goal

-- what stood in the piece before a read, and what the read put after it
take-read : (at k n : ℕ) (piece read : List ℕ) → at ≤ length piece → n ≤ length read
    → take at piece ++ take n read ≡ take (at + n) (put_mid at k piece read)
take-read at k n piece read within fits =
    let after = post_of at k piece in
    let added = ap (take n) (drop_at (take at piece) (read ++ after) at (length-take-le at piece within)) ∙ take-append-le n read after fits in
    ap (λ l. take at piece ++ l) (sym added) ∙ ap (λ l. l ++ take n (drop at (put_mid at k piece read))) (sym (take-put_mid_below _ _ _ _ _ (le_refl _) within))
    ∙ sym (take-add at n (put_mid at k piece read))

pub loop-length-preserved : goal.loop-length-preserved
loop-length-preserved g c =
    let before = c.loop-length.invariant in
    let read = c.in-Ok.ensures in
    record {
      within = search rules;
      octets = subst (Consumes _ _) (take-read _ _ _ _ _ before.within read.bound.0) (Consumes-trans _ _ _ _ _ before.octets read.bytes.0);
    }
