use Rattle.codec.proofs.Outcomes.{verdict_refused, ok_none, ok_some}
use Rattle.codec.proofs.Listed.{starts_refused, starts}
use Rattle.codec.proofs.Rows.{column_of}
use Rattle.codec.specs.Table.{Row, row, block_count}
use Rattle.codec.specs.Message.{set_of, blocks_at}
use Rattle.codec.specs.Inner.Places.{verdict}
use Prim.Native.Nat.{ℕ}
use mathlib.Core.Path.{sym, ap, ◌∙◌}
use Rattle.codec.proofs.listing.first_in.Goals as goal

pub returns-in_err-ok : goal.returns-in_err-ok
returns-in_err-ok g c = rw c.from_residual.ensures (ok_none _ (sym c.ok.ensures.value ∙ c.in_err-ok.was) λ x e. starts_refused _ (sym c.requires.3 ∙ verdict_refused _ (e ∙ c.blocks_fault.ensures.judges)))

pub returns : goal.returns
returns g c =
    starts _ (ok_some _ (sym c.ok.ensures.value ∙ c.in_ok-ok.was) ∙ c.blocks_fault.ensures.judges ∙ ap verdict c.requires.3)
    (c.blocks_at.ensures ∙ ap (λ (i : ℕ). blocks_at (row i).times) (sym c.requires.2))
    (ap (λ (R : Row). block_count R.column (set_of c.args.m.now)) (ap row c.requires.2) ∙ rw (column_of g.C.Column.column))
