-- The first pair of numbers is the first string, and the last pair the last one.
use Prim.Native.Nat.{ℕ}
use mathlib.Core.Path.{sym, ap₂, ◌∙◌}
use Rattle.std.specs.Prelude.{Some}
use Rattle.candidates.specs.Edges.{position}
use Rattle.candidates.proofs.EdgesLaws.{edges_none, edges_read}
use Rattle.candidates.proofs.edges.edges_of.Goals as goal

pub returns-then-strs-lt2 : goal.returns-then-strs-lt2
returns-then-strs-lt2 c = sym (edges_none _ c.if-strs-lt2.true)

pub returns : goal.returns
returns c =
    ap₂ (λ (a b : ℕ). Some (record { start = position a; end = position b })) c.start_of.ensures c.end_of.ensures ∙ sym (edges_read _ c.if-strs-lt2.false)
