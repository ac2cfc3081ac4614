-- The part that is lent holds the includes.
use mathlib.Core.Path.{ap, ◌∙◌}
use Rattle.store.proofs.DecodeLaws.{includes-lent}
use Rattle.candidates.specs.Edges.{edges_of}
use Rattle.candidates.proofs.edges.edges_at.Goals as goal

pub returns : goal.returns
returns c w = c.edges_of.ensures ∙ ap edges_of (includes-lent w.held c.bounds_at.ensures c.includes.ensures)
