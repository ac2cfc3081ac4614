-- Without includes it has no uncovered position. Else the part of R decides as all of R does.
use Rattle.std.proofs.Common.{◌≡◌, sym, ◌∙◌}
use Rattle.std.specs.Prelude.{Some}
use Rattle.candidates.specs.Candidates.{CandidatesAt}
use Rattle.candidates.specs.Edges.{edges_of}
use Rattle.mild_not.proofs.KeepsLaws.{without_includes, search_at, by_search}
use Rattle.mild_not.proofs.keeps.is_kept.Goals as goal
use Rattle.mild_not.proofs.keeps.is_kept.Goals.{In-Some}

edges_are : (c : In-Some) (w : CandidatesAt c.args.mem.now c.args.left c.args.n c.args.r c.args.known.now) → edges_of w.item.includes ≡ Some c.in-Some.edges
edges_are c w = sym (c.edges_at.ensures (record { item = w.item; held = w.held })) ∙ c.in-Some.is

pub returns-in_default : goal.returns-in_default
returns-in_default c w = without_includes w (c.edges_at.ensures (record { item = w.item; held = w.held })) c.in_default.is c.size_at.ensures.matches

pub search-requires : goal.search-requires
search-requires c = search_at c.requires (edges_are (goal.at.search-requires c).In-Some c.requires) (c.candidates_for-part.ensures c.requires).0

pub returns : goal.returns
returns c w =
    let part = c.candidates_for-part.ensures w in
    let edges = edges_are (goal.at.returns c).In-Some w in
    by_search w edges part.0 part.1 (c.search.ensures (search_at w edges part.0))
