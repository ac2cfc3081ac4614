-- Strings with positions in a range.
use Rattle.std.specs.Prelude.{Bool, ◌&&◌, List}
use Rattle.model.specs.Matches.{Str}
use Rattle.strings.specs.Covering.{any_overlaps}
use Rattle.strings.specs.declared.positions.Run.{Run}
use Rattle.candidates.specs.declared.edges.Ranges.{Ranges}

abbrev pub any_in_range : Run → List Str → Bool
any_in_range run ss = any_overlaps run.lo.0 run.hi.0 ss

abbrev pub overlap_both : Ranges → List Str → Bool
overlap_both ranges ss = any_in_range ranges.start ss && any_in_range ranges.end ss
