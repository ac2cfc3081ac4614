-- The one string that strings are joined to.
use Rattle.std.specs.Prelude.{false, List, [], ◌≡◌, ◌≢◌, get_or}
use Rattle.model.specs.Matches.{Str}
use Rattle.model.specs.Rules.{join}
use Rattle.strings.specs.declared.positions.Run.{Run}

-- the string of zeros, which stands for none: positions and query positions run from 1
abbrev pub zero_str : Str
zero_str = record { start = 0; end = 0; query = 0; contiguous = false }

-- the join's string; "no includes give none"
unfoldable pub joined : List Str → Str
joined ss = get_or (join ss) 0 zero_str

-- the positions of strings, of which there are some: those of the join
pub record Extent (ss : List Str) (run : Run) : Type 0 where
  pub some : ss ≢ []
  pub lo_value : run.lo.0 ≡ (joined ss).start
  pub hi_value : run.hi.0 ≡ (joined ss).end
