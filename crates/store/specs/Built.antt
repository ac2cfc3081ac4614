-- What building a list answers: its size, or "its list has over 256 matches or 512 strings".
use Rattle.std.specs.Prelude.{ℕ, ◌≤◌, ◌||◌, cond, List, ltb, length, Result, Ok, Err}
use Rattle.model.specs.Limits.{max_matches, max_strings}
use Rattle.model.specs.Matches.{Match, strings, too_long}
use Rattle.store.specs.declared.Size.{Size}
use Rattle.store.specs.declared.TooLong.{TooLong}

abbrev pub Built : Type 0
Built = Result Size TooLong

abbrev pub made : ℕ → ℕ → Built
made matches strs = Ok (record { matches = matches; strings = strs })

abbrev pub over : Built
over = Err (record {})

abbrev pub built_of : List Match → Built
built_of ms = cond (too_long ms) over (made (length ms) (strings ms))

-- the same for a list of so many matches and strings
abbrev pub sized_as : ℕ → ℕ → Built
sized_as matches strs = cond (ltb max_matches matches || ltb max_strings strs) over (made matches strs)

-- a list that isn't too long, as numbers
pub record Small (ms : List Match) : Type 0 where
  pub few : length ms ≤ max_matches
  pub strs : strings ms ≤ max_strings
