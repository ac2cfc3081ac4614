-- What every string in memory has: a span within the longest section, and a query position among the most phrases that a selection can have.
use Rattle.std.specs.Prelude.{◌≤◌}
use Rattle.model.specs.Accepted.{max_phrases}
use Rattle.model.specs.Limits.{max_tokens}
use Rattle.model.specs.Matches.{Str}

pub record ValidStr (s : Str) : Type 0 where
  pub start_from_one : 1 ≤ s.start
  pub in_order : s.start ≤ s.end
  pub end_up_to : s.end ≤ max_tokens
  pub query_from_one : 1 ≤ s.query
  pub query_up_to : s.query ≤ max_phrases
