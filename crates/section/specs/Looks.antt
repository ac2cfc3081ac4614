-- What a look at the positions after `from` up to `to` tells.
use Rattle.std.specs.Prelude.{◌≡◌, ℕ, ◌+◌, ◌≤◌, cond, List, Result, Ok, Err, ◌==◌}
use Rattle.model.specs.declared.Sentence.{Sentence}
use Rattle.std.specs.Prelude.{Option, Some, None}
use Rattle.model.specs.Checks.{last_nonzero, faulty_at}
use Rattle.model.specs.Lists.{first, from_to}
use Rattle.model.specs.Section.{size, sentence_at}

-- what is known before it: the positions are the section's own, and `last` is the last nonzero sentence up to `from`
-- A clause, not a type: `last` changes with each block.
pub record LookGiven (section : List ℕ) (from to last : ℕ) : Type 0 where
  pub from_one : 1 ≤ from
  pub in_order : from ≤ to
  pub up_to : to ≤ size section
  pub last_is : last ≡ last_nonzero (sentence_at section) from

-- the first that is faulty
unfoldable pub faulty_after : List ℕ → ℕ → ℕ → Option ℕ
faulty_after section from to = first (faulty_at section) (from_to (from + 1) to)

abbrev pub Look : Type 0
Look = Result Sentence ℕ

abbrev pub look_of : Option ℕ → ℕ → Look
look_of (Some p) last = Err p
look_of None last = Ok (record { 0 = last })

abbrev pub looked_at : List ℕ → ℕ → ℕ → Look
looked_at section from to = look_of (faulty_after section from to) (last_nonzero (sentence_at section) to)

-- the last nonzero sentence up to a position, by the one before and the position's own
abbrev pub last_after : ℕ → ℕ → ℕ
last_after last here = cond (here == 0) last here

-- None is faulty; the last nonzero sentence up to `to` is that at `to`, or, where that is zero, the one up to `from`.
pub record Faultless (section : List ℕ) (from to : ℕ) : Type 0 where
  pub none_faulty : faulty_after section from to ≡ None
  pub last_is : last_nonzero (sentence_at section) to ≡ last_after (last_nonzero (sentence_at section) from) (sentence_at section to)
