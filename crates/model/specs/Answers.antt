-- What each call returns and leaves, as a function of the lent slices' numbers and lengths.
use Rattle.std.specs.Prelude.{ℕ, ◌+◌, ◌*◌, ◌-◌, Bool, true, false, ◌&&◌, cond, leb, length, take, drop}
use mathlib.Core.List.{List, [], ◌∷◌, ◌++◌, map, flat_map}
use Rattle.std.specs.Prelude.{Option, Some, None, option_map, Result, Ok, Err}
use Rattle.model.specs.declared.Listing.{Listing}
use Rattle.model.specs.declared.Listing.TheVariants.{Listed, Refused}
use Rattle.model.specs.declared.Reason.TheVariants.{LongList}
use Rattle.model.specs.declared.Refusal.{Refusal}
use Rattle.model.specs.AllMatches.{all_matches}
use Rattle.model.specs.Checks.{refusal, refusal_values, otherwise, section_refusal, listing_checks, quick_checks}
use Rattle.model.specs.Limits.{radix}
use Rattle.model.specs.Matches.{Str, Match, is_yes, strings_in, strings}
use Rattle.model.specs.Section.{size}
use Rattle.model.specs.Families.{searched_of}
use Rattle.model.specs.Trees.{tree_of, parts}
use Rattle.model.specs.Walk.{Quick, first_too_long, walk}

-- A refusal, or none, as the checks' answer: where none falls, the size of what was checked.
abbrev pub checked_of : ℕ → Option Refusal → Result ℕ Refusal
checked_of size (Some r) = Err r
checked_of size None = Ok size

-- The complete AllMatches of lent slices.
abbrev pub complete_list : List ℕ → List ℕ → List ℕ → List Match
complete_list section families selection = all_matches (searched_of section families) (tree_of selection)

-- The full listing: refusals 1 to 8, 12 and 13, then 9 at "the first such code built". The listing builds every code but kind 0.
unfoldable pub listing_refusal : List ℕ → List ℕ → List ℕ → ℕ → ℕ → Option Refusal
listing_refusal section families selection work buffer =
    let nine = option_map (refusal LongList) (first_too_long (searched_of section families) (parts (tree_of selection))) in
    otherwise (listing_checks section families selection work buffer) nine

-- "It answers M, S and yes or no, or a refusal with its place."
abbrev pub listed : List Match → Listing
listed ms = Listed (length ms) (strings ms) (is_yes ms)

abbrev pub answer_unless : Option Refusal → List Match → Listing
answer_unless (Some r) ms = Refused r
answer_unless None ms = listed ms

unfoldable pub listing_answer : List ℕ → List ℕ → List ℕ → ℕ → ℕ → Listing
listing_answer section families selection work buffer =
    let ms = complete_list section families selection in
    answer_unless (listing_refusal section families selection work buffer) ms

-- "The buffer then holds M, S, the M string counts, then two parallel arrays of S: spans (start × 65,536 + end) and tags (query position × 4, plus
-- 2 if contiguous, plus 1 if an exclude), includes before excludes in each match."
abbrev pub span_of : Str → ℕ
span_of s = s.start * radix + s.end

-- sort: 0 for an include, 1 for an exclude
abbrev pub tag_of : ℕ → Str → ℕ
tag_of sort s = s.query * 4 + cond s.contiguous 2 0 + sort

abbrev pub spans_in : Match → List ℕ
spans_in m = map span_of m.includes ++ map span_of m.excludes

abbrev pub tags_in : Match → List ℕ
tags_in m = map (tag_of 0) m.includes ++ map (tag_of 1) m.excludes

unfoldable pub listing_numbers : List Match → List ℕ
listing_numbers ms = length ms ∷ strings ms ∷ (map strings_in ms ++ flat_map spans_in ms ++ flat_map tags_in ms)

-- "The rest of it is unchanged." A refusal leaves all of it unchanged.
abbrev pub buffer_unless : Option Refusal → List ℕ → List ℕ → List ℕ
buffer_unless (Some r) numbers buffer = buffer
buffer_unless None numbers buffer = numbers ++ drop (length numbers) buffer

unfoldable pub listing_buffer : List ℕ → List ℕ → List ℕ → ℕ → List ℕ → List ℕ
listing_buffer section families selection work buffer =
    let numbers = listing_numbers (complete_list section families selection) in
    buffer_unless (listing_refusal section families selection work (length buffer)) numbers buffer

-- The quick answer: refusals 1 to 8, 12 and 13, then the walk.
abbrev pub walk_unless : Option Refusal → Quick → Quick
walk_unless (Some r) walked = Err r
walk_unless None walked = walked

unfoldable pub quick_answer : List ℕ → List ℕ → List ℕ → ℕ → Quick
quick_answer section families selection work =
    let walked = walk (searched_of section families) (tree_of selection) in
    walk_unless (quick_checks section families selection work) walked

-- The snippet: "Section, from, to: the word numbers of those positions, as a part of the lent section. An empty part if the section isn't accepted
-- or 1 ≤ from ≤ to ≤ n fails."
abbrev pub is_accepted : Option Refusal → Bool
is_accepted (Some r) = false
is_accepted None = true

abbrev pub has_positions : List ℕ → ℕ → ℕ → Bool
has_positions section from to = is_accepted (section_refusal section) && leb 1 from && leb from to && leb to (size section)

unfoldable pub snippet_of : List ℕ → ℕ → ℕ → List ℕ
snippet_of section from to = cond (has_positions section from to) (take (to + 1 - from) (drop from section)) []

-- The index in the section at which it starts. An empty part starts at 0.
unfoldable pub snippet_start : List ℕ → ℕ → ℕ → ℕ
snippet_start section from to = cond (has_positions section from to) from 0

-- Where the number at an index of a lent slice stands. A place in memory is a block and an offset in bytes; a number takes four.
abbrev pub stands_at : ℕ × ℕ → ℕ → ℕ × ℕ
stands_at start index = (start.0, index * 4 + start.1)

-- What each case of a call's answer says, in document 01's numbers: a refusal's number and place; for what is given 0, and its values.
abbrev pub listing_values : Listing → List ℕ
listing_values (Listed matches strs answer) = 0 ∷ matches ∷ strs ∷ cond answer 1 0 ∷ []
listing_values (Refused r) = refusal_values r

abbrev pub quick_values : Quick → List ℕ
quick_values (Ok a) = 0 ∷ cond a.yes 1 0 ∷ a.codes ∷ []
quick_values (Err r) = refusal_values r
