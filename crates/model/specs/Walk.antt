-- "The quick answer": its walk from the last code.
use Rattle.std.specs.Prelude.{ℕ, ◌+◌, Bool, true, false, not, cond, List, leb, length, Option, Some, None, option_map, Result, Ok, Err}
use Rattle.model.specs.declared.Filter.{Filter}
use Rattle.model.specs.declared.Pair.TheVariants.{Or, And, MildNot}
use Rattle.model.specs.declared.Answered.{Answered}
use Rattle.model.specs.declared.Reason.TheVariants.{LongList}
use Rattle.model.specs.declared.Refusal.{Refusal}
use Rattle.model.specs.Kinds.{negated, filtered, occurring}
use Rattle.model.specs.AllMatches.{all_matches, filter_match}
use Rattle.model.specs.Checks.{refusal}
use Rattle.model.specs.Lists.{first, any_of, is_empty, keep, from_to}
use Rattle.model.specs.Matches.{Match, is_yes, too_long}
use Rattle.model.specs.Rules.{phrase_list}
use Rattle.model.specs.Section.{Section, size}
use Rattle.model.specs.Families.{Searched}
use Rattle.model.specs.Selection.{kind_at}
use Rattle.model.specs.Trees.{Tree, phrase, pair, change, place_of, parts}

-- What the walk of a part answers: yes or no and a count of codes, or a refusal.
abbrev pub Quick : Type 0
Quick = Result Answered Refusal

abbrev pub answered : Bool → ℕ → Quick
answered answer codes = Ok (record { yes = answer; codes = codes })

-- 9, "the first such code built": "its list has over 256 matches or 512 strings". "Building makes one list for each code of the part but kind 0,
-- in postfix order; a list is measured complete, and the steps inside a rule are not."
abbrev pub is_too_long : Searched → Tree → Bool
is_too_long s t = too_long (all_matches s t)

unfoldable pub first_too_long : Searched → List Tree → Option ℕ
first_too_long s codes = option_map place_of (first (is_too_long s) codes)

-- "At kinds 5 to 15 it builds that code's whole part by the rules above, left to right, and looks for a match without excludes." "a built part,
-- which is its code and every code below it, counts all its codes but those of kind 0." Since F-4 so of kind 5, and by F-3 of kinds 16 and 17.
abbrev pub unless_too_long : Option ℕ → Bool → ℕ → Quick
unless_too_long (Some place) answer codes = Err (refusal LongList place)
unless_too_long None answer codes = answered answer codes

unfoldable pub build : Searched → Tree → Quick
build s t = unless_too_long (first_too_long s (parts t)) (is_yes (all_matches s t)) (length (parts t))

-- Document 02, F-4: "Where the walk itself reaches a filter (kinds 6 to 15), it should take the operand's matches one by one and stop at the first
-- that gives a match without excludes." So of those kinds it builds the operand's part, not the filter's own list.
abbrev pub gives_yes : Section → Filter → Match → Bool
gives_yes s f m = is_yes (filter_match s f m)

-- "That filter's own list no longer counts for refusal 9; the lists under it still do." "the count of codes remains that of the walk": all codes of the
-- operand's part but those of kind 0, and the filter.
unfoldable pub filter_walk : Searched → Filter → Tree → Quick
filter_walk s f t = unless_too_long (first_too_long s (parts t)) (any_of (gives_yes s.section f) (all_matches s t)) (length (parts t) + 1)

-- "not turns the answer round"; "each walked code counts once"; "The walk ends at its first refusal."
abbrev pub turned : Quick → Quick
turned (Ok a) = answered (not a.yes) (a.codes + 1)
turned (Err r) = Err r

-- the answer of the side walked last, with the codes that were walked before it
abbrev pub after : ℕ → Quick → Quick
after n (Ok a) = answered a.yes (n + a.codes + 1)
after n (Err r) = Err r

-- "`or` walks its left side, then its right only after a no"
abbrev pub or_walk : Quick → Quick → Quick
or_walk (Ok a) right = cond a.yes (answered true (a.codes + 1)) (after a.codes right)
or_walk (Err r) right = Err r

-- "`and` its left side, then its right only after a yes"
abbrev pub and_walk : Quick → Quick → Quick
and_walk (Ok a) right = cond a.yes (after a.codes right) (answered false (a.codes + 1))
and_walk (Err r) right = Err r

-- "a phrase is yes if its list isn't empty"; "Limits on size hold only for lists built at or under kinds 5 to 15." Of these kind 5 is built. Since F-4
-- kinds 6 to 15 are `filter_walk`, and only the lists under them are limited. Kinds 16 and 17 are built, as filters were before (F-3: "The quick walk
-- builds and counts them as it does filters").
unfoldable pub walk : Searched → Tree → Quick
walk s (phrase c rank ws) = answered (not (is_empty (phrase_list s rank ws))) 1
walk s (change negated c t) = turned (walk s t)
walk s (pair Or c t u) = let right = walk s u in or_walk (walk s t) right
walk s (pair And c t u) = let right = walk s u in and_walk (walk s t) right
walk s (pair MildNot c t u) = build s (pair MildNot c t u)
walk s (change (filtered f) c t) = filter_walk s f t
walk s (change (occurring k) c t) = build s (change (occurring k) c t)

-- "The selection's own count is that of all its codes but those of kind 0."
unfoldable pub own_count : List ℕ → ℕ
own_count selection = length (keep (λ c. leb 1 (kind_at selection c)) (from_to 1 (size selection)))
