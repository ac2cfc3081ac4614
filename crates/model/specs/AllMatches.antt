-- "The unlimited lists are those of the rules above for every code but kind 0, unread ones too, with no limit on matches or strings; the complete
-- AllMatches of a selection is that of its last code." F-3: "The unlimited meaning that the quick answer is held to gains both kinds."
use mathlib.Core.List.{List, flat_map}
use Rattle.model.specs.declared.Filter.{Filter}
use Rattle.model.specs.declared.Filter.TheVariants.{Ordered, Window, Distance, SameSentence, SameParagraph, DifferentSentence, DifferentParagraph, AtStart, AtEnd, EntireContent}
use Rattle.model.specs.declared.Pair.{Pair}
use Rattle.model.specs.declared.Pair.TheVariants.{Or, And, MildNot}
use Rattle.model.specs.declared.Times.{Times}
use Rattle.model.specs.declared.Times.TheVariants.{FromTo, AtLeast}
use Rattle.model.specs.Kinds.{Change, negated, filtered, occurring}
use Rattle.model.specs.Matches.{Match}
use Rattle.model.specs.Rules.{phrase_list, or_list, and_list, not_list, mild_not_list, kept, ordered, window, distance, same, different, at_start, at_end, entire_content, at_least, from_to_times}
use Rattle.model.specs.Section.{Section}
use Rattle.model.specs.Families.{Searched}
use Rattle.model.specs.Trees.{Tree, phrase, pair, change}

-- kinds 2, 3 and 5
abbrev pub pair_list : Pair → List Match → List Match → List Match
pair_list Or = or_list
pair_list And = and_list
pair_list MildNot = mild_not_list

-- kinds 6 to 15: what a filter gives of one match
abbrev pub filter_match : Section → Filter → Match → List Match
filter_match s Ordered = kept ordered
filter_match s (Window n) = window n
filter_match s (Distance a b) = kept (distance a b)
filter_match s SameSentence = kept (same s.sentence)
filter_match s SameParagraph = kept (same s.paragraph)
filter_match s DifferentSentence = kept (different s.sentence)
filter_match s DifferentParagraph = kept (different s.paragraph)
filter_match s AtStart = kept (at_start s)
filter_match s AtEnd = kept (at_end s)
filter_match s EntireContent = kept (entire_content s)

unfoldable pub filter_list : Section → Filter → List Match → List Match
filter_list s f ms = flat_map (filter_match s f) ms

-- kinds 16 and 17, of a phrase's list
abbrev pub occurs_list : Times → List Match → List Match
occurs_list (FromTo a b) = from_to_times a b
occurs_list (AtLeast a) = at_least a

-- kind 4, and kinds 6 to 17
abbrev pub change_list : Section → Change → List Match → List Match
change_list s negated = not_list
change_list s (filtered f) = filter_list s f
change_list s (occurring k) = occurs_list k

unfoldable pub all_matches : Searched → Tree → List Match
all_matches s (phrase c rank ws) = phrase_list s rank ws
all_matches s (pair k c t u) = pair_list k (all_matches s t) (all_matches s u)
all_matches s (change k c t) = change_list s.section k (all_matches s t)
