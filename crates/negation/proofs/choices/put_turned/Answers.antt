-- Where the string has the sort asked for nothing is written, else the same string with the other sort.
use Prim.Native.Nat.{◌+◌, ◌*◌, ◌/◌, ◌%◌}
use lib.ListN.{get_or}
use mathlib.Core.Path.{◌≡◌, sym, ap, ◌∙◌}
use Rattle.strings.specs.Strings.{number_of_sort}
use Rattle.negation.proofs.TurnedLaws.{same_sort, other_sort, stays, roomy, turns}
use Rattle.negation.proofs.choices.put_turned.Goals as goal
use Rattle.negation.proofs.choices.put_turned.Goals.{After-sort}

sort_is : (c : After-sort) → number_of_sort c.sort.result ≡ get_or c.args.mem.now (c.args.a + 1) 0 % 2
sort_is c = c.sort.ensures ∙ ap (λ t. t % 2) c.string_at-string.ensures.tag_value

pub returns-then-eq : goal.returns-then-eq
returns-then-eq c = stays _ _ _ _ (sym (sort_is (goal.at.returns-then-eq c).After-sort) ∙ same_sort _ _ c.if-eq.ensures)

pub put_string-requires : goal.put_string-requires
put_string-requires c = roomy _ _ _ _ (λ e. other_sort _ _ c.if-eq.ensures (sort_is (goal.at.put_string-requires c).After-sort ∙ e)) c.requires

pub returns : goal.returns
returns c =
    turns _ _ _ _ (λ e. other_sort _ _ c.if-eq.ensures (sort_is (goal.at.returns c).After-sort ∙ e))
    (c.with_sort.ensures.span_value ∙ c.string_at-string.ensures.span_value)
    (c.with_sort.ensures.tag_value ∙ ap (λ t. t / 2 * 2 + number_of_sort c.args.sort) c.string_at-string.ensures.tag_value) c.put_string.ensures
