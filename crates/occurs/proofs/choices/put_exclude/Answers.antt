-- Find number d, three numbers a find after the first, is written with the sort of an exclude (ExcludesLaws).
use Prim.Native.Nat.{◌+◌, ◌*◌, ◌/◌}
use mathlib.Core.Path.{ap, ◌∙◌}
use Rattle.occurs.proofs.ExcludesLaws.{within, exclude-put}
use Rattle.occurs.proofs.choices.put_exclude.Goals as goal

pub string_at-string-requires : goal.string_at-string-requires
string_at-string-requires c = within c.requires

pub returns : goal.returns
returns c w =
    exclude-put w (c.with_sort.ensures.span_value ∙ c.string_at-string.ensures.span_value)
    (c.with_sort.ensures.tag_value ∙ ap (λ t. t / 2 * 2 + 1) c.string_at-string.ensures.tag_value) c.put_string.ensures
