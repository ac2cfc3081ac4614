-- The choices are counted and the list is sized first, so that one that is too long is refused before anything is written, and one that is not has
-- room in its slot (OutcomeLaws).
use Rattle.occurs.proofs.OutcomeLaws.{few-finds, choices-refused, known, size-refused, sizes-at, whole}
use Rattle.occurs.proofs.at_least_with_not.Goals as goal

pub count_choices-requires : goal.count_choices-requires
count_choices-requires c = few-finds c.requires.excess_at c.size_at-m.ensures.matches

pub returns-in_err-counts : goal.returns-in_err-counts
returns-in_err-counts c w = choices-refused w c.size_at-m.ensures.matches _ c.count_choices.ensures c.in_err-counts.was c.from_residual.ensures.0

pub size_with_not-requires : goal.size_with_not-requires
size_with_not-requires c =
    let w = c.requires.excess_at in
    let k = known w c.size_at-m.ensures.matches _ c.count_choices.ensures c.in_ok-counts.was in
    (few-finds w c.size_at-m.ensures.matches, k.few, k.short)

pub returns-in_err-size : goal.returns-in_err-size
returns-in_err-size c w =
    size-refused w c.size_at-m.ensures.matches _ c.count_choices.ensures c.in_ok-counts.was c.size_with_not.ensures c.in_err-size.was c.from_residual-in_err-size.ensures.0

pub put_sizes-requires : goal.put_sizes-requires
put_sizes-requires c =
    sizes-at c.requires.excess_at c.size_at-m.ensures.matches _ c.count_choices.ensures c.in_ok-counts.was c.size_with_not.ensures c.requires.slot_below c.in_ok-size.was

pub returns : goal.returns
returns c w =
    whole w c.size_at-m.ensures.matches _ c.count_choices.ensures c.in_ok-counts.was c.size_with_not.ensures c.requires.slot_below c.in_ok-size.was c.put_sizes.ensures
    c.put_slot_header.ensures
