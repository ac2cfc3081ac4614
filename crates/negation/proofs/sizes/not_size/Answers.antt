-- A not has as many matches as there are choices, and a string of each match of its operand in each (not-sized).
use native.Mathlib.Omega.{arith}
use native.Mathlib.Nat.{mul-le-mul}
use mathlib.Core.Path.{ap, ◌∙◌}
use Prim.Native.Nat.{◌*◌, ◌≤◌}
use Rattle.model.specs.Limits.{max_matches}
use Rattle.store.specs.Built.{sized_as}
use Rattle.negation.specs.Sizes.{ceiling}
use Rattle.negation.proofs.SizesLaws.{not-sized}
use Rattle.negation.proofs.sizes.not_size.Goals as goal

pub overflow_mul-matches : goal.overflow_mul-matches
overflow_mul-matches c =
    let capped : c.count_choices-matches.result ≤ ceiling = omega (arith, c.count_choices-matches.ensures c.requires) in
    let few : c.size_at.result.matches ≤ max_matches = omega (arith, c.size_at.ensures.matches, c.requires.slot.header.few) in
    omega (arith, mul-le-mul capped few)

pub returns : goal.returns
returns c w =
    c.sized.ensures ∙ ap (λ n. sized_as c.count_choices-matches.result (c.count_choices-matches.result * n)) c.size_at.ensures.matches ∙ not-sized w (c.count_choices-matches.ensures w)
