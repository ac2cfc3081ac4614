-- Invariant: what is written, and the strings of choice number rest from the matches left, are the strings of choice number c; weight is the number of these
-- choices (SideLaws). The next match's string is the digit of most weight of rest.
use mathlib.Core.Path.{◌≡◌}
use lib.ListN.{length}
use Rattle.strings.specs.Strings.{number_of_sort}
use Rattle.negation.specs.Chosen.{SideAt}
use Rattle.negation.proofs.SideLaws.{Going}
use Rattle.negation.proofs.choices.Choices.put_side.Given as goal

abbrev pub invariant-loop : goal.invariant-loop
invariant-loop l =
    (length l.mem ≡ length l.initial.mem) × ((w : SideAt l.initial.mem l.fn.self.src l.fn.self.total l.c (number_of_sort l.sort) l.at) → Going w.list l.initial.mem l.n l.c (number_of_sort l.sort) l.at l.mem l.from l.q l.rest l.weight l.counter)
