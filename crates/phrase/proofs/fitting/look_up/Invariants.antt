-- Invariant: the families of the words passed are told, and whether there are any.
use Rattle.std.proofs.Common.{◌≡◌, ℕ, ◌<◌, ◌≤◌, true, false, None, get_or, length}
use Rattle.model.specs.Families.{family_of}
use Rattle.phrase.proofs.fitting.look_up.Given as goal

abbrev pub invariant-loop-i : goal.invariant-loop-i
invariant-loop-i l =
    (length l.families ≡ 8) × ((j : ℕ) → j < l.i → get_or l.families j None ≡ family_of l.table.lent.now (get_or l.words j 0))
    × (l.any ≡ true → 1 ≤ l.i) × (l.any ≡ false → (j : ℕ) → j < l.i → family_of l.table.lent.now (get_or l.words j 0) ≡ None)
