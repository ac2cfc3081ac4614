-- Invariant: the words passed equal their tokens.
use Rattle.std.proofs.Common.{◌≡◌, ℕ, ◌+◌, ◌<◌, get_or}
use Rattle.phrase.proofs.equal.Equal.all_equal.Given as goal

abbrev pub invariant-loop-i : goal.invariant-loop-i
invariant-loop-i l = (j : ℕ) → j < l.i → get_or l.self.section.now (l.p + j) 0 ≡ get_or l.self.words.now j 0
