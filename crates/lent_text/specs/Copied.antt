-- Bytes in an array of 2,048.
use Rattle.std.specs.Prelude.{ℕ, List, replicate, take}
use Rattle.std.proofs.lemmas.List.Edits.{sets}
use Rattle.model.specs.Limits.{max_text}

-- zeros stand after them, and what has no room is left out
unfoldable pub copied : List ℕ → List ℕ
copied bytes = sets (replicate max_text 0) 0 (take max_text bytes)
