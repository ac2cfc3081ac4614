-- Texts as bytes.
use Prim.Native.Char.{code}
use Rattle.std.specs.Prelude.{ℕ, List, [], ◌∷◌}
use Prim.Native.String.{String, [] as noText, ◌∷◌ as ◌then◌}

-- the bytes of a text of ASCII characters
abbrev pub bytes : String → List ℕ
bytes noText = []
bytes (c then s) = code c ∷ bytes s
