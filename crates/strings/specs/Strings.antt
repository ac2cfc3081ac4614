-- Strings as numbers, and back. A string is its span and its tag, as document 01's listing has them.
use Rattle.std.specs.Prelude.{ℕ, ◌/◌, ◌%◌, List, [], ◌∷◌, eqb}
use Rattle.model.specs.Answers.{span_of, tag_of}
use Rattle.model.specs.Limits.{radix}
use Rattle.model.specs.Matches.{Str}
use Rattle.strings.specs.declared.packed.Packed.{Packed}
use Rattle.strings.specs.declared.packed.Sort.{Sort}
use Rattle.strings.specs.declared.packed.Sort.TheVariants.{Include, Exclude}

-- strings of one sort (0: includes, 1: excludes), one after the other
unfoldable pub strs_of : ℕ → List Str → List ℕ
strs_of sort [] = []
strs_of sort (s ∷ ss) = span_of s ∷ tag_of sort s ∷ strs_of sort ss

-- the string of a span and a tag
abbrev pub str_of : ℕ → ℕ → Str
str_of span tag = record { start = span / radix; end = span % radix; query = tag / 4; contiguous = eqb (tag / 2 % 2) 1 }

-- the strings that a slice holds; a last number alone is none
unfoldable pub strs_at : List ℕ → List Str
strs_at [] = []
strs_at (span ∷ []) = []
strs_at (span ∷ tag ∷ rest) = str_of span tag ∷ strs_at rest

-- the string of a span and a tag that stand together
abbrev pub str_packed : Packed → Str
str_packed p = str_of p.span p.tag

-- a sort as the number that a tag has of it
abbrev pub number_of_sort : Sort → ℕ
number_of_sort Include = 0
number_of_sort Exclude = 1
