-- How many choices of a or more of m finds there are, how many includes they have together, and the sizes of the list that they make.
use Rattle.std.specs.Prelude.{ℕ, ◌+◌, ◌-◌, ◌*◌, ◌≤◌, ◌<◌, ◌≡◌, ◌||◌, cond, List, [], ◌∷◌, ltb, Result, Ok, Err}
use Rattle.model.specs.Limits.{max_matches, max_strings}
use Rattle.model.specs.Lists.{from_to}
use Rattle.store.specs.declared.TooLong.{TooLong}
use Rattle.store.specs.Built.{Built, sized_as}
use Rattle.occurs.specs.declared.counts.Counts.{Counts}
use Rattle.occurs.specs.declared.counts.Excess.{Excess}
use Rattle.occurs.specs.Binomial.{binomial}
use Rattle.occurs.specs.WithNot.{not_matches, not_strings, excess_of}

-- the sum of f over a list
unfoldable pub sum : (ℕ → ℕ) → List ℕ → ℕ
sum f [] = 0
sum f (x ∷ xs) = f x + sum f xs

-- the choices of a, a + 1, .. and m finds
unfoldable pub choices_from : ℕ → ℕ → ℕ
choices_from m a = sum (binomial m) (from_to a m)

unfoldable pub includes_from : ℕ → ℕ → ℕ
includes_from m a = sum (λ k. k * binomial m k) (from_to a m)

-- the two answers of a count
abbrev pub exact : ℕ → ℕ → ℕ → Result Counts TooLong
exact choices includes fewest = Ok (record { choices = choices; includes = includes; fewest = fewest })

abbrev pub uncounted : Result Counts TooLong
uncounted = Err (record {})

-- as the code counts them: not at all, where they are too many
unfoldable pub counted_of : ℕ → ℕ → Result Counts TooLong
counted_of m a =
    cond (ltb max_matches (choices_from m a) || ltb max_strings (includes_from m a)) uncounted (exact (choices_from m a) (includes_from m a) (binomial m a))

-- the excess of m finds, where at most b are wanted; or so many finds are too many that the list is too long
abbrev pub ExcessIs : ℕ → ℕ → Excess → Type 0
ExcessIs m b excess = (excess_of excess ≡ m - b) × (excess_of excess ≤ m) × (2 ≤ excess_of excess → m ≡ 2)

abbrev pub ExcessIsNot : ℕ → ℕ → Type 0
ExcessIsNot m b = (1 < m - b) × (2 < m)

-- the sizes of so many choices of m finds, with so many includes together, where each is joined with every match of the not
abbrev pub size_with_not : ℕ → ℕ → ℕ → ℕ → Built
size_with_not m excess choices includes =
    sized_as (not_matches excess m * choices) (not_matches excess m * (includes + choices * not_strings excess m))
