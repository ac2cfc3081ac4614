-- The symbols of the code, by the grammar's numbers (grammar/specs/Symbols.antt).
use Rattle.std.specs.Prelude.{ℕ, Bool, not, ◌&&◌, cond, List, [], ◌∷◌, eqb}
use Rattle.std.specs.Str.{bytes_eq}
use Rattle.std.proofs.Common.{Bor}
use Rattle.grammar.specs.Symbols.{k_ftor, k_ftand, k_ftnot, k_not, k_in, k_ordered, k_window, k_distance, k_same, k_different, k_at, k_entire, k_start, k_end, k_sentence, k_paragraph, k_content, k_occurs, k_exactly, k_from, k_to, k_least, k_most, k_words, k_times, other_word, no_more, s_quote, s_opening, s_closing, s_number}
use Rattle.scanner.specs.declared.symbols.Symbol.{Symbol}
use Rattle.scanner.specs.declared.symbols.Symbol.TheVariants.{Ftor, Ftand, Ftnot, Not, In, Ordered, Window, Distance, Same, Different, At, Entire, Start, End, Sentence, Paragraph, Content, Occurs, Exactly, From, To, Least, Most, Words, Times, OtherWord, NoMore, Quote, Opening, Closing, Number, OtherSign}

-- the number of a symbol; signs that no rule asks for have many, and are one symbol
abbrev pub number_of : Symbol → ℕ
number_of Ftor = k_ftor
number_of Ftand = k_ftand
number_of Ftnot = k_ftnot
number_of Not = k_not
number_of In = k_in
number_of Ordered = k_ordered
number_of Window = k_window
number_of Distance = k_distance
number_of Same = k_same
number_of Different = k_different
number_of At = k_at
number_of Entire = k_entire
number_of Start = k_start
number_of End = k_end
number_of Sentence = k_sentence
number_of Paragraph = k_paragraph
number_of Content = k_content
number_of Occurs = k_occurs
number_of Exactly = k_exactly
number_of From = k_from
number_of To = k_to
number_of Least = k_least
number_of Most = k_most
number_of Words = k_words
number_of Times = k_times
number_of OtherWord = other_word
number_of NoMore = no_more
number_of Quote = s_quote
number_of Opening = s_opening
number_of Closing = s_closing
number_of Number = s_number
number_of OtherSign = 0

-- is it one that a rule can ask for?
abbrev pub is_asked : Symbol → Bool
is_asked s = not (eqb (number_of s) 0)

-- .. of a token, not of the end?
abbrev pub is_token : Symbol → Bool
is_token s = is_asked s && not (eqb (number_of s) no_more)

-- the first of some symbols that has a number
abbrev pub first_of : ℕ → List Symbol → Symbol
first_of n [] = OtherSign
first_of n (s ∷ ss) = cond (eqb n (number_of s)) s (first_of n ss)

-- all that a rule can ask for
abbrev pub asked_for : List Symbol
asked_for =
    Ftor ∷ Ftand ∷ Ftnot ∷ Not ∷ In
    ∷ Ordered ∷ Window ∷ Distance ∷ Same ∷ Different ∷ At ∷ Entire
    ∷ Start ∷ End ∷ Sentence ∷ Paragraph ∷ Content
    ∷ Occurs ∷ Exactly ∷ From ∷ To ∷ Least ∷ Most ∷ Words ∷ Times
    ∷ OtherWord ∷ NoMore ∷ Quote ∷ Opening ∷ Closing ∷ Number
    ∷ []

-- the symbol of a number
unfoldable pub named : ℕ → Symbol
named n = first_of n asked_for

-- the symbol of the first of some keywords that the bytes w are
unfoldable pub first_spelled : List ℕ → List (Bor (List ℕ) × Symbol) → Symbol
first_spelled w [] = OtherWord
first_spelled w (k ∷ ks) = cond (bytes_eq w k.0.now) k.1 (first_spelled w ks)
