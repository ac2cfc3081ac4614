-- "A selection is m (1 to 64), m kinds, m operands, in postfix order. Length is 1 + 2m." Its numbers as codes.
use Rattle.std.specs.Prelude.{ℕ, zero, suc, ◌+◌, ◌*◌, ◌/◌, ◌%◌, cond, List, [], ◌∷◌, ◌++◌, eqb, leb}
use Rattle.model.specs.declared.Code.{Code}
use Rattle.model.specs.declared.Code.TheVariants.{Word, Phrase, Combine, Not, Filter as Filtered, Occurs}
use Rattle.model.specs.declared.Filter.{Filter}
use Rattle.model.specs.declared.Filter.TheVariants.{Ordered, Window, Distance, SameSentence, SameParagraph, DifferentSentence, DifferentParagraph, AtStart, AtEnd, EntireContent}
use Rattle.model.specs.declared.Pair.TheVariants.{Or, And, MildNot}
use Rattle.model.specs.declared.Times.{Times}
use Rattle.model.specs.declared.Times.TheVariants.{FromTo, AtLeast}
use Rattle.model.specs.Limits.{radix}
use Rattle.model.specs.Section.{first_at, second_at}

-- "codes count from 1"
abbrev pub kind_at : List ℕ → ℕ → ℕ
kind_at selection c = first_at selection c

abbrev pub operand_at : List ℕ → ℕ → ℕ
operand_at selection c = second_at selection c

-- "Kinds 0 and 1 are words, 2 to 5 combine, 6 to 15 filter". Document 02, F-3: "kind 16, occurs from a to b (operand as kind 8), and kind 17, occurs at
-- least a", "and 18 and up are unknown".
abbrev pub combination_of : ℕ → Code
combination_of kind =
    cond (eqb kind 2) (Combine Or)
    (cond (eqb kind 3) (Combine And)
    (cond (eqb kind 4) Not (Combine MildNot)))

abbrev pub filter_of : ℕ → ℕ → Filter
filter_of kind operand =
    cond (eqb kind 6) Ordered
    (cond (eqb kind 7) (Window operand)
    (cond (eqb kind 8) (Distance (operand / radix) (operand % radix))
    (cond (eqb kind 9) SameSentence
    (cond (eqb kind 10) SameParagraph
    (cond (eqb kind 11) DifferentSentence
    (cond (eqb kind 12) DifferentParagraph
    (cond (eqb kind 13) AtStart
    (cond (eqb kind 14) AtEnd EntireContent))))))))

abbrev pub times_of : ℕ → ℕ → Times
times_of kind operand = cond (eqb kind 16) (FromTo (operand / radix) (operand % radix)) (AtLeast operand)

-- An unknown kind is refused before its code is asked for; an entire content stands for it here.
abbrev pub code_of : ℕ → ℕ → Code
code_of kind operand =
    cond (eqb kind 0) (Word operand)
    (cond (eqb kind 1) (Phrase operand)
    (cond (leb kind 5) (combination_of kind)
    (cond (leb kind 15) (Filtered (filter_of kind operand))
    (cond (leb kind 17) (Occurs (times_of kind operand))
    (Filtered EntireContent)))))

abbrev pub code_at : List ℕ → ℕ → Code
code_at selection c = code_of (kind_at selection c) (operand_at selection c)

-- And back: the kind number and the operand of each code.
abbrev pub filter_kind : Filter → ℕ
filter_kind Ordered = 6
filter_kind (Window n) = 7
filter_kind (Distance a b) = 8
filter_kind SameSentence = 9
filter_kind SameParagraph = 10
filter_kind DifferentSentence = 11
filter_kind DifferentParagraph = 12
filter_kind AtStart = 13
filter_kind AtEnd = 14
filter_kind EntireContent = 15

abbrev pub filter_operand : Filter → ℕ
filter_operand Ordered = 0
filter_operand (Window n) = n
filter_operand (Distance a b) = a * radix + b
filter_operand SameSentence = 0
filter_operand SameParagraph = 0
filter_operand DifferentSentence = 0
filter_operand DifferentParagraph = 0
filter_operand AtStart = 0
filter_operand AtEnd = 0
filter_operand EntireContent = 0

abbrev pub times_kind : Times → ℕ
times_kind (FromTo a b) = 16
times_kind (AtLeast a) = 17

abbrev pub times_operand : Times → ℕ
times_operand (FromTo a b) = a * radix + b
times_operand (AtLeast a) = a

abbrev pub kind_of : Code → ℕ
kind_of (Word w) = 0
kind_of (Phrase k) = 1
kind_of (Combine Or) = 2
kind_of (Combine And) = 3
kind_of Not = 4
kind_of (Combine MildNot) = 5
kind_of (Filtered f) = filter_kind f
kind_of (Occurs k) = times_kind k

abbrev pub operand_of : Code → ℕ
operand_of (Word w) = w
operand_of (Phrase k) = k
operand_of (Combine k) = 0
operand_of Not = 0
operand_of (Filtered f) = filter_operand f
operand_of (Occurs k) = times_operand k

-- the first n of a row
unfoldable pub up_to : {A : Type 0} → (ℕ → A) → ℕ → List A
up_to at zero = []
up_to at (suc n) = up_to at n ++ at (suc n) ∷ []
