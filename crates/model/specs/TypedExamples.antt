-- Typed searches with their codes or errors, as entries of one list. That each text has the answer beside it is one fact, `ExamplesHold`.
use Rattle.std.specs.Prelude.{ℕ, List, [], ◌∷◌}
use Prim.Native.String.{String}
use Rattle.model.specs.declared.Code.TheVariants.{Word, Phrase, Combine, Not, Filter as Filtered, Occurs}
use Rattle.model.specs.declared.Filter.TheVariants.{Ordered, Window, Distance, SameSentence, SameParagraph, DifferentSentence, DifferentParagraph, AtStart, AtEnd, EntireContent}
use Rattle.model.specs.declared.Pair.TheVariants.{Or, And, MildNot}
use Rattle.model.specs.declared.Reason.{Reason}
use Rattle.model.specs.declared.Reason.TheVariants.{UnexpectedToken, OverLimit}
use Rattle.model.specs.declared.Times.TheVariants.{FromTo, AtLeast}
use Rattle.model.specs.Bytes.{bytes}
use Rattle.model.specs.Checks.{refusal}
use Rattle.model.specs.Lists.{Every}
use Rattle.model.specs.TextAnswer.{TextAnswer, codes, error, AnswerOf}

pub record Example : Type 0 where
  pub text : String
  pub answer : TextAnswer

abbrev reads : String → TextAnswer → Example
reads text answer = record { text = text; answer = answer }

abbrev fails : Reason → ℕ → TextAnswer
fails reason place = error (refusal reason place)

unfoldable pub examples : List Example
examples =
    -- a phrase
    reads "\"10\"" (codes (Word 10 ∷ Phrase 1 ∷ []))
    ∷ reads " \"0010 20\"" (codes (Word 10 ∷ Word 20 ∷ Phrase 2 ∷ []))
    ∷ reads "\"1 2 3 4 5 6 7 8\"" (codes (Word 1 ∷ Word 2 ∷ Word 3 ∷ Word 4 ∷ Word 5 ∷ Word 6 ∷ Word 7 ∷ Word 8 ∷ Phrase 8 ∷ []))
    -- operators, the left operand first
    ∷ reads "\"1\" ftor \"2\" ftor \"3\"" (codes (Word 1 ∷ Phrase 1 ∷ Word 2 ∷ Phrase 1 ∷ Combine Or ∷ Word 3 ∷ Phrase 1 ∷ Combine Or ∷ []))
    ∷ reads "\"1\" ftor \"2\" ftand \"3\"" (codes (Word 1 ∷ Phrase 1 ∷ Word 2 ∷ Phrase 1 ∷ Word 3 ∷ Phrase 1 ∷ Combine And ∷ Combine Or ∷ []))
    ∷ reads "(\"1\"ftor\"2\")ftand ftnot\"3\"" (codes (Word 1 ∷ Phrase 1 ∷ Word 2 ∷ Phrase 1 ∷ Combine Or ∷ Word 3 ∷ Phrase 1 ∷ Not ∷ Combine And ∷ []))
    ∷ reads "\"1\" ftand \"2\" not in \"3\"" (codes (Word 1 ∷ Phrase 1 ∷ Word 2 ∷ Phrase 1 ∷ Word 3 ∷ Phrase 1 ∷ Combine MildNot ∷ Combine And ∷ []))
    ∷ reads "\"1\" not in \"2\" not in \"3\""
    (codes (Word 1 ∷ Phrase 1 ∷ Word 2 ∷ Phrase 1 ∷ Combine MildNot ∷ Word 3 ∷ Phrase 1 ∷ Combine MildNot ∷ []))
    ∷ reads "((\"1\"))" (codes (Word 1 ∷ Phrase 1 ∷ []))
    -- filters after a whole selection
    ∷ reads "\"10\" ftand \"20\" window 3 words" (codes (Word 10 ∷ Phrase 1 ∷ Word 20 ∷ Phrase 1 ∷ Combine And ∷ Filtered (Window 3) ∷ []))
    ∷ reads "\"1\" ftand ftnot \"2\" same sentence ordered window 6 words"
    (codes (Word 1 ∷ Phrase 1 ∷ Word 2 ∷ Phrase 1 ∷ Not ∷ Combine And ∷ Filtered SameSentence ∷ Filtered Ordered ∷ Filtered (Window 6) ∷ []))
    ∷ reads "(\"1\" ordered) ftor \"2\" window3words" (codes (Word 1 ∷ Phrase 1 ∷ Filtered Ordered ∷ Word 2 ∷ Phrase 1 ∷ Combine Or ∷ Filtered (Window 3) ∷ []))
    ∷ reads "\"1\" distance exactly 2 words distance at least 2 words"
    (codes (Word 1 ∷ Phrase 1 ∷ Filtered (Distance 2 2) ∷ Filtered (Distance 2 4095) ∷ []))
    ∷ reads "\"1\" distance at most 2 words distance from 3 to 9 words"
    (codes (Word 1 ∷ Phrase 1 ∷ Filtered (Distance 0 2) ∷ Filtered (Distance 3 9) ∷ []))
    ∷ reads "\"1\" same paragraph different sentence different paragraph"
    (codes (Word 1 ∷ Phrase 1 ∷ Filtered SameParagraph ∷ Filtered DifferentSentence ∷ Filtered DifferentParagraph ∷ []))
    ∷ reads "\"1\" at start at end entire content" (codes (Word 1 ∷ Phrase 1 ∷ Filtered AtStart ∷ Filtered AtEnd ∷ Filtered EntireContent ∷ []))
    -- occurs after a phrase
    ∷ reads "\"1\" occurs at least 3 times" (codes (Word 1 ∷ Phrase 1 ∷ Occurs (AtLeast 3) ∷ []))
    ∷ reads "\"1 2\" occurs exactly 2 times ftor ftnot \"3\" occurs at most 2 times"
    (codes (Word 1 ∷ Word 2 ∷ Phrase 2 ∷ Occurs (FromTo 2 2) ∷ Word 3 ∷ Phrase 1 ∷ Occurs (FromTo 0 2) ∷ Not ∷ Combine Or ∷ []))
    ∷ reads "(\"1\"occurs from 3 to 9 times)window 3 words" (codes (Word 1 ∷ Phrase 1 ∷ Occurs (FromTo 3 9) ∷ Filtered (Window 3) ∷ []))
    -- codes that document 01 refuses
    ∷ reads "\"1\" occurs from 3 to 2 times ftor \"2\" occurs at least 4096 times"
    (codes (Word 1 ∷ Phrase 1 ∷ Occurs (FromTo 3 2) ∷ Word 2 ∷ Phrase 1 ∷ Occurs (AtLeast 4096) ∷ Combine Or ∷ []))
    ∷ reads "\"1\" window 0 words distance from 3 to 2 words " (codes (Word 1 ∷ Phrase 1 ∷ Filtered (Window 0) ∷ Filtered (Distance 3 2) ∷ []))
    -- 10, the grammar doesn't allow the token, or the end
    ∷ reads "" (fails UnexpectedToken 1)
    ∷ reads "\"1\" ftor  " (fails UnexpectedToken 11)
    ∷ reads "ftnot ftnot \"1\"" (fails UnexpectedToken 7)
    ∷ reads "\"1\" ordered ftand \"2\"" (fails UnexpectedToken 13)
    ∷ reads "\"1\" not \"2\"" (fails UnexpectedToken 9)
    ∷ reads "\"1\" Ftor \"2\"" (fails UnexpectedToken 5)
    ∷ reads "\"1\" ftors \"2\"" (fails UnexpectedToken 5)
    ∷ reads "(\"1\"" (fails UnexpectedToken 5)
    ∷ reads "\"1\")" (fails UnexpectedToken 4)
    ∷ reads "\"\"" (fails UnexpectedToken 2)
    ∷ reads "\"1" (fails UnexpectedToken 3)
    ∷ reads "\"1\"\t" (fails UnexpectedToken 4)
    ∷ reads "(\"1\") occurs exactly 1 times" (fails UnexpectedToken 7)
    ∷ reads "\"1\" occurs 2 times" (fails UnexpectedToken 12)
    ∷ reads "\"1\" occurs exactly 2 words" (fails UnexpectedToken 22)
    ∷ reads "\"1\" occurs exactly 2 times occurs" (fails UnexpectedToken 28)
    ∷ reads "\"1\" occurs exactly 2" (fails UnexpectedToken 21)
    -- 11, a number too large
    ∷ reads "\"4294967295\"" (codes (Word 4294967295 ∷ Phrase 1 ∷ []))
    ∷ reads "\"4294967296\"" (fails OverLimit 2)
    ∷ reads "\"1\" window 4096 words" (codes (Word 1 ∷ Phrase 1 ∷ Filtered (Window 4096) ∷ []))
    ∷ reads "\"1\" window 4097" (fails OverLimit 12)
    ∷ reads "\"1\" distance from 1 to 4097 and" (fails OverLimit 24)
    ∷ reads "\"1\" occurs at least 4097 times" (fails OverLimit 21)
    -- where no number may stand, 10
    ∷ reads "\"1\" 99999999999" (fails UnexpectedToken 5)
    ∷ reads "\"1 2 3 4 5 6 7 8 99999999999\"" (fails UnexpectedToken 18)
    ∷ []

abbrev pub ExamplesHold : Type 0
ExamplesHold = Every (λ e. AnswerOf (bytes e.text) e.answer) examples
