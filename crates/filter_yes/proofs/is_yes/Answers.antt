-- Each arm is the loop at its filter.
use Rattle.std.proofs.Common.{sym}
use Rattle.filter_yes.proofs.is_yes.Goals as goal

pub returns-in-Ordered : goal.returns-in-Ordered
returns-in-Ordered c w = rw c.in-Ordered.is (c.any_yes.ensures w)

pub returns-in-Window : goal.returns-in-Window
returns-in-Window c w = rw c.in-Window.is (c.any_yes-in-Window.ensures w)

pub returns-in-Distance : goal.returns-in-Distance
returns-in-Distance c w = rw c.in-Distance.is (c.any_yes-in-Distance.ensures w)

pub returns-in-SameSentence : goal.returns-in-SameSentence
returns-in-SameSentence c w = rw (c.in-SameSentence.is, sym c.new.ensures) (c.any_yes-in-SameSentence.ensures w)

pub returns-in-SameParagraph : goal.returns-in-SameParagraph
returns-in-SameParagraph c w = rw (c.in-SameParagraph.is, sym c.new-in-SameParagraph.ensures) (c.any_yes-in-SameParagraph.ensures w)

pub returns-in-DifferentSentence : goal.returns-in-DifferentSentence
returns-in-DifferentSentence c w = rw (c.in-DifferentSentence.is, sym c.new-in-DifferentSentence.ensures) (c.any_yes-in-DifferentSentence.ensures w)

pub returns-in-DifferentParagraph : goal.returns-in-DifferentParagraph
returns-in-DifferentParagraph c w = rw (c.in-DifferentParagraph.is, sym c.new-in-DifferentParagraph.ensures) (c.any_yes-in-DifferentParagraph.ensures w)

pub returns-in-AtStart : goal.returns-in-AtStart
returns-in-AtStart c w = rw (c.in-AtStart.is, sym c.start.ensures.section_value) (rw c.start.ensures.p_value at (c.any_yes-in-AtStart.ensures w))

pub returns-in-AtEnd : goal.returns-in-AtEnd
returns-in-AtEnd c w = rw (c.in-AtEnd.is, sym c.end.ensures.section_value) (rw (c.end.ensures.p_value, sym c.end.ensures.section_value) at (c.any_yes-in-AtEnd.ensures w))

pub returns-in-EntireContent : goal.returns-in-EntireContent
returns-in-EntireContent c w = rw c.in-EntireContent.is (c.any_yes-in-EntireContent.ensures w)
