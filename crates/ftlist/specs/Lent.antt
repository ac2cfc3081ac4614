-- What the program lends: working memory, a listing buffer and room for a text, of the lengths that document 01 sets and the text takes at most.
use Rattle.std.specs.Prelude.{ℕ, ◌≤◌, List, ◌≡◌, length}
use Rattle.model.specs.Limits.{buffer_length, work_length}
use Rattle.text.specs.Printable.{text_length}

-- A clause, not a type: the three are lent to be written, one after the other.
pub record Lent (work buffer text : List ℕ) : Type 0 where
  pub work_is : length work ≡ work_length
  pub buffer_is : length buffer ≡ buffer_length
  pub text_enough : text_length ≤ length text
