-- What printing an answer takes: of a refusal nothing; of a listing its numbers in the buffer, a list within the limits and every string valid.
use Rattle.std.specs.Prelude.{ℕ, ◌≤◌, List, ◌≡◌, length}
use Rattle.model.specs.AllStrings.{AllList}
use Rattle.model.specs.Answers.{listing_numbers}
use Rattle.model.specs.Limits.{max_matches, max_strings}
use Rattle.model.specs.Matches.{Match, strings}
use Rattle.model.specs.declared.Listing.{Listing}
use Rattle.model.specs.declared.Listing.TheVariants.{Listed, Refused}
use Rattle.store.specs.ValidStr.{ValidStr}
use Rattle.store.specs.Layout.{Holds}

-- how many bytes a text has at most: a first line of 12 for a listing, as "yes 256 512"; 2 for each of 256 matches, as "." and its line's end; and 17
-- for each of 512 strings, as "+4096-4096 q32 c" and what parts it from the next. A refusal takes 30, its two numbers ten digits each.
abbrev pub text_length : ℕ
text_length = 9228

pub record ListingIn (matches strs : ℕ) (ms : List Match) (buffer : List ℕ) : Type 0 where
  pub matches_are : matches ≡ length ms
  pub strings_are : strs ≡ strings ms
  pub holds : Holds buffer 0 (listing_numbers ms)
  pub few : length ms ≤ max_matches
  pub short : strings ms ≤ max_strings
  pub valid : AllList ValidStr ms

abbrev pub PrintableAs : Listing → List Match → List ℕ → Type 0
PrintableAs (Listed matches strs yes') ms buffer = ListingIn matches strs ms buffer
PrintableAs (Refused r) ms buffer = Unit {0}

-- the list too: the text is that of its matches
pub record Printable (answer : Listing) (buffer : List ℕ) : Type 0 where
  pub list : List Match
  pub held : PrintableAs answer list buffer
