-- What the parts come to together: the text of a listing is that of document 01's answer, and of the parts of the numbers that of the program.
use Prim.Native.Nat.{ℕ, ◌-◌, ◌%◌, ◌≤◌}
use native.Mathlib.Omega.{arith}
use mathlib.Core.Path.{◌≡◌, sym, ap, ap₂, ◌∙◌}
use mathlib.Core.List.{List}
use lib.ListN.{length, take, drop, length-drop}
use lib.Seq.{take_all}
use Rattle.model.specs.Answers.{complete_list, listing_answer}
use Rattle.model.specs.Families.{empty_table}
use Rattle.model.specs.Limits.{buffer_length, work_length}
use Rattle.model.specs.declared.Listing.{Listing}
use Rattle.text.specs.Input.{max_input, listing_of, numbers_of, program_text, section_part, selection_part}
use Rattle.text.specs.Printed.{listing_text}
use Rattle.text.proofs.InputLaws.{take-section, drop-section}
use Rattle.text.proofs.ProgramLaws.{program_listed}

pub listing_text_lem : (section selection : List ℕ) {work buffer : ℕ} {answer : Listing} → answer ≡ listing_answer section empty_table selection work buffer → work ≡ work_length → buffer ≡ buffer_length
    → listing_text answer (complete_list section empty_table selection) ≡ listing_of section selection
listing_text_lem section selection e w b =
    ap (λ (l : Listing). listing_text l (complete_list section empty_table selection)) (e ∙ ap₂ (listing_answer section empty_table selection) w b)

pub parts-text : (numbers : List ℕ) (k : ℕ) → k ≡ length (section_part numbers)
    → listing_of (take k numbers) (take (length numbers - k) (drop k numbers)) ≡ listing_of (section_part numbers) (selection_part numbers)
parts-text numbers k e =
    let rest : take (length numbers - k) (drop k numbers) ≡ drop k numbers = take_all (length numbers - k) (drop k numbers) (simp length-drop (omega arith)) in
    ap₂ listing_of (take-section numbers k e) (rest ∙ drop-section numbers k e)

pub program_text_lem : (input : List ℕ) {numbers : List ℕ} → numbers ≡ numbers_of input → length input ≤ max_input → length input % 4 ≡ 0
    → listing_of (section_part numbers) (selection_part numbers) ≡ program_text input
program_text_lem input e h z = ap (λ (l : List ℕ). listing_of (section_part l) (selection_part l)) e ∙ sym (program_listed input h z)
