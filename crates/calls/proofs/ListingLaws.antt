-- The full listing's answer and buffer, by what its three steps come to: the checks refuse, a list is too long, or the list lies in the first slot.
use Prim.Native.Nat.{ℕ, ◌≤◌}
use native.Mathlib.Omega.{arith}
use mathlib.Core.Path.{◌≡◌, sym, ap, subst, ◌∙◌}
use mathlib.Core.Bool.{Bool, ◌&&◌}
use mathlib.Core.List.{List}
use Rattle.std.specs.Prelude.{Some, None, option_map, Result, Ok, Err}
use lib.ListN.{length}
use lib.Seq.{sets}
use lib.Dec.{leb}
use borrow.Author.Tests.{leb-true}
use Rattle.model.specs.declared.Reason.TheVariants.{LongList, ShortMemory}
use Rattle.model.specs.declared.Listing.{Listing}
use Rattle.model.specs.declared.Listing.TheVariants.{Listed, Refused}
use Rattle.model.specs.declared.Refusal.{Refusal}
use Rattle.model.specs.Answers.{checked_of, complete_list, listed, listing_refusal, listing_answer, listing_numbers, listing_buffer}
use Rattle.model.specs.Checks.{refusal, listing_checks, input_refusal, room_refusal}
use Rattle.model.specs.Limits.{work_length, buffer_length}
use Rattle.model.specs.Matches.{Match, is_yes}
use Rattle.model.specs.Families.{searched_of}
use Rattle.model.specs.Section.{size}
use Rattle.model.specs.AllMatches.{all_matches}
use Rattle.model.specs.Trees.{Tree, parts}
use Rattle.model.specs.Walk.{first_too_long}
use Rattle.model.specs.Accepted.{Passes}
use Rattle.model.proofs.AnswersLaws.{checked_accepted, checked_refused, complete_fits, listing_refusal-none, listing_refusal-passes}
use Rattle.model.proofs.ChecksLaws.{otherwise-none}
use Rattle.model.proofs.TestsLaws.{both_true, cond-none}
use Rattle.store.specs.Layout.{matches_at, strings_at}
use Rattle.store.specs.Slot.{SlotAt, SlotHolds}
use Rattle.store.proofs.SlotsLaws.{matches_held, strings-held}
use Rattle.listing_buffer.proofs.ListingLaws.{listing_rest}
use Rattle.build.specs.State.{Buildable}
use Rattle.build.specs.PartList.{PartList}
use Rattle.calls.proofs.WholeLaws.{whole_built, whole_tree}

-- the numbers of a list in the first slot, and its answer
pub listed-held : {mem : List ℕ} {ms : List Match} {m k : ℕ} {answer : Bool} → SlotHolds mem 0 ms → m ≡ matches_at mem 0 → k ≡ strings_at mem 0 → answer ≡ is_yes ms
    → Listed m k answer ≡ listed ms
listed-held s f g e = rw (f ∙ matches_held s, g ∙ strings-held s, e)

module _ (section families selection : List ℕ) (work : ℕ) (buffer : List ℕ) where
  -- what a call that refuses returns and leaves, and what one that lists does
  refuses : {r : Refusal} → listing_refusal section families selection work (length buffer) ≡ Some r
      → (Refused r ≡ listing_answer section families selection work (length buffer)) × (buffer ≡ listing_buffer section families selection work buffer)
  unfolding listing_answer listing_buffer
  refuses e = (rw e, rw e)

  lists : {answer : Listing} {buffer' : List ℕ} → listing_refusal section families selection work (length buffer) ≡ None
      → answer ≡ listed (complete_list section families selection)
      → buffer' ≡ sets buffer 0 (listing_numbers (complete_list section families selection))
      → (answer ≡ listing_answer section families selection work (length buffer)) × (buffer' ≡ listing_buffer section families selection work buffer)
  unfolding listing_answer listing_buffer
  lists e ea eb =
      let fits = complete_fits section families selection work (length buffer) e in
      let room = (listing_refusal-none section families selection work (length buffer) e).room in
      (rw e ea, rw e (eb ∙ listing_rest (complete_list section families selection) buffer (omega (arith, fits.0, fits.1, room))))

  -- a refusal of the checks is the call's
  pub checks_refuse : {checked : Result ℕ Refusal} {r : Refusal} → checked ≡ checked_of (size selection) (listing_checks section families selection work (length buffer))
      → checked ≡ Err r
      → (Refused r ≡ listing_answer section families selection work (length buffer)) × (buffer ≡ listing_buffer section families selection work buffer)
  unfolding listing_refusal
  checks_refuse told e = refuses (rw (checked_refused (size selection) (listing_checks section families selection work (length buffer)) (sym told ∙ e)))

  module _ {checked : Result ℕ Refusal} {codes : ℕ} (told : checked ≡ checked_of (size selection) (listing_checks section families selection work (length buffer)))
      (accepted : checked ≡ Ok codes) where
    all_codes : codes ≡ size selection
    all_codes = (checked_accepted (size selection) (listing_checks section families selection work (length buffer)) (sym told ∙ accepted)).1

    -- the checks pass
    passes : Passes section families selection work × (buffer_length ≤ length buffer)
    unfolding listing_checks
    passes =
        let none_refuses = (checked_accepted (size selection) (listing_checks section families selection work (length buffer)) (sym told ∙ accepted)).0 in
        let enough = leb work_length work && leb buffer_length (length buffer) in
        let both = otherwise-none (input_refusal section families selection) (room_refusal enough) none_refuses in
        let rooms = both_true (leb work_length work) (leb buffer_length (length buffer)) (cond-none enough (refusal ShortMemory 0) both.1) in
        (record { checks = both.0; enough = leb-true work_length work rooms.0 }, leb-true buffer_length (length buffer) rooms.1)

    pub buffer_enough : buffer_length ≤ length buffer
    buffer_enough = passes.1

    -- so the whole can be built
    pub ready : (mem : List ℕ) → length mem ≡ work → Buildable section families selection mem 0 codes 1
    ready mem long = rw all_codes (whole_built section families selection passes.0.checks mem (omega (arith, passes.0.enough, long)))

    -- and what building it comes to decides
    module _ {mem mem' : List ℕ} {part : Result (Unit {0}) Refusal} (w : Buildable section families selection mem 0 codes 1) (built : PartList (searched_of section families) w.part.tree mem' part) where
      refusal_is : listing_refusal section families selection work (length buffer) ≡ option_map (refusal LongList) (first_too_long (searched_of section families) (parts w.part.tree))
      refusal_is =
          listing_refusal-passes section families selection work (length buffer) passes.0 passes.1
          ∙ ap (λ (t : Tree). option_map (refusal LongList) (first_too_long (searched_of section families) (parts t))) (sym (whole_tree selection w.part all_codes))

      pub building_refuses : {r : Refusal} → part ≡ Err r
          → (Refused r ≡ listing_answer section families selection work (length buffer)) × (buffer ≡ listing_buffer section families selection work buffer)
      building_refuses t = refuses (refusal_is ∙ built.refused _ t)

      pub slot : part ≡ Ok tt → SlotHolds mem' 0 (complete_list section families selection)
      slot t = subst (λ (u : Tree). SlotHolds mem' 0 (all_matches (searched_of section families) u)) (whole_tree selection w.part all_codes) (built.slot t)

      pub built_lists : {answer : Listing} {buffer' : List ℕ} → part ≡ Ok tt
          → ((s : SlotAt mem' 0) → answer ≡ listed s.list)
          → ((s : SlotAt mem' 0) → buffer' ≡ sets buffer 0 (listing_numbers s.list))
          → (answer ≡ listing_answer section families selection work (length buffer)) × (buffer' ≡ listing_buffer section families selection work buffer)
      built_lists t ea eb =
          let at : SlotAt mem' 0 = record { list = complete_list section families selection; slot = slot t } in
          lists (refusal_is ∙ ap (option_map (refusal LongList)) (built.valid t)) (ea at) (eb at)
