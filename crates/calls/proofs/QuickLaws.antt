-- The quick answer, by what its two steps come to: the checks refuse, or the walk of the whole selection decides.
use Prim.Native.Nat.{ℕ}
use native.Mathlib.Omega.{arith}
use mathlib.Core.Path.{◌≡◌, sym, ap, ◌∙◌}
use mathlib.Core.List.{List}
use Rattle.std.specs.Prelude.{None, Result, Ok, Err}
use lib.Dec.{leb}
use lib.ListN.{length}
use borrow.Author.Tests.{leb-true}
use Rattle.model.specs.declared.Reason.TheVariants.{ShortMemory}
use Rattle.model.specs.Walk.{Quick}
use Rattle.model.specs.declared.Refusal.{Refusal}
use Rattle.model.specs.Answers.{checked_of, quick_answer}
use Rattle.model.specs.Checks.{refusal, input_refusal, quick_checks, room_refusal}
use Rattle.model.specs.Accepted.{Passes}
use Rattle.model.specs.Limits.{work_length}
use Rattle.model.specs.Families.{searched_of}
use Rattle.model.specs.Section.{size}
use Rattle.model.specs.Walk.{walk}
use Rattle.model.proofs.AnswersLaws.{checked_accepted, checked_refused}
use Rattle.model.proofs.ChecksLaws.{otherwise-none}
use Rattle.model.proofs.TestsLaws.{cond-none}
use Rattle.walk.specs.Walkable.{Walkable}
use Rattle.calls.proofs.WholeLaws.{whole_walked, whole_tree}

module _ (section families selection : List ℕ) (work : ℕ) where
  -- a refusal of the checks is the call's
  pub checks_refuse : {checked : Result ℕ Refusal} {r : Refusal} → checked ≡ checked_of (size selection) (quick_checks section families selection work)
      → checked ≡ Err r
      → Err r ≡ quick_answer section families selection work
  unfolding quick_answer
  checks_refuse told e = rw (checked_refused (size selection) (quick_checks section families selection work) (sym told ∙ e))

  module _ {checked : Result ℕ Refusal} {codes : ℕ} (told : checked ≡ checked_of (size selection) (quick_checks section families selection work)) (accepted : checked ≡ Ok codes) where
    none_refuses : quick_checks section families selection work ≡ None
    none_refuses = (checked_accepted (size selection) (quick_checks section families selection work) (sym told ∙ accepted)).0

    all_codes : codes ≡ size selection
    all_codes = (checked_accepted (size selection) (quick_checks section families selection work) (sym told ∙ accepted)).1

    passes : Passes section families selection work
    unfolding quick_checks
    passes =
        let both = otherwise-none (input_refusal section families selection) (room_refusal (leb work_length work)) none_refuses in
        record { checks = both.0; enough = leb-true work_length work (cond-none (leb work_length work) (refusal ShortMemory 0) both.1) }

    -- the whole can be walked
    pub ready : (mem : List ℕ) → length mem ≡ work → Walkable section families selection mem codes
    ready mem long = rw all_codes (whole_walked section families selection passes.checks mem (omega (arith, passes.enough, long)))

    -- and its walk is the answer
    pub walk-answers : {mem : List ℕ} {answer : Quick} (w : Walkable section families selection mem codes)
        → answer ≡ walk (searched_of section families) w.part.tree
        → answer ≡ quick_answer section families selection work
    unfolding quick_answer
    walk-answers w a = rw none_refuses (a ∙ ap (walk (searched_of section families)) (whole_tree selection w.part all_codes))
