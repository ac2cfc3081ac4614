-- Each empty part is one way in which the paper's condition fails (CheckLaws); an accepted section holds the positions 1 to n.
use Rattle.std.proofs.Common.{◌≡◌, ◌≤◌, ◌<◌, false, sym, ◌∙◌, rules, arith}
use Rattle.model.specs.Answers.{has_positions}
use Rattle.model.specs.Checks.{section_refusal}
use Rattle.model.specs.Section.{size}
use Rattle.model.proofs.ChecksLaws.{accepted-section}
use Rattle.model.proofs.AnswersLaws.{checked_accepted, checked_refused}
use Rattle.section.proofs.CheckLaws.{no_words, at_the_start, the_words, at_from, no_section, from_zero, to_below, to_beyond, within}
use Rattle.section.proofs.snippet.Goals as goal
use Rattle.section.proofs.snippet.Goals.{in_default-via-in-Ok+then-from-ge1+then-le+else-to-n, in_default-via-in-Ok+then-from-ge1+else-le, in_default-via-in-Ok+else-from-ge1, in_default-via-in_default}

pub slice_bounds-result-end : goal.slice_bounds-result-end
slice_bounds-result-end c =
    let s = c.args.section.now in
    let o = checked_accepted (size s) (section_refusal s) (sym c.check_section.ensures ∙ c.in-Ok.is) in
    let w = accepted-section s o.0 in
    omega (arith, o.1, w.sized, c.if-to-n.true)

pub returns-in-Ok : goal.returns-in-Ok
returns-in-Ok c =
    let s = c.args.section.now in
    let o = checked_accepted (size s) (section_refusal s) (sym c.check_section.ensures ∙ c.in-Ok.is) in
    let in_order : c.args.from.0 ≤ c.args.to.0 = search rules in
    let e = within s c.args.from.0 c.args.to.0 o.0 c.if-from-ge1.true in_order (omega (arith, o.1, c.if-to-n.true)) in
    record { result_value = the_words s c.args.from.0 c.args.to.0 e; ref_ptr_value = at_from s c.args.from.0 c.args.to.0 e c.args.section.ref_ptr }

pub returns-in_default : goal.returns-in_default
returns-in_default c =
    let s = c.args.section.now in
    let e : has_positions s c.args.from.0 c.args.to.0 ≡ false =
    elim c.in_default.branch [
      | in_default-via-in-Ok+then-from-ge1+then-le+else-to-n w ↦
          let o = checked_accepted (size s) (section_refusal s) (sym c.check_section.ensures ∙ w.in-Ok.is) in
          let in_order : c.args.from.0 ≤ c.args.to.0 = search rules in
          to_beyond s c.args.from.0 c.args.to.0 o.0 w.if-from-ge1.true in_order (omega (arith, o.1, w.if-to-n.false))
      | in_default-via-in-Ok+then-from-ge1+else-le w ↦
          let o = checked_accepted (size s) (section_refusal s) (sym c.check_section.ensures ∙ w.in-Ok.is) in
          let out_of_order : c.args.to.0 < c.args.from.0 = search rules in
          to_below s c.args.from.0 c.args.to.0 o.0 w.if-from-ge1.true out_of_order
      | in_default-via-in-Ok+else-from-ge1 w ↦
          let o = checked_accepted (size s) (section_refusal s) (sym c.check_section.ensures ∙ w.in-Ok.is) in
          from_zero s c.args.from.0 c.args.to.0 o.0 w.if-from-ge1.false
      | in_default-via-in_default w ↦ no_section s c.args.from.0 c.args.to.0 (checked_refused (size s) (section_refusal s) (sym c.check_section.ensures ∙ w.in_default.is))
    ] in
    record { result_value = no_words s c.args.from.0 c.args.to.0 e; ref_ptr_value = at_the_start s c.args.from.0 c.args.to.0 e _ }
