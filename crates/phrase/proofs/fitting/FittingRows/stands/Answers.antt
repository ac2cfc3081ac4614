use Rattle.std.proofs.Common.{◌≡◌, ℕ, Bool, true, false, length, sym, refl, ◌∙◌, arith, rules}
use borrow.Author.Tests.{tests}
use Rattle.std.proofs.lemmas.Iterator.{cases_from_all, YieldsList-from_range}
use Rattle.model.specs.Families.{searched_of}
use Rattle.phrase.specs.Searches.{fits_at}
use Rattle.phrase.proofs.RowsLaws.{stands_without, stands_all}
use Rattle.phrase.proofs.fitting.FittingRows.stands.Goals as goal

pub returns-then-first_fits : goal.returns-then-first_fits
returns-then-first_fits c =
    let rows = c.args.self.now in
    let k = length rows.words.now in
    let fits : ℕ → Bool = fits_at rows.section.now rows.table.lent.now rows.words.now c.args.p in
    let cases = cases_from_all _ _ c.all.result (λ i. fits i ≡ true) (λ i. fits i ≡ false) c.all.ensures.ran (YieldsList-from_range 0 k k refl (omega arith)) (λ x q k. search (rules, tests)) (λ x q k. search (rules, tests)) in
    stands_all (searched_of rows.section.now rows.table.lent.now) rows.words.now c.args.p c.all.result (omega arith) cases

pub returns-else-first_fits : goal.returns-else-first_fits
returns-else-first_fits c =
    let rows = c.args.self.now in
    c.if-first_fits.false ∙ sym (stands_without (searched_of rows.section.now rows.table.lent.now) rows.words.now c.args.p rows.first rows.a_word (omega arith) (sym c.if-first_fits.ensures))
