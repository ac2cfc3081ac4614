-- From the counts to the outcome of a rule: at least a with the not has the sizes that are counted, and each rule's list is of this form or too long.
use Prim.Native.Nat.{ℕ, ◌+◌, ◌-◌, ◌*◌, ◌≤◌, ◌<◌}
use native.Mathlib.Omega.{arith}
use native.Mathlib.Nat.{mul-le-mul, one-mul}
use mathlib.Core.Path.{◌≡◌, refl, sym, ap, ap₂, ◌∙◌, subst}
use mathlib.Core.Bool.{true}
use mathlib.Core.List.{List, [], ◌∷◌, map}
use mathlib.Core.Logic.{◌⊎◌, inl, inr, ⊎_elim}
use lib.ListN.{length}
use lib.Seq.{sets}
use Rattle.model.specs.Limits.{max_matches, max_strings}
use Rattle.model.specs.Matches.{Match, strings, too_long}
use Rattle.model.specs.Rules.{at_least, from_to_times}
use Rattle.std.specs.Prelude.{Result, IsErr, Ok, Err}
use Rattle.store.specs.declared.Size.{Size}
use Rattle.store.specs.declared.TooLong.{TooLong}
use Rattle.store.specs.Built.{Built, built_of, over, sized_as}
use Rattle.store.specs.Indices.{SlotBelow}
use Rattle.store.specs.Layout.{matches_at, matches_numbers}
use Rattle.store.specs.Outcome.{Outcome}
use Rattle.store.specs.Put.{Put}
use Rattle.store.proofs.LayoutLaws.{length_matches}
use Rattle.store.proofs.SlotsLaws.{built_long, answer_made, refused, filled}
use Rattle.occurs.specs.declared.counts.Counts.{Counts}
use Rattle.occurs.specs.declared.counts.Excess.{Excess}
use Rattle.occurs.specs.Binomial.{binomial}
use Rattle.occurs.specs.Counts.{choices_from, includes_from, counted_of, ExcessIs, ExcessIsNot, size_with_not}
use Rattle.occurs.specs.Finds.{find, FindsAt}
use Rattle.occurs.specs.WithNot.{not_matches, not_strings, at_least_with_not, excess_of}
use Rattle.occurs.specs.Writing.{ExcessAt, SizesAt}
use Rattle.occurs.proofs.CountsLaws.{Known, answer-counted, answer_many}
use Rattle.occurs.proofs.FindsLaws.{finds-counted, finds-few}
use Rattle.occurs.proofs.FromToLaws.{from_to-is, from_to-long}
use Rattle.occurs.proofs.WithNotLaws.{not_matches-some, at_least-finds, length_with_not, strings_with_not}

-- ---- at least a with the not

module _ {mem : List ℕ} {src excess m : ℕ} (w : ExcessAt mem src excess) (m_is : m ≡ matches_at mem src) where
  m_finds : m ≡ length w.finds
  m_finds = m_is ∙ finds-counted w.finds w.slot

  pub few-finds : m ≤ max_matches
  few-finds = omega (arith, m_finds, finds-few w.finds w.slot)

  module _ (a : ℕ) where
    list : List Match
    list = at_least_with_not a excess w.finds

    length-is : length list ≡ not_matches excess m * choices_from m a
    unfolding list
    length-is = rw m_finds (length_with_not a excess w.finds)

    strings-is : strings list ≡ not_matches excess m * (includes_from m a + choices_from m a * not_strings excess m)
    unfolding list
    strings-is = rw m_finds (strings_with_not a excess w.finds)

    -- no fewer than the choices alone
    no_fewer : (choices_from m a ≤ length list) × (includes_from m a ≤ strings list)
    no_fewer =
        let some : 1 ≤ not_matches excess m = not_matches-some excess m (omega (arith, m_finds, w.too_many.up_to)) in
        let C = choices_from m a in
        let S = includes_from m a + C * not_strings excess m in
        let matches : 1 * C ≤ not_matches excess m * C = mul-le-mul some (omega arith) in
        let strs : 1 * S ≤ not_matches excess m * S = mul-le-mul some (omega arith) in
        omega (arith, length-is, strings-is, one-mul C, one-mul S)

    module _ {counted : Result Counts TooLong} (e : counted ≡ counted_of m a) where
      -- too many choices make a list that is too long
      pub choices-refused : {error : TooLong} {result : Built} {exit : List ℕ} {at : ℕ} → counted ≡ Err error → IsErr result
          → Outcome (at_least_with_not a excess w.finds) mem exit at result
      unfolding list
      choices-refused t r =
          let many : (max_matches < length list) ⊎ (max_strings < strings list) =
          ⊎_elim (λ h. inl (omega (arith, no_fewer))) (λ h. inr (omega (arith, no_fewer))) (answer_many m a (sym t ∙ e)) in
          refused (built_long list many) refl r

      module _ {counts : Counts} (t : counted ≡ Ok counts) where
        pub known : Known m a counts
        known = answer-counted m a (sym t ∙ e)

        module _ {built : Built} (f : built ≡ size_with_not m excess counts.choices counts.includes) where
          size_is : built ≡ built_of list
          size_is =
              f ∙ ap₂ (size_with_not m excess) known.choices-are known.includes-are
              ∙ ap₂ (λ x y. sized_as x y) (sym length-is) (sym strings-is)

          pub size-refused : {error : TooLong} {result : Built} {exit : List ℕ} {at : ℕ} → built ≡ Err error → IsErr result
              → Outcome (at_least_with_not a excess w.finds) mem exit at result
          unfolding list
          size-refused g r = refused size_is g r

          module _ {at : ℕ} {size : Size} (u : SlotBelow (length mem) src at) (g : built ≡ Ok size) where
            pub sizes-at : SizesAt mem src a counts.fewest excess (at + 2)
            unfolding list
            sizes-at =
                let z = answer_made list (sym g ∙ size_is) in
                let few = known.choices-are ∙ ap (λ j. choices_from j a) m_finds in
                record {
                  finds = w.finds;
                  source = record { slot = w.slot; below = omega (arith, u.below) };
                  too_many = w.too_many;
                  fewest_is = known.fewest_is ∙ ap (λ j. binomial j a) m_finds;
                  few = omega (arith, few, known.few);
                  room = omega (arith, length_matches list, z.small.few, z.small.strs, u.room);
                }

            pub whole : {E exit : List ℕ} {next : ℕ}
                → ((s : SizesAt mem src a counts.fewest excess (at + 2)) → Put mem E (at + 2) (matches_numbers (at_least_with_not a excess s.finds)) next)
                → exit ≡ sets E at (size.matches ∷ size.strings ∷ []) → Outcome (at_least_with_not a excess w.finds) mem exit at (Ok size)
            unfolding sizes-at list
            whole v h = filled (sym g ∙ size_is) (v sizes-at) h

-- ---- the two rules

module _ {mem : List ℕ} {src : ℕ} (w : FindsAt mem src) where
  -- at least a: no find is too many
  pub none-at : ExcessAt mem src 0
  none-at = record { finds = w.finds; slot = w.slot; too_many = record { up_to = omega arith; two = λ h. absurd (omega arith) } }

  pub at_least_made : (a : ℕ) {exit : List ℕ} {at : ℕ} {built : Built}
      → ((x : ExcessAt mem src 0) → Outcome (at_least_with_not a 0 x.finds) mem exit at built)
      → Outcome (at_least a (map find w.finds)) mem exit at built
  unfolding none-at
  at_least_made a {exit} {at} {built} o = subst (λ l. Outcome l mem exit at built) (sym (at_least-finds a w.finds)) (o none-at)

  -- from a to b: so many of the m finds are too many
  module _ {m : ℕ} (m_is : m ≡ matches_at mem src) where
    m_are : m ≡ length w.finds
    m_are = m_is ∙ finds-counted w.finds w.slot

    pub from_to-refused : (a b : ℕ) {result : Built} {exit : List ℕ} {at : ℕ} → a ≤ b → ExcessIsNot m b → IsErr result
        → Outcome (from_to_times a b (map find w.finds)) mem exit at result
    from_to-refused a b h k r =
        let long : too_long (from_to_times a b (map find w.finds)) ≡ true =
        from_to-long w.finds a b h (omega (arith, m_are)) (omega (arith, m_are)) in
        let long_too : over ≡ built_of (from_to_times a b (map find w.finds)) = rw long in
        refused long_too refl r

    module _ (b : ℕ) (excess : Excess) (is : ExcessIs m b excess) where
      pub excess_at : ExcessAt mem src (excess_of excess)
      excess_at = record { finds = w.finds; slot = w.slot; too_many = record { up_to = omega (arith, m_are); two = λ h. sym m_are ∙ is.2 h } }

      pub from_to_made : (a : ℕ) {exit : List ℕ} {at : ℕ} {built : Built}
          → ((x : ExcessAt mem src (excess_of excess)) → Outcome (at_least_with_not a (excess_of excess) x.finds) mem exit at built)
          → Outcome (from_to_times a b (map find w.finds)) mem exit at built
      unfolding excess_at
      from_to_made a {exit} {at} {built} o =
          let same = from_to-is a b (excess_of excess) w.finds (is.0 ∙ ap (λ x. x - b) m_are) (λ h. sym m_are ∙ is.2 h) in
          subst (λ l. Outcome l mem exit at built) (sym same) (o excess_at)
