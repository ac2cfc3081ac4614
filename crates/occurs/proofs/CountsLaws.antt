-- The choices counted from the one of all m finds down to those of a. What is counted so far are the choices of k or more, so that too many on the
-- way are too many at the end.
use Prim.Native.Nat.{ℕ, zero, suc, ◌+◌, ◌-◌, ◌*◌, ◌/◌, ◌≤◌, ◌<◌}
use native.Mathlib.Omega.{arith}
use native.Mathlib.Nat.{mul-le-mul, mul-one, mul_comm, div-le_self}
use mathlib.Core.Path.{◌≡◌, refl, sym, ap, ap₂, ◌∙◌, subst}
use mathlib.Core.Bool.{Bool, true, false, ◌||◌, cond, or-true}
use mathlib.Core.Logic.{◌⊎◌, inl, inr}
use borrow.Author.Tests.{lt-ltb, le-ltb, ltb-true, ltb-false}
use lib.Dec.{ltb}
use Rattle.model.specs.Limits.{max_matches, max_strings}
use Rattle.model.proofs.ListsLaws.{range_cons, range_empty}
use Rattle.model.proofs.TestsLaws.{both_false}
use Rattle.std.specs.Prelude.{Ok, Err}
use Rattle.store.specs.declared.TooLong.{TooLong}
use Rattle.occurs.specs.declared.counts.Counts.{Counts}
use Rattle.occurs.specs.Binomial.{binomial}
use Rattle.occurs.specs.Counts.{sum, choices_from, includes_from, counted_of, exact, uncounted}
use Rattle.occurs.proofs.BinomialLaws.{binomial-none, binomial_all, size_down}

-- ---- choices_from, includes_from

module _ (m a : ℕ) where
  choices-none : m < a → choices_from m a ≡ 0
  unfolding choices_from sum
  choices-none h = rw (range_empty a m h)

  includes_none : m < a → includes_from m a ≡ 0
  unfolding includes_from sum
  includes_none h = rw (range_empty a m h)

  module _ (h : a ≤ m) where
    pub choices-more : choices_from m a ≡ binomial m a + choices_from m (a + 1)
    unfolding choices_from sum
    choices-more = ap (sum (binomial m)) (range_cons a m h)

    includes-more : includes_from m a ≡ a * binomial m a + includes_from m (a + 1)
    unfolding includes_from sum
    includes-more = ap (sum (λ k. k * binomial m k)) (range_cons a m h)

-- from fewer finds on there are no fewer
grow : (m d a : ℕ) → a + d ≤ m + 1 → (choices_from m (a + d) ≤ choices_from m a) × (includes_from m (a + d) ≤ includes_from m a)
grow m zero a h = let e : a + 0 ≡ a = omega arith in rw e (omega arith)
grow m (suc d) a h =
    let e : a + suc d ≡ a + 1 + d = omega arith in
    rw e (omega (arith, grow m d (a + 1) (omega arith), choices-more m a (omega arith), includes-more m a (omega arith)))

pub choices_grow : (m k a : ℕ) → a ≤ k → k ≤ m + 1 → (choices_from m k ≤ choices_from m a) × (includes_from m k ≤ includes_from m a)
choices_grow m k a h l = let up : a + (k - a) ≡ k = omega arith in rw up at (grow m (k - a) a (omega arith))

-- ---- counted_of

module _ (m a : ℕ) where
  too_many : (max_matches < choices_from m a) ⊎ (max_strings < includes_from m a) → uncounted ≡ counted_of m a
  unfolding counted_of
  too_many (inl h) = rw (lt-ltb max_matches (choices_from m a) h)
  too_many (inr h) = rw (lt-ltb max_strings (includes_from m a) h, or-true (ltb max_matches (choices_from m a)))

  counted : {choices includes fewest : ℕ} → choices ≡ choices_from m a → includes ≡ includes_from m a → fewest ≡ binomial m a
      → choices ≤ max_matches → includes ≤ max_strings → exact choices includes fewest ≡ counted_of m a
  unfolding counted_of
  counted e f g h k = rw (e, f, g, le-ltb max_matches (choices_from m a) (omega arith), le-ltb max_strings (includes_from m a) (omega arith))

  pub counted_none : m < a → exact 0 0 0 ≡ counted_of m a
  counted_none h = counted (sym (choices-none m a h)) (sym (includes_none m a h)) (sym (binomial-none m a h)) (omega arith) (omega arith)

  -- what an answer tells
  pub record Known (counts : Counts) : Type 0 where
    pub choices-are : counts.choices ≡ choices_from m a
    pub includes-are : counts.includes ≡ includes_from m a
    pub fewest_is : counts.fewest ≡ binomial m a
    pub few : counts.choices ≤ max_matches
    pub short : counts.includes ≤ max_strings

  pub answer-counted : {counts : Counts} → Ok counts ≡ counted_of m a → Known counts
  unfolding counted_of
  answer-counted {counts} e = at (ltb max_matches (choices_from m a) || ltb max_strings (includes_from m a)) refl e
    where
      at : (t : Bool) → (ltb max_matches (choices_from m a) || ltb max_strings (includes_from m a)) ≡ t
          → Ok counts ≡ cond t uncounted (exact (choices_from m a) (includes_from m a) (binomial m a))
          → Known counts
      at true q e' = absurd cc
      at false q e' =
          let b = both_false (ltb max_matches (choices_from m a)) (ltb max_strings (includes_from m a)) q in
          let same : counts ≡ record { choices = choices_from m a; includes = includes_from m a; fewest = binomial m a } = cc in
          let c : counts.choices ≡ choices_from m a = ap (λ (z : Counts). z.choices) same in
          let s : counts.includes ≡ includes_from m a = ap (λ (z : Counts). z.includes) same in
          record {
            choices-are = c;
            includes-are = s;
            fewest_is = ap (λ (z : Counts). z.fewest) same;
            few = omega (arith, ltb-false max_matches (choices_from m a) b.0);
            short = omega (arith, ltb-false max_strings (includes_from m a) b.1);
          }

  pub answer_many : {e : TooLong} → Err e ≡ counted_of m a → (max_matches < choices_from m a) ⊎ (max_strings < includes_from m a)
  unfolding counted_of
  answer_many {e} e' = at (ltb max_matches (choices_from m a)) refl (ltb max_strings (includes_from m a)) refl e'
    where
      at : (s : Bool) → ltb max_matches (choices_from m a) ≡ s → (t : Bool) → ltb max_strings (includes_from m a) ≡ t
          → Err e ≡ cond (s || t) uncounted (exact (choices_from m a) (includes_from m a) (binomial m a))
          → (max_matches < choices_from m a) ⊎ (max_strings < includes_from m a)
      at true p t q e'' = inl (ltb-true max_matches (choices_from m a) p)
      at false p true q e'' = inr (ltb-true max_strings (includes_from m a) q)
      at false p false q e'' = absurd cc

-- ---- the count

-- the choices of k or more are counted, and those of k by themselves
pub record Counting (m a k fewest choices includes : ℕ) : Type 0 where
  pub from_a : a ≤ k
  pub up_to : k ≤ m
  pub few : choices ≤ max_matches
  pub short : includes ≤ max_strings
  pub fewer : fewest ≤ choices
  pub fewest_is : fewest ≡ binomial m k
  pub choices-are : choices ≡ choices_from m k
  pub includes-are : includes ≡ includes_from m k

pub start : (m a : ℕ) → a ≤ m → m ≤ max_matches → Counting m a (m - 0) 1 1 m
start m a h k =
    let none : m < m + 1 = omega arith in
    let e : m ≡ m - 0 = omega arith in
    subst (λ x. Counting m a x 1 1 m) e
    (record {
      from_a = h;
      up_to = omega arith;
      few = omega arith;
      short = omega arith;
      fewer = omega arith;
      fewest_is = sym (binomial_all m);
      choices-are = omega (arith, choices-more m m (omega arith), choices-none m (m + 1) none, binomial_all m);
      includes-are = omega (arith, includes-more m m (omega arith), includes_none m (m + 1) none, ap (λ b. m * b) (binomial_all m), mul-one m);
    })

-- the choices of j, one find less, are f
record Next (m a j choices includes f : ℕ) : Type 0 where
  f_is : f ≡ binomial m j
  choices-are : choices + f ≡ choices_from m j
  includes-are : includes + f * j ≡ includes_from m j
  no_more : (choices_from m j ≤ choices_from m a) × (includes_from m j ≤ includes_from m a)

next_of : {m a k fewest choices includes : ℕ} (j : ℕ) → Counting m a k fewest choices includes → a < k → k ≡ suc j
    → Next m a j choices includes (fewest * k / (m - k + 1))
next_of {m} {a} {k} {fewest} {choices} {includes} j g h e =
    let d : m - k + 1 ≡ m - j = omega (arith, g.up_to) in
    let f : fewest * k / (m - k + 1) ≡ binomial m j =
    ap₂ ◌/◌ (ap₂ ◌*◌ (g.fewest_is ∙ ap (binomial m) e) e) d ∙ size_down m j (omega (arith, g.up_to)) in
    let more : k ≡ j + 1 = omega arith in
    record {
      f_is = f;
      choices-are = omega (arith, f, g.choices-are, choices-more m j (omega (arith, g.up_to)), ap (choices_from m) more);
      includes-are =
          omega (
            arith,
            ap (λ x. x * j) f,
            mul_comm (binomial m j) j,
            g.includes-are,
            includes-more m j (omega (arith, g.up_to)),
            ap (includes_from m) more,
          );
      no_more = choices_grow m j a (omega arith) (omega (arith, g.up_to));
    }

-- what a turn needs of the numbers, where there are f choices of j: they stay far below the largest u32
pub record Fits (fewest j f : ℕ) : Type 0 where
  pub product : fewest * (j + 1) ≤ 65536
  pub quotient : f ≤ 65536
  pub more-includes : f * j ≤ 16777216

-- the choices of d finds less than all are counted
module _ {m a d fewest choices includes : ℕ} (g : Counting m a (m - d) fewest choices includes) (h : d < m - a) where
  next : Next m a (m - d - 1) choices includes (fewest * (m - d - 1 + 1) / (d + 1))
  next =
      let e : m - d ≡ m - d - 1 + 1 = omega arith in
      let f : m - (m - d) + 1 ≡ d + 1 = omega arith in
      subst (Next m a (m - d - 1) choices includes) (ap₂ (λ x y. fewest * x / y) e f) (next_of (m - d - 1) g (omega arith) (omega arith))

  pub fits : m ≤ max_matches → Fits fewest (m - d - 1) (fewest * (m - d - 1 + 1) / (d + 1))
  fits l =
      let j = m - d - 1 in
      let p : fewest * (j + 1) ≤ 256 * 256 = mul-le-mul {n₂ = 256} {m₂ = 256} (omega (arith, g.fewer, g.few)) (omega (arith, g.up_to)) in
      let q : fewest * (j + 1) / (d + 1) ≤ 65536 = omega (arith, div-le_self (fewest * (j + 1)) (d + 1)) in
      let s : fewest * (j + 1) / (d + 1) * j ≤ 65536 * 256 = mul-le-mul {n₂ = 65536} {m₂ = 256} q (omega (arith, g.up_to)) in
      record { product = p; quotient = q; more-includes = s }

  pub many : (max_matches < choices + fewest * (m - d - 1 + 1) / (d + 1)) ⊎ (max_strings < includes + fewest * (m - d - 1 + 1) / (d + 1) * (m - d - 1))
      → uncounted ≡ counted_of m a
  many (inl l) = too_many m a (inl (omega (arith, next.choices-are, next.no_more)))
  many (inr l) = too_many m a (inr (omega (arith, next.includes-are, next.no_more)))

  pub step : choices + fewest * (m - d - 1 + 1) / (d + 1) ≤ max_matches → includes + fewest * (m - d - 1 + 1) / (d + 1) * (m - d - 1) ≤ max_strings
      → Counting m a (m - (d + 1)) (fewest * (m - d - 1 + 1) / (d + 1)) (choices + fewest * (m - d - 1 + 1) / (d + 1))
      (includes + fewest * (m - d - 1 + 1) / (d + 1) * (m - d - 1))
  step l o =
      let j = m - d - 1 in
      let f = fewest * (j + 1) / (d + 1) in
      let e : j ≡ m - (d + 1) = omega arith in
      subst (λ k. Counting m a k f (choices + f) (includes + f * j)) e
      (record {
        from_a = omega arith;
        up_to = omega (arith, g.up_to);
        few = l;
        short = o;
        fewer = omega arith;
        fewest_is = next.f_is;
        choices-are = next.choices-are;
        includes-are = next.includes-are;
      })

pub finish : {m a d fewest choices includes : ℕ} → Counting m a (m - d) fewest choices includes → m - a ≤ d
    → exact choices includes fewest ≡ counted_of m a
finish {m} {a} {d} g h =
    let e : m - d ≡ a = omega (arith, g.from_a, g.up_to) in
    let c = g.choices-are ∙ ap (choices_from m) e in
    let i = g.includes-are ∙ ap (includes_from m) e in
    counted m a c i (g.fewest_is ∙ ap (binomial m) e) g.few g.short
