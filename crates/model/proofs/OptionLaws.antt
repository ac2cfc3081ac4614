-- An option that is some value is not none, and neither by `option_map`.
use mathlib.Core.Logic.{◌↔◌}
use mathlib.Core.Path.{◌≡◌, refl, ap, ◌∙◌}
use Rattle.std.specs.Prelude.{Option, Some, None, option_map}

module _ {A : Type 0} where
  pub none-ne-some : (a : A) → ¬ (◌≡◌ {A = Option A} None (Some a))
  none-ne-some a e = cc

  pub some-ne-none : (a : A) → ¬ (Some a ≡ None)
  some-ne-none a e = cc

module _ {A B : Type 0} where
  pub map-eq-none_iff : (f : A → B) (x : Option A) → (option_map f x ≡ None) ↔ (x ≡ None)
  map-eq-none_iff f None = (λ _. refl, λ _. refl)
  map-eq-none_iff f (Some a) = (λ e. cc, λ e. cc)

  pub map-eq-some_iff : (f : A → B) (x : Option A) {b : B} → (option_map f x ≡ Some b) ↔ ((a : A) × (x ≡ Some a) × (f a ≡ b))
  map-eq-some_iff f None {b} = (λ e. cc, λ t. absurd (none-ne-some t.0 t.1))
  map-eq-some_iff f (Some a) {b} = (λ e. (a, refl, cc), λ t. let same : a ≡ t.0 = let e = t.1 in cc in ap (λ (y : B). Some y) (ap f same ∙ t.2))
