-- What an answer holds, where it is one; a ∋ x says that the value a holds the number x.
-- Assumes nothing.
use Rattle.std.specs.Prelude.{◌≡◌, Bool, true, Result, IfOk}
use Rattle.exact.specs.Numbers.{Exact, ◌≃◌, nought, invert, divide}
use Rattle.enclosure.specs.declared.refusal.Refusal.{Refusal}

module _ {A : Type 0} (◌∋◌ : A → Exact → Type 0) where
  infix 20 ◌∋◌
  -- f of any numbers that a and b hold
  abbrev pub HoldsEach : (Exact → Exact → Exact) → A → A → Result A Refusal → Type 0
  HoldsEach f a b r = (x y : Exact) → a ∋ x → b ∋ y → IfOk r λ d. d ∋ f x y

  -- one by any number that a holds, and none of these is zero
  abbrev pub HoldsInverses : A → Result A Refusal → Type 0
  HoldsInverses a r = (x : Exact) → a ∋ x → IfOk r λ d. (¬ (x ≃ nought)) × (d ∋ invert x)

  -- the quotients of any numbers that a and b hold, and no divisor is zero
  abbrev pub HoldsQuotients : A → A → Result A Refusal → Type 0
  HoldsQuotients a b r = (x y : Exact) → a ∋ x → b ∋ y → IfOk r λ d. (¬ (y ≃ nought)) × (d ∋ divide x y)

  -- values with a common number touch
  abbrev pub TouchIfCommon : A → A → Bool → Type 0
  TouchIfCommon a b t = (x : Exact) → a ∋ x → b ∋ x → t ≡ true
