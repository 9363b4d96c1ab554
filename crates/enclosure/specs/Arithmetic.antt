-- An arithmetic: values to calculate with, by operations that may be refused, and the laws that tie them to exact numbers.
-- Assumes nothing.
use Rattle.std.specs.Prelude.{◌≡◌, Bool, true, Ok, Err, Result}
use Rattle.exact.specs.Ring.{Ops}
use Rattle.enclosure.specs.declared.refusal.Refusal.{Refusal}

-- the next step, unless this one was refused: what `?` is in code; steps stand one to a line after `do`
infixl 10 ◌>>=◌
abbrev pub ◌>>=◌ : {E A B : Type 0} → Result A E → (A → Result B E) → Result B E
Ok a >>= f = f a
Err e >>= f = Err e

pub record Arithmetic (A : Type 0) : Type 0 where
  pub unit : A
  pub plus : A → A → Result A Refusal
  pub minus : A → A → Result A Refusal
  pub times : A → A → Result A Refusal
  pub reciprocal : A → Result A Refusal
  pub touches : A → A → Bool

-- A / B is A × (reciprocal of B)
abbrev pub quotient : {A : Type 0} → Arithmetic A → A → A → Result A Refusal
quotient R a b = do
  i ← R.reciprocal b
  R.times a i

-- ---- the laws: with exact numbers in a field O, where a ∋ x says that the value a holds the number x

module _ {A : Type 0} (R : Arithmetic A) (O : Ops) (inv : O.C → O.C) (◌∋◌ : A → O.C → Type 0) where
  open O use {C, ◌≈◌, 𝟘, 𝟙, ◌+◌, ◌*◌, neg}

  infix 20 ◌≈◌
  infix 20 ◌∋◌
  infixl 60 ◌+◌
  infixl 70 ◌*◌
  pub record Encloses : Type 0 where
    -- a value is never empty, and does not tell equal numbers apart
    pub some_held : (a : A) → (x : C) × (a ∋ x)
    pub same_held : (a : A) (x y : C) → x ≈ y → a ∋ x → a ∋ y
    -- the results of members are members of the result
    pub unit_held : R.unit ∋ 𝟙
    pub sum_held : (a b c : A) (x y : C) → a ∋ x → b ∋ y → R.plus a b ≡ Ok c → c ∋ x + y
    pub difference_held : (a b c : A) (x y : C) → a ∋ x → b ∋ y → R.minus a b ≡ Ok c → c ∋ x + neg y
    pub product_held : (a b c : A) (x y : C) → a ∋ x → b ∋ y → R.times a b ≡ Ok c → c ∋ x * y
    -- and an operand whose reciprocal is accepted does not hold zero
    pub inverse_held : (a c : A) (x : C) → a ∋ x → R.reciprocal a ≡ Ok c → (¬ (x ≈ 𝟘)) × (c ∋ inv x)
    -- values with a common member touch
    pub common_touch : (a b : A) (x : C) → a ∋ x → b ∋ x → R.touches a b ≡ true
