-- The same equations over exact numbers, where nothing is rounded.
-- Assumes nothing.
use Rattle.std.specs.Prelude.{ℕ, List, [], ◌∷◌}
use Rattle.exact.specs.Ring.{Ops}
use Rattle.equations.specs.Formula as F
use Rattle.equations.specs.Formula.{Term, Equation, keep, the, one, ◌≔◌}

module _ (O : Ops) (inv : O.C → O.C) where
  open O use {C, ◌≈◌, 𝟘, 𝟙, ◌+◌, ◌*◌, neg}

  infix 20 ◌≈◌
  infixl 60 ◌+◌
  infixl 70 ◌*◌
  abbrev pub exactly : Term → (ℕ → C) → C
  exactly (the n) ε = ε n
  exactly one ε = 𝟙
  exactly (F.◌⊕◌ a b) ε = exactly a ε + exactly b ε
  exactly (F.◌⊖◌ a b) ε = exactly a ε + neg (exactly b ε)
  exactly (F.◌⊗◌ a b) ε = exactly a ε * exactly b ε
  exactly (F.◌⊘◌ a b) ε = exactly a ε * inv (exactly b ε)

  abbrev pub run_exactly : List Equation → (ℕ → C) → ℕ → C
  run_exactly [] ε = ε
  run_exactly ((x ≔ t) ∷ es) ε = run_exactly es (keep x (exactly t ε) ε)

  -- every divisor is other than zero
  abbrev pub Defined : Term → (ℕ → C) → Type 0
  Defined (the n) ε = Unit {0}
  Defined one ε = Unit {0}
  Defined (F.◌⊕◌ a b) ε = Defined a ε × Defined b ε
  Defined (F.◌⊖◌ a b) ε = Defined a ε × Defined b ε
  Defined (F.◌⊗◌ a b) ε = Defined a ε × Defined b ε
  Defined (F.◌⊘◌ a b) ε = Defined a ε × Defined b ε × (¬ (exactly b ε ≈ 𝟘))

  abbrev pub AllDefined : List Equation → (ℕ → C) → Type 0
  AllDefined [] ε = Unit {0}
  AllDefined ((x ≔ t) ∷ es) ε = Defined t ε × AllDefined es (keep x (exactly t ε) ε)
