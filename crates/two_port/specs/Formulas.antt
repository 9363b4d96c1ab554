-- The formulas that the code works out in functions of their own. No public contract rests on these.
use Rattle.std.specs.Prelude.{[], ◌∷◌, Result}
use Rattle.enclosure.specs.Arithmetic.{Arithmetic}
use Rattle.enclosure.specs.declared.refusal.Refusal.{Refusal}
use Rattle.equations.specs.Formula.{the, one, ◌⊕◌, ◌⊖◌, ◌⊗◌, ◌⊘◌, work_of}
use Rattle.one_port.specs.declared.ThreeTerms.{ThreeTerms}
use Rattle.two_port.specs.declared.correct.Port.{Port}
use Rattle.two_port.specs.declared.parameters.SParameters.{SParameters}

module _ {A : Type 0} (R : Arithmetic A) where
  abbrev pub determinant_of : SParameters A → Result A Refusal
  determinant_of s = work_of R (the 1 ⊗ the 2 ⊖ the 3 ⊗ the 4) s.s11 (s.s22 ∷ s.s21 ∷ s.s12 ∷ [])

  abbrev pub loop_of : SParameters A → A → A → A → Result A Refusal
  loop_of s es el k = work_of R (one ⊖ the 1 ⊗ the 3 ⊖ the 2 ⊗ the 4 ⊕ the 1 ⊗ the 2 ⊗ the 5) es (el ∷ s.s11 ∷ s.s22 ∷ k ∷ [])

  abbrev pub residual_of : ThreeTerms A → A → A → A → Result A Refusal
  residual_of t m x y = work_of R (the 1 ⊗ (the 2 ⊖ the 4 ⊗ the 3) ⊖ the 5 ⊗ the 3) m (x ∷ y ∷ t.es ∷ t.er ∷ [])

  abbrev pub normalised : A → A → A → Result A Refusal
  normalised m e t = work_of R ((the 1 ⊖ the 2) ⊘ the 3) m (e ∷ t ∷ [])

  abbrev pub source_loop_of : Port A → Result A Refusal
  source_loop_of p = work_of R (one ⊕ the 1 ⊗ the 2) p.reflected (p.es ∷ [])

  abbrev pub divisor_of : Port A → Port A → A → A → Result A Refusal
  divisor_of p q c d = work_of R ((one ⊕ the 1 ⊗ the 5) ⊗ (one ⊕ the 2 ⊗ the 6) ⊖ the 3 ⊗ the 4 ⊗ the 7 ⊗ the 8) p.reflected
      (q.reflected ∷ c ∷ d ∷ p.es ∷ q.es ∷ q.el ∷ p.el ∷ [])

  abbrev pub reflection_of : A → Port A → A → A → A → Result A Refusal
  reflection_of a far c d by = work_of R ((the 1 ⊗ (one ⊕ the 2 ⊗ the 3) ⊖ the 4 ⊗ the 5 ⊗ the 6) ⊘ the 7) a (far.reflected ∷ far.es ∷ far.el ∷ c ∷ d ∷ by ∷ [])

  abbrev pub transmission_of : A → Port A → A → Result A Refusal
  transmission_of c far by = work_of R ((the 1 ⊗ (one ⊕ the 2 ⊗ (the 3 ⊖ the 4))) ⊘ the 5) c (far.reflected ∷ far.es ∷ far.el ∷ by ∷ [])
