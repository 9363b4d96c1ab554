-- Solving in the three parts in which the code does it. No public contract rests on these.
use Rattle.std.specs.Prelude.{Result}
use Rattle.enclosure.specs.Arithmetic.{Arithmetic}
use Rattle.enclosure.specs.declared.refusal.Refusal.{Refusal}
use Rattle.equations.specs.Formula.{keep, at, worked}
use Rattle.one_port.specs.Equations.{G3, M3, P3, a1, a2, b1, b2, c1, c2, ES, z, solve_differences, solve_quotients, solve_terms, from_standards, terms_in}
use Rattle.one_port.specs.declared.Sol.{Sol}
use Rattle.one_port.specs.declared.ThreeTerms.{ThreeTerms}
use Rattle.one_port.specs.declared.solve.Differences.{Differences}
use Rattle.one_port.specs.declared.solve.Quotients.{Quotients}

module _ {A : Type 0} (R : Arithmetic A) where
  abbrev pub differenced : Sol A → Sol A → Result (Differences A) Refusal
  differenced g m = worked R solve_differences (from_standards g m) λ ρ.
      record { p3 = at ρ P3; a1 = at ρ a1; a2 = at ρ a2; b1 = at ρ b1; b2 = at ρ b2; c1 = at ρ c1; c2 = at ρ c2 }

  abbrev pub divided : Differences A → Result (Quotients A) Refusal
  divided d = worked R solve_quotients (keep a1 d.a1 (keep a2 d.a2 (keep b1 d.b1 (keep b2 d.b2 (keep c1 d.c1 (λ _. d.c2))))))
      λ ρ. record { es = at ρ ES; z = at ρ z }

  abbrev pub finished : A → A → A → Quotients A → Result (ThreeTerms A) Refusal
  finished g m p q = worked R solve_terms (keep G3 g (keep M3 m (keep P3 p (keep ES q.es (λ _. q.z))))) terms_in
