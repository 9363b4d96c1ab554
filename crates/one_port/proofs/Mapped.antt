-- Where two arithmetics answer alike on values and what f makes of them, so do the calls of one port.
-- Assumes nothing.
use Rattle.std.proofs.Common.{◌≡◌, refl}
use Rattle.enclosure.specs.Arithmetic.{Arithmetic}
use Rattle.enclosure.specs.Fitted.{answer}
use Rattle.enclosure.proofs.Alike.{Gives, given, Maps}
use Rattle.equations.specs.Formula.{at}
use Rattle.equations.proofs.Alike.{through, equations}
use Rattle.one_port.specs.Equations.{S as S', M, solve, correct, embed, from_standards, from_raw, from_device, terms_in, solved, corrected, embedded}
use Rattle.one_port.specs.Mapped.{sol, terms}
use Rattle.one_port.specs.declared.Sol.{Sol}
use Rattle.one_port.specs.declared.ThreeTerms.{ThreeTerms}

module _ {A B : Type 0} (R : Arithmetic A) (S : Arithmetic B) (f : A → B) (L : Maps R S f) where
  pub three_terms : (g m : Sol A) → Gives (terms f) (solved R g m) (solved S (sol f g) (sol f m))
  three_terms g m = equations R S f L (terms f) solve
      (from_standards g m) (from_standards (sol f g) (sol f m))
      terms_in terms_in (λ n. simp (through R S f L)) (λ ρ. refl)

  pub of_three_terms : (g m : Sol A) → answer (terms f) (solved R g m) ≡ solved S (sol f g) (sol f m)
  of_three_terms g m = given (three_terms g m)

  pub of_corrected : (t : ThreeTerms A) (raw : A) → answer f (corrected R t raw) ≡ corrected S (terms f t) (f raw)
  of_corrected t raw = given (equations R S f L f correct
      (from_raw t raw) (from_raw (terms f t) (f raw))
      (λ ρ. at ρ S') (λ ρ. at ρ S') (λ n. simp (through R S f L)) (λ ρ. refl))

  pub of_embedded : (t : ThreeTerms A) (actual : A) → answer f (embedded R t actual) ≡ embedded S (terms f t) (f actual)
  of_embedded t actual = given (equations R S f L f embed
      (from_device t actual) (from_device (terms f t) (f actual))
      (λ ρ. at ρ M) (λ ρ. at ρ M) (λ n. simp (through R S f L)) (λ ρ. refl))
