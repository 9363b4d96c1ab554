-- A device embedded, and corrected with the same terms. No public contract rests on this.
-- Assumes nothing.
use Rattle.std.specs.Prelude.{Result}
use Rattle.enclosure.specs.Arithmetic.{◌>>=◌, Arithmetic}
use Rattle.enclosure.specs.declared.refusal.Refusal.{Refusal}
use Rattle.one_port.specs.Equations as OnePort
use Rattle.one_port.specs.declared.ThreeTerms.{ThreeTerms}
use Rattle.stage.specs.declared.StageRefusal.{StageRefusal}
use Rattle.two_port.specs.Equations as TwoPort
use Rattle.two_port.specs.declared.TwelveTerms.{TwelveTerms}
use Rattle.two_port.specs.declared.parameters.SParameters.{SParameters}

module _ {A : Type 0} (R : Arithmetic A) where
  abbrev pub there_and_back : ThreeTerms A → A → Result A Refusal
  there_and_back t device = do OnePort.corrected R t (← OnePort.embedded R t device)

  abbrev pub there_and_back_of_two : TwelveTerms A → SParameters A → Result (SParameters A) StageRefusal
  there_and_back_of_two t device = do TwoPort.corrected R t (← TwoPort.embedded R t device)
