-- An exchange of names is an exchange of quantities.
-- Assumes nothing.
use Rattle.std.proofs.Common.{◌≡◌}
use Rattle.enclosure.specs.Arithmetic.{Arithmetic}
use Rattle.enclosure.specs.Discs.{discs}
use Rattle.enclosure.proofs.Steps.{bind_assoc}
use Rattle.one_port.specs.declared.ThreeTerms.{ThreeTerms}
use Rattle.two_port.specs.Equations.{exchange, directed, seen}
use Rattle.two_port.specs.declared.Direction.{Direction}
use Rattle.two_port.specs.declared.parameters.SParameters.{SParameters}
use Rattle.two_port.specs.Exchange.{Exchange, reverse_directed, reverse_seen}

module _ {A : Type 0} (R : Arithmetic A) where
  of_thru : (t : ThreeTerms A) (x : A) (g m : SParameters A) → reverse_directed R t x g m ≡ directed R t x (exchange g) (exchange m)
  of_thru t x g m = simp bind_assoc

  of_device : (r : Direction A) (s : SParameters A) → reverse_seen R r s ≡ seen R r (exchange s)
  of_device r s = simp bind_assoc

pub exchange_stands : Exchange
exchange_stands = (of_thru discs, of_device discs)
