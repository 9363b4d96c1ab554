-- A function of values, of every value in a struct of two ports. No public contract rests on this.
-- Assumes nothing.
use Rattle.std.specs.Prelude.{option_map}
use Rattle.one_port.specs.Mapped.{sol}
use Rattle.two_port.specs.declared.Direction.{Direction}
use Rattle.two_port.specs.declared.Isolation.{Isolation}
use Rattle.two_port.specs.declared.Readings.{Readings}
use Rattle.two_port.specs.declared.Standards.{Standards}
use Rattle.two_port.specs.declared.TwelveTerms.{TwelveTerms}
use Rattle.two_port.specs.declared.parameters.SParameters.{SParameters}

module _ {A B : Type 0} (f : A → B) where
  abbrev pub parameters : SParameters A → SParameters B
  parameters s = record { s11 = f s.s11; s21 = f s.s21; s12 = f s.s12; s22 = f s.s22 }

  abbrev pub direction : Direction A → Direction B
  direction t = record { ed = f t.ed; es = f t.es; er = f t.er; ex = f t.ex; el = f t.el; et = f t.et }

  abbrev pub twelve : TwelveTerms A → TwelveTerms B
  twelve t = record { forward = direction t.forward; reverse = direction t.reverse }

  abbrev pub standards : Standards A → Standards B
  standards g = record { port1 = sol f g.port1; port2 = sol f g.port2; thru = parameters g.thru }

  -- a reading that was not taken stays so
  abbrev pub isolation : Isolation A → Isolation B
  isolation i = record { forward = option_map f i.forward; reverse = option_map f i.reverse }

  abbrev pub readings : Readings A → Readings B
  readings m = record { port1 = sol f m.port1; port2 = sol f m.port2; thru = parameters m.thru; isolation = isolation m.isolation }
