-- A function of values, of every value in a struct of one port. No public contract rests on this.
-- Assumes nothing.
use Rattle.one_port.specs.declared.Sol.{Sol}
use Rattle.one_port.specs.declared.ThreeTerms.{ThreeTerms}

module _ {A B : Type 0} (f : A → B) where
  abbrev pub sol : Sol A → Sol B
  sol s = record { short = f s.short; «open» = f s.«open»; load = f s.load }

  abbrev pub terms : ThreeTerms A → ThreeTerms B
  terms t = record { ed = f t.ed; es = f t.es; er = f t.er }
