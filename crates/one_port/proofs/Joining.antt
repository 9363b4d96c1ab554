-- The three parts of solving, joined.
use Rattle.std.proofs.Common.{◌≡◌, Result}
use Rattle.enclosure.specs.Arithmetic.{◌>>=◌, Arithmetic}
use Rattle.enclosure.specs.declared.refusal.Refusal.{Refusal}
use Rattle.enclosure.proofs.Steps.{bind_assoc}
use Rattle.one_port.specs.Equations.{solved}
use Rattle.one_port.specs.Parts.{differenced, divided, finished}
use Rattle.one_port.specs.declared.Sol.{Sol}
use Rattle.one_port.specs.declared.ThreeTerms.{ThreeTerms}

module _ {A : Type 0} (R : Arithmetic A) (g m : Sol A) where
  abbrev pub joined : Result (ThreeTerms A) Refusal
  joined = do
    d ← differenced R g m
    q ← divided R d
    finished R g.load m.load d.p3 q

  pub joined_is : joined ≡ solved R g m
  joined_is = simp bind_assoc
