-- A stage that is passed hands on the answer, whichever stage it is.
-- Assumes nothing.
use Rattle.std.proofs.Common.{◌≡◌, Ok, Err, Result}
use Rattle.enclosure.specs.declared.refusal.Refusal.{Refusal}
use Rattle.stage.specs.Stages.{at_stage}
use Rattle.stage.specs.declared.Stage.{Stage}

pub passed : {A : Type 0} (s : Stage) {r : Result A Refusal} {a : A} → Ok a ≡ at_stage s r → r ≡ Ok a
passed s {r = Ok b} e = cc
passed s {r = Err k} e = cc
