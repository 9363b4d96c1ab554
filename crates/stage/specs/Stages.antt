-- The numbers of the stages, and answers that note one.
use Rattle.std.specs.Prelude.{ℕ, Ok, Err, Result}
use Rattle.enclosure.specs.declared.refusal.Refusal.{Refusal}
use Rattle.stage.specs.declared.Stage.{Stage}
use Rattle.stage.specs.declared.Stage.TheVariants.{Port1, Port2, ForwardThru, ReverseThru, Correct, Embed}
use Rattle.stage.specs.declared.StageRefusal.{StageRefusal}

abbrev pub stage_number : Stage → ℕ
stage_number Port1 = 1
stage_number Port2 = 2
stage_number ForwardThru = 3
stage_number ReverseThru = 4
stage_number Correct = 5
stage_number Embed = 6

-- the answer of a stage: a refusal notes where it comes from
abbrev pub at_stage : {A : Type 0} → Stage → Result A Refusal → Result A StageRefusal
at_stage s (Ok a) = Ok a
at_stage s (Err e) = Err (record { cause = e; stage = s })
