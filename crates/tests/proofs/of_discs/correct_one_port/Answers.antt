use Rattle.std.proofs.Common.{ap, ◌∙◌}
use Rattle.exact.proofs.Numbers.{exact_numbers}
use Rattle.enclosure.specs.Discs.{Holds, discs}
use Rattle.enclosure.specs.Fitted.{answer}
use Rattle.enclosure.proofs.Enclosing.{discs_enclose}
use Rattle.enclosure.proofs.Alike.{told}
use Rattle.disc.specs.Meaning.{meaning, disc_arithmetic}
use Rattle.disc.proofs.Fitting.{alike}
use Rattle.one_port.proofs.Truths.{device_true, comes_back}
use Rattle.one_port.proofs.Mapped.{of_corrected}
use Rattle.tests.proofs.of_discs.correct_one_port.Goals as goal

pub returns : goal.returns
returns c =
    let e = ap (answer meaning) c.correct.ensures.value ∙ of_corrected disc_arithmetic discs meaning alike c.args.t c.args.raw in
    record { value = e; truth = told meaning _ _ e (device_true discs exact_numbers Holds discs_enclose _ _); round_trip = told meaning _ _ e (comes_back discs exact_numbers Holds discs_enclose _ _) }
