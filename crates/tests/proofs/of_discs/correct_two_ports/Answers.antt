use Rattle.std.proofs.Common.{ap, ◌∙◌}
use Rattle.exact.proofs.Numbers.{exact_numbers}
use Rattle.enclosure.specs.Discs.{Holds, discs}
use Rattle.enclosure.specs.Fitted.{answer}
use Rattle.enclosure.proofs.Enclosing.{discs_enclose}
use Rattle.enclosure.proofs.Alike.{told}
use Rattle.disc.specs.Meaning.{meaning, disc_arithmetic}
use Rattle.disc.proofs.Fitting.{alike}
use Rattle.two_port.specs.Mapped.{parameters}
use Rattle.two_port.proofs.Truths.{device_true, comes_back}
use Rattle.two_port.proofs.Mapped.{of_corrected_device}
use Rattle.tests.proofs.of_discs.correct_two_ports.Goals as goal

pub returns : goal.returns
returns c =
    let e = ap (answer (parameters meaning)) c.correct.ensures.value ∙ of_corrected_device disc_arithmetic discs meaning alike c.args.t c.args.raw in
    record { value = e; truth = told (parameters meaning) _ _ e (device_true discs exact_numbers Holds discs_enclose _ _); round_trip = told (parameters meaning) _ _ e (comes_back discs exact_numbers Holds discs_enclose _ _) }
