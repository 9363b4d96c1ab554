use Rattle.std.proofs.Common.{ap, ◌∙◌}
use Rattle.exact.proofs.Numbers.{exact_numbers}
use Rattle.enclosure.specs.Discs.{Holds, discs}
use Rattle.enclosure.specs.Fitted.{answer}
use Rattle.enclosure.proofs.Enclosing.{discs_enclose, zero_held}
use Rattle.enclosure.proofs.Alike.{told}
use Rattle.disc.specs.Meaning.{meaning, disc_arithmetic}
use Rattle.disc.proofs.Fitting.{alike}
use Rattle.two_port.specs.Mapped.{twelve}
use Rattle.two_port.proofs.Truths.{terms_true}
use Rattle.two_port.proofs.Mapped.{of_twelve_terms}
use Rattle.tests.proofs.of_discs.solve_two_ports.Goals as goal

pub returns : goal.returns
returns c =
    let e = ap (answer (twelve meaning)) c.solve.ensures.value ∙ of_twelve_terms disc_arithmetic discs meaning alike _ c.args.listed c.args.read in
    record { value = e; truth = told (twelve meaning) _ _ e (terms_true discs exact_numbers Holds discs_enclose _ zero_held _ _) }
