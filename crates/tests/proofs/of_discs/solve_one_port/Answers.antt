use Rattle.std.proofs.Common.{ap, ◌∙◌}
use Rattle.exact.proofs.Numbers.{exact_numbers}
use Rattle.enclosure.specs.Discs.{Holds, discs}
use Rattle.enclosure.specs.Fitted.{answer}
use Rattle.enclosure.proofs.Enclosing.{discs_enclose}
use Rattle.enclosure.proofs.Alike.{told}
use Rattle.disc.specs.Meaning.{meaning, disc_arithmetic}
use Rattle.disc.proofs.Fitting.{alike}
use Rattle.one_port.specs.Mapped.{terms}
use Rattle.one_port.proofs.Truths.{terms_true}
use Rattle.one_port.proofs.Mapped.{of_three_terms}
use Rattle.tests.proofs.of_discs.solve_one_port.Goals as goal

pub returns : goal.returns
returns c =
    let e = ap (answer (terms meaning)) c.solve.ensures.value ∙ of_three_terms disc_arithmetic discs meaning alike c.args.listed c.args.read in
    record { value = e; truth = told (terms meaning) _ _ e (terms_true discs exact_numbers Holds discs_enclose _ _) }
