use Rattle.std.proofs.Common.{ap, ◌∙◌}
use Rattle.exact.proofs.Numbers.{exact_numbers}
use Rattle.enclosure.specs.Discs.{Holds, discs}
use Rattle.enclosure.specs.Fitted.{answer}
use Rattle.enclosure.proofs.Enclosing.{discs_enclose}
use Rattle.enclosure.proofs.Alike.{told}
use Rattle.disc.specs.Meaning.{meaning, disc_arithmetic}
use Rattle.disc.proofs.Fitting.{alike}
use Rattle.one_port.proofs.Truths.{raw_true}
use Rattle.one_port.proofs.Mapped.{of_embedded}
use Rattle.tests.proofs.of_discs.embed_one_port.Goals as goal

pub returns : goal.returns
returns c =
    let e = ap (answer meaning) c.embed.ensures.value ∙ of_embedded disc_arithmetic discs meaning alike c.args.t c.args.actual in
    record { value = e; truth = told meaning _ _ e (raw_true discs exact_numbers Holds discs_enclose _ _) }
