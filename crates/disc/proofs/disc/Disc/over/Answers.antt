use Rattle.std.proofs.Common.{ap, ◌∙◌}
use Rattle.enclosure.specs.Discs.{discs}
use Rattle.enclosure.specs.Fitted.{answer}
use Rattle.enclosure.proofs.Alike.{of_quotient}
use Rattle.disc.specs.Meaning.{meaning, disc_arithmetic}
use Rattle.disc.proofs.Fitting.{alike}
use Rattle.disc.proofs.disc.Disc.over.Goals as goal

pub returns-clause-value : goal.returns-clause-value
returns-clause-value c = ap (answer meaning) c.over.ensures.value ∙ of_quotient disc_arithmetic discs meaning alike c.args.self c.args.b
