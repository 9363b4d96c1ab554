use Rattle.std.proofs.Common.{rules}
use Rattle.exact.proofs.Numbers.{exact_numbers}
use Rattle.enclosure.proofs.Keeping.{kept}
use Rattle.two_port.proofs.Truths.{raw_true}
use Rattle.two_port.proofs.TwelveTerms.embed.Goals as goal

pub returns-clause-truth : goal.returns-clause-truth
returns-clause-truth g c =
    let E = g.A.Enclosure in
    kept _ _ (search rules) (raw_true E.arithmetic exact_numbers E.holds g.met.A.Enclosure.encloses c.args.self c.args.actual)
