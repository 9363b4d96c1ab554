use Rattle.std.proofs.Common.{rules}
use Rattle.exact.proofs.Numbers.{exact_numbers}
use Rattle.enclosure.proofs.Keeping.{kept}
use Rattle.one_port.proofs.Truths.{comes_back, device_true}
use Rattle.one_port.proofs.ThreeTerms.correct.Goals as goal

pub returns-clause-truth : goal.returns-clause-truth
returns-clause-truth g c =
    let E = g.A.Enclosure in
    kept _ _ (search rules) (device_true E.arithmetic exact_numbers E.holds g.met.A.Enclosure.encloses c.args.self c.args.raw)

pub returns-clause-round_trip : goal.returns-clause-round_trip
returns-clause-round_trip g c =
    let E = g.A.Enclosure in
    kept _ _ (search rules) (comes_back E.arithmetic exact_numbers E.holds g.met.A.Enclosure.encloses c.args.self c.args.raw)
