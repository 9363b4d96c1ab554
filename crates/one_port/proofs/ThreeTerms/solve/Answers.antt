use Rattle.std.proofs.Common.{◌≡◌, ◌∙◌, rules}
use Rattle.exact.proofs.Numbers.{exact_numbers}
use Rattle.enclosure.proofs.Keeping.{kept}
use Rattle.one_port.proofs.Joining.{joined, joined_is}
use Rattle.one_port.proofs.Truths.{terms_true}
use Rattle.one_port.proofs.ThreeTerms.solve.Goals as goal

pub returns-in_err-q-clause-value : goal.returns-in_err-q-clause-value
returns-in_err-q-clause-value g c =
    let R = g.A.Enclosure.arithmetic in
    let e : c.from_residual-in_err-q.result ≡ joined R c.args.listed c.args.read = search rules in
    e ∙ joined_is R c.args.listed c.args.read

pub returns-clause-value : goal.returns-clause-value
returns-clause-value g c =
    let R = g.A.Enclosure.arithmetic in
    let e : c.finish.result ≡ joined R c.args.listed c.args.read = search rules in
    e ∙ joined_is R c.args.listed c.args.read

pub returns-clause-truth : goal.returns-clause-truth
returns-clause-truth g c =
    let E = g.A.Enclosure in
    kept _ _ (returns-clause-value g c) (terms_true E.arithmetic exact_numbers E.holds g.met.A.Enclosure.encloses c.args.listed c.args.read)
