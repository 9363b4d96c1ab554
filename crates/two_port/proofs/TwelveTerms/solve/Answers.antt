use Rattle.std.proofs.Common.{refl, rules}
use Rattle.exact.proofs.Numbers.{exact_numbers}
use Rattle.enclosure.proofs.Keeping.{kept}
use Rattle.two_port.proofs.Stages.{passed}
use Rattle.two_port.proofs.Truths.{terms_true}
use Rattle.two_port.proofs.TwelveTerms.solve.Goals as goal

pub returns-in_err-reverse-clause-value : goal.returns-in_err-reverse-clause-value
returns-in_err-reverse-clause-value g c =
    let t = passed _ (rw c.solve.ensures.value at c.in_ok-port1.ensures) in
    let u = passed _ (rw c.solve-2.ensures.value at c.in_ok-port2.ensures) in
    let f = passed _ (rw c.directed-forward.ensures at c.in_ok-forward.ensures) in
    let r = rw (c.directed-reverse.ensures, c.exchanged-thru.ensures, c.exchanged-read_thru.ensures) at c.in_err-reverse.ensures in
    rw (t, u, f, ← r) (search rules)

pub returns-clause-value : goal.returns-clause-value
returns-clause-value g c =
    let t = passed _ (rw c.solve.ensures.value at c.in_ok-port1.ensures) in
    let u = passed _ (rw c.solve-2.ensures.value at c.in_ok-port2.ensures) in
    let f = passed _ (rw c.directed-forward.ensures at c.in_ok-forward.ensures) in
    let r = rw (c.directed-reverse.ensures, c.exchanged-thru.ensures, c.exchanged-read_thru.ensures) at c.in_ok-reverse.ensures in
    rw (t, u, f, ← r) refl

pub returns-clause-truth : goal.returns-clause-truth
returns-clause-truth g c =
    let E = g.A.Enclosure in let laws = g.met.A.Enclosure in
    kept _ _ (returns-clause-value g c) (terms_true E.arithmetic exact_numbers E.holds laws.encloses E.origin laws.zero_held c.args.listed c.args.read)
