-- The figures are right, and the order of work is that of the examples.
use Rattle.std.proofs.Common.{◌≡◌, ◌^◌, refl, sym, arith}
use Rattle.enclosure.specs.Discs.{root, ranged, product, reciprocal, reciprocal_by, touches}
use Rattle.enclosure.proofs.Steps.{bind_assoc, bind_ok}
use Rattle.enclosure.proofs.Rounding.{root_exact, root_above}
use Rattle.figures.specs.Order.{Order}
use Rattle.figures.specs.Table.{AllRight, table}

root_25 : root 25 ≡ 5
root_25 = sym (root_exact 25 5 (omega arith) (omega arith))

root_2 : root 2 ≡ 2
root_2 = sym (root_above 2 1 (omega arith) (omega arith))

root_one : root (2 ^ 48) ≡ 2 ^ 24
root_one = sym (root_exact (2 ^ 48) (2 ^ 24) (omega arith) (omega arith))

root_1 : root 1 ≡ 1
root_1 = sym (root_exact 1 1 (omega arith) (omega arith))

pub figures_right : AllRight table
unfolding ranged product reciprocal reciprocal_by touches
figures_right = (root_25, (root_2, (rw root_one, (rw root_1, (refl, (refl, (refl, (refl, (refl, (refl, tt))))))))))

pub order_stands : Order
order_stands = (λ ρ. simp bind_assoc, λ ρ. simp bind_assoc, λ ρ. simp (bind_assoc, bind_ok))
