-- The order of work by three examples, in quantities 1 to 5.
use Rattle.std.specs.Prelude.{◌≡◌, ℕ}
use Rattle.enclosure.specs.Arithmetic.{◌>>=◌}
use Rattle.enclosure.specs.Discs.{Ball, sum, difference, product, reciprocal}
use Rattle.enclosure.specs.Discs as D
use Rattle.equations.specs.Formula.{the, ◌⊕◌, ◌⊖◌, ◌⊗◌, ◌⊘◌, work}

-- a bracket before a product to its left
abbrev pub BracketFirst : Type 0
BracketFirst = (ρ : ℕ → Ball) → work D.discs (the 1 ⊗ the 2 ⊕ (the 3 ⊕ the 4) ⊗ the 5) ρ
    ≡ (do s ← sum (ρ 3) (ρ 4); p ← product (ρ 1) (ρ 2); q ← product s (ρ 5); sum p q)

-- both products before the differences
abbrev pub ProductsFirst : Type 0
ProductsFirst = (ρ : ℕ → Ball) → work D.discs (the 1 ⊖ the 2 ⊗ the 3 ⊖ the 4 ⊗ the 5) ρ
    ≡ (do p ← product (ρ 2) (ρ 3); q ← product (ρ 4) (ρ 5); s ← difference (ρ 1) p; difference s q)

-- the dividend before the divisor
abbrev pub DividendFirst : Type 0
DividendFirst = (ρ : ℕ → Ball) → work D.discs ((the 1 ⊕ the 2) ⊘ (the 3 ⊕ the 4)) ρ
    ≡ (do a ← sum (ρ 1) (ρ 2); b ← sum (ρ 3) (ρ 4); i ← reciprocal b; product a i)

abbrev pub Order : Type 0
Order = BracketFirst × ProductsFirst × DividendFirst
