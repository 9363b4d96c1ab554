-- No equation reads a quantity before it is given or worked out.
-- Assumes nothing.
use Rattle.std.specs.Prelude.{◌≡◌, ℕ, Bool, true, false, ◌&&◌, ◌||◌, List, [], ◌∷◌, ◌==◌}
use Rattle.equations.specs.Formula.{Term, Equation, the, one, ◌⊕◌, ◌⊖◌, ◌⊗◌, ◌⊘◌, ◌≔◌, number}
use Rattle.one_port.specs.Equations as OnePort
use Rattle.one_port.specs.Equations.{G1, G2, G3, M1, M2, M3, ED, ES, ER, S, M}
use Rattle.two_port.specs.Equations as TwoPort
use Rattle.two_port.specs.Equations.{EDF, ESF, ERF, EXF, ELF, ETF, EDR, ESR, ERR, EXR, ELR, ETR, S11, S21, S12, S22, M11, M21, M12, M22, T11, T21, T12, T22, R11, R21}

abbrev pub among : List Term → ℕ → Bool
among [] n = false
among (x ∷ xs) n = n == number x || among xs n

-- the formula reads quantities of the list alone
abbrev pub reads : List Term → Term → Bool
reads xs (the n) = among xs n
reads xs one = true
reads xs (a ⊕ b) = reads xs a && reads xs b
reads xs (a ⊖ b) = reads xs a && reads xs b
reads xs (a ⊗ b) = reads xs a && reads xs b
reads xs (a ⊘ b) = reads xs a && reads xs b

-- the equations do, with what those before them work out
abbrev pub read_in_turn : List Term → List Equation → Bool
read_in_turn xs [] = true
read_in_turn xs ((x ≔ t) ∷ es) = reads xs t && read_in_turn (x ∷ xs) es

abbrev pub Scope : Type 0
Scope =
    (read_in_turn (G1 ∷ G2 ∷ G3 ∷ M1 ∷ M2 ∷ M3 ∷ []) OnePort.solve ≡ true)
    × (read_in_turn (ED ∷ ES ∷ ER ∷ M ∷ []) OnePort.correct ≡ true)
    × (read_in_turn (ED ∷ ES ∷ ER ∷ S ∷ []) OnePort.embed ≡ true)
    × (read_in_turn (EDF ∷ ESF ∷ ERF ∷ EXF ∷ T11 ∷ T21 ∷ T12 ∷ T22 ∷ R11 ∷ R21 ∷ []) TwoPort.thru ≡ true)
    × (read_in_turn (EDF ∷ ESF ∷ ERF ∷ EXF ∷ ELF ∷ ETF ∷ EDR ∷ ESR ∷ ERR ∷ EXR ∷ ELR ∷ ETR ∷ M11 ∷ M21 ∷ M12 ∷ M22 ∷ []) TwoPort.correct ≡ true)
    × (read_in_turn (EDF ∷ ESF ∷ ERF ∷ EXF ∷ ELF ∷ ETF ∷ S11 ∷ S21 ∷ S12 ∷ S22 ∷ []) TwoPort.embed ≡ true)
