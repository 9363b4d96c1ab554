-- The exchange of the two ports in the names of the quantities: 11 and 22, 21 and 12, F and R.
-- Assumes nothing.
use Rattle.std.specs.Prelude.{◌≡◌, ℕ, if◌then◌else◌, List, [], ◌∷◌, ◌==◌, Result}
use Rattle.enclosure.specs.Arithmetic.{Arithmetic}
use Rattle.enclosure.specs.declared.refusal.Refusal.{Refusal}
use Rattle.enclosure.specs.Discs.{Ball, discs}
use Rattle.equations.specs.Formula.{Term, Equation, the, one, ◌⊕◌, ◌⊖◌, ◌⊗◌, ◌⊘◌, ◌≔◌, number, keep, at, worked}
use Rattle.one_port.specs.declared.ThreeTerms.{ThreeTerms}
use Rattle.two_port.specs.Equations.{EDF, ESF, ERF, EXF, ELF, ETF, EDR, ESR, ERR, EXR, ELR, ETR, S11, S21, S12, S22, M11, M21, M12, M22, T11, T21, T12, T22, R11, R21, R12, R22, thru, embed, exchange, with_reverse, directed, seen}
use Rattle.two_port.specs.declared.Direction.{Direction}
use Rattle.two_port.specs.declared.embed.Seen.{Seen}
use Rattle.two_port.specs.declared.parameters.SParameters.{SParameters}

abbrev pub pairs : List (Term × Term)
pairs =
    (EDF, EDR) ∷ (ESF, ESR) ∷ (ERF, ERR) ∷ (EXF, EXR) ∷ (ELF, ELR) ∷ (ETF, ETR)
    ∷ (S11, S22) ∷ (S21, S12) ∷ (M11, M22) ∷ (M21, M12) ∷ (T11, T22) ∷ (T21, T12) ∷ (R11, R22) ∷ (R21, R12) ∷ []

-- the quantity that stands for the one of number n
abbrev pub partner : List (Term × Term) → ℕ → Term
partner [] n = the n
partner (p ∷ ps) n = if n == number p.0 then p.1 else if n == number p.1 then p.0 else partner ps n

abbrev pub renamed : Term → Term
renamed (the n) = partner pairs n
renamed one = one
renamed (a ⊕ b) = renamed a ⊕ renamed b
renamed (a ⊖ b) = renamed a ⊖ renamed b
renamed (a ⊗ b) = renamed a ⊗ renamed b
renamed (a ⊘ b) = renamed a ⊘ renamed b

abbrev pub exchanged : List Equation → List Equation
exchanged [] = []
exchanged ((x ≔ t) ∷ es) = (renamed x ≔ renamed t) ∷ exchanged es

-- ---- the exchanged equations on quantities as they stand

module _ {A : Type 0} (R : Arithmetic A) where
  abbrev pub reverse_directed : ThreeTerms A → A → SParameters A → SParameters A → Result (Direction A) Refusal
  reverse_directed t x g m = worked R (exchanged thru)
      (keep EDR t.ed (keep ESR t.es (keep ERR t.er (keep EXR x
      (keep T11 g.s11 (keep T21 g.s21 (keep T12 g.s12 (keep T22 g.s22 (keep R12 m.s12 (keep R22 m.s22 (λ _. x)))))))))))
      λ ρ. record { ed = t.ed; es = t.es; er = t.er; ex = x; el = at ρ ELR; et = at ρ ETR }

  abbrev pub reverse_seen : Direction A → SParameters A → Result (Seen A) Refusal
  reverse_seen r s = worked R (exchanged embed)
      (with_reverse r (keep S11 s.s11 (keep S21 s.s21 (keep S12 s.s12 (keep S22 s.s22 (λ _. s.s22))))))
      λ ρ. record { reflected = at ρ M22; transmitted = at ρ M12 }

-- they work out what the equations do on exchanged quantities
abbrev pub Exchange : Type 0
Exchange =
    ((t : ThreeTerms Ball) (x : Ball) (g m : SParameters Ball) → reverse_directed discs t x g m ≡ directed discs t x (exchange g) (exchange m))
    × ((r : Direction Ball) (s : SParameters Ball) → reverse_seen discs r s ≡ seen discs r (exchange s))
