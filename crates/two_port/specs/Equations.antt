-- Two ports by the 12-term model: its equations, and the working-out in any arithmetic.
-- Assumes nothing.
use Rattle.std.specs.Prelude.{ℕ, List, [], ◌∷◌, Option, unwrap_or, Ok, Result}
use Rattle.enclosure.specs.Arithmetic.{◌>>=◌, Arithmetic}
use Rattle.enclosure.specs.declared.refusal.Refusal.{Refusal}
use Rattle.equations.specs.Formula.{Term, Equation, the, one, ◌⊕◌, ◌⊖◌, ◌⊗◌, ◌⊘◌, ◌≔◌, keep, at, worked}
use Rattle.one_port.specs.Equations as OnePort
use Rattle.one_port.specs.declared.ThreeTerms.{ThreeTerms}
use Rattle.stage.specs.Stages.{at_stage}
use Rattle.stage.specs.declared.Stage.TheVariants.{Port1, Port2, ForwardThru, ReverseThru, Correct, Embed}
use Rattle.stage.specs.declared.StageRefusal.{StageRefusal}
use Rattle.two_port.specs.declared.Direction.{Direction}
use Rattle.two_port.specs.declared.Readings.{Readings}
use Rattle.two_port.specs.declared.Standards.{Standards}
use Rattle.two_port.specs.declared.TwelveTerms.{TwelveTerms}
use Rattle.two_port.specs.declared.embed.Seen.{Seen}
use Rattle.two_port.specs.declared.parameters.SParameters.{SParameters}

-- the terms of the forward direction: directivity, source match, reflection tracking, leakage, load match, transmission tracking
abbrev pub EDF : Term
EDF = the 1

abbrev pub ESF : Term
ESF = the 2

abbrev pub ERF : Term
ERF = the 3

abbrev pub EXF : Term
EXF = the 4

abbrev pub ELF : Term
ELF = the 5

abbrev pub ETF : Term
ETF = the 6

-- the same of the reverse direction
abbrev pub EDR : Term
EDR = the 7

abbrev pub ESR : Term
ESR = the 8

abbrev pub ERR : Term
ERR = the 9

abbrev pub EXR : Term
EXR = the 10

abbrev pub ELR : Term
ELR = the 11

abbrev pub ETR : Term
ETR = the 12

-- a device, and its raw values
abbrev pub S11 : Term
S11 = the 13

abbrev pub S21 : Term
S21 = the 14

abbrev pub S12 : Term
S12 = the 15

abbrev pub S22 : Term
S22 = the 16

abbrev pub M11 : Term
M11 = the 17

abbrev pub M21 : Term
M21 = the 18

abbrev pub M12 : Term
M12 = the 19

abbrev pub M22 : Term
M22 = the 20

-- the listed thru, and its reading
abbrev pub T11 : Term
T11 = the 21

abbrev pub T21 : Term
T21 = the 22

abbrev pub T12 : Term
T12 = the 23

abbrev pub T22 : Term
T22 = the 24

abbrev pub R11 : Term
R11 = the 25

abbrev pub R21 : Term
R21 = the 26

abbrev pub R12 : Term
R12 = the 27

abbrev pub R22 : Term
R22 = the 28

-- on the way: of the thru ..
abbrev pub K : Term
K = the 29

abbrev pub m : Term
m = the 30

abbrev pub W : Term
W = the 31

-- .. from raw to actual ..
abbrev pub a : Term
a = the 32

abbrev pub b : Term
b = the 33

abbrev pub c : Term
c = the 34

abbrev pub d : Term
d = the 35

abbrev pub D : Term
D = the 36

-- .. and from actual to raw
abbrev pub Q : Term
Q = the 37

-- ---- the equations

-- from the forward reading of a thru to the load match and the transmission tracking
abbrev pub thru : List Equation
thru =
    K ≔ T11 ⊗ T22 ⊖ T21 ⊗ T12
    ∷ m ≔ R11 ⊖ EDF
    ∷ ELF ≔ (m ⊗ (one ⊖ ESF ⊗ T11) ⊖ ERF ⊗ T11) ⊘ (m ⊗ (T22 ⊖ ESF ⊗ K) ⊖ ERF ⊗ K)
    ∷ W ≔ one ⊖ ESF ⊗ T11 ⊖ ELF ⊗ T22 ⊕ ESF ⊗ ELF ⊗ K
    ∷ ETF ≔ ((R21 ⊖ EXF) ⊗ W) ⊘ T21
    ∷ []

-- from raw to actual
abbrev pub correct : List Equation
correct =
    a ≔ (M11 ⊖ EDF) ⊘ ERF
    ∷ b ≔ (M22 ⊖ EDR) ⊘ ERR
    ∷ c ≔ (M21 ⊖ EXF) ⊘ ETF
    ∷ d ≔ (M12 ⊖ EXR) ⊘ ETR
    ∷ D ≔ (one ⊕ a ⊗ ESF) ⊗ (one ⊕ b ⊗ ESR) ⊖ c ⊗ d ⊗ ELF ⊗ ELR
    ∷ S11 ≔ (a ⊗ (one ⊕ b ⊗ ESR) ⊖ ELF ⊗ c ⊗ d) ⊘ D
    ∷ S21 ≔ (c ⊗ (one ⊕ b ⊗ (ESR ⊖ ELF))) ⊘ D
    ∷ S12 ≔ (d ⊗ (one ⊕ a ⊗ (ESF ⊖ ELR))) ⊘ D
    ∷ S22 ≔ (b ⊗ (one ⊕ a ⊗ ESF) ⊖ ELR ⊗ c ⊗ d) ⊘ D
    ∷ []

-- from actual to raw, in the forward direction
abbrev pub embed : List Equation
embed =
    K ≔ S11 ⊗ S22 ⊖ S21 ⊗ S12
    ∷ Q ≔ one ⊖ ESF ⊗ S11 ⊖ ELF ⊗ S22 ⊕ ESF ⊗ ELF ⊗ K
    ∷ M11 ≔ EDF ⊕ (ERF ⊗ (S11 ⊖ ELF ⊗ K)) ⊘ Q
    ∷ M21 ≔ EXF ⊕ (ETF ⊗ S21) ⊘ Q
    ∷ []

-- ---- the exchange of the two ports: 11 and 22, 21 and 12; the reverse direction is the forward one on exchanged parameters

abbrev pub exchange : {A : Type 0} → SParameters A → SParameters A
exchange s = record { s11 = s.s22; s21 = s.s12; s12 = s.s21; s22 = s.s11 }

abbrev pub both : {A : Type 0} → Seen A → Seen A → SParameters A
both forward reverse = record { s11 = forward.reflected; s21 = forward.transmitted; s12 = reverse.transmitted; s22 = reverse.reflected }

-- ---- the quantities at the start; the last value fills in for those that are not yet worked out, which no equation reads (Scope)

module _ {A : Type 0} where
  abbrev pub reflection : Direction A → ThreeTerms A
  reflection f = record { ed = f.ed; es = f.es; er = f.er }

  abbrev pub with_forward : Direction A → (ℕ → A) → ℕ → A
  with_forward f ρ = keep EDF f.ed (keep ESF f.es (keep ERF f.er (keep EXF f.ex (keep ELF f.el (keep ETF f.et ρ)))))

  abbrev pub with_reverse : Direction A → (ℕ → A) → ℕ → A
  with_reverse r ρ = keep EDR r.ed (keep ESR r.es (keep ERR r.er (keep EXR r.ex (keep ELR r.el (keep ETR r.et ρ)))))

  abbrev pub from_thru : ThreeTerms A → A → SParameters A → SParameters A → ℕ → A
  from_thru t x g r = keep EDF t.ed (keep ESF t.es (keep ERF t.er (keep EXF x
      (keep T11 g.s11 (keep T21 g.s21 (keep T12 g.s12 (keep T22 g.s22 (keep R11 r.s11 (keep R21 r.s21 (λ _. x))))))))))

  abbrev pub from_raw : TwelveTerms A → SParameters A → ℕ → A
  from_raw t m = with_forward t.forward (with_reverse t.reverse (keep M11 m.s11 (keep M21 m.s21 (keep M12 m.s12 (keep M22 m.s22 (λ _. m.s22))))))

  abbrev pub from_device : Direction A → SParameters A → ℕ → A
  from_device f s = with_forward f (keep S11 s.s11 (keep S21 s.s21 (keep S12 s.s12 (keep S22 s.s22 (λ _. s.s22)))))

  -- leakage is the isolation reading, or origin, which is exactly zero, where none was taken
  abbrev pub leakage : A → Option A → A
  leakage origin reading = unwrap_or reading origin

  -- .. and the answers at the end
  abbrev pub direction_in : ThreeTerms A → A → (ℕ → A) → Direction A
  direction_in t x ρ = record { ed = t.ed; es = t.es; er = t.er; ex = x; el = at ρ ELF; et = at ρ ETF }

  abbrev pub device_in : (ℕ → A) → SParameters A
  device_in ρ = record { s11 = at ρ S11; s21 = at ρ S21; s12 = at ρ S12; s22 = at ρ S22 }

  abbrev pub seen_in : (ℕ → A) → Seen A
  seen_in ρ = record { reflected = at ρ M11; transmitted = at ρ M21 }

-- ---- the working-out; a refusal notes its stage

module _ {A : Type 0} (R : Arithmetic A) where
  -- from the reflection terms t, the leakage x, the listed thru g and its reading m
  abbrev pub directed : ThreeTerms A → A → SParameters A → SParameters A → Result (Direction A) Refusal
  directed t x g m = worked R thru (from_thru t x g m) (direction_in t x)

  abbrev pub solved : A → Standards A → Readings A → Result (TwelveTerms A) StageRefusal
  solved origin g m = do
    t ← at_stage Port1 (OnePort.solved R g.port1 m.port1)
    u ← at_stage Port2 (OnePort.solved R g.port2 m.port2)
    f ← at_stage ForwardThru (directed t (leakage origin m.isolation.forward) g.thru m.thru)
    r ← at_stage ReverseThru (directed u (leakage origin m.isolation.reverse) (exchange g.thru) (exchange m.thru))
    Ok (record { forward = f; reverse = r })

  abbrev pub corrected : TwelveTerms A → SParameters A → Result (SParameters A) StageRefusal
  corrected t raw = at_stage Correct (worked R correct (from_raw t raw) device_in)

  -- what one direction sees of a device
  abbrev pub seen : Direction A → SParameters A → Result (Seen A) Refusal
  seen f s = worked R embed (from_device f s) seen_in

  abbrev pub seen_both : TwelveTerms A → SParameters A → Result (SParameters A) Refusal
  seen_both t s = do Ok (both (← seen t.forward s) (← seen t.reverse (exchange s)))

  abbrev pub embedded : TwelveTerms A → SParameters A → Result (SParameters A) StageRefusal
  embedded t actual = at_stage Embed (seen_both t actual)
