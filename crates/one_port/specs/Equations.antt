-- One port by the 3-term model: its equations, and the working-out in any arithmetic.
-- Assumes nothing.
use Rattle.std.specs.Prelude.{ℕ, List, [], ◌∷◌, ◌++◌, Result}
use Rattle.enclosure.specs.Arithmetic.{Arithmetic}
use Rattle.enclosure.specs.declared.refusal.Refusal.{Refusal}
use Rattle.equations.specs.Formula.{Term, Equation, the, one, ◌⊕◌, ◌⊖◌, ◌⊗◌, ◌⊘◌, ◌≔◌, keep, at, worked}
use Rattle.one_port.specs.declared.Sol.{Sol}
use Rattle.one_port.specs.declared.ThreeTerms.{ThreeTerms}

-- the listed short, open and load, and their readings
abbrev pub G1 : Term
G1 = the 1

abbrev pub G2 : Term
G2 = the 2

abbrev pub G3 : Term
G3 = the 3

abbrev pub M1 : Term
M1 = the 4

abbrev pub M2 : Term
M2 = the 5

abbrev pub M3 : Term
M3 = the 6

-- the terms: directivity, source match, reflection tracking
abbrev pub ED : Term
ED = the 7

abbrev pub ES : Term
ES = the 8

abbrev pub ER : Term
ER = the 9

-- on the way to them
abbrev pub P1 : Term
P1 = the 10

abbrev pub P2 : Term
P2 = the 11

abbrev pub P3 : Term
P3 = the 12

abbrev pub a1 : Term
a1 = the 13

abbrev pub a2 : Term
a2 = the 14

abbrev pub b1 : Term
b1 = the 15

abbrev pub b2 : Term
b2 = the 16

abbrev pub c1 : Term
c1 = the 17

abbrev pub c2 : Term
c2 = the 18

abbrev pub V : Term
V = the 19

abbrev pub z : Term
z = the 20

-- a device, its raw value, and that less the directivity
abbrev pub S : Term
S = the 21

abbrev pub M : Term
M = the 22

abbrev pub m : Term
m = the 23

-- ---- the equations

abbrev pub solve_differences : List Equation
solve_differences =
    P1 ≔ G1 ⊗ M1
    ∷ P2 ≔ G2 ⊗ M2
    ∷ P3 ≔ G3 ⊗ M3
    ∷ a1 ≔ P1 ⊖ P3
    ∷ a2 ≔ P2 ⊖ P3
    ∷ b1 ≔ G1 ⊖ G3
    ∷ b2 ≔ G2 ⊖ G3
    ∷ c1 ≔ M1 ⊖ M3
    ∷ c2 ≔ M2 ⊖ M3
    ∷ []

abbrev pub solve_quotients : List Equation
solve_quotients =
    V ≔ a1 ⊗ b2 ⊖ a2 ⊗ b1
    ∷ ES ≔ (c1 ⊗ b2 ⊖ c2 ⊗ b1) ⊘ V
    ∷ z ≔ (a1 ⊗ c2 ⊖ a2 ⊗ c1) ⊘ V
    ∷ []

abbrev pub solve_terms : List Equation
solve_terms =
    ED ≔ M3 ⊖ P3 ⊗ ES ⊖ G3 ⊗ z
    ∷ ER ≔ z ⊕ ED ⊗ ES
    ∷ []

-- from standards to terms
abbrev pub solve : List Equation
solve = solve_differences ++ solve_quotients ++ solve_terms

-- from raw to actual
abbrev pub correct : List Equation
correct =
    m ≔ M ⊖ ED
    ∷ S ≔ m ⊘ (ER ⊕ m ⊗ ES)
    ∷ []

-- from actual to raw
abbrev pub embed : List Equation
embed =
    M ≔ ED ⊕ (ER ⊗ S) ⊘ (one ⊖ ES ⊗ S)
    ∷ []

-- ---- what goes in and comes out

-- the quantities at the start; the last one fills in for those that are not yet worked out, which no equation reads
module _ {A : Type 0} where
  abbrev pub from_standards : Sol A → Sol A → ℕ → A
  from_standards g m = keep G1 g.short (keep G2 g.«open» (keep G3 g.load (keep M1 m.short (keep M2 m.«open» (keep M3 m.load (λ _. m.load))))))

  abbrev pub with_terms : ThreeTerms A → (ℕ → A) → ℕ → A
  with_terms t ρ = keep ED t.ed (keep ES t.es (keep ER t.er ρ))

  abbrev pub from_raw : ThreeTerms A → A → ℕ → A
  from_raw t r = with_terms t (keep M r (λ _. r))

  abbrev pub from_device : ThreeTerms A → A → ℕ → A
  from_device t s = with_terms t (keep S s (λ _. s))

  abbrev pub terms_in : (ℕ → A) → ThreeTerms A
  terms_in ρ = record { ed = at ρ ED; es = at ρ ES; er = at ρ ER }

-- ---- the working-out

module _ {A : Type 0} (R : Arithmetic A) where
  -- from listed values g and readings m
  abbrev pub solved : Sol A → Sol A → Result (ThreeTerms A) Refusal
  solved g m = worked R solve (from_standards g m) terms_in

  abbrev pub corrected : ThreeTerms A → A → Result A Refusal
  corrected t raw = worked R correct (from_raw t raw) λ ρ. at ρ S

  abbrev pub embedded : ThreeTerms A → A → Result A Refusal
  embedded t actual = worked R embed (from_device t actual) λ ρ. at ρ M
