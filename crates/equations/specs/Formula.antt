-- Formulas and equations, and the order in which they are worked out in an arithmetic.
-- Assumes nothing.
use Rattle.std.specs.Prelude.{ℕ, suc, if◌then◌else◌, List, [], ◌∷◌, ◌==◌, Ok, Result}
use Rattle.enclosure.specs.Arithmetic.{◌>>=◌, Arithmetic, quotient}
use Rattle.enclosure.specs.declared.refusal.Refusal.{Refusal}

-- a formula: a quantity by its number, one, and sums, differences, products and quotients of formulas
infixl 80 ◌⊕◌ ◌⊖◌
infixl 90 ◌⊗◌ ◌⊘◌
pub data Term : Type 0 where
  the : ℕ → Term
  one : Term
  ◌⊕◌ ◌⊖◌ ◌⊗◌ ◌⊘◌ : Term → Term → Term

-- the quantity on the left is the formula on the right
infix 70 ◌≔◌
pub data Equation : Type 0 where
  ◌≔◌ : Term → Term → Equation

-- the number of a quantity; 0, which no quantity has, of any other formula
abbrev pub number : Term → ℕ
number (the n) = n
number one = 0
number (a ⊕ b) = 0
number (a ⊖ b) = 0
number (a ⊗ b) = 0
number (a ⊘ b) = 0

-- ---- values for the quantities, by their numbers

-- x gets the value v, and the others keep theirs
abbrev pub keep : {A : Type 0} → Term → A → (ℕ → A) → ℕ → A
keep x v ρ n = if n == number x then v else ρ n

abbrev pub at : {A : Type 0} → (ℕ → A) → Term → A
at ρ x = ρ (number x)

-- listed values, of which the first has the number n; the last one is that of all others too
abbrev pub in_order : {A : Type 0} → ℕ → A → List A → ℕ → A
in_order n x [] = λ _. x
in_order n x (y ∷ ys) = keep (the n) x (in_order (suc n) y ys)

-- ---- the order of work: brackets, then products, then sums, each from left to right

-- what is left of a formula once its brackets are worked out
pub data Open (A : Type 0) : Type 0 where
  value : A → Open A
  sum difference product : Open A → Open A → Open A

module _ {A : Type 0} (R : Arithmetic A) where
  -- each operation after its operands, the left one first
  abbrev pub all : Open A → Result A Refusal
  all (value a) = Ok a
  all (sum r s) = do R.plus (← all r) (← all s)
  all (difference r s) = do R.minus (← all r) (← all s)
  all (product r s) = do R.times (← all r) (← all s)

  abbrev pub products : Open A → Result (Open A) Refusal
  products (value a) = Ok (value a)
  products (sum r s) = do Ok (sum (← products r) (← products s))
  products (difference r s) = do Ok (difference (← products r) (← products s))
  products (product r s) = do Ok (value (← all (product r s)))

  -- products, then sums
  abbrev pub finish : Open A → Result A Refusal
  finish r = do all (← products r)

  abbrev pub bracket : Open A → Result (Open A) Refusal
  bracket r = do Ok (value (← finish r))

  -- a sum stood in brackets where it is subtracted, added or multiplied ..
  abbrev pub addend : Open A → Result (Open A) Refusal
  addend (value a) = Ok (value a)
  addend (sum r s) = bracket (sum r s)
  addend (difference r s) = bracket (difference r s)
  addend (product r s) = Ok (product r s)

  -- .. and a product where something is multiplied by it
  abbrev pub factor : Open A → Result (Open A) Refusal
  factor (value a) = Ok (value a)
  factor (sum r s) = bracket (sum r s)
  factor (difference r s) = bracket (difference r s)
  factor (product r s) = bracket (product r s)

  -- the brackets of a formula, from left to right; a quotient a / b is worked out with them, a before b
  abbrev pub brackets : Term → (ℕ → A) → Result (Open A) Refusal
  brackets (the n) ρ = Ok (value (ρ n))
  brackets one ρ = Ok (value R.unit)
  brackets (a ⊕ b) ρ = do
    r ← brackets a ρ
    s ← brackets b ρ
    Ok (sum r (← addend s))
  brackets (a ⊖ b) ρ = do
    r ← brackets a ρ
    s ← brackets b ρ
    Ok (difference r (← addend s))
  brackets (a ⊗ b) ρ = do
    r ← addend (← brackets a ρ)
    s ← factor (← brackets b ρ)
    Ok (product r s)
  brackets (a ⊘ b) ρ = do
    x ← finish (← brackets a ρ)
    y ← finish (← brackets b ρ)
    Ok (value (← quotient R x y))

  abbrev pub work : Term → (ℕ → A) → Result A Refusal
  work t ρ = do finish (← brackets t ρ)

  -- the formula of listed values: the 1, the 2, ..
  abbrev pub work_of : Term → A → List A → Result A Refusal
  work_of t x xs = work t (in_order 1 x xs)

  -- equations in the order written; the first operation that is refused decides
  abbrev pub run : List Equation → (ℕ → A) → Result (ℕ → A) Refusal
  run [] ρ = Ok ρ
  run ((x ≔ t) ∷ es) ρ = do
    v ← work t ρ
    run es (keep x v ρ)

  -- and an answer read from their quantities
  abbrev pub worked : {B : Type 0} → List Equation → (ℕ → A) → ((ℕ → A) → B) → Result B Refusal
  worked es ρ read = do Ok (read (← run es ρ))
