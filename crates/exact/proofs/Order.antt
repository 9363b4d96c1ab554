-- The order of whole numbers as a difference, x ≤ y where y is x + n for some n ≥ 0, and the size |x|² + |y|² of a vector (x, y).
-- Assumes nothing.
use Rattle.std.proofs.Common.{◌≡◌, ◌⊎◌, inl, inr, ℕ, zero, suc, ◌+◌, ◌*◌, ◌≤◌, ℤ, pos, negsuc, nat_abs, ◌+ℤ◌, ◌-ℤ◌, ◌*ℤ◌, ◌≤ℤ◌, refl, ap, arith}
use Rattle.std.proofs.lemmas.Int.{ints}

-- x + n is at least x
pub le_in : {x y : ℤ} (n : ℕ) → y ≡ x +ℤ pos n → x ≤ℤ y
le_in n p = omega (arith, ints)

-- y is x + n, or x is above y
abbrev pub Split : ℤ → ℤ → Type 0
Split x y = ((n : ℕ) × (y ≡ x +ℤ pos n)) ⊎ ((n : ℕ) × (x ≡ y +ℤ pos (suc n)))

pub compare : (x y : ℤ) → Split x y
compare x y = go (y -ℤ x) refl
  where
    go : (d : ℤ) → y -ℤ x ≡ d → Split x y
    go (pos n) e = inl (n, omega (arith, ints))
    go (negsuc n) e = inr (n, omega (arith, ints))

-- what is at least x is x + n for some n
pub le_out : {x y : ℤ} → x ≤ℤ y → (n : ℕ) × (y ≡ x +ℤ pos n)
le_out {x} {y} h = (nat_abs (y -ℤ x), omega (arith, ints))

-- z² is |z|²
pub square : (z : ℤ) → z *ℤ z ≡ pos (nat_abs z * nat_abs z)
square (pos n) = refl
square (negsuc n) = refl

-- x² + y² as a natural number
pub norm_is : (x y : ℤ) → x *ℤ x +ℤ y *ℤ y ≡ pos (nat_abs x * nat_abs x + nat_abs y * nat_abs y)
norm_is x y = rw (square x, square y)

-- naturals that are equal as whole numbers are equal
pub to_nat : {m n : ℕ} → pos m ≡ pos n → m ≡ n
to_nat p = ap nat_abs p

-- m ≤ n where m² ≤ n²
pub squares_most : (m n : ℕ) → m * m ≤ n * n → m ≤ n
squares_most m n h = grind arith

-- x² + y² is 0 only where x and y are
pub norm_zero : (x y : ℤ) → nat_abs x * nat_abs x + nat_abs y * nat_abs y ≡ zero → (x ≡ pos zero) × (y ≡ pos zero)
norm_zero x y h =
    let p : nat_abs x ≤ 0 = squares_most _ _ (omega arith) in let q : nat_abs y ≤ 0 = squares_most _ _ (omega arith) in
    (omega (arith, ints), omega (arith, ints))
