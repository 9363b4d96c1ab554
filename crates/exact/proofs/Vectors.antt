-- Vectors of whole numbers that are no longer than a distance: their sums, products and multiples.
-- Lengths multiply by Lagrange's identity |u|² |v|² = (u · v)² + (u × v)², and the triangle's inequality follows, without roots.
-- Assumes nothing.
use Rattle.std.proofs.Common.{◌≡◌, ℕ, zero, ◌+◌, ◌*◌, ◌≤◌, ◌<◌, ℤ, pos, nat_abs, neg_ℤ, ◌+ℤ◌, ◌-ℤ◌, ◌*ℤ◌, refl, sym, ◌∙◌, ap₂, arith, mul-pos, mul-le-mul, mul-le-mul_left}
use Rattle.std.proofs.Math.Nat.{le_of_mul-le-mul_left}
use Rattle.std.proofs.lemmas.Int.{ints, unsigned_abs-mul}
use Rattle.exact.specs.Vectors.{Within}
use Rattle.exact.proofs.Normaliser.{var, num, ◌⊕◌, ◌⊗◌, ⊝, ◌⊖◌, solve}
use Rattle.exact.proofs.Order.{le_in, le_out, norm_is, to_nat, squares_most}
use Rattle.exact.proofs.Whole.{ℤR, ◌◃◌, end}

-- what is left up to a²
pub gap : {x y : ℤ} {a : ℕ} → Within x y a → (m : ℕ) × (pos (a * a) ≡ x *ℤ x +ℤ y *ℤ y +ℤ pos m)
gap w = le_out w.most

-- from what is left up to a²
pub since : {x y : ℤ} {a : ℕ} (m : ℕ) → pos (a * a) ≡ x *ℤ x +ℤ y *ℤ y +ℤ pos m → Within x y a
since m h = record { most = le_in m h }

-- the same at equal parts and an equal distance
pub recast : {x y x' y' : ℤ} {a a' : ℕ} → Within x y a → x ≡ x' → y ≡ y' → a ≡ a' → Within x' y' a'
recast w p q r = rw (← p, ← q, ← r) w

-- x² + y², a natural number
abbrev size : ℤ → ℤ → ℕ
size x y = nat_abs x * nat_abs x + nat_abs y * nat_abs y

-- to be no longer than a, and x² + y² ≤ a², are one
size_most : {x y : ℤ} {a : ℕ} → Within x y a → size x y ≤ a * a
size_most {x} {y} w = omega (arith, ints, norm_is x y)

within : (x y : ℤ) (a : ℕ) → size x y ≤ a * a → Within x y a
within x y a h = record { most = omega (arith, ints, norm_is x y) }

-- x is at most as long as (x, y)
part_most : {x y : ℤ} {a : ℕ} → Within x y a → nat_abs x ≤ a
part_most w = squares_most _ _ (omega (arith, size_most w))

-- ---- products: lengths multiply

pub multiplied : {x y x' y' : ℤ} {a b : ℕ} → Within x y a → Within x' y' b → Within (x *ℤ x' -ℤ y *ℤ y') (x *ℤ y' +ℤ y *ℤ x') (a * b)
multiplied {x} {y} {x'} {y'} u v =
    let squares = solve ℤR (x ◃ y ◃ x' ◃ y' ◃ end)
    ((var 0 ⊗ var 2 ⊖ var 1 ⊗ var 3) ⊗ (var 0 ⊗ var 2 ⊖ var 1 ⊗ var 3) ⊕ (var 0 ⊗ var 3 ⊕ var 1 ⊗ var 2) ⊗ (var 0 ⊗ var 3 ⊕ var 1 ⊗ var 2))
    ((var 0 ⊗ var 0 ⊕ var 1 ⊗ var 1) ⊗ (var 2 ⊗ var 2 ⊕ var 3 ⊗ var 3)) refl in
    let sizes = to_nat (sym (norm_is (x *ℤ x' -ℤ y *ℤ y') (x *ℤ y' +ℤ y *ℤ x')) ∙ squares ∙ ap₂ ◌*ℤ◌ (norm_is x y) (norm_is x' y')) in
    within _ _ _ (omega (arith, mul-le-mul (size_most u) (size_most v)))

-- ---- sums: the triangle's inequality

-- -u is as long as u
pub minus : {x y : ℤ} {a : ℕ} → Within x y a → Within (neg_ℤ x) (neg_ℤ y) a
minus u = record { most = grind (arith, ints, u.most) }

-- the dot product, a part of u times v turned over, is at most a b
pub plus : {p₁ q₁ p₂ q₂ : ℤ} {a b : ℕ} → Within p₁ q₁ a → Within p₂ q₂ b → Within (p₁ +ℤ p₂) (q₁ +ℤ q₂) (a + b)
plus {p₁} {q₁} {p₂} {q₂} {b = b} u v =
    let turned : Within p₂ (neg_ℤ q₂) b = record { most = grind (arith, ints, v.most) } in
    let dot = part_most (multiplied u turned) in
    let squares = solve ℤR (p₁ ◃ q₁ ◃ p₂ ◃ q₂ ◃ end)
    ((var 0 ⊕ var 2) ⊗ (var 0 ⊕ var 2) ⊕ (var 1 ⊕ var 3) ⊗ (var 1 ⊕ var 3))
    (var 0 ⊗ var 0 ⊕ var 1 ⊗ var 1 ⊕ (var 2 ⊗ var 2 ⊕ var 3 ⊗ var 3) ⊕ num (pos 2) ⊗ (var 0 ⊗ var 2 ⊖ var 1 ⊗ ⊝ (var 3))) refl in
    record { most = omega (arith, ints, u.most, v.most) }

-- ---- multiples, and more room

-- |k x|² + |k y|² = k² (|x|² + |y|²)
size-times : (k : ℕ) (x y : ℤ) → size (pos k *ℤ x) (pos k *ℤ y) ≡ k * k * size x y
size-times k x y = simp unsigned_abs-mul (omega arith)

-- k u is no longer than k a where u is no longer than a
pub scale : {x y : ℤ} {a : ℕ} (k : ℕ) → Within x y a → Within (pos k *ℤ x) (pos k *ℤ y) (k * a)
scale {x} {y} k u = within _ _ _ (omega (arith, size-times k x y, mul-le-mul_left (k * k) (size_most u)))

-- and the other way, where k is above 0
pub unscale : {x y : ℤ} {a : ℕ} (k : ℕ) → zero < k → Within (pos k *ℤ x) (pos k *ℤ y) (k * a) → Within x y a
unscale {x} {y} {a} k h u = within x y a (le_of_mul-le-mul_left {k = k * k} (omega (arith, size-times k x y, size_most u)) (mul-pos h h))

-- nor is u longer than what is above a
pub widen : {x y : ℤ} {a b : ℕ} → a ≤ b → Within x y a → Within x y b
widen h u = record { most = omega (arith, ints, mul-le-mul h h) }

-- (m, n) is no longer than m + n
pub near : (m n : ℕ) → Within (pos m) (pos n) (m + n)
near m n = within _ _ _ (omega arith)

-- (0, 0) is no longer than any distance
pub nowhere : (a : ℕ) → Within (pos zero) (pos zero) a
nowhere a = within _ _ _ (omega arith)
